use Rattle.std.proofs.Common.{refl, ap, arith, ◌∙◌, ◌++◌, ◌∷◌, []}
use Rattle.js_step_stmt.proofs.Stacking.{entered_under}
use Rattle.js_machine.proofs.Doing.{not_entered}
use Rattle.js_semantics.specs.Prog.{Node as NodeRequest}
use Rattle.js_step_stmt.proofs.attempt.enter_under.Goals as goal

pub returns-then-state-eq0-clause-does : goal.returns-then-state-eq0-clause-does
returns-then-state-eq0-clause-does c nodes = rw c.stopped.ensures (not_entered nodes 6 c.args.state.now _ (NodeRequest c.args.node c.args.scope) _ (omega arith) c.if-state-eq0.true refl)

pub returns-clause-does : goal.returns-clause-does
returns-clause-does c nodes = entered_under nodes c.args.state.now _ (NodeRequest c.args.node c.args.scope) c.args.lower c.args.upper _ (record { row_is = λ k. refl; costs = refl }) c.if-state-eq0.false (c.in_ok-push-2.ensures.items ∙ ap (λ fs. fs ++ c.args.upper ∷ []) c.in_ok-push.ensures.items) refl
