use Rattle.std.proofs.Common.{refl, arith}
use Rattle.js_step_stmt.proofs.Making.{made_ok, made_err}
use Rattle.js_semantics.specs.Statements.{inside, run_next}
use Rattle.js_semantics.specs.Prog.{End, Enter, For}
use Rattle.js_machine.proofs.Closing.{lasts_on}
use Rattle.js_step_stmt.proofs.Fitting.{made_inside, made_lasts}
use Rattle.js_step_stmt.proofs.turns.in_copy.Goals as goal

pub returns-in-Ok-clause-does : goal.returns-in-Ok-clause-does
returns-in-Ok-clause-does c nodes = made_ok nodes 6 _ (λ env. run_next c.args.then (inside env c.args.scope) (Enter (For c.args.turn.copied c.args.turn.test c.args.turn.next c.args.turn.body (inside env c.args.scope)) (λ o. End o))) _ _ _ c.in-Ok.env _ _ refl c.in-Ok.is c.in_ok-env.ensures (rw c.inside.ensures at (c.step_then.ensures.does nodes))

pub returns-in-Err-clause-does : goal.returns-in-Err-clause-does
returns-in-Err-clause-does c nodes = made_err nodes 6 _ (λ env. run_next c.args.then (inside env c.args.scope) (Enter (For c.args.turn.copied c.args.turn.test c.args.turn.next c.args.turn.body (inside env c.args.scope)) (λ o. End o))) _ _ c.in-Err.stop _ _ (omega arith) c.in-Err.is c.in_ok-env.ensures c.stopped.ensures

pub returns-in-Ok-clause-closed : goal.returns-in-Ok-clause-closed
returns-in-Ok-clause-closed c nodes closed outer bindings scope =
    let old = c.args.state.now in
    let mid = c.make_environment.new.self in
    let went = made_lasts nodes c.args.outer c.args.bindings old mid _ c.in_ok-env.ensures c.in-Ok.env c.in-Ok.is closed outer bindings in
    let inner = made_inside nodes c.args.outer c.args.bindings old mid _ c.in_ok-env.ensures c.in-Ok.env c.args.scope c.in-Ok.is went scope in
    lasts_on nodes old mid c.step_then.new.state c.step_then.result went (c.step_then.ensures.closed nodes went.closed (rw c.inside.ensures inner))
