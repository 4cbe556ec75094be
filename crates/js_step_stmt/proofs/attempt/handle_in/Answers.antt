use Rattle.std.proofs.Common.{refl, arith, Some}
use Rattle.js_step_stmt.proofs.Making.{made_ok, made_err}
use Rattle.js_semantics.specs.Statements.{inside}
use Rattle.js_semantics.specs.Access.{bind_value}
use Rattle.js_semantics.specs.Prog.{End, Enter, Node as NodeRequest}
use Rattle.js_machine.proofs.Closing.{lasts_on, value_grown}
use Rattle.js_step_stmt.proofs.Fitting.{made_inside, made_lasts}
use Rattle.js_step_stmt.proofs.attempt.handle_in.Goals as goal

pub returns-in-Ok-clause-does : goal.returns-in-Ok-clause-does
returns-in-Ok-clause-does c nodes = made_ok nodes 6 _ (λ env. bind_value c.args.pattern c.args.value (inside env c.args.scope) (Enter (NodeRequest c.args.handler (inside env c.args.scope)) (λ o. End o))) _ _ _ c.in-Ok.env _ _ refl c.in-Ok.is c.in_ok-env.ensures (rw c.inside.ensures at (c.bind_caught.ensures.does nodes))

pub returns-in-Err-clause-does : goal.returns-in-Err-clause-does
returns-in-Err-clause-does c nodes = made_err nodes 6 _ (λ env. bind_value c.args.pattern c.args.value (inside env c.args.scope) (Enter (NodeRequest c.args.handler (inside env c.args.scope)) (λ o. End o))) _ _ c.in-Err.stop _ _ (omega arith) c.in-Err.is c.in_ok-env.ensures c.stopped.ensures

pub returns-in-Ok-clause-closed : goal.returns-in-Ok-clause-closed
returns-in-Ok-clause-closed c nodes closed bindings value scope =
    let old = c.args.state.now in
    let mid = c.make_environment.new.self in
    let went = made_lasts nodes (Some c.args.scope.env) c.args.bindings old mid _ c.in_ok-env.ensures c.in-Ok.env c.in-Ok.is closed scope.0 bindings in
    let inner = made_inside nodes (Some c.args.scope.env) c.args.bindings old mid _ c.in_ok-env.ensures c.in-Ok.env c.args.scope c.in-Ok.is went scope in
    lasts_on nodes old mid c.bind_caught.new.state c.bind_caught.result went (c.bind_caught.ensures.closed nodes went.closed (value_grown nodes old.heap.cells mid.heap.cells went.grows c.args.value value) (rw c.inside.ensures inner))
