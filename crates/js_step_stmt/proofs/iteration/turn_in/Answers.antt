use Rattle.std.proofs.Common.{refl, arith, Some}
use Rattle.js_step_stmt.proofs.Making.{made_ok, made_err}
use Rattle.js_semantics.specs.Statements.{inside}
use Rattle.js_semantics.specs.Prog.{End, Enter, ForOf}
use Rattle.js_machine.proofs.Closing.{lasts_on, scope_grown, value_grown}
use Rattle.js_step_stmt.proofs.Fitting.{made_inside, made_lasts}
use Rattle.js_step_stmt.proofs.iteration.turn_in.Goals as goal

pub returns-in-Ok-clause-does : goal.returns-in-Ok-clause-does
returns-in-Ok-clause-does c nodes = made_ok nodes 6 _ (λ env. Enter (ForOf c.args.walk.constant c.args.walk.bind c.args.walk.body c.args.walk.array c.args.place c.args.item (inside env c.args.around) c.args.around) (λ o. End o)) _ _ _ c.in-Ok.env _ _ refl c.in-Ok.is c.in_ok-env.ensures (rw (c.inside.ensures, c.in_ok-outer.ensures) at (c.bind_item.ensures.does nodes))

pub returns-in-Err-clause-does : goal.returns-in-Err-clause-does
returns-in-Err-clause-does c nodes = made_err nodes 6 _ (λ env. Enter (ForOf c.args.walk.constant c.args.walk.bind c.args.walk.body c.args.walk.array c.args.place c.args.item (inside env c.args.around) c.args.around) (λ o. End o)) _ _ c.in-Err.stop _ _ (omega arith) c.in-Err.is c.in_ok-env.ensures c.stopped.ensures

pub returns-in-Ok-clause-closed : goal.returns-in-Ok-clause-closed
returns-in-Ok-clause-closed c nodes closed bindings array item around =
    let old = c.args.state.now in
    let mid = c.make_environment.new.self in
    let went = made_lasts nodes (Some c.args.around.env) c.args.bindings old mid _ c.in_ok-env.ensures c.in-Ok.env c.in-Ok.is closed around.0 bindings in
    let inner = made_inside nodes (Some c.args.around.env) c.args.bindings old mid _ c.in_ok-env.ensures c.in-Ok.env c.args.around c.in-Ok.is went around in
    let outer = scope_grown nodes old.heap.cells mid.heap.cells went.grows c.args.around around in
    lasts_on nodes old mid c.bind_item.new.state c.bind_item.result went (c.bind_item.ensures.closed nodes went.closed (went.grows.no_env c.args.walk.array array) (value_grown nodes old.heap.cells mid.heap.cells went.grows c.args.item item) (rw c.inside.ensures inner) (rw c.in_ok-outer.ensures outer))
