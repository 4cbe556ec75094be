use Rattle.std.proofs.Common.{arith}
use Rattle.js_names.specs.Patterns.{nodes_of}
use Rattle.js_semantics.specs.Statements.{of_turn}
use Rattle.js_iterate.proofs.Walks.{walk_ok, walk_ended}
use Rattle.std.proofs.lemmas.Result.{err_from_is_err_and}
use Rattle.std.proofs.Common.{nat_eq}
use Rattle.world_heap.specs.Heaps.{IsNoEnv}
use Rattle.js_iterate.proofs.Lasting.{ended_with, made_with}
use Rattle.js_machine.proofs.Closing.{lasts_on, scope_grown}
use Rattle.js_iterate.proofs.rests.for_of_list.Goals as goal

pub returns-in-Ok-clause-does : goal.returns-in-Ok-clause-does
returns-in-Ok-clause-does c =
    walk_ok (nodes_of c.args.tree.now) 6 c.args.value.now (λ array. of_turn c.args.constant c.args.bind c.args.body array 0 c.args.scope) c.args.state.now c.walk_value.new.state _ (c.in_ok-array.ensures.does (nodes_of c.args.tree.now)) c.of_turn.new.state c.in-Ok.array c.of_turn.result c.in-Ok.is c.of_turn.ensures.does

pub returns-in-Err-clause-does : goal.returns-in-Err-clause-does
returns-in-Err-clause-does c =
    walk_ended (nodes_of c.args.tree.now) 6 c.args.value.now (λ array. of_turn c.args.constant c.args.bind c.args.body array 0 c.args.scope) c.args.state.now c.walk_value.new.state _ (c.in_ok-array.ensures.does (nodes_of c.args.tree.now)) c.in-Err.ended (omega arith) c.in-Err.is

pub returns-in_err-array-clause-closed : goal.returns-in_err-array-clause-closed
returns-in_err-array-clause-closed c closed scope fit =
    let p = err_from_is_err_and c.from_residual.result c.from_residual.ensures.1 in rw (p.1, p.2) (c.in_err-array.ensures.closed (nodes_of c.args.tree.now) closed fit)

pub returns-in-Ok-clause-closed : goal.returns-in-Ok-clause-closed
returns-in-Ok-clause-closed c closed scope fit =
    let nodes = nodes_of c.args.tree.now in
    let (went, stands) = made_with (IsNoEnv nat_eq) nodes c.args.state.now c.walk_value.new.state _ c.in-Ok.array c.in-Ok.is (c.in_ok-array.ensures.closed nodes closed fit) in
    lasts_on nodes c.args.state.now c.walk_value.new.state c.of_turn.new.state c.of_turn.result went
    (c.of_turn.ensures.closed went.closed stands (scope_grown nodes c.args.state.now.heap.cells c.walk_value.new.state.heap.cells went.grows c.args.scope scope))

pub returns-in-Err-clause-closed : goal.returns-in-Err-clause-closed
returns-in-Err-clause-closed c closed scope fit =
    ended_with (IsNoEnv nat_eq) (nodes_of c.args.tree.now) c.args.state.now c.walk_value.new.state _ c.in-Err.ended c.in-Err.is (c.in_ok-array.ensures.closed (nodes_of c.args.tree.now) closed fit)
