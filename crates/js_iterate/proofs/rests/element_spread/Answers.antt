use Rattle.std.proofs.Common.{ℕ, drop, arith}
use Rattle.std.specs.Prelude.{slice_get}
use Rattle.world_heap.specs.declared.value.Value.TheVariants.{Ref}
use Rattle.js_names.specs.Patterns.{nodes_of}
use Rattle.js_semantics.specs.World.{cell_at}
use Rattle.js_semantics.specs.Iteration.{elements_into, items_at, push_items}
use Rattle.js_semantics.specs.Prog.{Prog, Read, give}
use Rattle.js_machine.specs.Parts.{items_of}
use Rattle.js_iterate.proofs.Walks.{walk_ok, walk_ended}
use Rattle.std.proofs.lemmas.Result.{err_from_is_err_and}
use Rattle.std.proofs.Common.{nat_eq}
use Rattle.world_heap.specs.Heaps.{IsNoEnv}
use Rattle.js_iterate.proofs.Lasting.{ended_with, made_with}
use Rattle.js_machine.proofs.Closing.{lasts_on, scope_grown}
use Rattle.js_iterate.proofs.rests.element_spread.Goals as goal

pub returns-in-Ok-clause-does : goal.returns-in-Ok-clause-does
returns-in-Ok-clause-does c =
    let nodes = nodes_of c.args.tree.now in
    let k : ℕ → Prog ℕ = λ walked. Read (λ w. push_items c.args.array (items_at (cell_at walked w)) (elements_into c.args.array (drop c.args.next (items_of (slice_get nodes c.args.node.0))) c.args.scope (give (Ref c.args.array)))) in
    walk_ok nodes 6 c.args.value.now k c.args.state.now c.walk_value.new.state _ (c.in_ok-walked.ensures.does nodes) c.spread_into.new.state c.in-Ok.walked c.spread_into.result c.in-Ok.is c.spread_into.ensures.does

pub returns-in-Err-clause-does : goal.returns-in-Err-clause-does
returns-in-Err-clause-does c =
    let nodes = nodes_of c.args.tree.now in
    let k : ℕ → Prog ℕ = λ walked. Read (λ w. push_items c.args.array (items_at (cell_at walked w)) (elements_into c.args.array (drop c.args.next (items_of (slice_get nodes c.args.node.0))) c.args.scope (give (Ref c.args.array)))) in
    walk_ended nodes 6 c.args.value.now k c.args.state.now c.walk_value.new.state _ (c.in_ok-walked.ensures.does nodes) c.in-Err.ended (omega arith) c.in-Err.is

pub returns-in_err-walked-clause-closed : goal.returns-in_err-walked-clause-closed
returns-in_err-walked-clause-closed c closed array unfrozen scope fit =
    let p = err_from_is_err_and c.from_residual.result c.from_residual.ensures.1 in rw (p.1, p.2) (c.in_err-walked.ensures.closed (nodes_of c.args.tree.now) closed fit)

pub returns-in-Ok-clause-closed : goal.returns-in-Ok-clause-closed
returns-in-Ok-clause-closed c closed array unfrozen scope fit =
    let nodes = nodes_of c.args.tree.now in
    let (went, stands) = made_with (IsNoEnv nat_eq) nodes c.args.state.now c.walk_value.new.state _ c.in-Ok.walked c.in-Ok.is (c.in_ok-walked.ensures.closed nodes closed fit) in
    lasts_on nodes c.args.state.now c.walk_value.new.state c.spread_into.new.state c.spread_into.result went
    (c.spread_into.ensures.closed went.closed (went.grows.no_env c.args.array array) (went.grows.open_array c.args.array unfrozen) (scope_grown nodes c.args.state.now.heap.cells c.walk_value.new.state.heap.cells went.grows c.args.scope scope))

pub returns-in-Err-clause-closed : goal.returns-in-Err-clause-closed
returns-in-Err-clause-closed c closed array unfrozen scope fit =
    ended_with (IsNoEnv nat_eq) (nodes_of c.args.tree.now) c.args.state.now c.walk_value.new.state _ c.in-Err.ended c.in-Err.is (c.in_ok-walked.ensures.closed (nodes_of c.args.tree.now) closed fit)
