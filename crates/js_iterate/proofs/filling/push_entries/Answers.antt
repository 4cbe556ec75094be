use Rattle.world_heap.specs.declared.value.Value.TheVariants.{Ref}
use Rattle.std.proofs.Common.{[], ◌∷◌, ◌+◌, drop, ap}
use Rattle.js_semantics.specs.Access.{make_array}
use Rattle.js_semantics.specs.Iteration.{push_entries, push_item}
use Rattle.js_machine.proofs.Lists.{drop_none}
use Rattle.js_iterate.proofs.Turns.{entries_turn, turn_more, turn_ended, turns_done}
use Rattle.std.proofs.lemmas.Result.{err_from_is_err_and}
use Rattle.js_iterate.proofs.Lasting.{entry_at}
use Rattle.js_machine.proofs.Closing.{goes_on, stays_closed}
use Rattle.js_machine.proofs.Doing.{moves_still}
use Rattle.js_iterate.proofs.filling.push_entries.Goals as goal

pub returns-in-Some-clause-does : goal.returns-in-Some-clause-does
returns-in-Some-clause-does c nodes =
    turn_ended nodes (λ p. push_entries c.args.array c.args.entries.now p) (λ p. push_entries c.args.array (drop c.entries.entry-index c.args.entries.now) p) (λ p. make_array (c.entry-item.result.key ∷ c.entry-item.result.value ∷ []) (λ pair. push_item c.args.array (Ref pair) p)) (λ p. push_entries c.args.array (drop (c.entries.entry-index + 1) c.args.entries.now) p) c.args.state.now c.entries.state c.push_entry.new.state (c.entries.invariant.0 nodes) (λ p. entries_turn c.args.array c.args.entries.now c.entries.entry-index c.entry-item.result p c.entries-test.true c.entry-item.is) c.in-Some.next (rw c.in-Some.is at (c.in_ok-next.ensures.does nodes))

pub entries-preserved : goal.entries-preserved
entries-preserved c = (
  λ nodes.
      turn_more nodes (λ p. push_entries c.args.array c.args.entries.now p) (λ p. push_entries c.args.array (drop c.entries.entry-index c.args.entries.now) p) (λ p. make_array (c.entry-item.result.key ∷ c.entry-item.result.value ∷ []) (λ pair. push_item c.args.array (Ref pair) p)) (λ p. push_entries c.args.array (drop (c.entries.entry-index + 1) c.args.entries.now) p) c.args.state.now c.entries.state c.push_entry.new.state (c.entries.invariant.0 nodes) (λ p. entries_turn c.args.array c.args.entries.now c.entries.entry-index c.entry-item.result p c.entries-test.true c.entry-item.is) (rw c.in_default.is at (c.in_ok-next.ensures.does nodes)),
  λ nodes closed unfrozen fit. let went = c.entries.invariant.1 nodes closed unfrozen fit in
      goes_on nodes c.args.state.now c.entries.state c.push_entry.new.state went (c.in_ok-next.ensures.closed nodes went.closed (went.grows.open_array c.args.array unfrozen) (entry_at c.args.state.now.heap.cells c.entries.state.heap.cells went.grows c.args.entries.now c.entries.entry-index c.entry-item.result fit c.entries-test.true c.entry-item.is)),
)

pub returns-clause-does : goal.returns-clause-does
returns-clause-does c nodes =
    turns_done nodes (λ p. push_entries c.args.array c.args.entries.now p) (λ p. push_entries c.args.array (drop c.entries.entry-index c.args.entries.now) p) c.args.state.now c.entries.state (c.entries.invariant.0 nodes) (λ p. ap (λ l. push_entries c.args.array l p) (drop_none c.args.entries.now c.entries.entry-index c.entries-test.false))

pub entries-init : goal.entries-init
entries-init c =
    (λ nodes p. moves_still nodes (push_entries c.args.array c.args.entries.now p) c.args.state.now, λ nodes closed unfrozen fit. stays_closed nodes c.args.state.now closed)

pub returns-in_err-next-clause-closed : goal.returns-in_err-next-clause-closed
returns-in_err-next-clause-closed c nodes closed unfrozen fit =
    let went = c.entries.invariant.1 nodes closed unfrozen fit in
    let p = err_from_is_err_and c.from_residual.result c.from_residual.ensures.1 in rw (p.1, p.2) (c.in_err-next.ensures.closed nodes went.closed (went.grows.open_array c.args.array unfrozen) (entry_at c.args.state.now.heap.cells c.entries.state.heap.cells went.grows c.args.entries.now c.entries.entry-index c.entry-item.result fit c.entries-test.true c.entry-item.is))

pub returns-in-Some-clause-closed : goal.returns-in-Some-clause-closed
returns-in-Some-clause-closed c nodes closed unfrozen fit =
    let went = c.entries.invariant.1 nodes closed unfrozen fit in
    goes_on nodes c.args.state.now c.entries.state c.push_entry.new.state went (c.in_ok-next.ensures.closed nodes went.closed (went.grows.open_array c.args.array unfrozen) (entry_at c.args.state.now.heap.cells c.entries.state.heap.cells went.grows c.args.entries.now c.entries.entry-index c.entry-item.result fit c.entries-test.true c.entry-item.is))

pub returns-clause-closed : goal.returns-clause-closed
returns-clause-closed c nodes closed unfrozen fit =
    c.entries.invariant.1 nodes closed unfrozen fit
