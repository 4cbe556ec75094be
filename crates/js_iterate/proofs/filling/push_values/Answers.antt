use Rattle.std.proofs.Common.{◌+◌, drop, ap}
use Rattle.js_semantics.specs.Iteration.{push_item, push_items}
use Rattle.js_machine.proofs.Lists.{drop_none}
use Rattle.js_iterate.proofs.Turns.{items_turn, turn_more, turn_ended, turns_done}
use Rattle.std.proofs.lemmas.Result.{err_from_is_err_and}
use Rattle.js_iterate.proofs.Lasting.{value_at}
use Rattle.js_machine.proofs.Closing.{goes_on, stays_closed}
use Rattle.js_machine.proofs.Doing.{moves_still}
use Rattle.js_iterate.proofs.filling.push_values.Goals as goal

pub returns-in-Some-clause-does : goal.returns-in-Some-clause-does
returns-in-Some-clause-does c nodes =
    turn_ended nodes (λ p. push_items c.args.array c.args.values.now p) (λ p. push_items c.args.array (drop c.values.value-index c.args.values.now) p) (λ p. push_item c.args.array c.in_ok-value.value p) (λ p. push_items c.args.array (drop (c.values.value-index + 1) c.args.values.now) p) c.args.state.now c.values.state c.push.new.state (c.values.invariant.0 nodes) (λ p. items_turn c.args.array c.args.values.now c.values.value-index c.value-item.result c.in_ok-value.value p c.values-test.true c.value-item.is c.in_ok-value.ensures) c.in-Some.next (rw c.in-Some.is at (c.in_ok-next.ensures.does nodes))

pub values-preserved : goal.values-preserved
values-preserved c = (
  λ nodes.
      turn_more nodes (λ p. push_items c.args.array c.args.values.now p) (λ p. push_items c.args.array (drop c.values.value-index c.args.values.now) p) (λ p. push_item c.args.array c.in_ok-value.value p) (λ p. push_items c.args.array (drop (c.values.value-index + 1) c.args.values.now) p) c.args.state.now c.values.state c.push.new.state (c.values.invariant.0 nodes) (λ p. items_turn c.args.array c.args.values.now c.values.value-index c.value-item.result c.in_ok-value.value p c.values-test.true c.value-item.is c.in_ok-value.ensures) (rw c.in_default.is at (c.in_ok-next.ensures.does nodes)),
  λ nodes closed unfrozen fit. let went = c.values.invariant.1 nodes closed unfrozen fit in
      goes_on nodes c.args.state.now c.values.state c.push.new.state went (c.in_ok-next.ensures.closed nodes went.closed (went.grows.open_array c.args.array unfrozen) (value_at c.args.state.now.heap.cells c.values.state.heap.cells went.grows c.args.values.now c.values.value-index c.value-item.result c.in_ok-value.value fit c.values-test.true c.value-item.is c.in_ok-value.ensures)),
)

pub returns-clause-does : goal.returns-clause-does
returns-clause-does c nodes =
    turns_done nodes (λ p. push_items c.args.array c.args.values.now p) (λ p. push_items c.args.array (drop c.values.value-index c.args.values.now) p) c.args.state.now c.values.state (c.values.invariant.0 nodes) (λ p. ap (λ l. push_items c.args.array l p) (drop_none c.args.values.now c.values.value-index c.values-test.false))

pub values-init : goal.values-init
values-init c =
    (λ nodes p. moves_still nodes (push_items c.args.array c.args.values.now p) c.args.state.now, λ nodes closed unfrozen fit. stays_closed nodes c.args.state.now closed)

pub returns-in_err-value-clause-closed : goal.returns-in_err-value-clause-closed
returns-in_err-value-clause-closed c nodes closed unfrozen fit =
    let p = err_from_is_err_and c.from_residual.result c.from_residual.ensures.1 in rw p.1 p.2

pub returns-in_err-next-clause-closed : goal.returns-in_err-next-clause-closed
returns-in_err-next-clause-closed c nodes closed unfrozen fit =
    let went = c.values.invariant.1 nodes closed unfrozen fit in
    let p = err_from_is_err_and c.from_residual-in_err-next.result c.from_residual-in_err-next.ensures.1 in rw (p.1, p.2) (c.in_err-next.ensures.closed nodes went.closed (went.grows.open_array c.args.array unfrozen) (value_at c.args.state.now.heap.cells c.values.state.heap.cells went.grows c.args.values.now c.values.value-index c.value-item.result c.in_ok-value.value fit c.values-test.true c.value-item.is c.in_ok-value.ensures))

pub returns-in-Some-clause-closed : goal.returns-in-Some-clause-closed
returns-in-Some-clause-closed c nodes closed unfrozen fit =
    let went = c.values.invariant.1 nodes closed unfrozen fit in
    goes_on nodes c.args.state.now c.values.state c.push.new.state went (c.in_ok-next.ensures.closed nodes went.closed (went.grows.open_array c.args.array unfrozen) (value_at c.args.state.now.heap.cells c.values.state.heap.cells went.grows c.args.values.now c.values.value-index c.value-item.result c.in_ok-value.value fit c.values-test.true c.value-item.is c.in_ok-value.ensures))

pub returns-clause-closed : goal.returns-clause-closed
returns-clause-closed c nodes closed unfrozen fit =
    c.values.invariant.1 nodes closed unfrozen fit
