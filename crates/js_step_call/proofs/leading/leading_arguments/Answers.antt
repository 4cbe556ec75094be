use Rattle.std.proofs.Common.{◌≡◌, ◌∷◌, List, drop, length, slice_get, sym, ap, ◌∙◌, arith}
use Rattle.std.proofs.lemmas.Result.{err_from_is_err_and}
use Rattle.js_tree.specs.declared.node.NodeId.{NodeId}
use Rattle.js_names.specs.Patterns.{nodes_of}
use Rattle.world_heap.proofs.Wells.{list_push}
use Rattle.js_machine.specs.Closed.{ValueFits}
use Rattle.js_machine.specs.Parts.{items_of}
use Rattle.js_machine.proofs.Closing.{goes_on, scope_grown, stays_closed, values_grown}
use Rattle.js_machine.proofs.Doing.{moves_still}
use Rattle.js_primary.proofs.Evaluating.{not_taken}
use Rattle.js_step_call.proofs.Arguments.{reaches_ended, reaches_on}
use Rattle.js_step_call.proofs.leading.leading_arguments.Goals as goal

pub leading-init : goal.leading-init
leading-init c = rw c.new-before.ensures (record { reaches = λ target. moves_still (nodes_of c.args.tree.now) _ c.args.state.now; closed = λ closed scope. (stays_closed (nodes_of c.args.tree.now) c.args.state.now closed, tt) })

pub leading-preserved : goal.leading-preserved
leading-preserved c =
    let nodes = nodes_of c.args.tree.now in
    let old = c.leading.state in
    let new = c.take_value.new.state in
    let value = c.in-Value.value in
    let list : drop c.leading.at (items_of (slice_get nodes c.args.node.0)) ≡ c.in-Some.argument ∷ drop c.in-Some.next (items_of (slice_get nodes c.args.node.0)) = cc (c.items_of-list.ensures, c.in-Some.ensures.0) in
    rw c.in_ok-push-in-Value.ensures.ok (record {
      reaches = reaches_on nodes c.args.node c.args.scope.now c.args.state.now old new c.leading.at c.in-Some.next c.in-Some.argument c.leading.before _ list (sym c.is_spread.ensures ∙ c.if-is_spread.false) c.in_ok-value.ensures.does c.leading.invariant.reaches value c.in-Value.is;
      closed = λ closed scope.
          let (so, fit) = c.leading.invariant.closed closed scope in
          let went = c.in_ok-value.ensures.closed so.closed (scope_grown nodes c.args.state.now.heap.cells old.heap.cells so.grows c.args.scope.now scope) in
          (goes_on nodes c.args.state.now old new so went.0, list_push (ValueFits new.heap.cells) c.leading.before value (values_grown nodes old.heap.cells new.heap.cells went.0.grows c.leading.before fit) (rw c.in-Value.is at went.1));
    })

pub leading-smaller : goal.leading-smaller
leading-smaller c = let e = ap (λ (l : List NodeId). length l) c.in-Some.ensures.0 in omega arith

pub returns-in-Ended-clause-does : goal.returns-in-Ended-clause-does
returns-in-Ended-clause-does c =
    let nodes = nodes_of c.args.tree.now in
    let list : drop c.leading.at (items_of (slice_get nodes c.args.node.0)) ≡ c.in-Some.argument ∷ drop c.in-Some.next (items_of (slice_get nodes c.args.node.0)) = cc (c.items_of-list.ensures, c.in-Some.ensures.0) in
    reaches_ended nodes c.args.node c.args.scope.now c.args.state.now c.leading.state c.take_value.new.state c.leading.at c.in-Some.next c.in-Some.argument c.leading.before _ list (sym c.is_spread.ensures ∙ c.if-is_spread.false) c.in_ok-value.ensures.does c.leading.invariant.reaches c.in-Ended.ended c.in-Ended.is

pub returns-in-Nothing-clause-does : goal.returns-in-Nothing-clause-does
returns-in-Nothing-clause-does c =
    rw (not_taken (nodes_of c.args.tree.now) c.in-Some.argument c.args.scope.now c.leading.state c.take_value.new.state _ c.in_ok-value.ensures.does c.in-Nothing.is) c.leading.invariant.reaches

pub returns-clause-does : goal.returns-clause-does
returns-clause-does c = c.leading.invariant.reaches

pub returns-in_err-value-clause-closed : goal.returns-in_err-value-clause-closed
returns-in_err-value-clause-closed c closed scope =
    let nodes = nodes_of c.args.tree.now in
    let so = (c.leading.invariant.closed closed scope).0 in
    let p = err_from_is_err_and c.from_residual.result c.from_residual.ensures.1 in
    rw (p.1, p.2) (c.in_err-value.ensures.closed so.closed (scope_grown nodes c.args.state.now.heap.cells c.leading.state.heap.cells so.grows c.args.scope.now scope))

pub returns-in-Ended-clause-closed : goal.returns-in-Ended-clause-closed
returns-in-Ended-clause-closed c closed scope =
    let nodes = nodes_of c.args.tree.now in
    let old = c.leading.state in
    let so = (c.leading.invariant.closed closed scope).0 in
    let went = c.in_ok-value.ensures.closed so.closed (scope_grown nodes c.args.state.now.heap.cells old.heap.cells so.grows c.args.scope.now scope) in
    (goes_on nodes c.args.state.now old c.take_value.new.state so went.0, tt)

pub returns-in-Nothing-clause-closed : goal.returns-in-Nothing-clause-closed
returns-in-Nothing-clause-closed c closed scope =
    rw (not_taken (nodes_of c.args.tree.now) c.in-Some.argument c.args.scope.now c.leading.state c.take_value.new.state _ c.in_ok-value.ensures.does c.in-Nothing.is) (c.leading.invariant.closed closed scope)

pub returns-clause-closed : goal.returns-clause-closed
returns-clause-closed c closed scope = c.leading.invariant.closed closed scope
