use Rattle.std.proofs.Common.{slice_get}
use Rattle.std.proofs.lemmas.Result.{err_from_is_err_and}
use Rattle.js_names.specs.Patterns.{nodes_of}
use Rattle.js_machine.specs.Parts.{parameters_from}
use Rattle.js_machine.proofs.Closing.{goes_on, stays_closed}
use Rattle.js_machine.proofs.Doing.{moves_still}
use Rattle.js_calls.proofs.Placing.{binds_ended, binds_nothing, binds_on, fewer_left, fit_at}
use Rattle.js_calls.proofs.in_place.leading_parameters.Goals as goal

pub parameters-init : goal.parameters-init
parameters-init c = record { reaches = moves_still (nodes_of c.args.tree.now) _ c.args.state.now; closed = λ closed arguments. stays_closed (nodes_of c.args.tree.now) c.args.state.now closed }

pub parameters-preserved : goal.parameters-preserved
parameters-preserved c =
    let nodes = nodes_of c.args.tree.now in
    let old = c.parameters.state in
    let new = c.bind_element.new.state in
    record {
      reaches = binds_on nodes c.args.node c.parameters.at c.in-Some.next c.args.arguments.now c.args.scope.now c.in-Some.element c.in_ok-value.value c.args.state.now old new _ c.in-Some.ensures.0 c.in-Some.ensures.1 c.in_ok-value.ensures c.in_ok-bind_element.ensures.does c.parameters.invariant.reaches c.in-Done.is;
      closed = λ closed arguments.
          let so = c.parameters.invariant.closed closed arguments in
          goes_on nodes c.args.state.now old new so (c.in_ok-bind_element.ensures.closed so.closed (fit_at nodes c.args.state.now.heap.cells old.heap.cells so.grows c.parameters.at c.args.arguments.now c.in_ok-value.value arguments c.in_ok-value.ensures));
    }

pub parameters-smaller : goal.parameters-smaller
parameters-smaller c = fewer_left (parameters_from (slice_get (nodes_of c.args.tree.now) c.args.node.0)) c.parameters.at c.in-Some.next c.in-Some.element c.in-Some.ensures.0

pub returns-in-Ended-clause-does : goal.returns-in-Ended-clause-does
returns-in-Ended-clause-does c =
    binds_ended (nodes_of c.args.tree.now) c.args.node c.parameters.at c.in-Some.next c.args.arguments.now c.args.scope.now c.in-Some.element c.in_ok-value.value c.args.state.now c.parameters.state c.bind_element.new.state _ c.in-Some.ensures.0 c.in-Some.ensures.1 c.in_ok-value.ensures c.in_ok-bind_element.ensures.does c.parameters.invariant.reaches c.in-Ended.ended c.in-Ended.is

pub returns-in-Nothing-clause-does : goal.returns-in-Nothing-clause-does
returns-in-Nothing-clause-does c =
    rw (binds_nothing (nodes_of c.args.tree.now) c.args.node c.parameters.at c.in-Some.next c.args.arguments.now c.args.scope.now c.in-Some.element c.in_ok-value.value c.args.state.now c.parameters.state c.bind_element.new.state _ c.in-Some.ensures.0 c.in-Some.ensures.1 c.in_ok-value.ensures c.in_ok-bind_element.ensures.does c.parameters.invariant.reaches c.in-Nothing.is) c.parameters.invariant.reaches

pub returns-clause-does : goal.returns-clause-does
returns-clause-does c = c.parameters.invariant.reaches

pub returns-in_err-value-clause-closed : goal.returns-in_err-value-clause-closed
returns-in_err-value-clause-closed c closed arguments =
    let p = err_from_is_err_and c.from_residual.result c.from_residual.ensures.1 in rw (p.1, p.2) c.in_err-value.ensures

pub returns-in_err-bind_element-clause-closed : goal.returns-in_err-bind_element-clause-closed
returns-in_err-bind_element-clause-closed c closed arguments =
    let so = c.parameters.invariant.closed closed arguments in
    let p = err_from_is_err_and c.from_residual-in_err-bind_element.result c.from_residual-in_err-bind_element.ensures.1 in
    rw (p.1, p.2) (c.in_err-bind_element.ensures.closed so.closed (fit_at (nodes_of c.args.tree.now) c.args.state.now.heap.cells c.parameters.state.heap.cells so.grows c.parameters.at c.args.arguments.now c.in_ok-value.value arguments c.in_ok-value.ensures))

pub returns-in-Ended-clause-closed : goal.returns-in-Ended-clause-closed
returns-in-Ended-clause-closed c closed arguments =
    let nodes = nodes_of c.args.tree.now in
    let old = c.parameters.state in
    let so = c.parameters.invariant.closed closed arguments in
    goes_on nodes c.args.state.now old c.bind_element.new.state so (c.in_ok-bind_element.ensures.closed so.closed (fit_at nodes c.args.state.now.heap.cells old.heap.cells so.grows c.parameters.at c.args.arguments.now c.in_ok-value.value arguments c.in_ok-value.ensures))

pub returns-in-Nothing-clause-closed : goal.returns-in-Nothing-clause-closed
returns-in-Nothing-clause-closed c closed arguments =
    rw (binds_nothing (nodes_of c.args.tree.now) c.args.node c.parameters.at c.in-Some.next c.args.arguments.now c.args.scope.now c.in-Some.element c.in_ok-value.value c.args.state.now c.parameters.state c.bind_element.new.state _ c.in-Some.ensures.0 c.in-Some.ensures.1 c.in_ok-value.ensures c.in_ok-bind_element.ensures.does c.parameters.invariant.reaches c.in-Nothing.is) (c.parameters.invariant.closed closed arguments)

pub returns-clause-closed : goal.returns-clause-closed
returns-clause-closed c closed arguments = c.parameters.invariant.closed closed arguments
