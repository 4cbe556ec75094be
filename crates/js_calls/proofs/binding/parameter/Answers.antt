use Rattle.std.proofs.Common.{drop}
use Rattle.js_calls.proofs.Defaulted.{default_entered, bound_at_once}
use Rattle.js_machine.specs.Closed.{ValueFits}
use Rattle.js_calls.proofs.Fitting.{drop_fits, first_fits}
use Rattle.js_calls.proofs.binding.parameter.Goals as goal

pub returns-in_ok-inner-in-Some-clause-does : goal.returns-in_ok-inner-in-Some-clause-does
returns-in_ok-inner-in-Some-clause-does c nodes is behind =
    default_entered nodes c.args.node c.args.at c.args.arguments c.args.scope c.args.next c.args.element c.in_ok-value.value c.in-Some.default c.args.state.now c.enter_part.new.state c.enter_part.result is behind c.in_ok-value.ensures c.in-Some.ensures (rw c.in_ok-inner-in-Some.ensures at (c.enter_part.ensures.does nodes))

pub returns-in-None-clause-does : goal.returns-in-None-clause-does
returns-in-None-clause-does c nodes is behind =
    bound_at_once nodes c.args.node c.args.at c.args.arguments c.args.scope c.args.next c.args.element c.in_ok-value.value c.args.state.now c.bind_parameter.new.state c.bind_parameter.result is behind c.in_ok-value.ensures c.in-None.ensures (c.bind_parameter.ensures.few nodes)

pub returns-in_ok-inner-in-Some-clause-closed : goal.returns-in_ok-inner-in-Some-clause-closed
returns-in_ok-inner-in-Some-clause-closed c nodes closed arguments scope = c.enter_part.ensures.closed nodes closed (arguments, scope) (rw c.in_ok-inner-in-Some.ensures scope)

pub returns-in-None-clause-closed : goal.returns-in-None-clause-closed
returns-in-None-clause-closed c nodes closed arguments scope =
    let cells = c.args.state.now.heap.cells in
    let rest = drop_fits (ValueFits cells) c.args.at c.args.arguments arguments in
    c.bind_parameter.ensures.closed nodes closed (rw c.in_ok-value.ensures (first_fits cells (drop c.args.at c.args.arguments) rest)) arguments scope
