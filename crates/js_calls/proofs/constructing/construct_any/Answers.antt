use Rattle.std.proofs.lemmas.Result.{err_from_is_err_and}
use Rattle.js_names.specs.Patterns.{nodes_of}
use Rattle.js_machine.specs.Does.{world_of}
use Rattle.js_calls.proofs.Constructed.{by_closure, by_native, by_nothing}
use Rattle.js_calls.proofs.Meanings.{made_fits}
use Rattle.js_calls.proofs.constructing.construct_any.Goals as goal

pub returns-in_ok-proto-in-Closure-clause-does : goal.returns-in_ok-proto-in-Closure-clause-does
returns-in_ok-proto-in-Closure-clause-does c =
    let nodes = nodes_of c.args.tree.now in
    by_closure nodes c.args.arguments c.args.callee.now _ c.args.state.now _ _ (λ supply. c.constructor_of.ensures.is (world_of nodes supply c.args.state.now)) c.in-Closure.node c.in-Closure.env c.in_ok-proto-in-Closure.proto c.in-Closure.is (λ supply. c.in_ok-proto-in-Closure.ensures.is nodes supply) c.construct_on.ensures.does

pub returns-in-Native-clause-does : goal.returns-in-Native-clause-does
returns-in-Native-clause-does c =
    let nodes = nodes_of c.args.tree.now in
    by_native nodes c.args.arguments c.args.callee.now _ c.args.state.now _ _ (λ supply. c.constructor_of.ensures.is (world_of nodes supply c.args.state.now)) c.in-Native.id c.in-Native.is (c.enter_native.ensures.some nodes)

pub returns-in-Nothing-clause-does : goal.returns-in-Nothing-clause-does
returns-in-Nothing-clause-does c =
    let nodes = nodes_of c.args.tree.now in
    by_nothing nodes c.args.arguments c.args.callee.now _ c.args.state.now _ _ (λ supply. c.constructor_of.ensures.is (world_of nodes supply c.args.state.now)) c.in-Nothing.is (c.throw.ensures.some nodes)

pub returns-in_ok-proto-in-Closure-clause-closed : goal.returns-in_ok-proto-in-Closure-clause-closed
returns-in_ok-proto-in-Closure-clause-closed c closed arguments =
    let nodes = nodes_of c.args.tree.now in
    c.construct_on.ensures.closed closed (rw c.in-Closure.is at c.constructor_of.ensures.closed) (rw (c.in_ok-proto-in-Closure.ensures.is nodes (λ n. n)) (made_fits nodes c.args.state.now closed c.args.callee.now)) arguments

pub returns-in-Native-clause-closed : goal.returns-in-Native-clause-closed
returns-in-Native-clause-closed c closed arguments = c.enter_native.ensures.closed (nodes_of c.args.tree.now) closed tt tt arguments

pub returns-in-Nothing-clause-closed : goal.returns-in-Nothing-clause-closed
returns-in-Nothing-clause-closed c closed arguments = c.throw.ensures.closed (nodes_of c.args.tree.now) closed

pub returns-in_err-proto-in-Closure-clause-closed : goal.returns-in_err-proto-in-Closure-clause-closed
returns-in_err-proto-in-Closure-clause-closed c closed arguments =
    let p = err_from_is_err_and c.from_residual.result c.from_residual.ensures.1 in rw (p.1, p.2) c.in_err-proto-in-Closure.ensures.only
