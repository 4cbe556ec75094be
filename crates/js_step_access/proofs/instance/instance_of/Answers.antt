use Rattle.js_names.specs.Patterns.{nodes_of}
use Rattle.js_machine.specs.Does.{world_of}
use Rattle.js_step_access.proofs.Joining.{called_ok, refused_ok}
use Rattle.std.proofs.lemmas.Result.{err_from_is_err_and}
use Rattle.js_step_access.proofs.Fitting.{instance_fits}
use Rattle.js_step_access.proofs.instance.instance_of.Goals as goal

pub returns-then-not-is_callable_value-clause-does : goal.returns-then-not-is_callable_value-clause-does
returns-then-not-is_callable_value-clause-does c =
    refused_ok (nodes_of c.args.tree.now) c.args.left c.args.right c.args.place c.is_callable_value.result c.args.state.now _ _ c.if-not-is_callable_value.true (λ supply. c.is_callable_value.ensures (world_of (nodes_of c.args.tree.now) supply c.args.state.now)) (c.throw.ensures.many (nodes_of c.args.tree.now))

pub returns-clause-does : goal.returns-clause-does
returns-clause-does c =
    called_ok (nodes_of c.args.tree.now) c.args.left c.args.right c.args.place c.is_callable_value.result c.in_ok-key.key c.frame_of.result c.args.state.now _ _ c.if-not-is_callable_value.false (λ supply. c.is_callable_value.ensures (world_of (nodes_of c.args.tree.now) supply c.args.state.now)) c.in_ok-key.ensures c.frame_of.ensures c.get.ensures.does

pub returns-then-not-is_callable_value-clause-closed : goal.returns-then-not-is_callable_value-clause-closed
returns-then-not-is_callable_value-clause-closed c closed left right place = c.throw.ensures.closed (nodes_of c.args.tree.now) closed

pub returns-in_err-key-clause-closed : goal.returns-in_err-key-clause-closed
returns-in_err-key-clause-closed c closed left right place =
    let p = err_from_is_err_and c.from_residual.result c.from_residual.ensures.1 in rw (p.1, p.2) c.in_err-key.ensures

pub returns-clause-closed : goal.returns-clause-closed
returns-clause-closed c closed left right place = c.get.ensures.closed closed right (rw c.frame_of.ensures (instance_fits (nodes_of c.args.tree.now) c.args.state.now.heap.cells c.args.left c.args.place left place))
