use Rattle.std.specs.Prelude.{slice_get}
use Rattle.js_names.specs.Patterns.{nodes_of}
use Rattle.js_step_object.proofs.Membership.{keyed_is}
use Rattle.std.proofs.lemmas.Result.{err_from_is_err_and}
use Rattle.js_step_object.proofs.member.row_member.Goals as goal

pub returns-in_ok-inner-in-Some-Some-clause-does : goal.returns-in_ok-inner-in-Some-Some-clause-does
returns-in_ok-inner-in-Some-Some-clause-does c =
    let nodes = nodes_of c.args.tree.now in
    rw (keyed_is (slice_get nodes c.args.node.0) c.args.node c.args.object c.args.scope, ← c.key_node.ensures, c.in-Some-Some.is, c.in-Some-Some.field-0-is) (rw (c.in_ok-inner-in-Some-Some.ensures, c.literal.ensures) at (c.enter.ensures.many nodes))

pub returns-in-Some-None-clause-does : goal.returns-in-Some-None-clause-does
returns-in-Some-None-clause-does c =
    let nodes = nodes_of c.args.tree.now in
    rw (keyed_is (slice_get nodes c.args.node.0) c.args.node c.args.object c.args.scope, ← c.key_node.ensures, c.in-Some-None.is, c.in-Some-None.field-0-is) c.define_member.ensures.does

pub returns-in-None-clause-does : goal.returns-in-None-clause-does
returns-in-None-clause-does c =
    let nodes = nodes_of c.args.tree.now in
    rw (keyed_is (slice_get nodes c.args.node.0) c.args.node c.args.object c.args.scope, ← c.key_node.ensures, c.in-None.is) (c.done.ensures.does nodes)

pub returns-in_err-inner-in-Some-Some-clause-closed : goal.returns-in_err-inner-in-Some-Some-clause-closed
returns-in_err-inner-in-Some-Some-clause-closed c closed object scope =
    let p = err_from_is_err_and c.from_residual.result c.from_residual.ensures.1 in rw (p.1, p.2) (c.in_err-inner-in-Some-Some.ensures)

pub returns-in_ok-inner-in-Some-Some-clause-closed : goal.returns-in_ok-inner-in-Some-Some-clause-closed
returns-in_ok-inner-in-Some-Some-clause-closed c closed object scope =
    c.enter.ensures.closed (nodes_of c.args.tree.now) closed (rw c.literal.ensures (object, scope)) (rw c.in_ok-inner-in-Some-Some.ensures scope)

pub returns-in-Some-None-clause-closed : goal.returns-in-Some-None-clause-closed
returns-in-Some-None-clause-closed c closed object scope =
    c.define_member.ensures.closed closed object scope

pub returns-in-None-clause-closed : goal.returns-in-None-clause-closed
returns-in-None-clause-closed c closed object scope =
    c.done.ensures.closed (nodes_of c.args.tree.now) closed
