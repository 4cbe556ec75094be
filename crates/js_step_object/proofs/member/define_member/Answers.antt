use Rattle.std.specs.Prelude.{slice_get}
use Rattle.js_names.specs.Patterns.{nodes_of}
use Rattle.js_machine.specs.Frames.{property_key}
use Rattle.js_step_object.proofs.Membership.{member_is}
use Rattle.std.proofs.lemmas.Result.{err_from_is_err_and}
use Rattle.js_step_object.proofs.member.define_member.Goals as goal

pub returns-in-Value-clause-does : goal.returns-in-Value-clause-does
returns-in-Value-clause-does c =
    let nodes = nodes_of c.args.tree.now in
    rw (member_is (slice_get nodes c.args.node.0) c.args.node c.args.object c.args.scope (property_key nodes c.args.node c.args.key), ← c.member_at.ensures, c.in-Value.is) (rw c.literal.ensures at (c.enter.ensures.many nodes))

pub returns-in_ok-key-in-Function-clause-does : goal.returns-in_ok-key-in-Function-clause-does
returns-in_ok-key-in-Function-clause-does c =
    let nodes = nodes_of c.args.tree.now in
    rw (member_is (slice_get nodes c.args.node.0) c.args.node c.args.object c.args.scope (property_key nodes c.args.node c.args.key), ← c.member_at.ensures, c.in-Function.is) (rw c.in_ok-key-in-Function.ensures at (c.define_function.ensures.does nodes))

pub returns-in-Nothing-clause-does : goal.returns-in-Nothing-clause-does
returns-in-Nothing-clause-does c =
    let nodes = nodes_of c.args.tree.now in
    rw (member_is (slice_get nodes c.args.node.0) c.args.node c.args.object c.args.scope (property_key nodes c.args.node c.args.key), ← c.member_at.ensures, c.in-Nothing.is) (c.done.ensures.does nodes)

pub returns-in-Value-clause-closed : goal.returns-in-Value-clause-closed
returns-in-Value-clause-closed c closed object scope =
    c.enter.ensures.closed (nodes_of c.args.tree.now) closed (rw c.literal.ensures object) scope

pub returns-in_err-key-in-Function-clause-closed : goal.returns-in_err-key-in-Function-clause-closed
returns-in_err-key-in-Function-clause-closed c closed object scope =
    let p = err_from_is_err_and c.from_residual.result c.from_residual.ensures.1 in rw (p.1, p.2) (c.in_err-key-in-Function.ensures)

pub returns-in_ok-key-in-Function-clause-closed : goal.returns-in_ok-key-in-Function-clause-closed
returns-in_ok-key-in-Function-clause-closed c closed object scope =
    c.define_function.ensures.closed (nodes_of c.args.tree.now) closed scope.0

pub returns-in-Nothing-clause-closed : goal.returns-in-Nothing-clause-closed
returns-in-Nothing-clause-closed c closed object scope =
    c.done.ensures.closed (nodes_of c.args.tree.now) closed
