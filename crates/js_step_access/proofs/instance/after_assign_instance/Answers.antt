use Rattle.js_names.specs.Patterns.{nodes_of}
use Rattle.js_semantics.specs.Prog.{give}
use Rattle.js_machine.specs.Frames.{write_place}
use Rattle.js_step_access.proofs.Inheriting.{no_object, told_ok}
use Rattle.js_step_access.proofs.instance.after_assign_instance.Goals as goal

pub returns-in-Some-clause-does : goal.returns-in-Some-clause-does
returns-in-Some-clause-does c =
    let nodes = nodes_of c.args.tree.now in
    told_ok nodes c.args.left c.args.prototype (λ v. write_place nodes c.args.place v (give v)) c.instance_in.result c.in-Some.told _ _ _ c.instance_in.ensures c.in-Some.is c.write_place.ensures.does

pub returns-in-None-clause-does : goal.returns-in-None-clause-does
returns-in-None-clause-does c =
    let nodes = nodes_of c.args.tree.now in
    no_object nodes c.args.left c.args.prototype (λ v. write_place nodes c.args.place v (give v)) c.instance_in.result _ _ _ c.instance_in.ensures c.in-None.is (c.throw.ensures.some nodes)

pub returns-in-Some-clause-closed : goal.returns-in-Some-clause-closed
returns-in-Some-clause-closed c closed left place prototype = c.write_place.ensures.closed closed place tt tt

pub returns-in-None-clause-closed : goal.returns-in-None-clause-closed
returns-in-None-clause-closed c closed left place prototype = c.throw.ensures.closed (nodes_of c.args.tree.now) closed
