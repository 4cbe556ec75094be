use Rattle.js_names.specs.Patterns.{nodes_of}
use Rattle.js_step_object.proofs.member.member_keyed.Goals as goal

pub returns-in-Some-clause-closed : goal.returns-in-Some-clause-closed
returns-in-Some-clause-closed c closed object scope =
    c.define_member.ensures.closed closed object scope

pub returns-in-None-clause-closed : goal.returns-in-None-clause-closed
returns-in-None-clause-closed c closed object scope =
    c.throw.ensures.closed (nodes_of c.args.tree.now) closed
