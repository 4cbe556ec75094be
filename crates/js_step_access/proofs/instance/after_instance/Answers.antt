use Rattle.js_semantics.specs.Prog.{give}
use Rattle.js_step_access.proofs.Inheriting.{no_object, told_ok}
use Rattle.js_step_access.proofs.instance.after_instance.Goals as goal

pub returns-in-Some-clause-does : goal.returns-in-Some-clause-does
returns-in-Some-clause-does c nodes = told_ok nodes c.args.left c.args.prototype (λ v. give v) c.instance_in.result c.in-Some.told _ _ _ c.instance_in.ensures c.in-Some.is (c.give.ensures.some nodes)

pub returns-in-None-clause-does : goal.returns-in-None-clause-does
returns-in-None-clause-does c nodes = no_object nodes c.args.left c.args.prototype (λ v. give v) c.instance_in.result _ _ _ c.instance_in.ensures c.in-None.is (c.throw.ensures.some nodes)

pub returns-in-Some-clause-closed : goal.returns-in-Some-clause-closed
returns-in-Some-clause-closed c nodes closed left prototype = c.give.ensures.closed nodes closed tt

pub returns-in-None-clause-closed : goal.returns-in-None-clause-closed
returns-in-None-clause-closed c nodes closed left prototype = c.throw.ensures.closed nodes closed
