use Rattle.std.proofs.Common.{Some, true, ap, ◌∙◌}
use Rattle.world_heap.specs.declared.value.Property.TheVariants.{Access}
use Rattle.js_step_object.specs.Defining.{standing}
use Rattle.js_step_object.proofs.Membership.{getter_is, setter_is}
use Rattle.js_step_object.proofs.member.property_of.Goals as goal

pub returns-in-Getter : goal.returns-in-Getter
returns-in-Getter c = rw c.in-Getter.is
    (c.access.ensures ∙ ap (λ set. Access (Some c.args.function) set true true) c.setter_at.ensures ∙ getter_is c.args.function (standing c.args.heap.now.cells c.args.object c.args.key.now))

pub returns-in-Setter : goal.returns-in-Setter
returns-in-Setter c = rw c.in-Setter.is
    (c.access-in-Setter.ensures ∙ ap (λ get. Access get (Some c.args.function) true true) c.getter_at.ensures ∙ setter_is c.args.function (standing c.args.heap.now.cells c.args.object c.args.key.now))
