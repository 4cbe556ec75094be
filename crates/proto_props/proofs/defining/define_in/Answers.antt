use Rattle.std.proofs.Common.{◌∙◌, sym, ap, nat_eq}
use Rattle.std.specs.Option.{option_and_then}
use Rattle.world_heap.specs.Table.{found_under}
use Rattle.world_heap.specs.Bodies.{body_of}
use Rattle.proto_props.specs.Defines.{allows}
use Rattle.proto_props.proofs.Deciding.{verdict_body}
use Rattle.proto_props.proofs.defining.define_in.Goals as goal

pub put_property-requires-clause-body : goal.put_property-requires-clause-body
put_property-requires-clause-body c =
    let b = verdict_body (λ q. allows nat_eq q c.args.property) (λ b. found_under b.properties c.args.key) (body_of c.cell.result.now) c.in-Some-true.field-0 (sym c.verdict.ensures ∙ c.in-Some-true.is) in
    (b.0, ap (option_and_then body_of) c.cell.ensures.found ∙ b.1)
