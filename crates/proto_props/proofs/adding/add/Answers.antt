use Rattle.std.proofs.Common.{◌∙◌, sym, ap}
use Rattle.std.specs.Option.{option_and_then}
use Rattle.world_heap.specs.Bodies.{body_of}
use Rattle.proto_props.proofs.adding.add.Goals as goal

pub add_property-requires : goal.add_property-requires
add_property-requires c = record {
  body = (c.in-Some.body.now, ap (option_and_then body_of) c.cell.ensures.found ∙ sym c.in-Some.ensures);
  fits = c.requires.fits;
}
