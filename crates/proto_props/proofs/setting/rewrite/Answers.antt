use Rattle.std.proofs.Common.{◌∙◌, sym, ap}
use Rattle.std.specs.Option.{option_and_then}
use Rattle.world_heap.specs.Bodies.{body_of}
use Rattle.proto_props.proofs.setting.rewrite.Goals as goal

pub put_property-requires : goal.put_property-requires
put_property-requires c = record {
  body = (c.in-Some.field-0.now, ap (option_and_then body_of) c.cell.ensures.found ∙ sym c.in-Some.ensures);
  fits = c.requires.fits;
}
