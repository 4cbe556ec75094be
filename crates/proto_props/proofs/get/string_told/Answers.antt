use Rattle.std.proofs.Common.{◌∙◌, sym}
use Rattle.world_heap.specs.Maps.{keys}
use Rattle.proto_props.proofs.Turns.{place_stands}
use Rattle.proto_props.proofs.get.string_told.Goals as goal

pub search_from-requires : goal.search_from-requires
search_from-requires c = place_stands (keys c.args.heap.now.cells) 10 c.in-Some.proto (sym c.built_in.ensures ∙ c.in-Some.is)
