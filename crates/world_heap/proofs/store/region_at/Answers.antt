use Rattle.std.proofs.Common.{sym, ◌∙◌}
use Rattle.world_heap.proofs.Regions.{at_position, at_found}
use Rattle.world_heap.proofs.store.region_at.Goals as goal

pub unreachable-requires : goal.unreachable-requires
unreachable-requires c = at_found c.args.regions.now c.args.owner c.requires (sym c.region_place.ensures ∙ c.in-None.is)

pub returns : goal.returns
returns c = at_position c.args.regions.now c.args.owner c.in-Some.at (sym c.region_place.ensures ∙ c.in-Some.is)
