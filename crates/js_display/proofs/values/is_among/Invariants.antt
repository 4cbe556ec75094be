use Rattle.std.proofs.Common.{◌≡◌, drop, nat_eq}
use Rattle.world_heap.specs.Maps.{stands}
use Rattle.js_display.proofs.values.is_among.Given as goal

abbrev pub invariant-locs : goal.invariant-locs
invariant-locs l = stands nat_eq (drop l.other-index l.locs) l.loc ≡ stands nat_eq l.locs l.loc
