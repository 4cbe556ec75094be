use Rattle.std.proofs.Common.{◌≡◌, take}
use Rattle.js_tree.proofs.copies.copy_properties.Given as goal

abbrev pub invariant-parts : goal.invariant-parts
invariant-parts l = l.copies ≡ take l.part-index l.part-items
