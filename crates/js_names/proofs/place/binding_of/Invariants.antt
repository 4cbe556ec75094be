use Rattle.std.proofs.Common.{◌≡◌, ℕ, length}
use Rattle.js_semantics.specs.World.{World, over}
use Rattle.js_semantics.specs.Environments.{binding_within}
use Rattle.js_names.proofs.place.binding_of.Given as goal

abbrev pub invariant-environments : goal.invariant-environments
invariant-environments l = (w : World ℕ) → binding_within l.left l.at l.name (over l.heap w) ≡ binding_within (length l.heap.cells) l.initial.at l.name (over l.heap w)

abbrev pub decreases-environments : goal.decreases-environments
decreases-environments l = l.left
