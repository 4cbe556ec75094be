use Rattle.std.proofs.Common.{◌≡◌, ℕ, length}
use Rattle.js_semantics.specs.World.{World, over}
use Rattle.js_semantics.specs.Expressions.{is_above}
use Rattle.js_step_access.proofs.inheritance.is_above.Given as goal

abbrev pub invariant-objects : goal.invariant-objects
invariant-objects l = record {
  goes_on : (w : World ℕ) → is_above l.left l.target l.at (over l.heap w) ≡ is_above (length l.heap.cells) l.target l.initial.at (over l.heap w);
}

abbrev pub decreases-objects : goal.decreases-objects
decreases-objects l = l.left
