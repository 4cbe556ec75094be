use Rattle.std.proofs.Common.{◌≡◌, ◌≤◌, ℕ, true, length, drop}
use Rattle.js_semantics.specs.World.{World, over}
use Rattle.js_display.proofs.Arguments.{arguments_left}
use Rattle.js_display.proofs.shown.show_all.Given as goal

-- The line with what is left behind it is what the line with all arguments is.
abbrev pub invariant-arguments : goal.invariant-arguments
invariant-arguments l = (w : World ℕ) → (length l.line.text ≤ l.line.limit) × (l.line.limit ≡ l.fn.line.limit)
    × (arguments_left (over l.heap w) l.first (drop l.argument-index l.arguments) l.line ≡ arguments_left (over l.heap w) true l.arguments l.fn.line)
