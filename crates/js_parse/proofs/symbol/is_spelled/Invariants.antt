use Rattle.std.proofs.Common.{◌≡◌, nat_eq, length}
use Rattle.std.specs.Cmp.Lexicographic.{pointwise}
use Rattle.js_parse.proofs.symbol.is_spelled.Given as goal

-- What is left of both compares as both do.
abbrev pub invariant-letters : goal.invariant-letters
invariant-letters l = pointwise nat_eq l.word l.units ≡ pointwise nat_eq l.letters l.rest

abbrev pub decreases-letters : goal.decreases-letters
decreases-letters l = length l.letters
