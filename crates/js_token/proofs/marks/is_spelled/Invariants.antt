use Rattle.std.proofs.Common.{◌≡◌, nat_eq, length}
use Rattle.std.specs.Cmp.Lexicographic.{pointwise}
use Rattle.js_token.specs.Characters.{symbols}
use Rattle.js_token.proofs.marks.is_spelled.Given as goal

-- What is left of both compares as both do.
abbrev pub invariant-letters : goal.invariant-letters
invariant-letters l = pointwise nat_eq (symbols l.chars) l.mark ≡ pointwise nat_eq (symbols l.rest) l.letters

abbrev pub decreases-letters : goal.decreases-letters
decreases-letters l = length l.rest
