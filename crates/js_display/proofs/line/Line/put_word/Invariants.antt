use Rattle.std.proofs.Common.{◌≡◌, drop}
use Rattle.js_display.specs.Line.{more}
use Rattle.js_display.proofs.line.Line.put_word.Given as goal

-- The line with the rest of the letters behind it is what the line with all of them was.
abbrev pub invariant-letters : goal.invariant-letters
invariant-letters l = more (drop l.letter-index l.letter-items) l.self ≡ more l.letter-items l.initial.self
