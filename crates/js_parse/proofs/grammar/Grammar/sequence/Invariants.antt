use Rattle.std.proofs.Common.{◌≡◌, ◌-◌}
use Rattle.js_parse.specs.Grammar.{sequence, sequence_from}
use Rattle.js_parse.specs.Nesting.{part_at}
use Rattle.js_parse.proofs.grammar.Grammar.sequence.Given as goal

abbrev pub invariant-commas : goal.invariant-commas
invariant-commas g l = sequence (part_at l.self.depth) l.allow_in l.place l.fn.first l.fn.reader ≡ sequence_from (part_at l.self.depth) l.allow_in l.place (l._turn-end - l._turn) l.left l.reader
