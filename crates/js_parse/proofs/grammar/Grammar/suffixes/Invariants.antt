use Rattle.std.proofs.Common.{◌≡◌, ◌-◌}
use Rattle.js_parse.specs.Grammar.{suffixes, suffixes_from}
use Rattle.js_parse.specs.Nesting.{part_at}
use Rattle.js_parse.proofs.grammar.Grammar.suffixes.Given as goal

abbrev pub invariant-suffixes : goal.invariant-suffixes
invariant-suffixes g l = suffixes (part_at l.self.depth) l.calls l.place l.fn.first l.fn.reader ≡ suffixes_from (part_at l.self.depth) l.calls l.place (l._turn-end - l._turn) l.left l.reader
