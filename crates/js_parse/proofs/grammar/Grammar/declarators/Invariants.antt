use Rattle.std.proofs.Common.{◌≡◌, ◌-◌}
use Rattle.js_parse.specs.Statements.{declarators, declarators_from}
use Rattle.js_parse.specs.Nesting.{part_at}
use Rattle.js_parse.proofs.grammar.Grammar.declarators.Given as goal

abbrev pub invariant-pairs : goal.invariant-pairs
invariant-pairs g l = declarators (part_at l.self.depth) l.constant l.allow_in l.fn.first l.fn.reader ≡ declarators_from (part_at l.self.depth) l.constant l.allow_in (l._turn-end - l._turn) l.found l.reader
