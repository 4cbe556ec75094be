use Rattle.std.proofs.Common.{◌≡◌, ◌-◌}
use Rattle.js_parse.specs.Statements.{items, items_from}
use Rattle.js_parse.specs.Nesting.{part_at}
use Rattle.js_parse.proofs.grammar.Grammar.items.Given as goal

abbrev pub invariant-items : goal.invariant-items
invariant-items g l = items (part_at l.self.depth) l.close l.fn.reader ≡ items_from (part_at l.self.depth) l.close (l._turn-end - l._turn) l.found l.reader
