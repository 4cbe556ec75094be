use Rattle.std.proofs.Common.{◌≡◌, ◌-◌}
use Rattle.js_parse.specs.Grammar.{element, elements, listed_from}
use Rattle.js_parse.specs.Nesting.{part_at}
use Rattle.js_parse.proofs.grammar.Grammar.elements.Given as goal

abbrev pub invariant-members : goal.invariant-members
invariant-members g l = elements (part_at l.self.depth) l.close l.fn.reader ≡ listed_from (element (part_at l.self.depth)) l.close (l._turn-end - l._turn) l.found l.reader
