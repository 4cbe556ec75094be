use Rattle.std.proofs.Common.{◌≡◌, ◌-◌}
use Rattle.js_parse.specs.declared.symbol.Symbol.TheVariants as s
use Rattle.js_parse.specs.Grammar.{bind_element, bind_elements, listed_from}
use Rattle.js_parse.specs.Nesting.{part_at}
use Rattle.js_parse.proofs.grammar.Grammar.bind_elements.Given as goal

abbrev pub invariant-members : goal.invariant-members
invariant-members g l = bind_elements (part_at l.self.depth) l.fn.reader ≡ listed_from (bind_element (part_at l.self.depth)) s.CloseBracket (l._turn-end - l._turn) l.found l.reader
