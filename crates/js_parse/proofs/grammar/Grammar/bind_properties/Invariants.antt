use Rattle.std.proofs.Common.{◌≡◌, ◌-◌}
use Rattle.js_parse.specs.declared.symbol.Symbol.TheVariants as s
use Rattle.js_parse.specs.Grammar.{bind_properties, bind_property, listed_from}
use Rattle.js_parse.specs.Nesting.{part_at}
use Rattle.js_parse.proofs.grammar.Grammar.bind_properties.Given as goal

abbrev pub invariant-members : goal.invariant-members
invariant-members g l = bind_properties (part_at l.self.depth) l.fn.reader ≡ listed_from (bind_property (part_at l.self.depth)) s.CloseBrace (l._turn-end - l._turn) l.found l.reader
