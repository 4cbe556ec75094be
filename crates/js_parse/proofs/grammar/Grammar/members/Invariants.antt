use Rattle.std.proofs.Common.{◌≡◌, ◌-◌}
use Rattle.js_parse.specs.declared.symbol.Symbol.TheVariants as s
use Rattle.js_parse.specs.Grammar.{listed_from, member, members}
use Rattle.js_parse.specs.Nesting.{part_at}
use Rattle.js_parse.proofs.grammar.Grammar.members.Given as goal

abbrev pub invariant-members : goal.invariant-members
invariant-members g l = members (part_at l.self.depth) l.fn.reader ≡ listed_from (member (part_at l.self.depth)) s.CloseBrace (l._turn-end - l._turn) l.found l.reader
