use Rattle.std.proofs.Common.{◌≡◌, ◌-◌}
use Rattle.js_parse.specs.Grammar.{parameter_list, parameters_from}
use Rattle.js_parse.specs.Nesting.{part_at}
use Rattle.js_parse.proofs.grammar.Grammar.parameter_list.Given as goal

abbrev pub invariant-members : goal.invariant-members
invariant-members g l = parameter_list (part_at l.self.depth) l.fn.reader ≡ parameters_from (part_at l.self.depth) (l._turn-end - l._turn) l.list l.reader
