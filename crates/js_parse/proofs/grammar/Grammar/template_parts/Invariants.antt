use Rattle.std.proofs.Common.{◌≡◌, ◌-◌}
use Rattle.js_parse.specs.Grammar.{template_from, template_parts}
use Rattle.js_parse.specs.Nesting.{part_at}
use Rattle.js_parse.proofs.grammar.Grammar.template_parts.Given as goal

abbrev pub invariant-parts : goal.invariant-parts
invariant-parts g l = template_parts (part_at l.self.depth) l.fn.first l.fn.reader ≡ template_from (part_at l.self.depth) (l._turn-end - l._turn) l.texts l.parts l.reader
