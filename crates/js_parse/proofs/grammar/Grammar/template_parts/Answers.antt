use Rattle.std.proofs.Common.{rules, arith}
use Rattle.std.proofs.lemmas.Grind.{common_steps}
use Rattle.js_parse.specs.Grammar.{template_from}
use Rattle.js_parse.specs.Nesting.{part_at}
use Rattle.js_parse.proofs.Turns.{one_more, no_more}
use Rattle.js_parse.proofs.grammar.Grammar.template_parts.Goals as goal

pub returns-in_err-value : goal.returns-in_err-value
unfolding template_from
returns-in_err-value g c =
    let e = one_more (λ n. template_from (part_at c.args.self.now.depth) n c.parts.texts c.parts.parts c.parts.reader) _ c.parts._turn c.parts-test.true c.parts.invariant in
    first_of (search rules, grind (arith, common_steps))

pub returns-then-sees : goal.returns-then-sees
unfolding template_from
returns-then-sees g c =
    let e = one_more (λ n. template_from (part_at c.args.self.now.depth) n c.parts.texts c.parts.parts c.parts.reader) _ c.parts._turn c.parts-test.true c.parts.invariant in
    first_of (search rules, grind (arith, common_steps))

pub returns-then-not-sees : goal.returns-then-not-sees
unfolding template_from
returns-then-not-sees g c =
    let e = one_more (λ n. template_from (part_at c.args.self.now.depth) n c.parts.texts c.parts.parts c.parts.reader) _ c.parts._turn c.parts-test.true c.parts.invariant in
    first_of (search rules, grind (arith, common_steps))

pub parts-preserved : goal.parts-preserved
unfolding template_from
parts-preserved g c =
    let e = one_more (λ n. template_from (part_at c.args.self.now.depth) n c.parts.texts c.parts.parts c.parts.reader) _ c.parts._turn c.parts-test.true c.parts.invariant in
    first_of (search rules, grind (arith, common_steps))

pub returns : goal.returns
unfolding template_from
returns g c =
    let e = no_more (λ n. template_from (part_at c.args.self.now.depth) n c.parts.texts c.parts.parts c.parts.reader) _ c.parts._turn c.parts-test.false c.parts.invariant in
    first_of (search rules, grind (arith, common_steps))
