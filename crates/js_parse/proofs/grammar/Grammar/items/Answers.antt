use Rattle.std.proofs.Common.{rules, arith}
use Rattle.std.proofs.lemmas.Grind.{common_steps}
use Rattle.js_parse.specs.Statements.{items_from}
use Rattle.js_parse.specs.Nesting.{part_at}
use Rattle.js_parse.proofs.Turns.{one_more, no_more}
use Rattle.js_parse.proofs.grammar.Grammar.items.Goals as goal

pub returns-then-sees : goal.returns-then-sees
unfolding items_from
returns-then-sees g c =
    let e = one_more (λ n. items_from (part_at c.args.self.now.depth) c.args.close n c.items.found c.items.reader) _ c.items._turn c.items-test.true c.items.invariant in
    first_of (search rules, grind (arith, common_steps))

pub returns-in_err-item : goal.returns-in_err-item
unfolding items_from
returns-in_err-item g c =
    let e = one_more (λ n. items_from (part_at c.args.self.now.depth) c.args.close n c.items.found c.items.reader) _ c.items._turn c.items-test.true c.items.invariant in
    first_of (search rules, grind (arith, common_steps))

pub items-preserved : goal.items-preserved
unfolding items_from
items-preserved g c =
    let e = one_more (λ n. items_from (part_at c.args.self.now.depth) c.args.close n c.items.found c.items.reader) _ c.items._turn c.items-test.true c.items.invariant in
    first_of (search rules, grind (arith, common_steps))

pub returns : goal.returns
unfolding items_from
returns g c =
    let e = no_more (λ n. items_from (part_at c.args.self.now.depth) c.args.close n c.items.found c.items.reader) _ c.items._turn c.items-test.false c.items.invariant in
    first_of (search rules, grind (arith, common_steps))
