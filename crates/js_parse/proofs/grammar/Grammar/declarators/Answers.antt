use Rattle.std.proofs.Common.{rules, arith}
use Rattle.std.proofs.lemmas.Grind.{common_steps}
use Rattle.js_parse.specs.Statements.{declarators_from}
use Rattle.js_parse.specs.Nesting.{part_at}
use Rattle.js_parse.proofs.Turns.{one_more, no_more}
use Rattle.js_parse.proofs.grammar.Grammar.declarators.Goals as goal

pub returns-then-not-eat : goal.returns-then-not-eat
unfolding declarators_from
returns-then-not-eat g c =
    let e = one_more (λ n. declarators_from (part_at c.args.self.now.depth) c.args.constant c.args.allow_in n c.pairs.found c.pairs.reader) _ c.pairs._turn c.pairs-test.true c.pairs.invariant in
    first_of (search rules, grind (arith, common_steps))

pub returns-in_err-item : goal.returns-in_err-item
unfolding declarators_from
returns-in_err-item g c =
    let e = one_more (λ n. declarators_from (part_at c.args.self.now.depth) c.args.constant c.args.allow_in n c.pairs.found c.pairs.reader) _ c.pairs._turn c.pairs-test.true c.pairs.invariant in
    first_of (search rules, grind (arith, common_steps))

pub pairs-preserved : goal.pairs-preserved
unfolding declarators_from
pairs-preserved g c =
    let e = one_more (λ n. declarators_from (part_at c.args.self.now.depth) c.args.constant c.args.allow_in n c.pairs.found c.pairs.reader) _ c.pairs._turn c.pairs-test.true c.pairs.invariant in
    first_of (search rules, grind (arith, common_steps))

pub returns : goal.returns
unfolding declarators_from
returns g c =
    let e = no_more (λ n. declarators_from (part_at c.args.self.now.depth) c.args.constant c.args.allow_in n c.pairs.found c.pairs.reader) _ c.pairs._turn c.pairs-test.false c.pairs.invariant in
    first_of (search rules, grind (arith, common_steps))
