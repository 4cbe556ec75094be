use Rattle.std.proofs.Common.{rules, arith}
use Rattle.std.proofs.lemmas.Grind.{common_steps}
use Rattle.js_parse.specs.Grammar.{suffixes_from}
use Rattle.js_parse.specs.Nesting.{part_at}
use Rattle.js_parse.proofs.Turns.{one_more, no_more}
use Rattle.js_parse.proofs.grammar.Grammar.suffixes.Goals as goal

pub returns-in_err-suffix : goal.returns-in_err-suffix
unfolding suffixes_from
returns-in_err-suffix g c =
    let e = one_more (λ n. suffixes_from (part_at c.args.self.now.depth) c.args.calls c.args.place n c.suffixes.left c.suffixes.reader) _ c.suffixes._turn c.suffixes-test.true c.suffixes.invariant in
    first_of (search rules, grind (arith, common_steps))

pub returns-in-None : goal.returns-in-None
unfolding suffixes_from
returns-in-None g c =
    let e = one_more (λ n. suffixes_from (part_at c.args.self.now.depth) c.args.calls c.args.place n c.suffixes.left c.suffixes.reader) _ c.suffixes._turn c.suffixes-test.true c.suffixes.invariant in
    first_of (search rules, grind (arith, common_steps))

pub suffixes-preserved : goal.suffixes-preserved
unfolding suffixes_from
suffixes-preserved g c =
    let e = one_more (λ n. suffixes_from (part_at c.args.self.now.depth) c.args.calls c.args.place n c.suffixes.left c.suffixes.reader) _ c.suffixes._turn c.suffixes-test.true c.suffixes.invariant in
    first_of (search rules, grind (arith, common_steps))

pub returns : goal.returns
unfolding suffixes_from
returns g c =
    let e = no_more (λ n. suffixes_from (part_at c.args.self.now.depth) c.args.calls c.args.place n c.suffixes.left c.suffixes.reader) _ c.suffixes._turn c.suffixes-test.false c.suffixes.invariant in
    first_of (search rules, grind (arith, common_steps))
