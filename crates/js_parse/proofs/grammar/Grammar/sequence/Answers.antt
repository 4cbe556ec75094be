use Rattle.std.proofs.Common.{rules, arith}
use Rattle.std.proofs.lemmas.Grind.{common_steps}
use Rattle.js_parse.specs.Grammar.{sequence_from}
use Rattle.js_parse.specs.Nesting.{part_at}
use Rattle.js_parse.proofs.Turns.{one_more, no_more}
use Rattle.js_parse.proofs.grammar.Grammar.sequence.Goals as goal

pub returns-then-not-eat : goal.returns-then-not-eat
unfolding sequence_from
returns-then-not-eat g c =
    let e = one_more (λ n. sequence_from (part_at c.args.self.now.depth) c.args.allow_in c.args.place n c.commas.left c.commas.reader) _ c.commas._turn c.commas-test.true c.commas.invariant in
    first_of (search rules, grind (arith, common_steps))

pub returns-in_err-second : goal.returns-in_err-second
unfolding sequence_from
returns-in_err-second g c =
    let e = one_more (λ n. sequence_from (part_at c.args.self.now.depth) c.args.allow_in c.args.place n c.commas.left c.commas.reader) _ c.commas._turn c.commas-test.true c.commas.invariant in
    first_of (search rules, grind (arith, common_steps))

pub returns-in_err-left : goal.returns-in_err-left
unfolding sequence_from
returns-in_err-left g c =
    let e = one_more (λ n. sequence_from (part_at c.args.self.now.depth) c.args.allow_in c.args.place n c.commas.left c.commas.reader) _ c.commas._turn c.commas-test.true c.commas.invariant in
    first_of (search rules, grind (arith, common_steps))

pub commas-preserved : goal.commas-preserved
unfolding sequence_from
commas-preserved g c =
    let e = one_more (λ n. sequence_from (part_at c.args.self.now.depth) c.args.allow_in c.args.place n c.commas.left c.commas.reader) _ c.commas._turn c.commas-test.true c.commas.invariant in
    first_of (search rules, grind (arith, common_steps))

pub returns : goal.returns
unfolding sequence_from
returns g c =
    let e = no_more (λ n. sequence_from (part_at c.args.self.now.depth) c.args.allow_in c.args.place n c.commas.left c.commas.reader) _ c.commas._turn c.commas-test.false c.commas.invariant in
    first_of (search rules, grind (arith, common_steps))
