use Rattle.std.proofs.Common.{rules, arith}
use Rattle.std.proofs.lemmas.Grind.{common_steps}
use Rattle.js_parse.specs.declared.symbol.Symbol.TheVariants as s
use Rattle.js_parse.specs.Grammar.{bind_element, listed_from}
use Rattle.js_parse.specs.Nesting.{part_at}
use Rattle.js_parse.proofs.Turns.{one_more, no_more}
use Rattle.js_parse.proofs.grammar.Grammar.bind_elements.Goals as goal

pub returns-then-eat : goal.returns-then-eat
unfolding listed_from
returns-then-eat g c =
    let e = one_more (λ n. listed_from (bind_element (part_at c.args.self.now.depth)) s.CloseBracket n c.members.found c.members.reader) _ c.members._turn c.members-test.true c.members.invariant in
    first_of (search rules, grind (arith, common_steps))

pub returns-in_err-item : goal.returns-in_err-item
unfolding listed_from
returns-in_err-item g c =
    let e = one_more (λ n. listed_from (bind_element (part_at c.args.self.now.depth)) s.CloseBracket n c.members.found c.members.reader) _ c.members._turn c.members-test.true c.members.invariant in
    first_of (search rules, grind (arith, common_steps))

pub returns-in_err-comma_or : goal.returns-in_err-comma_or
unfolding listed_from
returns-in_err-comma_or g c =
    let e = one_more (λ n. listed_from (bind_element (part_at c.args.self.now.depth)) s.CloseBracket n c.members.found c.members.reader) _ c.members._turn c.members-test.true c.members.invariant in
    first_of (search rules, grind (arith, common_steps))

pub returns-then-not-branch : goal.returns-then-not-branch
unfolding listed_from
returns-then-not-branch g c =
    let e = one_more (λ n. listed_from (bind_element (part_at c.args.self.now.depth)) s.CloseBracket n c.members.found c.members.reader) _ c.members._turn c.members-test.true c.members.invariant in
    first_of (search rules, grind (arith, common_steps))

pub members-preserved : goal.members-preserved
unfolding listed_from
members-preserved g c =
    let e = one_more (λ n. listed_from (bind_element (part_at c.args.self.now.depth)) s.CloseBracket n c.members.found c.members.reader) _ c.members._turn c.members-test.true c.members.invariant in
    first_of (search rules, grind (arith, common_steps))

pub returns : goal.returns
unfolding listed_from
returns g c =
    let e = no_more (λ n. listed_from (bind_element (part_at c.args.self.now.depth)) s.CloseBracket n c.members.found c.members.reader) _ c.members._turn c.members-test.false c.members.invariant in
    first_of (search rules, grind (arith, common_steps))
