use Rattle.std.proofs.Common.{rules, arith, ◌≡◌, ◌-◌, suc}
use Rattle.std.proofs.lemmas.Grind.{common_steps}
use Rattle.js_parse.specs.Grammar.{chain, chain_from, operand, operations, below}
use Rattle.js_parse.specs.Nesting.{part_at}
use Rattle.js_parse.proofs.Turns.{one_more, no_more, deeper, below_less}
use Rattle.js_parse.proofs.grammar.Grammar.+operators.Goals as goal

pub chain-operators-init : goal.chain-operators-init
unfolding chain
chain-operators-init g t c = first_of (search rules, grind (arith, common_steps))

pub chain-returns-in-None : goal.chain-returns-in-None
unfolding chain_from
chain-returns-in-None g t c =
    let e = one_more (λ n. chain_from (operand (part_at c.args.self.now.depth) c.args.allow_in (below c.args.level)) c.args.level c.args.allow_in c.args.place n c.operators.left c.operators.reader) _ c.operators._turn c.operators-test.true c.operators.invariant in
    first_of (search rules, grind (arith, common_steps))

pub chain-returns-in_err-right-in-Some : goal.chain-returns-in_err-right-in-Some
unfolding chain_from
chain-returns-in_err-right-in-Some g t c =
    let e = one_more (λ n. chain_from (operand (part_at c.args.self.now.depth) c.args.allow_in (below c.args.level)) c.args.level c.args.allow_in c.args.place n c.operators.left c.operators.reader) _ c.operators._turn c.operators-test.true c.operators.invariant in
    first_of (search rules, grind (arith, common_steps))

pub chain-returns-in_err-left-in-Some : goal.chain-returns-in_err-left-in-Some
unfolding chain_from
chain-returns-in_err-left-in-Some g t c =
    let e = one_more (λ n. chain_from (operand (part_at c.args.self.now.depth) c.args.allow_in (below c.args.level)) c.args.level c.args.allow_in c.args.place n c.operators.left c.operators.reader) _ c.operators._turn c.operators-test.true c.operators.invariant in
    first_of (search rules, grind (arith, common_steps))

pub chain-operators-preserved : goal.chain-operators-preserved
unfolding chain_from
chain-operators-preserved g t c =
    let e = one_more (λ n. chain_from (operand (part_at c.args.self.now.depth) c.args.allow_in (below c.args.level)) c.args.level c.args.allow_in c.args.place n c.operators.left c.operators.reader) _ c.operators._turn c.operators-test.true c.operators.invariant in
    first_of (search rules, grind (arith, common_steps))

pub chain-returns : goal.chain-returns
unfolding chain_from
chain-returns g t c =
    let e = no_more (λ n. chain_from (operand (part_at c.args.self.now.depth) c.args.allow_in (below c.args.level)) c.args.level c.args.allow_in c.args.place n c.operators.left c.operators.reader) _ c.operators._turn c.operators-test.false c.operators.invariant in
    first_of (search rules, grind (arith, common_steps))

pub operand-returns-in_err-first : goal.operand-returns-in_err-first
unfolding operand
operand-returns-in_err-first g t c = first_of (search rules, grind (arith, common_steps))

pub operand-returns : goal.operand-returns
unfolding operand
operand-returns g t c = first_of (search rules, grind (arith, common_steps))

pub operations-returns-then-level-eq0 : goal.operations-returns-then-level-eq0
unfolding operations
operations-returns-then-level-eq0 g t c = let none : c.args.level ≡ 0 = omega arith in first_of (search rules, grind (arith, common_steps))

pub operations-returns-in_err-left : goal.operations-returns-in_err-left
unfolding operations
operations-returns-in_err-left g t c =
    let e = deeper (λ n. operations (part_at c.args.self.now.depth) c.args.allow_in n c.args.place c.args.first c.args.reader.now) c.args.level (omega arith) in
    first_of (search rules, grind (arith, common_steps))

pub operations-returns : goal.operations-returns
unfolding operations operand
operations-returns g t c =
    let e = deeper (λ n. operations (part_at c.args.self.now.depth) c.args.allow_in n c.args.place c.args.first c.args.reader.now) c.args.level (omega arith) in
    let b : below c.args.level ≡ c.args.level - 1 = below_less c.args.level c.requires.level in
    let l : suc (c.args.level - 1) ≡ c.args.level = omega arith in
    first_of (search rules, grind (arith, common_steps))
