use Rattle.std.proofs.Common.{◌≡◌, arith, refl, ◌+◌, ◌*◌, min}
use Rattle.js_token.proofs.Values.{digits-turn}
use Rattle.js_token.proofs.numbers.digits.Goals as goal

pub digits-init : goal.digits-init
digits-init c = (omega arith, c.args.value, omega (arith, c.requires.small), refl)

pub digits-preserved : goal.digits-preserved
digits-preserved c =
    let i = c.digits.invariant in
    let digit = c.in-Some-to_digit.ensures.value in
    let sum : c.min-sum.result ≡ min 9_007_199_254_740_992 (c.digits.sum * c.args.base + c.in-Some-to_digit.digit) = rw (← c.from.ensures, ← c.from-in-Some.ensures) c.min-sum.ensures in
    let next = digits-turn c.args.base c.digits.sum i.1 _ _ c.in-Some.first.now _ _ _ (omega (arith, c.requires.low)) c.in-Some.ensures.cases.0 digit.0 digit.1 i.2 sum i.3 in
    (omega (arith, i.0, c.in-Some.ensures.cases.1), next.0, next.1, next.2)
