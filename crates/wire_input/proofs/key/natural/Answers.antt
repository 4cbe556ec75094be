use Rattle.std.proofs.Common.{sym, ap, ◌∙◌, Some, inl, inr, arith}
use Rattle.std.proofs.lemmas.Bool.Decides.{nat_tests}
use Rattle.wl_text.proofs.Numbers.{natural_of_not_digits, natural_of_large, natural_of_digits, not_digit, at_end, at_least}
use Rattle.wire_input.proofs.key.natural.Goals.{then-digit-lt48-via-then-digit-lt48, then-digit-lt48-via-else-digit-lt48+then-digit-gt57}
use Rattle.wire_input.proofs.key.natural.Goals as goal

pub returns-then-digit-lt48-clause-value : goal.returns-then-digit-lt48-clause-value
returns-then-digit-lt48-clause-value c =
    sym (natural_of_not_digits c.args.most c.args.digits.now
    (not_digit c.args.digits.now c.loop-digit.digit-index c.loop-digit-test.true c.loop-digit.invariant.digits
    (elim c.then-digit-lt48.branch [
      | then-digit-lt48-via-then-digit-lt48 w ↦ inl w.if-digit-lt48.true
      | then-digit-lt48-via-else-digit-lt48+then-digit-gt57 w ↦ inr w.if-digit-gt57.true
    ])))

pub returns-then-most-value-clause-value : goal.returns-then-most-value-clause-value
returns-then-most-value-clause-value c =
    let least = at_least c.args.digits.now c.loop-digit.digit-index c.loop-digit.value c.loop-digit-test.true c.loop-digit.invariant.value in
    sym (natural_of_large c.args.most c.args.digits.now (omega arith))

pub returns-clause-value : goal.returns-clause-value
returns-clause-value c =
    let (value, all) = at_end c.args.digits.now c.loop-digit.digit-index c.loop-digit.value c.loop-digit-test.false
    c.loop-digit.invariant.value c.loop-digit.invariant.digits in
    sym (natural_of_digits c.args.most c.args.digits.now (grind (arith, nat_tests)) all (omega arith) ∙ ap (λ n. Some n) value)
