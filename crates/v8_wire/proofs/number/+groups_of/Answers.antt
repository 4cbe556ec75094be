use Rattle.std.proofs.Common.{◌-◌, arith}
use Rattle.v8_wire.proofs.Numbers.{bound-step, bound-least, bound-small}
use Rattle.v8_wire.proofs.number.+groups_of.Goals as goal

pub returns-then-byte-lt128-clause-small : goal.returns-then-byte-lt128-clause-small
returns-then-byte-lt128-clause-small t c =
    omega (arith, bound-step c.args.more c.if-more-eq0.false, bound-least (c.args.more - 1), c.from-then-byte-lt128.ensures, c.if-byte-lt128.true)

pub overflow_mul-result : goal.overflow_mul-result
overflow_mul-result t c =
    omega (arith, c.in_ok-high.ensures.small, bound-small (c.args.more - 1) (omega (arith, c.requires)))

pub overflow_add-result : goal.overflow_add-result
overflow_add-result t c =
    omega (arith, c.in_ok-high.ensures.small, c.in_ok-high.ensures, c.from-2.ensures, c.type_inv.bytes 0, bound-small (c.args.more - 1) (omega (arith, c.requires)))
