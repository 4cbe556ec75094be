use Rattle.std.proofs.Common.{length, arith, ap, ◌∙◌}
use Rattle.v8_wire.proofs.Texts.{length-pairs}
use Rattle.v8_wire.proofs.text.wide_of.Goals as goal

pub text_of-requires : goal.text_of-requires
text_of-requires c =
    omega (arith, length-pairs c.in_ok-wide.wide.now, ap length (c.deref.ensures.value ∙ c.in_ok-units.ensures), c.in_ok-wide.ensures.count, c.if-count-gt1048576.false)
