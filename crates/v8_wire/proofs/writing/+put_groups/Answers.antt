use Rattle.std.proofs.Common.{◌∙◌, ap, ◌++◌, ◌-◌, ◌/◌, arith}
use Rattle.v8_wire.specs.Spelling.{groups}
use Rattle.v8_wire.proofs.Numbers.{groups-behind}
use Rattle.v8_wire.proofs.writing.+put_groups.Goals as goal

pub returns : goal.returns
returns t c =
    c.in_ok-put_groups.ensures
    ∙ ap (λ before. before ++ groups (c.args.more - 1) (c.args.number / 128)) c.in_ok-push-3.ensures.items
    ∙ groups-behind c.args.out.now.items c.args.more c.args.number c.if-more-eq0.false (omega (arith, c.if-number-lt128.false))
