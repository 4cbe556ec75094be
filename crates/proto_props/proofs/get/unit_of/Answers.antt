use Rattle.std.proofs.Common.{◌∙◌, sym, arith}
use Rattle.proto_props.proofs.Turns.{unit_at}
use Rattle.proto_props.proofs.get.unit_of.Goals as goal

pub returns-in_ok-part-in-Some : goal.returns-in_ok-part-in-Some
returns-in_ok-part-in-Some c =
    unit_at c.args.text.now c.args.key.now c.in-Some.index c.in_ok-part-in-Some.field-0 (sym c.index_of.ensures.value ∙ c.in-Some.is) (omega (arith, c.if-index-len.false, c.len.ensures.value)) c.in_ok-part-in-Some.ensures
