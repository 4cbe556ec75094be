use Rattle.std.proofs.Common.{◌∙◌, ◌<◌, ◌+◌, length, sym, arith}
use Rattle.std.proofs.lemmas.Grind.{common_steps}
use Rattle.js_operators.proofs.Parts.{one_more, made_too_long}
use Rattle.js_operators.proofs.texts.made_text.Goals as goal

pub returns-then-len-gt-LIMIT : goal.returns-then-len-gt-LIMIT
returns-then-len-gt-LIMIT c =
    let over : 1_048_576 < length c.loop-part.list.items + length c.part-item.result = grind (arith, common_steps) in
    sym (made_too_long c.args.parts.now c.loop-part.part-index c.part-item.result c.loop-part.list.items c.loop-part-test.true c.part-item.is c.loop-part.invariant over)

pub loop-part-preserved : goal.loop-part-preserved
loop-part-preserved c =
    let more = one_more c.args.parts.now c.loop-part.part-index c.part-item.result c.loop-part-test.true c.part-item.is in
    c.in_ok-extend_from_slice.ensures.items ∙ rw (c.as_slice.ensures.value, c.loop-part.invariant) more
