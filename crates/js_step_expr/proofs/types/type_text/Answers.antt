use Rattle.std.proofs.Common.{[], None, false, nat_eq}
use Rattle.world_kind.specs.declared.WorldKind.TheVariants.{Main}
use Rattle.js_semantics.specs.World.{World, over}
use Rattle.js_step_expr.proofs.Words.{word_short}
use Rattle.js_step_expr.proofs.types.type_text.Goals as goal

pub short_text-requires : goal.short_text-requires
short_text-requires c =
    let w : World _ = record { heap = []; depth = 0; units = 0; limits = c.args.heap.now.limits; kind = Main; tree = []; loaded = false; supply = λ n. None; same = nat_eq } in
    rw (c.type_word-word.ensures w) (word_short c.args.value.now (over c.args.heap.now w))
