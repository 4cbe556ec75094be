use Rattle.std.proofs.Common.{◌∙◌, sym, ap, subst}
use Rattle.world_heap.specs.Maps.{keys, Stands, keys-put, find-stands}
use Rattle.world_heap.specs.Bodies.{with_byte}
use Rattle.world_heap.specs.Views.{HeapView}
use Rattle.world_heap.proofs.Bodying.{rewritten_is}
use Rattle.world_heap.proofs.tests.write.Goals as goal

pub returns : goal.returns
returns c =
    let cells = c.args.heap.now.cells in
    let found = find-stands cells c.args.loc c.requires in
    let same = ap (λ (v : HeapView). keys v.cells) c.write_byte.ensures ∙ ap keys (rewritten_is cells c.args.loc found.0 c.args.at c.args.byte found.1) ∙ keys-put cells c.args.loc (with_byte found.0 c.args.at c.args.byte) in
    subst (λ ks. Stands ks c.args.loc) (sym same) c.requires
