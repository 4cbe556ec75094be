use Rattle.world_heap.specs.Views.{IsPooled}
use Rattle.std.proofs.Common.{sym, subst}
use Rattle.world_heap.proofs.Pooling.{pooled_without}
use Rattle.world_heap.proofs.heap.Heap.end.Goals as goal

pub invariant_of-result : goal.invariant_of-result
invariant_of-result c =
    let h = c.self.inside in
    subst (λ ms. IsPooled ms h.given) (sym c.close.ensures) (pooled_without h.store h.given h.owner c.self.invariant.0)
