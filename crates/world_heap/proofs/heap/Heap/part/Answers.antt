use Rattle.std.proofs.Common.{◌≡◌, Some, ◌+◌, subst, nat_eq, refl, length}
use Rattle.world_heap.specs.Maps.{find, without}
use Rattle.world_heap.specs.Views.{HeapView}
use Rattle.world_heap.proofs.Pooling.{find_values, length-without}
use Rattle.world_heap.proofs.heap.Heap.part.Goals as goal

pub returns-clause-own : goal.returns-clause-own
returns-clause-own c =
    subst (λ (v : HeapView). find nat_eq c.self.inside.store v.owner ≡ Some v.cells) c.self.view_is (find_values c.self.inside.store c.self.inside.owner c.self.invariant.1.stands)

pub returns-clause-others : goal.returns-clause-others
returns-clause-others c =
    subst (λ (v : HeapView). without nat_eq c.self.inside.store v.owner ≡ v.others) c.self.view_is refl

pub returns-clause-count : goal.returns-clause-count
returns-clause-count c =
    subst (λ (v : HeapView). length c.self.inside.store ≡ length v.others + 1) c.self.view_is (length-without c.self.inside.store c.self.inside.owner c.self.invariant.1.stands)
