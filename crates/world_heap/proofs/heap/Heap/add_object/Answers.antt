use Rattle.std.proofs.Common.{◌≡◌, sym, subst, refl, false, IsSomeAnd}
use Rattle.world_heap.specs.Heaps.{is_env}
use Rattle.world_heap.proofs.heap.Heap.add_object.Goals as goal

pub returns-clause-stands : goal.returns-clause-stands
returns-clause-stands c = subst (λ o. IsSomeAnd o (λ d. is_env d ≡ false)) (sym c.in_ok-loc.ensures.stands) refl
