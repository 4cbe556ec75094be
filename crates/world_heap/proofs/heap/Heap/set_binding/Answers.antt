use Rattle.std.proofs.Common.{◌≡◌, ◌∙◌, Some, sym, subst, ap, nat_eq, length, List, ℕ}
use Rattle.world_heap.specs.declared.cell.Cell.{Cell}
use Rattle.world_heap.specs.Maps.{find, find-stands, put, without}
use Rattle.world_heap.specs.Shelf.{values_of, IsAmong}
use Rattle.world_heap.specs.Over.{OptionOver, ValueOver}
use Rattle.world_heap.specs.Heaps.{IsNoEnv, IsCell, IsWell}
use Rattle.world_heap.specs.Views.{HeapView, IsPooled, IsOwned}
use Rattle.world_heap.specs.Bounded.{bounds_of}
use Rattle.world_heap.specs.Bodies.{with_binding, bound_at}
use Rattle.world_heap.proofs.Pooling.{pooled_well, pooled_put, owned_put, values-put, without-put, length-put}
use Rattle.world_heap.proofs.Bodying.{bound_is, well_bind}
use Rattle.world_heap.proofs.heap.Heap.set_binding.Goals as goal

pub set_binding-requires : goal.set_binding-requires
set_binding-requires c =
    let h = c.self.inside in
    let among : IsAmong h.store h.owner c.args.env = subst (λ (v : HeapView). IsCell nat_eq v.cells c.args.env) (sym c.self.view_is) c.requires.stands in
    (h.owner, subst (λ n. IsAmong h.store h.owner n) (sym c.number.ensures) among)

-- the cell that is written
before : (c : goal.After-set_binding) → (cell : Cell ℕ) × (find nat_eq (values_of c.self.inside.store c.self.inside.owner) c.args.env ≡ Some cell)
before c =
    let h = c.self.inside in
    find-stands (values_of h.store h.owner) c.args.env (subst (λ (v : HeapView). IsCell nat_eq v.cells c.args.env) (sym c.self.view_is) c.requires.stands)

-- the store after the write
after : (c : goal.After-set_binding) → c.set_binding.new.self ≡ put nat_eq c.self.inside.store c.self.inside.owner (bound_at (values_of c.self.inside.store c.self.inside.owner) c.args.env c.args.place c.args.binding)
after c =
    let h = c.self.inside in
    let own : List (ℕ × Cell ℕ) = values_of h.store h.owner in
    let was = before c in
    c.set_binding.ensures h.owner was.0 (ap (find nat_eq own) c.number.ensures ∙ was.1)
    ∙ ap (λ n. put nat_eq h.store h.owner (put nat_eq own n (with_binding was.0 c.args.place c.args.binding))) c.number.ensures
    ∙ ap (put nat_eq h.store h.owner) (sym (bound_is own c.args.env was.0 c.args.place c.args.binding was.1))

pub invariant_of-self : goal.invariant_of-self
invariant_of-self c =
    let h = c.self.inside in
    let own : List (ℕ × Cell ℕ) = values_of h.store h.owner in
    let cells : List (ℕ × Cell ℕ) = bound_at own c.args.env c.args.place c.args.binding in
    let was = before c in
    let is = bound_is own c.args.env was.0 c.args.place c.args.binding was.1 in
    let fit = subst (λ (v : HeapView). OptionOver (ValueOver (IsNoEnv nat_eq v.cells)) c.args.binding.value) (sym c.self.view_is) c.requires.fits in
    let well : IsWell nat_eq cells = subst (IsWell nat_eq) (sym is) (well_bind own c.args.env c.args.place c.args.binding was.0 was.1 fit (pooled_well h.store h.owner c.self.invariant.0.wells c.self.invariant.1.stands)) in
    let counted = ap length is ∙ length-put own c.args.env (with_binding was.0 c.args.place c.args.binding) ∙ c.self.invariant.1.counted in (
      subst (λ ms. IsPooled ms h.given) (sym (after c)) (pooled_put h.store h.given h.owner cells c.self.invariant.0 well),
      subst (λ ms. IsOwned ms h.owner h.counts h.base) (sym (after c)) (owned_put h.store h.owner cells h.counts h.base c.self.invariant.1.stands counted),
      c.self.invariant.2,
    )

pub returns : goal.returns
returns c =
    let h = c.self.inside in
    let cells : List (ℕ × Cell ℕ) = bound_at (values_of h.store h.owner) c.args.env c.args.place c.args.binding in
    let own : values_of c.set_binding.new.self h.owner ≡ cells = ap (λ ms. values_of ms h.owner) (after c) ∙ values-put h.store h.owner cells c.self.invariant.1.stands in
    let others : without nat_eq c.set_binding.new.self h.owner ≡ without nat_eq h.store h.owner = ap (λ ms. without nat_eq ms h.owner) (after c) ∙ without-put h.store h.owner cells in
    subst (λ (v : HeapView). record { owner = h.owner; cells = values_of c.set_binding.new.self h.owner; others = without nat_eq c.set_binding.new.self h.owner; counts = h.counts; limits = bounds_of h.limits; base = h.base; given = h.given } ≡ record v { cells = bound_at v.cells c.args.env c.args.place c.args.binding }) c.self.view_is
    (λ i. record { owner = h.owner; cells = own i; others = others i; counts = h.counts; limits = bounds_of h.limits; base = h.base; given = h.given })
