use Rattle.std.proofs.Common.{◌≡◌, ◌∙◌, Some, sym, subst, ap, nat_eq, length, List, ℕ}
use Rattle.world_heap.specs.declared.cell.Cell.{Cell}
use Rattle.world_heap.specs.Maps.{find, find-stands, put, without}
use Rattle.world_heap.specs.Shelf.{values_of, IsAmong}
use Rattle.world_heap.specs.Heaps.{IsCell, IsWell}
use Rattle.world_heap.specs.Views.{HeapView, IsPooled, IsOwned}
use Rattle.world_heap.specs.Bounded.{bounds_of}
use Rattle.world_heap.specs.Bodies.{with_byte, rewritten}
use Rattle.world_heap.proofs.Pooling.{pooled_well, pooled_put, owned_put, values-put, without-put, length-put}
use Rattle.world_heap.proofs.Bodying.{rewritten_is, well_rewrite}
use Rattle.world_heap.proofs.heap.Heap.write_byte.Goals as goal

pub write_byte-requires : goal.write_byte-requires
write_byte-requires c =
    let h = c.self.inside in
    let among : IsAmong h.store h.owner c.args.loc = subst (λ (v : HeapView). IsCell nat_eq v.cells c.args.loc) (sym c.self.view_is) c.requires in
    (h.owner, subst (λ n. IsAmong h.store h.owner n) (sym c.number.ensures) among)

-- the cell that is written
before : (c : goal.After-write_byte) → (cell : Cell ℕ) × (find nat_eq (values_of c.self.inside.store c.self.inside.owner) c.args.loc ≡ Some cell)
before c =
    let h = c.self.inside in
    find-stands (values_of h.store h.owner) c.args.loc (subst (λ (v : HeapView). IsCell nat_eq v.cells c.args.loc) (sym c.self.view_is) c.requires)

-- the store after the write
after : (c : goal.After-write_byte) → c.write_byte.new.self ≡ put nat_eq c.self.inside.store c.self.inside.owner (rewritten (values_of c.self.inside.store c.self.inside.owner) c.args.loc c.args.at c.args.byte)
after c =
    let h = c.self.inside in
    let own : List (ℕ × Cell ℕ) = values_of h.store h.owner in
    let was = before c in
    c.write_byte.ensures h.owner was.0 (ap (find nat_eq own) c.number.ensures ∙ was.1)
    ∙ ap (λ n. put nat_eq h.store h.owner (put nat_eq own n (with_byte was.0 c.args.at c.args.byte))) c.number.ensures
    ∙ ap (put nat_eq h.store h.owner) (sym (rewritten_is own c.args.loc was.0 c.args.at c.args.byte was.1))

pub invariant_of-self : goal.invariant_of-self
invariant_of-self c =
    let h = c.self.inside in
    let own : List (ℕ × Cell ℕ) = values_of h.store h.owner in
    let cells : List (ℕ × Cell ℕ) = rewritten own c.args.loc c.args.at c.args.byte in
    let was = before c in
    let is = rewritten_is own c.args.loc was.0 c.args.at c.args.byte was.1 in
    let well : IsWell nat_eq cells = subst (IsWell nat_eq) (sym is) (well_rewrite own c.args.loc c.args.at c.args.byte was.0 was.1 (pooled_well h.store h.owner c.self.invariant.0.wells c.self.invariant.1.stands)) in
    let counted = ap length is ∙ length-put own c.args.loc (with_byte was.0 c.args.at c.args.byte) ∙ c.self.invariant.1.counted in (
      subst (λ ms. IsPooled ms h.given) (sym (after c)) (pooled_put h.store h.given h.owner cells c.self.invariant.0 well),
      subst (λ ms. IsOwned ms h.owner h.counts h.base) (sym (after c)) (owned_put h.store h.owner cells h.counts h.base c.self.invariant.1.stands counted),
      c.self.invariant.2,
    )

pub returns : goal.returns
returns c =
    let h = c.self.inside in
    let cells : List (ℕ × Cell ℕ) = rewritten (values_of h.store h.owner) c.args.loc c.args.at c.args.byte in
    let own : values_of c.write_byte.new.self h.owner ≡ cells = ap (λ ms. values_of ms h.owner) (after c) ∙ values-put h.store h.owner cells c.self.invariant.1.stands in
    let others : without nat_eq c.write_byte.new.self h.owner ≡ without nat_eq h.store h.owner = ap (λ ms. without nat_eq ms h.owner) (after c) ∙ without-put h.store h.owner cells in
    subst (λ (v : HeapView). record { owner = h.owner; cells = values_of c.write_byte.new.self h.owner; others = without nat_eq c.write_byte.new.self h.owner; counts = h.counts; limits = bounds_of h.limits; base = h.base; given = h.given } ≡ record v { cells = rewritten v.cells c.args.loc c.args.at c.args.byte }) c.self.view_is
    (λ i. record { owner = h.owner; cells = own i; others = others i; counts = h.counts; limits = bounds_of h.limits; base = h.base; given = h.given })
