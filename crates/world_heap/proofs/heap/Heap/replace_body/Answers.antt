use Rattle.std.proofs.Common.{◌≡◌, ◌∙◌, Some, None, sym, subst, ap, nat_eq, length, List, ℕ}
use Rattle.std.specs.Option.{option_and_then}
use Rattle.world_heap.specs.declared.cell.Cell.{Cell}
use Rattle.world_heap.specs.Maps.{find, put, without}
use Rattle.world_heap.specs.Shelf.{values_of, IsAmong}
use Rattle.world_heap.specs.Heaps.{IsWell}
use Rattle.world_heap.specs.Views.{HeapView, IsPooled, IsOwned}
use Rattle.world_heap.specs.Bounded.{bounds_of}
use Rattle.world_heap.specs.Bodies.{body_of, with_body, HasBody, rebodied}
use Rattle.world_heap.proofs.Wells.{found_stands}
use Rattle.world_heap.proofs.Pooling.{pooled_well, pooled_put, owned_put, values-put, without-put, length-put}
use Rattle.world_heap.proofs.Bodying.{has_cell, rebodied_is}
use Rattle.world_heap.proofs.heap.Heap.replace_body.Goals as goal

pub replace_body-requires : goal.replace_body-requires
replace_body-requires c =
    let h = c.self.inside in
    let b : HasBody (values_of h.store h.owner) c.args.loc = subst (λ (v : HeapView). HasBody v.cells c.args.loc) (sym c.self.view_is) c.requires.stands in
    let found = has_cell (values_of h.store h.owner) c.args.loc b.0 b.1 in
    (h.owner, subst (λ n. IsAmong h.store h.owner n) (sym c.number.ensures) (found_stands (values_of h.store h.owner) c.args.loc found.0 found.1))

pub unreachable-requires : goal.unreachable-requires
unreachable-requires c =
    let h = c.self.inside in
    let b : HasBody (values_of h.store h.owner) c.args.loc = subst (λ (v : HeapView). HasBody v.cells c.args.loc) (sym c.self.view_is) c.requires.stands in
    let found = has_cell (values_of h.store h.owner) c.args.loc b.0 b.1 in
    let was = c.replace_body.ensures.was h.owner found.0 (ap (find nat_eq (values_of h.store h.owner)) c.number.ensures ∙ found.1) in
    let none : None ≡ Some b.0 = sym c.in-None.is ∙ was ∙ found.2 in
    cc

-- the cell whose body is exchanged
before : (c : goal.In-Some) → (cell : Cell ℕ) × (find nat_eq (values_of c.self.inside.store c.self.inside.owner) c.args.loc ≡ Some cell)
before c =
    let h = c.self.inside in
    let b : HasBody (values_of h.store h.owner) c.args.loc = subst (λ (v : HeapView). HasBody v.cells c.args.loc) (sym c.self.view_is) c.requires.stands in
    let found = has_cell (values_of h.store h.owner) c.args.loc b.0 b.1 in
    (found.0, found.1)

-- the store after the exchange
after : (c : goal.In-Some) → c.replace_body.new.self ≡ put nat_eq c.self.inside.store c.self.inside.owner (rebodied (values_of c.self.inside.store c.self.inside.owner) c.args.loc c.args.body)
after c =
    let h = c.self.inside in
    let own : List (ℕ × Cell ℕ) = values_of h.store h.owner in
    let was = before c in
    c.replace_body.ensures.is h.owner was.0 (ap (find nat_eq own) c.number.ensures ∙ was.1)
    ∙ ap (λ n. put nat_eq h.store h.owner (put nat_eq own n (with_body was.0 c.args.body))) c.number.ensures
    ∙ ap (put nat_eq h.store h.owner) (sym (rebodied_is own c.args.loc was.0 c.args.body was.1))

pub invariant_of-self : goal.invariant_of-self
invariant_of-self c =
    let h = c.self.inside in
    let own : List (ℕ × Cell ℕ) = values_of h.store h.owner in
    let cells : List (ℕ × Cell ℕ) = rebodied own c.args.loc c.args.body in
    let was = before c in
    let keeps = subst (λ (v : HeapView). IsWell nat_eq v.cells → IsWell nat_eq (rebodied v.cells c.args.loc c.args.body)) (sym c.self.view_is) c.requires.keeps in
    let well : IsWell nat_eq cells = keeps (pooled_well h.store h.owner c.self.invariant.0.wells c.self.invariant.1.stands) in
    let counted = ap length (rebodied_is own c.args.loc was.0 c.args.body was.1) ∙ length-put own c.args.loc (with_body was.0 c.args.body) ∙ c.self.invariant.1.counted in (
      subst (λ ms. IsPooled ms h.given) (sym (after c)) (pooled_put h.store h.given h.owner cells c.self.invariant.0 well),
      subst (λ ms. IsOwned ms h.owner h.counts h.base) (sym (after c)) (owned_put h.store h.owner cells h.counts h.base c.self.invariant.1.stands counted),
      c.self.invariant.2,
    )

pub returns-clause-was : goal.returns-clause-was
returns-clause-was c =
    let h = c.self.inside in
    let own : List (ℕ × Cell ℕ) = values_of h.store h.owner in
    let was = before c in
    subst (λ (v : HeapView). option_and_then body_of (find nat_eq v.cells c.args.loc) ≡ Some c.in-Some.was) c.self.view_is
    (ap (option_and_then body_of) was.1 ∙ sym (c.replace_body.ensures.was h.owner was.0 (ap (find nat_eq own) c.number.ensures ∙ was.1)) ∙ c.in-Some.is)

pub returns-clause-is : goal.returns-clause-is
returns-clause-is c =
    let h = c.self.inside in
    let cells : List (ℕ × Cell ℕ) = rebodied (values_of h.store h.owner) c.args.loc c.args.body in
    let own : values_of c.replace_body.new.self h.owner ≡ cells = ap (λ ms. values_of ms h.owner) (after c) ∙ values-put h.store h.owner cells c.self.invariant.1.stands in
    let others : without nat_eq c.replace_body.new.self h.owner ≡ without nat_eq h.store h.owner = ap (λ ms. without nat_eq ms h.owner) (after c) ∙ without-put h.store h.owner cells in
    subst (λ (v : HeapView). record { owner = h.owner; cells = values_of c.replace_body.new.self h.owner; others = without nat_eq c.replace_body.new.self h.owner; counts = h.counts; limits = bounds_of h.limits; base = h.base; given = h.given } ≡ record v { cells = rebodied v.cells c.args.loc c.args.body }) c.self.view_is
    (λ i. record { owner = h.owner; cells = own i; others = others i; counts = h.counts; limits = bounds_of h.limits; base = h.base; given = h.given })
