use Rattle.std.proofs.Common.{◌≡◌, ◌∙◌, ◌+◌, ◌∷◌, [], ◌++◌, None, sym, subst, ap, nat_eq, length, List, ℕ, arith, length-append, false}
use Rattle.world_heap.specs.declared.cell.Cell.{Cell}
use Rattle.world_heap.specs.declared.limits.Counts.{Counts}
use Rattle.world_heap.specs.Maps.{keys, without, stands}
use Rattle.world_heap.specs.Shelf.{values_of, Apart}
use Rattle.world_heap.specs.Heaps.{Fits, IsWell, places_of}
use Rattle.world_heap.specs.Views.{HeapView, IsPooled, IsOwned}
use Rattle.world_heap.specs.Bounded.{bounds_of}
use Rattle.world_heap.specs.Growth.{first_full, counts_with}
use Rattle.world_heap.proofs.Wells.{well_push}
use Rattle.world_heap.proofs.Pooling.{pooled_well, pooled_put, owned_put, values-put, without-put, apart_own, apart_others}
use Rattle.world_heap.proofs.Counting.{no_full, small}
use Rattle.world_heap.proofs.heap.Heap.add.Goals as goal

pub invariant_of-self-2 : goal.invariant_of-self-2
invariant_of-self-2 c =
    let h = c.self.inside in
    let old : List (ℕ × Cell ℕ) = values_of h.store h.owner in
    let cells : List (ℕ × Cell ℕ) = old ++ (c.in-Ok.number, c.args.cell) ∷ [] in
    let fit : Fits nat_eq old c.args.cell = subst (λ (v : HeapView). Fits nat_eq v.cells c.args.cell) (sym c.self.view_is) c.requires in
    let well : IsWell nat_eq cells = well_push old (pooled_well h.store h.owner c.self.invariant.0.wells c.self.invariant.1.stands) c.in-Ok.number c.args.cell (apart_own h.store h.owner c.in-Ok.number c.in-Ok.ensures.apart) fit in
    let counts : Counts = record { cells = h.counts.cells + 1; places = h.counts.places + c.place_count-places.result; units = h.counts.units + c.unit_count-units.result } in
    let counted : length cells ≡ h.base + (h.counts.cells + 1) = omega (arith, length-append old ((c.in-Ok.number, c.args.cell) ∷ []), c.self.invariant.1.counted) in (
      subst (λ ms. IsPooled ms h.given) (sym c.in-Ok.ensures.added) (pooled_put h.store h.given h.owner cells c.self.invariant.0 well),
      subst (λ ms. IsOwned ms h.owner counts h.base) (sym c.in-Ok.ensures.added) (owned_put h.store h.owner cells counts h.base c.self.invariant.1.stands counted),
      record {
        cells = omega (arith, c.if-self.false);
        places = omega (arith, c.if-places-self.false, c.self.invariant.2.places);
        units = omega (arith, c.if-units-self.false, c.self.invariant.2.units);
        built_in = c.self.invariant.2.built_in;
      },
    )

pub returns : goal.returns
returns c =
    let h = c.self.inside in
    let old : List (ℕ × Cell ℕ) = values_of h.store h.owner in
    let number : c.of.result ≡ c.in-Ok.number = c.of.ensures in
    let cells : List (ℕ × Cell ℕ) = old ++ (c.in-Ok.number, c.args.cell) ∷ [] in
    let places : c.place_count-places.result ≡ places_of c.args.cell = small (places_of c.args.cell) c.place_count-places.result c.place_count-places.ensures (omega (arith, c.if-places-self.false, h.limits.places_bound)) in
    let own : values_of c.add.new.self h.owner ≡ cells = ap (λ ms. values_of ms h.owner) c.in-Ok.ensures.added ∙ values-put h.store h.owner cells c.self.invariant.1.stands in
    let others : without nat_eq c.add.new.self h.owner ≡ without nat_eq h.store h.owner = ap (λ ms. without nat_eq ms h.owner) c.in-Ok.ensures.added ∙ without-put h.store h.owner cells in
    let full : first_full (bounds_of h.limits) (counts_with h.counts c.args.cell) ≡ None = no_full (bounds_of h.limits) (counts_with h.counts c.args.cell)
    (omega (arith, c.if-self.false)) (omega (arith, places, c.if-places-self.false, c.self.invariant.2.places)) (omega (arith, c.unit_count-units.ensures, c.if-units-self.false, c.self.invariant.2.units)) in
    let goal_at : HeapView → Type 0 = λ v. (first_full v.limits (counts_with v.counts c.args.cell) ≡ None)
    × (stands nat_eq (keys v.cells) c.of.result ≡ false) × Apart v.others c.of.result
    × (record { owner = h.owner; cells = values_of c.add.new.self h.owner; others = without nat_eq c.add.new.self h.owner; counts = record { cells = h.counts.cells + 1; places = h.counts.places + c.place_count-places.result; units = h.counts.units + c.unit_count-units.result }; limits = bounds_of h.limits; base = h.base; given = h.given } ≡ record v { cells = v.cells ++ (c.of.result, c.args.cell) ∷ []; counts = counts_with v.counts c.args.cell }) in
    subst goal_at c.self.view_is (
      full,
      rw number (apart_own h.store h.owner c.in-Ok.number c.in-Ok.ensures.apart),
      rw number (apart_others h.store h.owner c.in-Ok.number c.in-Ok.ensures.apart),
      λ i. record {
        owner = h.owner;
        cells = (own ∙ ap (λ l. old ++ (l, c.args.cell) ∷ []) (sym number)) i;
        others = others i;
        counts = record { cells = h.counts.cells + 1; places = h.counts.places + places i; units = h.counts.units + c.unit_count-units.ensures i };
        limits = bounds_of h.limits;
        base = h.base;
        given = h.given;
      },
    )
