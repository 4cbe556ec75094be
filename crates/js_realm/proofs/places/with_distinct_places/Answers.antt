use Rattle.std.proofs.Common.{◌≡◌, [], Some, nat_eq, ap, subst, sym, ◌∙◌}
use Rattle.std.specs.Prelude.{unwrap_or}
use Rattle.world_heap.specs.Maps.{keys, find, without}
use Rattle.world_heap.specs.Shelf.{values_of}
use Rattle.world_heap.specs.Stored.{IsDistinct}
use Rattle.world_heap.specs.Views.{HeapView, PoolView, SeatView}
use Rattle.js_realm.proofs.places.with_distinct_places.Goals as goal

-- a heap that was parted and joined
joined : (h : HeapView) (s : SeatView) (p : PoolView) → s ≡ record { owner = h.owner; counts = h.counts; limits = h.limits; base = h.base } → find nat_eq p.maps h.owner ≡ Some h.cells → without nat_eq p.maps h.owner ≡ h.others → p.given ≡ h.given
    → record h { owner = s.owner; cells = values_of p.maps s.owner; others = without nat_eq p.maps s.owner; counts = s.counts; limits = s.limits; base = s.base; given = p.given } ≡ h
joined h s p seat own others given =
    ap (λ (z : SeatView). record h { owner = z.owner; cells = values_of p.maps z.owner; others = without nat_eq p.maps z.owner; counts = z.counts; limits = z.limits; base = z.base; given = p.given }) seat
    ∙ (λ i. record h { cells = unwrap_or (own i) []; others = others i; given = given i })

pub returns-clause-same : goal.returns-clause-same
returns-clause-same c =
    let parted = c.part-seat.ensures in
    c.join.ensures ∙ joined c.args.heap c.part-seat.result.0 c.part-seat.result.1 parted.seat parted.own parted.others parted.given

pub returns-clause-distinct : goal.returns-clause-distinct
returns-clause-distinct c = subst (λ (v : HeapView). IsDistinct (keys v.cells)) (sym c.join.ensures) (c.distinct.ensures c.part-seat.result.0.owner)
