use Rattle.std.proofs.Common.{◌≡◌, ◌∙◌, ◌+◌, ◌∷◌, [], ◌++◌, Some, sym, subst, ap, nat_eq, length, List, ℕ, arith, length-append, true, false, if◌then◌else◌}
use Rattle.std.proofs.lemmas.Bool.Decides.{nat_tests}
use Rattle.world_heap.specs.declared.cell.Cell.{Cell}
use Rattle.world_heap.specs.Maps.{keys, find, put, without, stands, find-push}
use Rattle.world_heap.specs.Shelf.{values_of}
use Rattle.world_heap.specs.Heaps.{IsNoEnv, Fits, IsWell}
use Rattle.world_heap.specs.Views.{HeapView, IsPooled, IsOwned}
use Rattle.world_heap.specs.Bounded.{bounds_of}
use Rattle.world_heap.specs.Starting.{with_built_in}
use Rattle.world_heap.proofs.Wells.{well_push, push_kept, no_env_kept}
use Rattle.world_heap.proofs.Pooling.{pooled_well, pooled_put, owned_put, values-put, without-put, apart_own}
use Rattle.world_heap.proofs.heap.Heap.add_built_in.Goals as goal

-- the cells after the cell was added
grown : (c : goal.After-of) → c.add.new.self ≡ put nat_eq c.self.inside.store c.self.inside.owner (values_of c.self.inside.store c.self.inside.owner ++ (c.in_ok-number.number, c.args.cell) ∷ [])
grown c = c.in_ok-number.ensures.added

fitting : (c : goal.After-of) → Fits nat_eq (values_of c.self.inside.store c.self.inside.owner) c.args.cell
fitting c = subst (λ (v : HeapView). Fits nat_eq v.cells c.args.cell) (sym c.self.view_is) c.requires.fits

fresh : (c : goal.After-of) → stands nat_eq (keys (values_of c.self.inside.store c.self.inside.owner)) c.in_ok-number.number ≡ false
fresh c = apart_own c.self.inside.store c.self.inside.owner c.in_ok-number.number c.in_ok-number.ensures.apart

own : (c : goal.After-of) → values_of c.add.new.self c.self.inside.owner ≡ values_of c.self.inside.store c.self.inside.owner ++ (c.in_ok-number.number, c.args.cell) ∷ []
own c = ap (λ ms. values_of ms c.self.inside.owner) (grown c) ∙ values-put c.self.inside.store c.self.inside.owner (values_of c.self.inside.store c.self.inside.owner ++ (c.in_ok-number.number, c.args.cell) ∷ []) c.self.invariant.1.stands

pub invariant_of-self-2 : goal.invariant_of-self-2
invariant_of-self-2 c =
    let h = c.self.inside in
    let old : List (ℕ × Cell ℕ) = values_of h.store h.owner in
    let cells : List (ℕ × Cell ℕ) = old ++ (c.in_ok-number.number, c.args.cell) ∷ [] in
    let well : IsWell nat_eq cells = well_push old (pooled_well h.store h.owner c.self.invariant.0.wells c.self.invariant.1.stands) c.in_ok-number.number c.args.cell (fresh c) (fitting c) in
    let counted : length cells ≡ (h.base + 1) + h.counts.cells = omega (arith, length-append old ((c.in_ok-number.number, c.args.cell) ∷ []), c.self.invariant.1.counted) in
    let base : h.base ≡ c.args.self.now.base = ap (λ (v : HeapView). v.base) c.self.view_is in (
      subst (λ ms. IsPooled ms h.given) (sym (grown c)) (pooled_put h.store h.given h.owner cells c.self.invariant.0 well),
      subst (λ ms. IsOwned ms h.owner h.counts (h.base + 1)) (sym (grown c)) (owned_put h.store h.owner cells h.counts (h.base + 1) c.self.invariant.1.stands counted),
      record {
        cells = c.self.invariant.2.cells;
        places = c.self.invariant.2.places;
        units = c.self.invariant.2.units;
        built_in = omega (arith, base, c.requires.room);
      },
    )

pub returns-clause-added : goal.returns-clause-added
returns-clause-added c =
    let h = c.self.inside in
    let old : List (ℕ × Cell ℕ) = values_of h.store h.owner in
    let others : without nat_eq c.add.new.self h.owner ≡ without nat_eq h.store h.owner = ap (λ ms. without nat_eq ms h.owner) (grown c) ∙ without-put h.store h.owner (old ++ (c.in_ok-number.number, c.args.cell) ∷ []) in
    subst (λ (v : HeapView). record { owner = h.owner; cells = values_of c.add.new.self h.owner; others = without nat_eq c.add.new.self h.owner; counts = h.counts; limits = bounds_of h.limits; base = h.base + 1; given = h.given } ≡ with_built_in v ((c.of.result, c.args.cell) ∷ [])) c.self.view_is
    (λ i. record { owner = h.owner; cells = (own c ∙ ap (λ l. old ++ (l, c.args.cell) ∷ []) (sym c.of.ensures)) i; others = others i; counts = h.counts; limits = bounds_of h.limits; base = h.base + 1; given = h.given })

pub returns-clause-stands : goal.returns-clause-stands
returns-clause-stands c =
    let old : List (ℕ × Cell ℕ) = values_of c.self.inside.store c.self.inside.owner in
    let l = c.in_ok-number.number in
    let same : nat_eq l l ≡ true = grind (arith, nat_tests) in
    let found : find nat_eq (old ++ (l, c.args.cell) ∷ []) l ≡ Some c.args.cell = find-push old l c.args.cell l (fresh c) ∙ ap (λ b. if b then Some c.args.cell else find nat_eq old l) same in
    rw c.of.ensures (subst (λ cs. find nat_eq cs l ≡ Some c.args.cell) (sym (own c)) found)

pub returns-clause-fresh : goal.returns-clause-fresh
returns-clause-fresh c = rw c.of.ensures (subst (λ (v : HeapView). stands nat_eq (keys v.cells) c.in_ok-number.number ≡ false) c.self.view_is (fresh c))

pub returns-clause-kept : goal.returns-clause-kept
returns-clause-kept c = λ loc no_env.
    let old : List (ℕ × Cell ℕ) = values_of c.self.inside.store c.self.inside.owner in
    let l = c.in_ok-number.number in
    let before = subst (λ (v : HeapView). IsNoEnv nat_eq v.cells loc) (sym c.self.view_is) no_env in
    let well = pooled_well c.self.inside.store c.self.inside.owner c.self.invariant.0.wells c.self.invariant.1.stands in
    subst (λ cs. IsNoEnv nat_eq cs loc) (sym (own c)) (no_env_kept old (old ++ (l, c.args.cell) ∷ []) (push_kept old well l c.args.cell (fresh c) (fitting c)) loc before)
