-- A world takes a delivery, and a world ends.
use Rattle.std.proofs.Common.{◌≡◌, ℕ, suc, ◌+◌, ◌≤◌, List, [], ◌∷◌, ◌++◌, length, map, drop, true, false, Some, nat_eq, refl, sym, ap, ◌∙◌, subst, arith}
use Rattle.js_tree.specs.declared.node.Node.{Node}
use Rattle.world_heap.specs.declared.cell.Cell.{Cell}
use Rattle.std.specs.Option.{option_map_or}
use Rattle.world_heap.specs.Maps.{find, keys, stands, without}
use Rattle.world_heap.specs.Shelf.{values_of}
use Rattle.world_heap.specs.Views.{HeapView, PoolView}
use Rattle.world_heap.proofs.Pooling.{length-without}
use Rattle.world_log.specs.declared.entry.Delivery.{Delivery}
use Rattle.world_log.specs.declared.entry.Entry.{Entry}
use Rattle.world_log.specs.declared.entry.Entry.TheVariants as entry
use Rattle.world_log.specs.declared.entry.Product.{Product}
use Rattle.world_log.specs.declared.entry.Stop.{Stop}
use Rattle.js_names.specs.Patterns.{nodes_of}
use Rattle.js_semantics.specs.Run.{Arrival, entries}
use Rattle.js_machine.specs.declared.state.State.{State}
use Rattle.js_machine.specs.Closed.{IsClosed}
use Rattle.js_machine.specs.Does.{Follows, awaits_in, is_running, to_come}
use Rattle.js_step.specs.Resuming.{Resumes as StepResumes}
use Rattle.alone_laws.specs.Sizes.{cells_at_end}
use Rattle.alone_laws.specs.Turns.{Turns}
use Rattle.world_machine.specs.declared.machine.Machine.{Machine}
use Rattle.world_machine.specs.declared.world.World.{World}
use Rattle.world_machine.specs.declared.yielding.Yield.{Yield}
use Rattle.world_machine.specs.declared.yielding.Yield.TheVariants.{Stopped}
use Rattle.world_machine.specs.Yields.{EndsBy}
use Rattle.world_machine.specs.World.{AreDistinct, Counts, IsComing, IsEnded, IsFilling, IsIn, Parts, Promises, Resumes, Sits, Spares, behind, coming_from, trace_from, heap_in, is_awaited, owner_of, state_over}
use Rattle.world_machine.proofs.Coming.{cells-after, ends_by, entries-after, none_behind, quiet, still, takes, turns_behind}
use Rattle.world_machine.proofs.Pools.{coming_by, counts_by, filling_by, find-without, in_by, owner_by, promises_by, sits_at, size_by, spares_by, spares_without, stands-without}
use Rattle.world_machine.proofs.Supplying.{some_supply}

drop_made : (ps : List Product) (es : List Entry) → drop (length ps) (map entry.Product ps ++ es) ≡ es
drop_made [] es = refl
drop_made (p ∷ ps) es = drop_made ps es

-- from one machine in its pool to the next, by a delivery
module _ (script : List Node) (d : Arrival) (o m : Machine) (old new : PoolView) (s t : State) (made : List Product)
    (h : Sits script o old) (s_is : s ≡ state_over o (heap_in o.seat old)) (r : StepResumes script d s made t) (fits : IsClosed script t) (p : Parts t m new) where
  before : List (ℕ × Cell ℕ)
  before = values_of old.maps o.seat.owner

  now : List (ℕ × Cell ℕ)
  now = values_of new.maps m.seat.owner

  follows_new : (supply : ℕ → ℕ) → Follows supply 0 now → Follows supply 0 t.heap.cells
  unfolding now
  follows_new supply f = subst (λ (x : State). Follows supply 0 x.heap.cells) p.state f

  follows_old : (supply : ℕ → ℕ) → Follows supply 0 now → Follows supply 0 before
  unfolding before
  follows_old supply f = subst (λ (x : State). Follows supply 0 x.heap.cells) s_is (r.keeps supply (follows_new supply f))

  taken : (supply : ℕ → ℕ) (ds : List Arrival) → Follows supply 0 now → coming_from script supply o before (d ∷ ds) ≡ entry.Delivery d.fresh d.what ∷ (map entry.Product made ++ coming_from script supply m now ds)
  unfolding before now
  taken supply ds f =
      sym (ap (λ (x : State). entries (to_come script supply x (d ∷ ds))) s_is) ∙ ap entries (r.law supply ds (follows_new supply f))
      ∙ ap (λ es. entry.Delivery d.fresh d.what ∷ es) (entries-after made (to_come script supply t ds) ∙ sym (ap (λ (x : State). map entry.Product made ++ entries (to_come script supply x ds)) p.state))

  turn : (supply : ℕ → ℕ) (ds : List Arrival) → Follows supply 0 now → Turns true (map entry.Product made ++ coming_from script supply m now ds)
  unfolding before
  turn supply ds f = subst (Turns false) (taken supply ds f) (h.turns supply (d ∷ ds) (follows_old supply f))

  counted : (supply : ℕ → ℕ) (ds : List Arrival) → Follows supply 0 now → cells_at_end (trace_from script supply o before (d ∷ ds)) ≡ cells_at_end (trace_from script supply m now ds)
  unfolding before now
  counted supply ds f =
      sym (ap (λ (x : State). cells_at_end (to_come script supply x (d ∷ ds))) s_is) ∙ ap cells_at_end (r.law supply ds (follows_new supply f)) ∙ cells-after made (to_come script supply t ds)
      ∙ sym (ap (λ (x : State). cells_at_end (to_come script supply x ds)) p.state)

  fills : (count : List Arrival → ℕ) → Counts script o before count → Counts script m now (λ ds. count (d ∷ ds))
  unfolding before
  fills count c supply ds a f = sym (counted supply ds f) ∙ c supply (d ∷ ds) a (follows_old supply f)

  waits : is_running m.control ≡ false
  waits = ap (λ (x : State). is_running x.control) p.state ∙ r.ends

  quiet_now : (supply : ℕ → ℕ) → coming_from script supply m now [] ≡ []
  unfolding now
  quiet_now supply = quiet script supply (state_over m (heap_in m.seat new)) waits

  size : (count : List Arrival → ℕ) → Counts script o before count → length now ≡ count (d ∷ [])
  unfolding now
  size count c =
      let some = some_supply now p.distinct in sym (still script some.0 (state_over m (heap_in m.seat new)) waits) ∙ fills count c some.0 [] some.1 some.2

  ends : (y : Yield) × EndsBy y made
  unfolding now
  ends =
      let some = some_supply now p.distinct in
      ends_by made (subst (λ es. Turns true (map entry.Product made ++ es)) (quiet_now some.0) (turn some.0 [] some.2))

  owner : m.seat.owner ≡ o.seat.owner
  owner = ap (λ (x : State). x.heap.owner) p.state ∙ ap (λ (x : HeapView). x.owner) r.stays ∙ ap (λ (x : State). x.heap.owner) s_is

  given : new.given ≡ old.given
  given = ap (λ (x : State). x.heap.given) p.state ∙ ap (λ (x : HeapView). x.given) r.stays ∙ ap (λ (x : State). x.heap.given) s_is

  others : without nat_eq new.maps o.seat.owner ≡ without nat_eq old.maps o.seat.owner
  others = sym (ap (λ n. without nat_eq new.maps n) owner) ∙ ap (λ (x : State). x.heap.others) p.state ∙ ap (λ (x : HeapView). x.others) r.stays ∙ ap (λ (x : State). x.heap.others) s_is

  count : length new.maps ≡ length old.maps
  count =
      p.count ∙ ap (λ (x : HeapView). length x.others + 1) r.stays ∙ ap (λ (x : State). length x.heap.others + 1) s_is
      ∙ sym (length-without old.maps o.seat.owner h.owned.stands)

  module _ (y : Yield) (e : EndsBy y made) where
    sits : Sits script m new
    unfolding now
    sits = record {
      owned = p.owned;
      below = omega (arith, h.below, owner, given);
      distinct = p.distinct;
      closed = subst (IsClosed script) (sym p.state) fits;
      waits = waits;
      turns = λ supply ds f. turns_behind y made _ e (turn supply ds f);
    }

    closed : (stop : Stop) (what : Delivery) → y ≡ Stopped stop → awaits_in m.control m.loaded what ≡ false
    unfolding now
    closed stop what q =
        let some = some_supply now p.distinct in
        let d2 : Arrival = record { fresh = true; what = what } in
        let none = none_behind y stop made _ e q (turn some.0 (d2 ∷ []) some.2) in
        elim (awaits_in m.control m.loaded what) as (λ b. awaits_in m.control m.loaded what ≡ b → b ≡ false) [
          | true ↦ λ z. let got = takes script some.0 (state_over m (heap_in m.seat new)) true what [] true waits z in absurd (cc (none, got.1))
          | false ↦ λ z. refl
        ] refl

    module _ (coming : List Arrival → List Entry) (c : Promises script o before coming) where
      comes_as : (supply : ℕ → ℕ) (ds : List Arrival) → AreDistinct supply → Follows supply 0 now → coming (d ∷ ds) ≡ entry.Delivery d.fresh d.what ∷ (map entry.Product made ++ coming_from script supply m now ds)
      unfolding before
      comes_as supply ds a f = sym (c supply (d ∷ ds) a (follows_old supply f)) ∙ taken supply ds f

      behind_is : (supply : ℕ → ℕ) (ds : List Arrival) → AreDistinct supply → Follows supply 0 now → behind coming d made ds ≡ coming_from script supply m now ds
      behind_is supply ds a f = ap (drop (suc (length made))) (comes_as supply ds a f) ∙ drop_made made _

      comes : Promises script m now (behind coming d made)
      comes supply ds a f = sym (behind_is supply ds a f)

      law : (ds : List Arrival) → coming (d ∷ ds) ≡ entry.Delivery d.fresh d.what ∷ (map entry.Product made ++ behind coming d made ds)
      unfolding now
      law ds =
          let some = some_supply now p.distinct in
          comes_as some.0 ds some.1 some.2 ∙ sym (ap (λ es. entry.Delivery d.fresh d.what ∷ (map entry.Product made ++ es)) (behind_is some.0 ds some.1 some.2))

      rests : behind coming d made [] ≡ []
      unfolding now
      rests = let some = some_supply now p.distinct in behind_is some.0 [] some.1 some.2 ∙ quiet_now some.0

      stops : (stop : Stop) (ds : List Arrival) → y ≡ Stopped stop → behind coming d made ds ≡ []
      unfolding now
      stops stop ds q =
          let some = some_supply now p.distinct in
          behind_is some.0 ds some.1 some.2 ∙ none_behind y stop made _ e q (turn some.0 ds some.2)

-- the world's delivery
pub resumed : (w v : World) (script : List (Node × ℕ)) (d : Arrival) (o m : Machine) (old new : PoolView) (s t : State) (made : List Product) → w.machine ≡ Some o → v.machine ≡ Some m → w.script ≡ script → v.script ≡ script → IsIn w old → s ≡ state_over o (heap_in o.seat old) → StepResumes (nodes_of script) d s made t → IsClosed (nodes_of script) t → Parts t m new
    → (y : Yield) → EndsBy y made → Resumes d w old made y v new
unfolding is_awaited before now
resumed w v script d o m old new s t made wo vm ws vs stands s_is r fits p y e =
    let nodes = nodes_of script in
    let h : Sits nodes o old = subst (λ x. Sits (nodes_of x) o old) ws (sits_at w old o wo stands) in
    let is_owner = owner nodes d o m old new s t made h s_is r fits p in
    let into : (coming : List Arrival → List Entry) → IsComing w old coming → Promises nodes o (values_of old.maps o.seat.owner) coming = λ coming c. subst (λ x. Promises (nodes_of x) o (values_of old.maps o.seat.owner) coming) ws (promises_by w old o coming wo c) in
    let counted_by : (count : List Arrival → ℕ) → IsFilling w old count → Counts nodes o (values_of old.maps o.seat.owner) count = λ count c. subst (λ x. Counts (nodes_of x) o (values_of old.maps o.seat.owner) count) ws (counts_by w old o count wo c) in
    record {
      stands = in_by v new m vm (subst (λ x. Sits (nodes_of x) m new) (sym vs) (sits nodes d o m old new s t made h s_is r fits p y e));
      comes = λ coming c. coming_by v new m _ vm (subst (λ x. Promises (nodes_of x) m (values_of new.maps m.seat.owner) (behind coming d made)) (sym vs) (comes nodes d o m old new s t made h s_is r fits p y e coming (into coming c)));
      law = λ coming ds c. law nodes d o m old new s t made h s_is r fits p y e coming (into coming c) ds;
      rests = λ coming c. rests nodes d o m old new s t made h s_is r fits p y e coming (into coming c);
      fills = λ count c. filling_by v new m _ vm (subst (λ x. Counts (nodes_of x) m (values_of new.maps m.seat.owner) (λ ds. count (d ∷ ds))) (sym vs) (fills nodes d o m old new s t made h s_is r fits p count (counted_by count c)));
      size = λ count c. size_by v new m vm ∙ size nodes d o m old new s t made h s_is r fits p count (counted_by count c);
      yields = e;
      stops = λ coming stop ds q c. stops nodes d o m old new s t made h s_is r fits p y e coming (into coming c) stop ds q;
      closed = λ stop what q. ap (λ x. option_map_or (λ (n : Machine). awaits_in n.control n.loaded what) x false) vm ∙ closed nodes d o m old new s t made h s_is r fits p y e stop what q;
      owner = owner_by v m vm ∙ ap Some is_owner ∙ sym (owner_by w o wo);
      spares = spares_without w o.seat.owner old new (owner_by w o wo) (others nodes d o m old new s t made h s_is r fits p) (omega (arith, given nodes d o m old new s t made h s_is r fits p));
      given = given nodes d o m old new s t made h s_is r fits p;
      count = count nodes d o m old new s t made h s_is r fits p;
    }

-- and the yield of what is made
pub yielded : (w v : World) (script : List (Node × ℕ)) (d : Arrival) (o m : Machine) (old new : PoolView) (s t : State) (made : List Product) → w.machine ≡ Some o → w.script ≡ script → IsIn w old → s ≡ state_over o (heap_in o.seat old) → StepResumes (nodes_of script) d s made t → IsClosed (nodes_of script) t → Parts t m new → (y : Yield) × EndsBy y made
yielded w v script d o m old new s t made wo ws stands s_is r fits p =
    ends (nodes_of script) d o m old new s t made (subst (λ x. Sits (nodes_of x) o old) ws (sits_at w old o wo stands)) s_is r fits p

-- the world's end
pub ended : (w : World) (o : Machine) (old new : PoolView) (s : State) → w.machine ≡ Some o → IsIn w old → s ≡ state_over o (heap_in o.seat old) → new ≡ record { maps = s.heap.others; given = s.heap.given } → IsEnded w old new
ended w o old new s wo stood s_is new_is =
    let own : owner_of w ≡ Some o.seat.owner = owner_by w o wo in
    let maps : new.maps ≡ without nat_eq old.maps o.seat.owner = ap (λ (x : PoolView). x.maps) new_is ∙ ap (λ (x : State). x.heap.others) s_is in
    let given : new.given ≡ old.given = ap (λ (x : PoolView). x.given) new_is ∙ ap (λ (x : State). x.heap.given) s_is in
    record {
      maps = λ k e. let other : Some o.seat.owner ≡ Some k = sym own ∙ e in let n : o.seat.owner ≡ k = cc in maps ∙ ap (λ j. without nat_eq old.maps j) n;
      spares = spares_ended w o.seat.owner old new own maps (omega (arith, given));
      given = given;
      count = length-without old.maps o.seat.owner (sits_at w old o wo stood).owned.stands ∙ sym (ap (λ ms. length ms + 1) maps);
    }
  where
    spares_ended : (w : World) (k : ℕ) (old new : PoolView) → owner_of w ≡ Some k → new.maps ≡ without nat_eq old.maps k → old.given ≤ new.given → Spares w old new
    spares_ended w k old new own maps more =
        spares_by w k old new own
        (λ j h. ap (λ ms. find nat_eq ms j) maps ∙ find-without old.maps k j h)
        (λ j h. ap (λ ms. stands nat_eq (keys ms) j) maps ∙ stands-without old.maps k j h)
        more
