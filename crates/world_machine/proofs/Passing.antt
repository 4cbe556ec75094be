-- A world goes on: from one product to the next, and to its rest.
use Rattle.std.proofs.Common.{◌≡◌, ℕ, ◌+◌, ◌<◌, List, [], ◌∷◌, ◌++◌, length, map, drop, Bool, true, false, Option, Some, None, IsSome, nat_eq, refl, sym, ap, ◌∙◌, subst, arith, append_assoc, append-nil}
use Rattle.std.specs.Option.{option_map_or}
use Rattle.js_tree.specs.declared.node.Node.{Node}
use Rattle.world_heap.specs.declared.cell.Cell.{Cell}
use Rattle.world_heap.specs.Maps.{without}
use Rattle.world_heap.specs.Shelf.{values_of}
use Rattle.world_heap.specs.Views.{HeapView, PoolView}
use Rattle.world_heap.proofs.Pooling.{length-without}
use Rattle.world_log.specs.declared.entry.Entry.{Entry}
use Rattle.world_log.specs.declared.entry.Entry.TheVariants as entry
use Rattle.world_log.specs.declared.entry.Product.{Product}
use Rattle.world_log.specs.declared.entry.Product.TheVariants as products
use Rattle.world_log.specs.declared.entry.Stop.{Stop}
use Rattle.js_names.specs.Patterns.{nodes_of}
use Rattle.js_semantics.specs.Run.{Arrival, entries}
use Rattle.js_machine.specs.declared.state.State.{State}
use Rattle.js_machine.specs.Closed.{IsClosed}
use Rattle.js_machine.specs.Does.{Follows, Stays, is_running, to_come, work}
use Rattle.js_step.specs.Resuming.{Begins, BeginsWith, Makes, MakesNext}
use Rattle.alone_laws.specs.Sizes.{cells_at_end}
use Rattle.alone_laws.specs.Turns.{Turns}
use Rattle.world_machine.specs.declared.machine.Machine.{Machine}
use Rattle.world_machine.specs.declared.world.World.{World}
use Rattle.world_machine.specs.World.{AreDistinct, Counts, GoesOn, IsComing, IsFilling, IsRunning, Parts, Passes, Promises, Rests, Sits, Turning, coming_from, heap_in, state_over, state_with, turns_left}
use Rattle.world_machine.proofs.Coming.{cells-after, entries-after, quiet, still}
use Rattle.world_machine.proofs.Pools.{coming_by, counts_by, filling_by, in_by, owner_by, promises_by, running_at, running_by, size_by, spares_without}
use Rattle.world_machine.proofs.Supplying.{some_supply}

-- ---- turns

-- whether a turn goes on behind a product
abbrev inside_after : Product → Bool
inside_after (products.Console level text) = true
inside_after (products.Uncaught text) = true
inside_after (products.Rest jobs) = false
inside_after (products.Stopped stop) = false

-- whether it is inside a turn behind these entries
abbrev inside_behind : Bool → List Entry → Bool
inside_behind b [] = b
inside_behind b (entry.Delivery fresh what ∷ es) = inside_behind true es
inside_behind b (entry.Product p ∷ es) = inside_behind (inside_after p) es

turns_stopped : (made es : List Entry) → made ++ es ≡ [] → Turns (inside_behind false made) es
turns_stopped [] es h = subst (Turns false) (sym h) refl
turns_stopped (e ∷ made) es h = absurd (cc)

turns_on : (b : Bool) (made es : List Entry) → Turns b (made ++ es) → Turns (inside_behind b made) es
turns_on b [] es h = h
turns_on false (entry.Delivery fresh what ∷ made) es h = turns_on true made es h
turns_on true (entry.Delivery fresh what ∷ made) es h = absurd h
turns_on false (entry.Product p ∷ made) es h = absurd h
turns_on true (entry.Product (products.Console level text) ∷ made) es h = turns_on true made es h
turns_on true (entry.Product (products.Uncaught text) ∷ made) es h = turns_on true made es h
turns_on true (entry.Product (products.Rest jobs) ∷ made) es h = turns_on false made es h
turns_on true (entry.Product (products.Stopped stop) ∷ made) es h = turns_stopped made es h

-- nothing comes behind a stop
none_in : (first es : List Entry) (e : Entry) → first ++ e ∷ es ≡ [] → es ≡ []
none_in [] es e h = absurd (cc)
none_in (x ∷ first) es e h = absurd (cc)

none_after : (b : Bool) (first es : List Entry) (stop : Stop) → Turns b (first ++ entry.Product (products.Stopped stop) ∷ es) → es ≡ []
none_after true [] es stop h = h
none_after false [] es stop h = absurd h
none_after false (entry.Delivery fresh what ∷ first) es stop h = none_after true first es stop h
none_after true (entry.Delivery fresh what ∷ first) es stop h = absurd h
none_after false (entry.Product p ∷ first) es stop h = absurd h
none_after true (entry.Product (products.Console level text) ∷ first) es stop h = none_after true first es stop h
none_after true (entry.Product (products.Uncaught text) ∷ first) es stop h = none_after true first es stop h
none_after true (entry.Product (products.Rest jobs) ∷ first) es stop h = none_after false first es stop h
none_after true (entry.Product (products.Stopped other) ∷ first) es stop h = none_in first es _ h

drop_front : (made es : List Entry) → drop (length made) (made ++ es) ≡ es
drop_front [] es = refl
drop_front (e ∷ made) es = drop_front made es

-- ---- states

-- From one state to another these deliveries are taken and these entries made.
record Between (nodes : List Node) (taken : List Arrival) (made : List Entry) (s t : State) : Type 0 where
  comes : (supply : ℕ → ℕ) (ds : List Arrival) → Follows supply 0 t.heap.cells → entries (to_come nodes supply s (taken ++ ds)) ≡ made ++ entries (to_come nodes supply t ds)
  cells : (supply : ℕ → ℕ) (ds : List Arrival) → Follows supply 0 t.heap.cells → cells_at_end (to_come nodes supply s (taken ++ ds)) ≡ cells_at_end (to_come nodes supply t ds)
  keeps : (supply : ℕ → ℕ) → Follows supply 0 t.heap.cells → Follows supply 0 s.heap.cells
  stays : Stays s.heap t.heap

by_makes : (nodes : List Node) (made : List Product) (s t : State) → Makes nodes s made t → Between nodes [] (map entry.Product made) s t
by_makes nodes made s t r = record {
  comes = λ supply ds f. ap entries (r.law supply ds f) ∙ entries-after made (to_come nodes supply t ds);
  cells = λ supply ds f. ap cells_at_end (r.law supply ds f) ∙ cells-after made (to_come nodes supply t ds);
  keeps = r.keeps;
  stays = r.stays;
}

by_begins : (nodes : List Node) (d : Arrival) (made : List Product) (s t : State) → Begins nodes d s made t → Between nodes (d ∷ []) (entry.Delivery d.fresh d.what ∷ map entry.Product made) s t
by_begins nodes d made s t r = record {
  comes = λ supply ds f. ap entries (r.law supply ds f) ∙ ap (λ es. entry.Delivery d.fresh d.what ∷ es) (entries-after made (to_come nodes supply t ds));
  cells = λ supply ds f. ap cells_at_end (r.law supply ds f) ∙ cells-after made (to_come nodes supply t ds);
  keeps = r.keeps;
  stays = r.stays;
}

-- ---- machines

-- a machine that makes turns and doesn't run is between two of them
sits_from : (script : List Node) (m : Machine) (pool : PoolView) → Turning script m pool → is_running m.control ≡ false → Sits script m pool
sits_from script m pool h waits =
    let cells = values_of pool.maps m.seat.owner in
    let some = some_supply cells h.distinct in
    let outside : h.inside ≡ false = subst (Turns h.inside) (quiet script some.0 (state_over m (heap_in m.seat pool)) waits) (h.turns some.0 [] some.2) in
    record {
      owned = h.owned;
      below = h.below;
      distinct = h.distinct;
      closed = h.closed;
      waits = waits;
      turns = λ supply ds f. subst (λ b. Turns b (coming_from script supply m cells ds)) outside (h.turns supply ds f);
    }

-- from one machine in its pool to the next
module _ (script : List Node) (taken : List Arrival) (made : List Entry) (o m : Machine) (old new : PoolView) (s t : State)
    (h : Turning script o old) (s_is : s ≡ state_over o (heap_in o.seat old)) (r : Between script taken made s t) (fits : IsClosed script t) (p : Parts t m new) where
  abbrev before : List (ℕ × Cell ℕ)
  before = values_of old.maps o.seat.owner

  abbrev now : List (ℕ × Cell ℕ)
  now = values_of new.maps m.seat.owner

  follows_new : (supply : ℕ → ℕ) → Follows supply 0 now → Follows supply 0 t.heap.cells
  follows_new supply f = subst (λ (x : State). Follows supply 0 x.heap.cells) p.state f

  follows_old : (supply : ℕ → ℕ) → Follows supply 0 now → Follows supply 0 before
  follows_old supply f = subst (λ (x : State). Follows supply 0 x.heap.cells) s_is (r.keeps supply (follows_new supply f))

  passed : (supply : ℕ → ℕ) (ds : List Arrival) → Follows supply 0 now → coming_from script supply o before (taken ++ ds) ≡ made ++ coming_from script supply m now ds
  passed supply ds f =
      sym (ap (λ (x : State). entries (to_come script supply x (taken ++ ds))) s_is) ∙ r.comes supply ds (follows_new supply f)
      ∙ sym (ap (λ (x : State). made ++ entries (to_come script supply x ds)) p.state)

  turn : (supply : ℕ → ℕ) (ds : List Arrival) → Follows supply 0 now → Turns h.inside (made ++ coming_from script supply m now ds)
  turn supply ds f = subst (Turns h.inside) (passed supply ds f) (h.turns supply (taken ++ ds) (follows_old supply f))

  fills : (count : List Arrival → ℕ) → Counts script o before count → Counts script m now (λ ds. count (taken ++ ds))
  fills count c supply ds a f =
      sym (sym (ap (λ (x : State). cells_at_end (to_come script supply x (taken ++ ds))) s_is) ∙ r.cells supply ds (follows_new supply f) ∙ sym (ap (λ (x : State). cells_at_end (to_come script supply x ds)) p.state))
      ∙ c supply (taken ++ ds) a (follows_old supply f)

  owner : m.seat.owner ≡ o.seat.owner
  owner = ap (λ (x : State). x.heap.owner) p.state ∙ ap (λ (x : HeapView). x.owner) r.stays ∙ ap (λ (x : State). x.heap.owner) s_is

  given : new.given ≡ old.given
  given = ap (λ (x : State). x.heap.given) p.state ∙ ap (λ (x : HeapView). x.given) r.stays ∙ ap (λ (x : State). x.heap.given) s_is

  others : without nat_eq new.maps o.seat.owner ≡ without nat_eq old.maps o.seat.owner
  others = sym (ap (λ n. without nat_eq new.maps n) owner) ∙ ap (λ (x : State). x.heap.others) p.state ∙ ap (λ (x : HeapView). x.others) r.stays ∙ ap (λ (x : State). x.heap.others) s_is

  count : length new.maps ≡ length old.maps
  count =
      p.count ∙ ap (λ (x : HeapView). length x.others + 1) r.stays ∙ ap (λ (x : State). length x.heap.others + 1) s_is
      ∙ sym (length-without old.maps o.seat.owner h.owned.stands)

  turning : Turning script m new
  turning = record {
    owned = p.owned;
    below = omega (arith, h.below, owner, given);
    distinct = p.distinct;
    closed = subst (IsClosed script) (sym p.state) fits;
    inside = inside_behind h.inside made;
    turns = λ supply ds f. turns_on h.inside made _ (turn supply ds f);
  }

  module _ (coming : List Arrival → List Entry) (c : Promises script o before coming) where
    comes_as : (supply : ℕ → ℕ) (ds : List Arrival) → AreDistinct supply → Follows supply 0 now → coming (taken ++ ds) ≡ made ++ coming_from script supply m now ds
    comes_as supply ds a f = sym (c supply (taken ++ ds) a (follows_old supply f)) ∙ passed supply ds f

    behind_is : (supply : ℕ → ℕ) (ds : List Arrival) → AreDistinct supply → Follows supply 0 now → drop (length made) (coming (taken ++ ds)) ≡ coming_from script supply m now ds
    behind_is supply ds a f = ap (drop (length made)) (comes_as supply ds a f) ∙ drop_front made _

    comes : Promises script m now (λ ds. drop (length made) (coming (taken ++ ds)))
    comes supply ds a f = sym (behind_is supply ds a f)

    law : (ds : List Arrival) → coming (taken ++ ds) ≡ made ++ drop (length made) (coming (taken ++ ds))
    law ds =
        let some = some_supply now p.distinct in
        comes_as some.0 ds some.1 some.2 ∙ sym (ap (λ es. made ++ es) (behind_is some.0 ds some.1 some.2))

-- ---- worlds

module _ (w v : World) (script : List (Node × ℕ)) (taken : List Arrival) (made : List Entry) (o m : Machine) (old new : PoolView) (s t : State)
    (wo : w.machine ≡ Some o) (vm : v.machine ≡ Some m) (ws : w.script ≡ script) (vs : v.script ≡ script)
    (runs : IsRunning w old) (s_is : s ≡ state_over o (heap_in o.seat old)) (r : Between (nodes_of script) taken made s t) (fits : IsClosed (nodes_of script) t) (p : Parts t m new) where
  at_old : Turning (nodes_of script) o old
  at_old = subst (λ x. Turning (nodes_of x) o old) ws (running_at w old o wo runs)

  into : (coming : List Arrival → List Entry) → IsComing w old coming → Promises (nodes_of script) o (values_of old.maps o.seat.owner) coming
  into coming c = subst (λ x. Promises (nodes_of x) o (values_of old.maps o.seat.owner) coming) ws (promises_by w old o coming wo c)

  counted_by : (count : List Arrival → ℕ) → IsFilling w old count → Counts (nodes_of script) o (values_of old.maps o.seat.owner) count
  counted_by count c = subst (λ x. Counts (nodes_of x) o (values_of old.maps o.seat.owner) count) ws (counts_by w old o count wo c)

  at_new : Turning (nodes_of v.script) m new
  at_new = subst (λ x. Turning (nodes_of x) m new) (sym vs) (turning (nodes_of script) taken made o m old new s t at_old s_is r fits p)

  passes : Passes taken made w old v new
  passes = record {
    runs = running_by v new m vm at_new;
    law = λ coming ds c. law (nodes_of script) taken made o m old new s t at_old s_is r fits p coming (into coming c) ds;
    comes = λ coming c. coming_by v new m _ vm (subst (λ x. Promises (nodes_of x) m (values_of new.maps m.seat.owner) (λ ds. drop (length made) (coming (taken ++ ds)))) (sym vs) (comes (nodes_of script) taken made o m old new s t at_old s_is r fits p coming (into coming c)));
    fills = λ count c. filling_by v new m _ vm (subst (λ x. Counts (nodes_of x) m (values_of new.maps m.seat.owner) (λ ds. count (taken ++ ds))) (sym vs) (fills (nodes_of script) taken made o m old new s t at_old s_is r fits p count (counted_by count c)));
    owner = owner_by v m vm ∙ ap Some (owner (nodes_of script) taken made o m old new s t at_old s_is r fits p) ∙ sym (owner_by w o wo);
    spares = spares_without w o.seat.owner old new (owner_by w o wo) (others (nodes_of script) taken made o m old new s t at_old s_is r fits p) (omega (arith, given (nodes_of script) taken made o m old new s t at_old s_is r fits p));
    given = given (nodes_of script) taken made o m old new s t at_old s_is r fits p;
    count = count (nodes_of script) taken made o m old new s t at_old s_is r fits p;
  }

  -- behind a stop
  stopped : (first : List Entry) (stop : Stop) → made ≡ first ++ entry.Product (products.Stopped stop) ∷ [] → (coming : List Arrival → List Entry) (ds : List Arrival) → IsComing v new coming → coming ds ≡ []
  stopped first stop e coming ds c =
      let cells = values_of new.maps m.seat.owner in
      let some = some_supply cells p.distinct in
      let es = coming_from (nodes_of script) some.0 m cells ds in
      let promised = subst (λ x. Promises (nodes_of x) m cells coming) vs (promises_by v new m coming vm c) in
      let here : Turns at_old.inside (made ++ es) = turn (nodes_of script) taken made o m old new s t at_old s_is r fits p some.0 ds some.2 in
      sym (promised some.0 ds some.1 some.2)
      ∙ none_after at_old.inside first es stop (subst (Turns at_old.inside) (ap (λ xs. xs ++ es) e ∙ append_assoc first (entry.Product (products.Stopped stop) ∷ []) es) here)

  -- where the machine doesn't run
  rests : is_running t.control ≡ false → Rests v new
  rests ends =
      let cells = values_of new.maps m.seat.owner in
      let waits : is_running m.control ≡ false = ap (λ (x : State). is_running x.control) p.state ∙ ends in
      let some = some_supply cells p.distinct in
      record {
        stands = in_by v new m vm (sits_from (nodes_of v.script) m new at_new waits);
        quiet = λ coming c. sym (promises_by v new m coming vm c some.0 [] some.1 some.2) ∙ quiet (nodes_of v.script) some.0 (state_over m (heap_in m.seat new)) waits;
        size = λ count c. size_by v new m vm ∙ sym (still (nodes_of v.script) some.0 (state_over m (heap_in m.seat new)) waits) ∙ counts_by v new m count vm c some.0 [] some.1 some.2;
      }

-- one after another
pub passes_on : (taken : List Arrival) (first more : List Entry) (u v w : World) (old mid new : PoolView) → Passes taken first u old v mid → Passes [] more v mid w new → Passes taken (first ++ more) u old w new
passes_on taken first more u v w old mid new p q =
    let next : (List Arrival → List Entry) → List Arrival → List Entry = λ coming ds. drop (length first) (coming (taken ++ ds)) in
    let whole : (coming : List Arrival → List Entry) (ds : List Arrival) → IsComing u old coming → coming (taken ++ ds) ≡ (first ++ more) ++ drop (length more) (next coming ds) = λ coming ds c.
    p.law coming ds c ∙ ap (λ es. first ++ es) (q.law (next coming) ds (p.comes coming c)) ∙ sym (append_assoc first more (drop (length more) (next coming ds))) in
    let behind : (coming : List Arrival → List Entry) (ds : List Arrival) → IsComing u old coming → drop (length (first ++ more)) (coming (taken ++ ds)) ≡ drop (length more) (next coming ds) = λ coming ds c.
    ap (drop (length (first ++ more))) (whole coming ds c) ∙ drop_front (first ++ more) (drop (length more) (next coming ds)) in
    record {
      runs = q.runs;
      law = λ coming ds c. whole coming ds c ∙ sym (ap (λ es. (first ++ more) ++ es) (behind coming ds c));
      comes = λ coming c. subst (IsComing w new) (λ i ds. sym (behind coming ds c) i) (q.comes (next coming) (p.comes coming c));
      fills = λ cells c. q.fills (λ ds. cells (taken ++ ds)) (p.fills cells c);
      owner = q.owner ∙ p.owner;
      spares = λ x apart h.
          let s = p.spares x apart h in
          let t = q.spares x (λ e. apart (e ∙ p.owner)) s.stands in
          record {
            stands = t.stands;
            comes = λ coming c. t.comes coming (s.comes coming c);
            fills = λ cells c. t.fills cells (s.fills cells c);
            size = t.size ∙ s.size;
          };
      given = q.given ∙ p.given;
      count = q.count ∙ p.count;
    }

-- what is made up to the rest is all that comes of the deliveries
pub all_made : (taken : List Arrival) (made : List Entry) (u v : World) (old new : PoolView) → Passes taken made u old v new → Rests v new → (coming : List Arrival → List Entry) → IsComing u old coming → coming (taken ++ []) ≡ made
all_made taken made u v old new p r coming c =
    p.law coming [] c ∙ ap (λ es. made ++ es) (r.quiet _ (p.comes coming c)) ∙ append-nil made

-- ---- what `advance` and `begin` do

left_by : (w : World) (m : Machine) → w.machine ≡ Some m → turns_left w ≡ work (state_with m [])
unfolding turns_left
left_by w m e = ap (λ x. option_map_or (λ (n : Machine). work (state_with n [])) x 0) e

module _ (w v : World) (script : List (Node × ℕ)) (o m : Machine) (old new : PoolView) (s t : State)
    (wo : w.machine ≡ Some o) (vm : v.machine ≡ Some m) (ws : w.script ≡ script) (vs : v.script ≡ script)
    (runs : IsRunning w old) (s_is : s ≡ state_over o (heap_in o.seat old)) (fits : IsClosed (nodes_of script) t) (p : Parts t m new) where
  pub advanced : (made : Option Product) → MakesNext (nodes_of script) s made t → GoesOn [] [] w old made v new
  advanced (Some product) r =
      let b = by_makes (nodes_of script) (product ∷ []) s t r.0 in (
        passes w v script [] (entry.Product product ∷ []) o m old new s t wo vm ws vs runs s_is b fits p,
        λ coming stop ds e c. stopped w v script [] (entry.Product product ∷ []) o m old new s t wo vm ws vs runs s_is b fits p [] stop (ap (λ x. entry.Product x ∷ []) e) coming ds c,
      )
  advanced None r =
      let b = by_makes (nodes_of script) [] s t r.0 in (
        passes w v script [] [] o m old new s t wo vm ws vs runs s_is b fits p,
        rests w v script [] [] o m old new s t wo vm ws vs runs s_is b fits p r.1,
      )

  pub fell : (made : Option Product) → MakesNext (nodes_of script) s made t → IsSome made → turns_left v < turns_left w
  fell (Some product) r is =
      let was : work s ≡ work (state_with o []) = ap work s_is in
      let is_now : work (state_with m []) ≡ work t = ap work p.state in
      omega (arith, r.1, was, is_now, left_by w o wo, left_by v m vm)
  fell None r is = absurd (cc)

  pub began : (d : Arrival) (made : Option Product) → BeginsWith (nodes_of script) d s made t → GoesOn (d ∷ []) (entry.Delivery d.fresh d.what ∷ []) w old made v new
  began d (Some product) r =
      let made : List Entry = entry.Delivery d.fresh d.what ∷ entry.Product product ∷ [] in
      let b = by_begins (nodes_of script) d (product ∷ []) s t r in (
        passes w v script (d ∷ []) made o m old new s t wo vm ws vs runs s_is b fits p,
        λ coming stop ds e c. stopped w v script (d ∷ []) made o m old new s t wo vm ws vs runs s_is b fits p (entry.Delivery d.fresh d.what ∷ []) stop (ap (λ x. entry.Delivery d.fresh d.what ∷ entry.Product x ∷ []) e) coming ds c,
      )
  began d None r =
      let made : List Entry = entry.Delivery d.fresh d.what ∷ [] in
      let b = by_begins (nodes_of script) d [] s t r.0 in (
        passes w v script (d ∷ []) made o m old new s t wo vm ws vs runs s_is b fits p,
        rests w v script (d ∷ []) made o m old new s t wo vm ws vs runs s_is b fits p r.1,
      )
