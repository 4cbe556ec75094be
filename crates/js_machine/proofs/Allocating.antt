-- How cells are made, and places and units counted.
use Rattle.std.proofs.Common.{◌≡◌, ◌≢◌, ℕ, suc, zero, ◌+◌, ◌*◌, ◌-◌, ◌≤◌, ◌<◌, List, [], ◌∷◌, ◌++◌, length, Some, None, Bool, true, false, if◌then◌else◌, IfOk, Result, Ok, Err, nat_lt, refl, sym, ap, ◌∙◌, arith}
use Rattle.std.proofs.lemmas.Bool.Decides.{nat_tests}
use Rattle.js_tree.specs.declared.node.Node.{Node}
use Rattle.world_heap.specs.declared.cell.Cell.{Cell}
use Rattle.world_heap.specs.declared.cell.Cell.TheVariants.{Object, Array, Closure, Native, Far, Error, Map, Set, Promise, Port, Buffer, View, Symbol, Env}
use Rattle.world_heap.specs.declared.limits.Counts.{Counts}
use Rattle.world_heap.specs.declared.limits.HeapFault.TheVariants as full
use Rattle.world_heap.specs.Heaps.{places_of, units_of}
use Rattle.world_heap.specs.Views.{Bounds}
use Rattle.world_heap.specs.Growth.{first_full, counts_with}
use Rattle.js_semantics.specs.declared.fault.StepFault.{StepFault}
use Rattle.js_semantics.specs.World.{World, limited}
use Rattle.js_semantics.specs.Prog.{Prog, Read, Write, bind, alloc, placed, halt, with_new, count_places, count_units}
use Rattle.js_semantics.specs.Run.{Arrival, Budget, Then, Cut, receive, run}
use Rattle.world_log.specs.declared.entry.Entry.TheVariants as entry
use Rattle.world_log.specs.declared.entry.Product.TheVariants.{Stopped}
use Rattle.world_log.specs.declared.entry.Stop.{Stop}
use Rattle.world_log.specs.declared.entry.Stop.TheVariants.{Fuel, Cells, Places, Units}
use Rattle.js_semantics.proofs.Programs.{places_some, place_some, place_none, count_bind}
use Rattle.js_machine.specs.declared.state.State.{State}
use Rattle.js_machine.specs.declared.state.Next.{Next}
use Rattle.js_machine.specs.declared.state.Next.TheVariants.{Made}
use Rattle.js_machine.specs.Does.{Follows, world_of, budget_of, stack_rest, to_come, after, weights, work, left, Does, Moves, Allocates, CountsUnits}
use Rattle.js_machine.proofs.Doing.{does_move_ok}

-- the first locations follow the supply, and so does the last
pub follows_push : (supply : ℕ → ℕ) (n : ℕ) (cells : List (ℕ × Cell ℕ)) (loc : ℕ) (cell : Cell ℕ) → Follows supply n (cells ++ (loc, cell) ∷ []) → Follows supply n cells × (loc ≡ supply (n + length cells))
follows_push supply n [] loc cell f =
    let e : n + 0 ≡ n = omega arith in
    (tt, f.0 ∙ sym (ap supply e))
follows_push supply n (c ∷ cs) loc cell f =
    let h = follows_push supply (suc n) cs loc cell f.1 in
    let e : suc n + length cs ≡ n + suc (length cs) = omega arith in
    ((f.0, h.0), h.1 ∙ ap supply e)

-- which counts pass no limit
full_none : (b : Bounds) (c : Counts) → first_full b c ≡ None → (c.cells ≤ b.cells) × (c.places ≤ b.places) × (c.units ≤ b.units)
full_none b c h = go (nat_lt b.cells c.cells) refl (nat_lt b.places c.places) refl (nat_lt b.units c.units) refl h
  where
    go : (x : Bool) → nat_lt b.cells c.cells ≡ x → (y : Bool) → nat_lt b.places c.places ≡ y → (z : Bool) → nat_lt b.units c.units ≡ z → (if x then Some full.Cells else if y then Some full.Places else if z then Some full.Units else None) ≡ None → (c.cells ≤ b.cells) × (c.places ≤ b.places) × (c.units ≤ b.units)
    go true e y f z g k = absurd (cc)
    go false e true f z g k = absurd (cc)
    go false e false f true g k = absurd (cc)
    go false e false f false g k = (grind (arith, nat_tests), grind (arith, nat_tests), grind (arith, nat_tests))

full_cells : (b : Bounds) (c : Counts) → first_full b c ≡ Some full.Cells → b.cells < c.cells
full_cells b c h = go (nat_lt b.cells c.cells) refl (nat_lt b.places c.places) (nat_lt b.units c.units) h
  where
    go : (x : Bool) → nat_lt b.cells c.cells ≡ x → (y z : Bool) → (if x then Some full.Cells else if y then Some full.Places else if z then Some full.Units else None) ≡ Some full.Cells → b.cells < c.cells
    go true e y z k = grind (arith, nat_tests)
    go false e true z k = absurd (cc)
    go false e false true k = absurd (cc)
    go false e false false k = absurd (cc)

full_places : (b : Bounds) (c : Counts) → first_full b c ≡ Some full.Places → (c.cells ≤ b.cells) × (b.places < c.places)
full_places b c h = go (nat_lt b.cells c.cells) refl (nat_lt b.places c.places) refl (nat_lt b.units c.units) h
  where
    go : (x : Bool) → nat_lt b.cells c.cells ≡ x → (y : Bool) → nat_lt b.places c.places ≡ y → (z : Bool) → (if x then Some full.Cells else if y then Some full.Places else if z then Some full.Units else None) ≡ Some full.Places → (c.cells ≤ b.cells) × (b.places < c.places)
    go true e y f z k = absurd (cc)
    go false e true f z k = (grind (arith, nat_tests), grind (arith, nat_tests))
    go false e false f true k = absurd (cc)
    go false e false f false k = absurd (cc)

-- a location is there exactly below the limit of cells
limited_some : (supply : ℕ → ℕ) (n cells : ℕ) → n < cells → limited cells supply n ≡ Some (supply n)
limited_some supply n cells h =
    let e : nat_lt n cells ≡ true = grind (arith, nat_tests) in ap (λ b. if b then Some (supply n) else None) e

limited_none : (supply : ℕ → ℕ) (n cells : ℕ) → cells ≤ n → limited cells supply n ≡ None
limited_none supply n cells h =
    let e : nat_lt n cells ≡ false = grind (arith, nat_tests) in ap (λ b. if b then Some (supply n) else None) e

-- a cell is made
pub moves_alloc : (nodes : List Node) (cell : Cell ℕ) (k : ℕ → Prog ℕ) (old mid : State) (loc : ℕ) → units_of cell ≡ 0 → Allocates cell old mid (Ok loc) → Moves nodes (alloc cell k) old (k loc) mid
unfolding alloc run
moves_alloc nodes cell k old mid loc free (counted, room, is, fresh) =
    let grew : State = record old { heap = record old.heap { cells = old.heap.cells ++ (loc, cell) ∷ []; counts = counts_with old.heap.counts cell } } in
    let fits = full_none old.heap.limits (counts_with old.heap.counts cell) room in
    let some : places_of cell ≤ old.heap.limits.places - old.heap.counts.places = omega arith in
    let place : old.heap.limits.places - (old.heap.counts.places + places_of cell) ≡ old.heap.limits.places - old.heap.counts.places - places_of cell = omega arith in
    let zeroth : 0 + length old.heap.cells ≡ length old.heap.cells = omega arith in
    let unit : old.heap.counts.units + units_of cell ≡ old.heap.counts.units = omega arith in
    rw is (record {
      law = λ supply ds j follows.
          let w = world_of nodes supply old in
          let b = budget_of old in
          let at = follows_push supply 0 old.heap.cells loc cell follows in
          let here : w.supply (length w.heap) ≡ Some loc = limited_some supply (length old.heap.cells) (old.heap.base + old.heap.limits.cells) (omega arith) ∙ ap (λ l. Some l) (sym (at.1 ∙ ap supply zeroth)) in
          ap (λ o. run ds b w (bind (placed o cell k) j)) here
          ∙ ap (λ p. run ds b w p) (count_bind (places_of cell) (Read (λ v. Write (with_new loc cell v) (k loc))) j)
          ∙ places_some ds (receive ds) (places_of cell) b (bind (Read (λ v. Write (with_new loc cell v) (k loc))) j) w some
          ∙ sym (ap (λ n. run ds (record b { places = n }) (with_new loc cell w) (bind (k loc) j)) place)
          ∙ sym (ap (λ u. run ds (budget_of grew) (record (with_new loc cell w) { units = u }) (bind (k loc) j)) unit);
      frames = refl;
      left = omega arith;
      keeps = λ supply follows. (follows_push supply 0 old.heap.cells loc cell follows).0;
      stays = refl;
    })

pub does_alloc_ok : (nodes : List Node) (n : ℕ) (cell : Cell ℕ) (k : ℕ → Prog ℕ) (old mid new : State) (loc : ℕ) (r : Result Next StepFault) → units_of cell ≡ 0 → Allocates cell old mid (Ok loc) → IfOk r (λ next. Does nodes n (k loc) mid new next) → IfOk r (λ next. Does nodes n (alloc cell k) old new next)
does_alloc_ok nodes n cell k old mid new loc r free h = does_move_ok nodes n _ _ old mid new r (moves_alloc nodes cell k old mid loc free h)

-- no cell can be made: the first count that would pass its limit is told
pub not_alloc_cells : (nodes : List Node) (n : ℕ) (cell : Cell ℕ) (k : ℕ → Prog ℕ) (old new : State) → 1 ≤ n → Allocates cell old new (Err Cells) → Does nodes n (alloc cell k) old new (Made (Stopped Cells))
unfolding alloc run
not_alloc_cells nodes n cell k old new some (counted, room, is) =
    let above = full_cells old.heap.limits (counts_with old.heap.counts cell) room in
    record {
      law = λ supply ds follows.
          let w = world_of nodes supply old in
          let here : w.supply (length w.heap) ≡ None = limited_none supply (length old.heap.cells) (old.heap.base + old.heap.limits.cells) (omega arith) in
          ap (λ o. run ds (budget_of old) w (bind (placed o cell k) (stack_rest nodes old))) here
          ∙ sym (ap (λ s. after (Stopped Cells ∷ []) (to_come nodes supply s ds)) is);
      falls = let e : work new ≡ 32 * left old + weights old.frames.items + 0 = ap work is in omega arith;
      keeps = λ supply f. rw is at f;
      stays = ap (λ s. s.heap) is ∙ sym (ap (λ s. record old.heap { cells = s.heap.cells; counts = s.heap.counts }) is);
    }

-- the world stops where fewer places are left than are counted
places_none : (ds : List Arrival) (m : ℕ) (b : Budget) (p : Prog ℕ) (w : World ℕ) → b.places < m → run ds b w (count_places m p) ≡ Then (entry.Product (Stopped Places)) (Cut w)
unfolding run
places_none ds zero b p w h = absurd (omega arith)
places_none ds (suc m) b p w h = go b.places refl (λ some. places_none ds m (record b { places = b.places - 1 }) p w (omega arith))
  where
    go : (n : ℕ) → b.places ≡ n → (b.places ≢ 0 → run ds (record b { places = b.places - 1 }) w (count_places m p) ≡ Then (entry.Product (Stopped Places)) (Cut w)) → run ds b w (count_places (suc m) p) ≡ Then (entry.Product (Stopped Places)) (Cut w)
    go zero z next = place_none ds (receive ds) b (count_places m p) w z
    go (suc n) z next =
        let some : b.places ≢ 0 = λ y. absurd (omega arith) in
        place_some ds (receive ds) b (count_places m p) w some ∙ next some

-- each cell takes a place
some_place : (cell : Cell ℕ) → 1 ≤ places_of cell
some_place (Object b) = omega arith
some_place (Array p vs f) = omega arith
some_place (Closure b n e r) = omega arith
some_place (Native b i vs) = omega arith
some_place (Far b n) = omega arith
some_place (Error b k) = omega arith
some_place (Map b es) = omega arith
some_place (Set b vs) = omega arith
some_place (Promise b s rs) = omega arith
some_place (Port b n h ms cs) = omega arith
some_place (Buffer b bs) = omega arith
some_place (View b l o n) = omega arith
some_place (Symbol t) = omega arith
some_place (Env o bs) = omega arith

pub not_alloc_places : (nodes : List Node) (n : ℕ) (cell : Cell ℕ) (k : ℕ → Prog ℕ) (old new : State) → 1 ≤ n → Allocates cell old new (Err Places) → Does nodes n (alloc cell k) old new (Made (Stopped Places))
unfolding alloc run
not_alloc_places nodes n cell k old new some (counted, room, is) =
    let above = full_places old.heap.limits (counts_with old.heap.counts cell) room in
    let one = some_place cell in
    let less : old.heap.limits.places - old.heap.counts.places < places_of cell = omega arith in
    record {
      law = λ supply ds follows.
          let w = world_of nodes supply old in
          let j = stack_rest nodes old in
          let loc = supply (length old.heap.cells) in
          let here : w.supply (length w.heap) ≡ Some loc = limited_some supply (length old.heap.cells) (old.heap.base + old.heap.limits.cells) (omega arith) in
          ap (λ o. run ds (budget_of old) w (bind (placed o cell k) j)) here
          ∙ ap (λ p. run ds (budget_of old) w p) (count_bind (places_of cell) (Read (λ v. Write (with_new loc cell v) (k loc))) j)
          ∙ places_none ds (places_of cell) (budget_of old) (bind (Read (λ v. Write (with_new loc cell v) (k loc))) j) w less
          ∙ sym (ap (λ s. after (Stopped Places ∷ []) (to_come nodes supply s ds)) is);
      falls = let e : work new ≡ 32 * left old + weights old.frames.items + 0 = ap work is in omega arith;
      keeps = λ supply f. rw is at f;
      stays = ap (λ s. s.heap) is ∙ sym (ap (λ s. record old.heap { cells = s.heap.cells; counts = s.heap.counts }) is);
    }

-- units are counted, and the row goes on
pub moves_units : (nodes : List Node) (units : ℕ) (p : Prog ℕ) (old mid : State) → CountsUnits units old mid true → Moves nodes (count_units units p) old p mid
unfolding count_units run
moves_units nodes units p old mid (fits, is) =
    let full : nat_lt old.heap.limits.units (old.heap.counts.units + units) ≡ false = grind (arith, nat_tests) in
    let place : old.heap.counts.places + 0 ≡ old.heap.counts.places = omega arith in
    rw is (record {
      law = λ supply ds k follows.
          let w = world_of nodes supply old in
          ap (λ b. run ds (budget_of old) w (bind (if b then halt Units else Write (record w { units = w.units + units }) p) k)) full
          ∙ sym (ap (λ n. run ds (record (budget_of old) { places = old.heap.limits.places - n }) (record w { units = w.units + units }) (bind p k)) place);
      frames = refl;
      left = omega arith;
      keeps = λ supply f. f;
      stays = refl;
    })

pub does_units_ok : (nodes : List Node) (n units : ℕ) (p : Prog ℕ) (old mid new : State) (r : Result Next StepFault) → CountsUnits units old mid true → IfOk r (λ next. Does nodes n p mid new next) → IfOk r (λ next. Does nodes n (count_units units p) old new next)
does_units_ok nodes n units p old mid new r h = does_move_ok nodes n _ _ old mid new r (moves_units nodes units p old mid h)

-- the world stops where they would pass the limit
pub does_not_units : (nodes : List Node) (n units : ℕ) (p : Prog ℕ) (old new : State) → 1 ≤ n → CountsUnits units old new false → Does nodes n (count_units units p) old new (Made (Stopped Units))
unfolding count_units run
does_not_units nodes n units p old new some (more, is) =
    let full : nat_lt old.heap.limits.units (old.heap.counts.units + units) ≡ true = grind (arith, nat_tests) in
    record {
      law = λ supply ds follows.
          let w = world_of nodes supply old in
          ap (λ b. run ds (budget_of old) w (bind (if b then halt Units else Write (record w { units = w.units + units }) p) (stack_rest nodes old))) full
          ∙ sym (ap (λ s. after (Stopped Units ∷ []) (to_come nodes supply s ds)) is);
      falls = let e : work new ≡ 32 * left old + weights old.frames.items + 0 = ap work is in omega arith;
      keeps = λ supply f. rw is at f;
      stays = ap (λ s. s.heap) is ∙ sym (ap (λ s. record old.heap { cells = s.heap.cells; counts = s.heap.counts }) is);
    }

-- no cell can be made, whichever count would pass its limit
pub not_alloc : (nodes : List Node) (n : ℕ) (cell : Cell ℕ) (k : ℕ → Prog ℕ) (old new : State) (stop : Stop) → 1 ≤ n → Allocates cell old new (Err stop) → Does nodes n (alloc cell k) old new (Made (Stopped stop))
not_alloc nodes n cell k old new Fuel some h = absurd h
not_alloc nodes n cell k old new Cells some h = not_alloc_cells nodes n cell k old new some h
not_alloc nodes n cell k old new Places some h = not_alloc_places nodes n cell k old new some h
not_alloc nodes n cell k old new Units some h = absurd h
