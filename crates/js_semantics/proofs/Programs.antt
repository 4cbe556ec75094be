-- Laws of programs, whatever their rows are: what a machine needs that takes one step after another.
use Rattle.std.proofs.Common.{◌≡◌, ◌≢◌, ℕ, zero, suc, ◌-◌, ◌≤◌, List, refl, sym, ap, ◌∙◌, arith}
use mathlib.Core.Path.{fun_ext}
use Rattle.world_log.specs.declared.entry.Entry.TheVariants as entry
use Rattle.world_log.specs.declared.entry.Product.TheVariants.{Stopped}
use Rattle.world_log.specs.declared.entry.Stop.TheVariants.{Fuel, Places}
use Rattle.js_semantics.specs.World.{World}
use Rattle.js_semantics.specs.Prog.{Prog, Cont, End, Over, Make, Read, Write, Place, Enter, Await, Request, bind, count_places}
use Rattle.js_semantics.specs.Rows.{row}
use Rattle.js_semantics.specs.Run.{Arrival, Then, Cut, Budget, Waiting, run_with}

module _ {L : Type 0} where
  -- two continuations, one after the other
  pub bind_assoc : (p : Prog L) (j k : Cont L) → bind (bind p j) k ≡ bind p (λ o. bind (j o) k)
  bind_assoc (End o) j k = refl
  bind_assoc Over j k = refl
  bind_assoc (Enter r i) j k = ap (λ c. Enter r c) (fun_ext (λ o. bind_assoc (i o) j k))
  bind_assoc (Make e p) j k = ap (λ q. Make e q) (bind_assoc p j k)
  bind_assoc (Read i) j k = ap (λ c. Read c) (fun_ext (λ w. bind_assoc (i w) j k))
  bind_assoc (Write w p) j k = ap (λ q. Write w q) (bind_assoc p j k)
  bind_assoc (Place p) j k = ap (λ q. Place q) (bind_assoc p j k)
  bind_assoc (Await m i) j k = ap (λ c. Await m c) (fun_ext (λ o. bind_assoc (i o) j k))

  module _ (ds : List Arrival) (later : ℕ → ℕ → Waiting L) where
    -- entering takes one step where one is left
    pub spend_some : (b : Budget) (r : Request L) (k : Cont L) (w : World L) → b.steps ≢ 0 → run_with ds later b w (Enter r k) ≡ run_with ds later (record b { steps = b.steps - 1 }) w (bind (row r) k)
    spend_some b r k w h = go b.steps h
      where
        go : (steps : ℕ) → steps ≢ 0 → run_with ds later (record b { steps = steps }) w (Enter r k) ≡ run_with ds later (record b { steps = steps - 1 }) w (bind (row r) k)
        go zero h = absurd (h refl)
        go (suc n) h =
            let e : suc n - 1 ≡ n = omega arith in
            sym (ap (λ m. run_with ds later (record b { steps = m }) w (bind (row r) k)) e)

    -- and the world stops where none is
    pub spend_none : (b : Budget) (r : Request L) (k : Cont L) (w : World L) → b.steps ≡ 0 → run_with ds later b w (Enter r k) ≡ Then (entry.Product (Stopped Fuel)) (Cut w)
    spend_none b r k w h = ap (λ n. run_with ds later (record b { steps = n }) w (Enter r k)) h

    -- a place is counted where one is left
    pub place_some : (b : Budget) (p : Prog L) (w : World L) → b.places ≢ 0 → run_with ds later b w (Place p) ≡ run_with ds later (record b { places = b.places - 1 }) w p
    place_some b p w h = go b.places h
      where
        go : (n : ℕ) → n ≢ 0 → run_with ds later (record b { places = n }) w (Place p) ≡ run_with ds later (record b { places = n - 1 }) w p
        go zero h = absurd (h refl)
        go (suc n) h =
            let e : suc n - 1 ≡ n = omega arith in
            sym (ap (λ m. run_with ds later (record b { places = m }) w p) e)

    -- and the world stops where none is
    pub place_none : (b : Budget) (p : Prog L) (w : World L) → b.places ≡ 0 → run_with ds later b w (Place p) ≡ Then (entry.Product (Stopped Places)) (Cut w)
    place_none b p w h = ap (λ n. run_with ds later (record b { places = n }) w (Place p)) h

    -- places are counted where as many are left
    pub places_some : (m : ℕ) (b : Budget) (p : Prog L) (w : World L) → m ≤ b.places → run_with ds later b w (count_places m p) ≡ run_with ds later (record b { places = b.places - m }) w p
    places_some zero b p w h =
        let e : b.places - 0 ≡ b.places = omega arith in
        sym (ap (λ n. run_with ds later (record b { places = n }) w p) e)
    places_some (suc m) b p w h =
        let e : b.places - 1 - m ≡ b.places - suc m = omega arith in
        place_some b (count_places m p) w (λ z. absurd (omega arith))
        ∙ places_some m (record b { places = b.places - 1 }) p w (omega arith)
        ∙ ap (λ n. run_with ds later (record b { places = n }) w p) e

  pub count_bind : (m : ℕ) (p : Prog L) (k : Cont L) → bind (count_places m p) k ≡ count_places m (bind p k)
  count_bind zero p k = refl
  count_bind (suc m) p k = ap (λ q. Place q) (count_bind m p k)
