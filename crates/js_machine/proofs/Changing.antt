-- What a change of the heap's cells is to a row.
use Rattle.std.proofs.Common.{◌≡◌, ℕ, suc, ◌≤◌, ◌<◌, List, [], ◌∷◌, Result, IfOk, Option, Some, None, Bool, true, false, if◌then◌else◌, nat_lt, refl, sym, ap, ◌∙◌, arith}
use Rattle.std.proofs.lemmas.Bool.Decides.{nat_tests}
use Rattle.js_tree.specs.declared.node.Node.{Node}
use Rattle.world_heap.specs.declared.value.Value.{Value}
use Rattle.world_heap.specs.declared.cell.Binding.{Binding}
use Rattle.world_heap.specs.declared.cell.Cell.{Cell}
use Rattle.world_heap.specs.declared.cell.Cell.TheVariants as cells
use Rattle.world_heap.specs.declared.limits.Counts.{Counts}
use Rattle.world_heap.specs.declared.limits.Full.TheVariants.{Places as FullPlaces, Units as FullUnits}
use Rattle.world_heap.specs.Growth.{first_passed}
use Rattle.world_heap.specs.Maps.{keys, put}
use Rattle.world_heap.specs.Views.{Bounds, HeapView}
use Rattle.js_semantics.specs.declared.fault.StepFault.{StepFault}
use Rattle.js_semantics.specs.World.{World, over, cell_at}
use Rattle.js_semantics.specs.Prog.{Prog, change, bind}
use Rattle.js_semantics.specs.Environments.{bind_in, binding_of, bound_in, fill_name, rebound}
use Rattle.js_semantics.specs.Run.{run}
use Rattle.js_machine.specs.declared.state.State.{State}
use Rattle.js_machine.specs.declared.state.Next.{Next}
use Rattle.js_machine.specs.Does.{Follows, budget_of, world_of, Does, Moves}
use Rattle.js_machine.proofs.Doing.{does_move_ok}

-- whether locations follow the supply is told by the locations alone
pub follows_keys : (supply : ℕ → ℕ) (n : ℕ) (xs ys : List (ℕ × Cell ℕ)) → keys xs ≡ keys ys → Follows supply n xs → Follows supply n ys
follows_keys supply n [] [] is f = tt
follows_keys supply n [] (y ∷ ys) is f = absurd (cc)
follows_keys supply n (x ∷ xs) [] is f = absurd (cc)
follows_keys supply n (x ∷ xs) (y ∷ ys) is f =
    let first : x.0 ≡ y.0 = cc in
    let others : keys xs ≡ keys ys = cc in
    (sym first ∙ f.0, follows_keys supply (suc n) xs ys others f.1)

-- which counts pass no limit, and which pass that of places
pub passed_none : (b : Bounds) (c : Counts) → first_passed b c ≡ None → c.places ≤ b.places
passed_none b c h = go (nat_lt b.places c.places) refl (nat_lt b.units c.units) h
  where
    go : (x : Bool) → nat_lt b.places c.places ≡ x → (y : Bool) → (if x then Some FullPlaces else if y then Some FullUnits else None) ≡ None → c.places ≤ b.places
    go true e y k = absurd (cc)
    go false e y k = grind (arith, nat_tests)

pub passed_places : (b : Bounds) (c : Counts) → first_passed b c ≡ Some FullPlaces → b.places < c.places
passed_places b c h = go (nat_lt b.places c.places) refl (nat_lt b.units c.units) h
  where
    go : (x : Bool) → nat_lt b.places c.places ≡ x → (y : Bool) → (if x then Some FullPlaces else if y then Some FullUnits else None) ≡ Some FullPlaces → b.places < c.places
    go true e y k = grind (arith, nat_tests)
    go false e true k = absurd (cc)
    go false e false k = absurd (cc)

-- the world of a state, once its cells were changed
pub moves_change : (nodes : List Node) (f : World ℕ → World ℕ) (p : Prog ℕ) (old mid : State) (heap : HeapView) → mid ≡ record old { heap = heap } → heap ≡ record old.heap { cells = heap.cells } → ((w : World ℕ) → over heap w ≡ f (over old.heap w)) → ((w : World ℕ) → keys (f w).heap ≡ keys w.heap) → Moves nodes (change f p) old p mid
unfolding run
moves_change nodes f p old mid heap is rest to same =
    let w : (ℕ → ℕ) → World ℕ = λ supply. world_of nodes supply old in
    let there : (supply : ℕ → ℕ) → f (w supply) ≡ world_of nodes supply (record old { heap = record old.heap { cells = heap.cells } }) =
    λ supply. sym (to (w supply)) ∙ ap (λ (h : HeapView). over h (w supply)) rest in
    let alike : keys heap.cells ≡ keys old.heap.cells = ap (λ (v : World ℕ). keys v.heap) (to (w (λ n. n))) ∙ same (over old.heap (w (λ n. n))) in
    rw (is, rest) (record {
      law = λ supply ds k follows. ap (λ v. run ds (budget_of old) v (bind p k)) (there supply);
      frames = refl;
      left = omega arith;
      keeps = λ supply follows. follows_keys supply 0 heap.cells old.heap.cells alike follows;
      stays = refl;
    })

pub does_change_ok : (nodes : List Node) (n : ℕ) (f : World ℕ → World ℕ) (p : Prog ℕ) (old mid new : State) (heap : HeapView) (r : Result Next StepFault) → mid ≡ record old { heap = heap } → heap ≡ record old.heap { cells = heap.cells } → ((w : World ℕ) → over heap w ≡ f (over old.heap w)) → ((w : World ℕ) → keys (f w).heap ≡ keys w.heap) → IfOk r (λ next. Does nodes n p mid new next) → IfOk r (λ next. Does nodes n (change f p) old new next)
does_change_ok nodes n f p old mid new heap r is rest to same = does_move_ok nodes n (change f p) p old mid new r (moves_change nodes f p old mid heap is rest to same)

-- another cell at a location is no new location
put_keys : (same : ℕ → ℕ → Bool) (cs : List (ℕ × Cell ℕ)) (l : ℕ) (d : Cell ℕ) → keys (put same cs l d) ≡ keys cs
put_keys same [] l d = refl
put_keys same (c ∷ cs) l d =
    elim (same c.0 l) as (λ b. keys (if b then (c.0, d) ∷ cs else c ∷ put same cs l d) ≡ c.0 ∷ keys cs) [
      | true ↦ refl
      | false ↦ ap (λ ks. c.0 ∷ ks) (put_keys same cs l d)
    ]

-- a binding that gets a value makes no cell
bound_keys : (found : Option (Cell ℕ)) (env : ℕ) (name : List ℕ) (v : Value ℕ) (w : World ℕ) → keys (bound_in found env name v w).heap ≡ keys w.heap
bound_keys (Some (cells.Env outer bindings)) env name v w = put_keys w.same w.heap env (cells.Env outer (rebound bindings name v))
bound_keys other env name v w = refl

pub bind_keys : (env : ℕ) (name : List ℕ) (v : Value ℕ) (w : World ℕ) → keys (bind_in env name v w).heap ≡ keys w.heap
bind_keys env name v w = bound_keys (cell_at env w) env name v w

pub fill_keys : (env : ℕ) (name : List ℕ) (v : Value ℕ) (w : World ℕ) → keys (fill_name env name v w).heap ≡ keys w.heap
unfolding fill_name
fill_keys env name v w = go (binding_of env name w)
  where
    go : (o : Option (ℕ × Binding ℕ)) → keys (elim o as (λ (x : Option (ℕ × Binding ℕ)). World ℕ) [ Some found ↦ bind_in found.0 name v w | None ↦ w ]).heap ≡ keys w.heap
    go None = refl
    go (Some found) = bind_keys found.0 name v w
