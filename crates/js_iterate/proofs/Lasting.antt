-- What is walked and filled keeps a state closed.
use Rattle.std.proofs.Common.{◌≡◌, ℕ, zero, suc, ◌<◌, List, [], ◌∷◌, length, get_or, Option, Some, None, Result, Ok, Err, nat_eq, refl, sym, subst, arith}
use Rattle.js_tree.specs.declared.node.Node.{Node}
use Rattle.world_heap.specs.declared.value.Value.{Value}
use Rattle.world_heap.specs.declared.cell.Cell.{Cell}
use Rattle.world_heap.specs.declared.cell.Cell.TheVariants.{Array, Map, Set}
use Rattle.world_heap.specs.declared.cell.MapEntry.{MapEntry}
use Rattle.world_heap.specs.declared.builtin.BuiltIn.TheVariants.{ArrayPrototype}
use Rattle.world_heap.specs.Maps.{find}
use Rattle.world_heap.specs.Over.{ListOver, list_more, value_more}
use Rattle.world_heap.specs.Heaps.{Fits, IsNoEnv, IsWell}
use Rattle.world_heap.proofs.Wells.{fits_found}
use Rattle.js_semantics.specs.Iteration.{items_at}
use Rattle.js_names.specs.Growing.{Grows}
use Rattle.js_machine.specs.declared.state.State.{State}
use Rattle.js_machine.specs.declared.state.Next.{Next}
use Rattle.js_machine.specs.Closed.{GoesOn, IsClosed, ValueFits}
use Rattle.js_machine.proofs.Closing.{built_in_fits, target_grown, values_grown}
use Rattle.js_step_object.proofs.Lasting.{array_cell}
use Rattle.js_iterate.specs.declared.arguments.Pending.{Pending}
use Rattle.js_iterate.specs.declared.walking.Walked.{Walked}
use Rattle.js_iterate.specs.Walking.{walked_in}
use Rattle.js_iterate.specs.Closed.{EntryFits, LastsMaking, PendingFits, WalkedFits}

-- a member of a list
at_over : {A : Type 0} (P : A → Type 0) (xs : List A) (i : ℕ) (x : A) → ListOver P xs → i < length xs → x ≡ get_or xs i x → P x
at_over P [] i x h below is = absurd (omega arith)
at_over P (y ∷ ys) zero x h below is = subst P (sym is) h.0
at_over P (y ∷ ys) (suc i) x h below is = at_over P ys i x h.1 (omega arith) is

-- what is answered for a location
module _ (F : List (ℕ × Cell ℕ) → ℕ → Type 0) (nodes : List Node) (old new : State) (made : Result ℕ Next) where
  pub made_with : (loc : ℕ) → made ≡ Ok loc → LastsMaking F nodes old new (Ok made) → GoesOn nodes old new × F new.heap.cells loc
  made_with loc is h = rw is at h

  pub ended_with : (next : Next) → made ≡ Err next → LastsMaking F nodes old new (Ok made) → GoesOn nodes old new
  ended_with next is h = rw is at h

-- what fits a heap fits what it goes on to
module _ (old new : List (ℕ × Cell ℕ)) (grows : Grows old new) where
  entry_grown : (entry : MapEntry ℕ) → EntryFits old entry → EntryFits new entry
  entry_grown entry h = (value_more (IsNoEnv nat_eq old) (IsNoEnv nat_eq new) grows.no_env entry.key h.0, value_more (IsNoEnv nat_eq old) (IsNoEnv nat_eq new) grows.no_env entry.value h.1)

  pub entries_grown : (entries : List (MapEntry ℕ)) → ListOver (EntryFits old) entries → ListOver (EntryFits new) entries
  entries_grown entries h = list_more (EntryFits old) (EntryFits new) entry_grown entries h

  -- the value and the entry of a turn
  pub value_at : (values : List (Value ℕ)) (i : ℕ) (v told : Value ℕ) → ListOver (ValueFits old) values → i < length values → v ≡ get_or values i v → told ≡ v → ValueFits new told
  value_at values i v told fit below is same = rw same (value_more (IsNoEnv nat_eq old) (IsNoEnv nat_eq new) grows.no_env v (at_over (ValueFits old) values i v fit below is))

  pub entry_at : (entries : List (MapEntry ℕ)) (i : ℕ) (entry : MapEntry ℕ) → ListOver (EntryFits old) entries → i < length entries → entry ≡ get_or entries i entry → EntryFits new entry
  entry_at entries i entry fit below is = entry_grown entry (at_over (EntryFits old) entries i entry fit below is)

  pub pending_grown : (nodes : List Node) (pending : Pending ℕ) → PendingFits nodes old pending → PendingFits nodes new pending
  pending_grown nodes pending h = (
    values_grown nodes old new grows pending.before h.0,
    target_grown nodes old new grows pending.target h.1,
  )

-- an array of values that fit may be made
pub array_may : (nodes : List Node) (s : State) (items : List (Value ℕ)) → IsClosed nodes s → ListOver (ValueFits s.heap.cells) items → Fits nat_eq s.heap.cells (array_cell nodes s items)
array_may nodes s items closed fit = (built_in_fits nodes (λ n. n) s ArrayPrototype closed, fit)

-- what stands at a location of a heap that is well
module _ (cells : List (ℕ × Cell ℕ)) where
  cell_items : (cell : Cell ℕ) → Fits nat_eq cells cell → ListOver (ValueFits cells) (items_at (Some cell))
  cell_items (Array proto items frozen) fit = fit.1
  cell_items other fit = tt

  pub items_fit : IsWell nat_eq cells → (array : ℕ) (items : List (Value ℕ)) → items ≡ items_at (find nat_eq cells array) → ListOver (ValueFits cells) items
  items_fit well array items is = rw is (by (find nat_eq cells array) refl)
    where
      by : (o : Option (Cell ℕ)) → find nat_eq cells array ≡ o → ListOver (ValueFits cells) (items_at o)
      by None e = tt
      by (Some cell) e = cell_items cell (fits_found (Fits nat_eq cells) cells array cell well.fits e)

  cell_walked : (cell : Cell ℕ) → Fits nat_eq cells cell → WalkedFits cells (walked_in (Some cell))
  unfolding walked_in
  cell_walked (Array proto items frozen) fit = tt
  cell_walked (Map body entries) fit = fit.1
  cell_walked (Set body values) fit = fit.1
  cell_walked other fit = tt

  none_walked : WalkedFits cells (walked_in None)
  unfolding walked_in
  none_walked = tt

  pub walked_fits : IsWell nat_eq cells → (loc : ℕ) (found : Walked ℕ) → found ≡ walked_in (find nat_eq cells loc) → WalkedFits cells found
  walked_fits well loc found is = rw is (by (find nat_eq cells loc) refl)
    where
      by : (o : Option (Cell ℕ)) → find nat_eq cells loc ≡ o → WalkedFits cells (walked_in o)
      by None e = none_walked
      by (Some cell) e = cell_walked cell (fits_found (Fits nat_eq cells) cells loc cell well.fits e)
