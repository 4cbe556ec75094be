-- What a statement reads and makes in a closed state fits its heap.
use Rattle.std.proofs.Common.{◌≡◌, ℕ, zero, suc, List, [], ◌∷◌, map, slice_get, Bool, true, false, Option, Some, None, Result, Ok, Err, nat_eq, refl}
use Rattle.std.specs.List.{flat_map}
use Rattle.js_tree.specs.declared.node.NodeId.{NodeId}
use Rattle.js_tree.specs.declared.node.Node.{Node}
use Rattle.js_tree.specs.declared.node.Node.TheVariants as kinds
use Rattle.js_tree.specs.declared.node.Declarator.{Declarator}
use Rattle.world_heap.specs.declared.value.Value.{Value}
use Rattle.world_heap.specs.declared.cell.Binding.{Binding}
use Rattle.world_heap.specs.declared.cell.Cell.{Cell}
use Rattle.world_heap.specs.declared.cell.Cell.TheVariants.{Array, Env}
use Rattle.world_heap.specs.Maps.{find}
use Rattle.world_heap.specs.Over.{ListOver, OptionOver}
use Rattle.world_heap.specs.Heaps.{Fits, IsCell, IsWell}
use Rattle.world_heap.proofs.Wells.{fits_found}
use Rattle.world_log.specs.declared.entry.Stop.{Stop}
use Rattle.js_semantics.specs.declared.scope.Scope.{Scope}
use Rattle.js_semantics.specs.Environments.{bindings_at, declared_by, declared_in, names_of, unready}
use Rattle.js_semantics.specs.Iteration.{items_at}
use Rattle.js_machine.specs.declared.state.State.{State}
use Rattle.js_machine.specs.Closed.{GoesOn, IsClosed, ScopeFits, ValueFits}
use Rattle.js_machine.specs.Does.{Allocates}
use Rattle.js_machine.proofs.Closing.{closed_made, closed_stopped, list_append, made_cell, value_grown}
use Rattle.js_semantics.specs.Statements.{inside, item_or_undefined}
use Rattle.js_step_stmt.specs.Fitting.{BindingsFit}

module _ (cells : List (ℕ × Cell ℕ)) where
  -- bindings that aren't ready
  pub names_fit : (fixed : Bool) (names : List (List ℕ)) → BindingsFit cells (map (unready fixed) names)
  names_fit fixed [] = tt
  names_fit fixed (name ∷ names) = (tt, names_fit fixed names)

  pub unready_fit : (fixed : Bool) (names : List (List ℕ)) (bindings : List (Binding ℕ)) → bindings ≡ map (unready fixed) names → BindingsFit cells bindings
  unready_fit fixed names bindings is = rw is (names_fit fixed names)

  pairs_fit : (fixed : Bool) (nodes : List Node) (pairs : List Declarator) → BindingsFit cells (flat_map (λ pair. map (unready fixed) (names_of nodes pair.bind)) pairs)
  pairs_fit fixed nodes [] = tt
  pairs_fit fixed nodes (pair ∷ pairs) =
      list_append (λ (b : Binding ℕ). OptionOver (ValueFits cells) b.value) (map (unready fixed) (names_of nodes pair.bind)) (flat_map (λ p. map (unready fixed) (names_of nodes p.bind)) pairs) (names_fit fixed (names_of nodes pair.bind)) (pairs_fit fixed nodes pairs)

  -- the bindings that a node declares (ECMA-262, 8.2.5)
  pub by_fit : (nodes : List Node) (node : Option Node) → BindingsFit cells (declared_by nodes node)
  by_fit nodes (Some (kinds.Let pairs)) = pairs_fit false nodes pairs
  by_fit nodes (Some (kinds.Const pairs)) = pairs_fit true nodes pairs
  by_fit nodes (Some (kinds.FunDecl name function)) = (tt, tt)
  by_fit nodes other = tt

  pub declared_fit : (nodes : List Node) (first : NodeId) (bindings : List (Binding ℕ)) → bindings ≡ declared_in nodes (first ∷ []) → BindingsFit cells bindings
  unfolding declared_in
  declared_fit nodes first bindings is = rw is (list_append (λ (b : Binding ℕ). OptionOver (ValueFits cells) b.value) (declared_by nodes (slice_get nodes first.0)) [] (by_fit nodes (slice_get nodes first.0)) tt)

  at_fits : (vs : List (Value ℕ)) (place : ℕ) → ListOver (ValueFits cells) vs → OptionOver (ValueFits cells) (slice_get vs place)
  at_fits [] place h = tt
  at_fits (v ∷ vs) zero h = h.0
  at_fits (v ∷ vs) (suc place) h = at_fits vs place h.1

  cell_items_fit : (cell : Cell ℕ) → Fits nat_eq cells cell → ListOver (ValueFits cells) (items_at (Some cell))
  cell_items_fit (Array proto items frozen) fit = fit.1
  cell_items_fit other fit = tt

  -- an item of an array
  pub item_fits : IsWell nat_eq cells → (array place : ℕ) (item : Option (Value ℕ)) → item ≡ slice_get (items_at (find nat_eq cells array)) place → OptionOver (ValueFits cells) item
  item_fits well array place item is = rw is (at_fits (items_at (find nat_eq cells array)) place (by (find nat_eq cells array) refl))
    where
      by : (o : Option (Cell ℕ)) → find nat_eq cells array ≡ o → ListOver (ValueFits cells) (items_at o)
      by None e = tt
      by (Some cell) e = cell_items_fit cell (fits_found (Fits nat_eq cells) cells array cell well.fits e)

  -- the value of an element, which may be past the array's end
  pub value_fits : (item : Option (Value ℕ)) → OptionOver (ValueFits cells) item → ValueFits cells (item_or_undefined item)
  value_fits None fit = tt
  value_fits (Some v) fit = fit

  cell_env_fits : (cell : Cell ℕ) → Fits nat_eq cells cell → OptionOver (λ (f : Option ℕ × List (Binding ℕ)). OptionOver (IsCell nat_eq cells) f.0 × BindingsFit cells f.1) (bindings_at (Some cell))
  cell_env_fits (Env outer bindings) fit = fit
  cell_env_fits other fit = tt

  -- what an environment holds
  pub env_fits : IsWell nat_eq cells → (env : ℕ) (found : Option (Option ℕ × List (Binding ℕ))) → found ≡ bindings_at (find nat_eq cells env) → OptionOver (λ (f : Option ℕ × List (Binding ℕ)). OptionOver (IsCell nat_eq cells) f.0 × BindingsFit cells f.1) found
  env_fits well env found is = rw is (by (find nat_eq cells env) refl)
    where
      by : (o : Option (Cell ℕ)) → find nat_eq cells env ≡ o → OptionOver (λ (f : Option ℕ × List (Binding ℕ)). OptionOver (IsCell nat_eq cells) f.0 × BindingsFit cells f.1) (bindings_at o)
      by None e = tt
      by (Some cell) e = cell_env_fits cell (fits_found (Fits nat_eq cells) cells env cell well.fits e)

-- an environment is made, or the world stops
module _ (nodes : List Node) (outer : Option ℕ) (bindings : List (Binding ℕ)) (old new : State) (got : Result ℕ Stop) (made : Allocates (Env outer bindings) old new got) where
  pub made_lasts : (loc : ℕ) → got ≡ Ok loc → IsClosed nodes old → OptionOver (IsCell nat_eq old.heap.cells) outer → BindingsFit old.heap.cells bindings → GoesOn nodes old new
  made_lasts loc is closed around fit = let one : Allocates (Env outer bindings) old new (Ok loc) = rw is at made in closed_made (Env outer bindings) old new loc one nodes closed (around, fit)

  -- where what is inside is evaluated
  pub made_inside : (loc : ℕ) (s : Scope ℕ) → got ≡ Ok loc → GoesOn nodes old new → ScopeFits nodes old.heap.cells s → ScopeFits nodes new.heap.cells (inside loc s)
  made_inside loc s is went fit =
      let one : Allocates (Env outer bindings) old new (Ok loc) = rw is at made in
      (made_cell (Env outer bindings) old new loc one, value_grown nodes old.heap.cells new.heap.cells went.grows s.receiver fit.1)

  pub stop_lasts : (stop : Stop) → got ≡ Err stop → IsClosed nodes old → GoesOn nodes old new
  stop_lasts stop is closed = let one : Allocates (Env outer bindings) old new (Err stop) = rw is at made in closed_stopped nodes (Env outer bindings) old new stop closed one
