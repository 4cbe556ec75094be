-- What is declared fits a heap.
use Rattle.std.proofs.Common.{◌≡◌, ℕ, List, [], ◌∷◌, slice_get}
use Rattle.js_tree.specs.declared.node.NodeId.{NodeId}
use Rattle.js_tree.specs.declared.node.Node.{Node}
use Rattle.world_heap.specs.declared.cell.Binding.{Binding}
use Rattle.world_heap.specs.declared.cell.Cell.{Cell}
use Rattle.world_heap.specs.Over.{OptionOver}
use Rattle.js_semantics.specs.Environments.{declared_by, declared_in}
use Rattle.js_machine.specs.Closed.{ValueFits}
use Rattle.js_machine.proofs.Closing.{list_append}
use Rattle.js_step_stmt.specs.Fitting.{BindingsFit}
use Rattle.js_step_stmt.proofs.Fitting.{by_fit}

module _ (cells : List (ℕ × Cell ℕ)) where
  items_fit : (nodes : List Node) (items : List NodeId) → BindingsFit cells (declared_in nodes items)
  unfolding declared_in
  items_fit nodes [] = tt
  items_fit nodes (item ∷ items) = list_append (λ (b : Binding ℕ). OptionOver (ValueFits cells) b.value) (declared_by nodes (slice_get nodes item.0)) (declared_in nodes items) (by_fit cells nodes (slice_get nodes item.0)) (items_fit nodes items)

  -- the bindings that items declare
  pub bindings_fit : (nodes : List Node) (items : List NodeId) (bindings : List (Binding ℕ)) → bindings ≡ declared_in nodes items → BindingsFit cells bindings
  bindings_fit nodes items bindings is = rw is (items_fit nodes items)
