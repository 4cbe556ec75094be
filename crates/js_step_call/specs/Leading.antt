-- The arguments of a call that are evaluated in place, from the first on (ECMA-262, 13.3.8.1).
use Rattle.std.specs.Prelude.{ℕ, Bool, true, false, List, [], Option, Some}
use Rattle.world_heap.specs.declared.value.Value.{Value}
use Rattle.world_heap.specs.declared.cell.Cell.{Cell}
use Rattle.world_heap.specs.Over.{ListOver}
use Rattle.js_tree.specs.declared.node.NodeId.{NodeId}
use Rattle.js_tree.specs.declared.node.Node.{Node}
use Rattle.js_tree.specs.declared.node.Node.TheVariants as kinds
use Rattle.js_semantics.specs.declared.scope.Scope.{Scope}
use Rattle.js_machine.specs.declared.frame.CallTarget.{CallTarget}
use Rattle.js_machine.specs.declared.state.State.{State}
use Rattle.js_machine.specs.Closed.{ValueFits}
use Rattle.js_machine.specs.Does.{Does, Moves}
use Rattle.js_machine.specs.Frames.{arguments_rest}
use Rattle.js_step_call.specs.declared.leading.Leading.{Leading}
use Rattle.js_step_call.specs.declared.leading.Leading.TheVariants.{Values, Ended}

-- whether a node is a spread, which is any number of arguments
unfoldable pub spreads : Option Node → Bool
spreads (Some (kinds.Spread list)) = true
spreads other = false

module _ (nodes : List Node) (node : NodeId) (scope : Scope ℕ) where
  -- The arguments before a place have these values; those from there on are left.
  abbrev pub Reaches : State → ℕ → List (Value ℕ) → State → Type 0
  Reaches old next before new = (target : CallTarget ℕ) → Moves nodes (arguments_rest nodes node 0 [] target scope) old (arguments_rest nodes node next before target scope) new

  -- Some arguments are evaluated, or the world has stopped in one.
  abbrev pub Leads : State → State → Leading ℕ → Type 0
  Leads old new (Values next before) = Reaches old next before new
  Leads old new (Ended ended) = (target : CallTarget ℕ) → Does nodes 2 (arguments_rest nodes node 0 [] target scope) old new ended

-- what they are fits a heap
abbrev pub LeadingFits : List (ℕ × Cell ℕ) → Leading ℕ → Type 0
LeadingFits cells (Values next before) = ListOver (ValueFits cells) before
LeadingFits cells (Ended ended) = Unit {0}
