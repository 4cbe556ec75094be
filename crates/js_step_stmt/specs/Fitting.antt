-- Bindings that fit a heap.
use Rattle.std.specs.Prelude.{ℕ, List}
use Rattle.world_heap.specs.declared.cell.Binding.{Binding}
use Rattle.world_heap.specs.declared.cell.Cell.{Cell}
use Rattle.world_heap.specs.Over.{ListOver, OptionOver}
use Rattle.js_machine.specs.Closed.{ValueFits}

-- the values of bindings may stand in a cell of these (ECMA-262, 9.1.1.1)
abbrev pub BindingsFit : List (ℕ × Cell ℕ) → List (Binding ℕ) → Type 0
BindingsFit cells bindings = ListOver (λ (b : Binding ℕ). OptionOver (ValueFits cells) b.value) bindings
