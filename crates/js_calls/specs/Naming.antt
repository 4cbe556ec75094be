-- What a name stands for where it is read (ECMA-262, 9.1.1.1.6 and 9.4.2).
use Rattle.std.specs.Prelude.{ℕ, List, Option, Some, None}
use Rattle.world_heap.specs.declared.value.Value.{Value}
use Rattle.world_heap.specs.declared.cell.Binding.{Binding}
use Rattle.js_semantics.specs.declared.fault.Fault.TheVariants.{NotReady}
use Rattle.js_semantics.specs.Prog.{Prog, throw}
use Rattle.js_semantics.specs.Access.{get}
use Rattle.js_calls.specs.declared.naming.Named.{Named}
use Rattle.js_calls.specs.declared.naming.Named.TheVariants.{Held, Unready, Global, Nowhere}

module _ {L : Type 0} where
  -- what a binding holds
  unfoldable pub value_named : Option (Value L) → Named L
  value_named None = Unready
  value_named (Some v) = Held v

  -- by the innermost binding of a name, and the global object where it has a property of that name
  unfoldable pub named : Option (L × Binding L) → Option (Value L) → Named L
  named (Some found) global = value_named found.1.value
  named None (Some global) = Global global
  named None None = Nowhere

  -- goes on with what a name stands for
  unfoldable pub read_by : Named L → List ℕ → Prog L → (Value L → Prog L) → Prog L
  read_by (Held v) name absent k = k v
  read_by Unready name absent k = throw NotReady
  read_by (Global global) name absent k = get global name k
  read_by Nowhere name absent k = absent
