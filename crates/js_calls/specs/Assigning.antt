-- What a name stands for where it is written (ECMA-262, 6.2.5.6 and 9.1.1.1.5).
use Rattle.std.specs.Prelude.{ℕ, List, Option, Some, None, Bool, true, false}
use Rattle.world_heap.specs.declared.value.Value.{Value}
use Rattle.world_heap.specs.declared.cell.Binding.{Binding}
use Rattle.js_semantics.specs.declared.fault.Fault.TheVariants.{NotDefined, NotReady, ReadOnly}
use Rattle.js_semantics.specs.Prog.{Prog, change, throw}
use Rattle.js_semantics.specs.Access.{set}
use Rattle.js_semantics.specs.Environments.{bind_in}
use Rattle.js_calls.specs.declared.assigning.Target.{Target}
use Rattle.js_calls.specs.declared.assigning.Target.TheVariants.{Open, Unready, Fixed, Global, Nowhere}

module _ {L : Type 0} where
  -- a binding of an environment, by its value and whether it is fixed
  unfoldable pub binding_target : L → Option (Value L) → Bool → Target L
  binding_target env None fixed = Unready
  binding_target env (Some old) true = Fixed
  binding_target env (Some old) false = Open env

  -- by the innermost binding of a name, and the global object where it has a property of that name
  unfoldable pub target_of : Option (L × Binding L) → Option (Value L) → Target L
  target_of (Some found) global = binding_target found.0 found.1.value found.1.fixed
  target_of None (Some global) = Global global
  target_of None None = Nowhere

  -- writes what a name stands for, and goes on
  unfoldable pub write_by : Target L → List ℕ → Value L → Prog L → Prog L
  write_by (Open env) name v p = change (bind_in env name v) p
  write_by Unready name v p = throw NotReady
  write_by Fixed name v p = throw ReadOnly
  write_by (Global global) name v p = set global name v p
  write_by Nowhere name v p = throw NotDefined
