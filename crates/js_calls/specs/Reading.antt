-- What is done with a property that was read.
use Rattle.std.specs.Prelude.{ℕ, Bool, true, false}
use Rattle.world_heap.specs.declared.value.Value.{Value}
use Rattle.js_semantics.specs.Prog.{Prog, count_units}

-- goes on with a value, which counts a unit where it is a text of one that was made
unfoldable pub made_value : Bool → Value ℕ → (Value ℕ → Prog ℕ) → Prog ℕ
made_value true v k = count_units 1 (k v)
made_value false v k = k v
