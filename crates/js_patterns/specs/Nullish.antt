-- Values without properties (ECMA-262, 7.2.1: RequireObjectCoercible).
use Rattle.std.specs.Prelude.{ℕ, Bool, true, false}
use Rattle.world_heap.specs.declared.value.Value.{Value}
use Rattle.world_heap.specs.declared.value.Value.TheVariants.{Undefined, Null}

-- whether a value is undefined or null
abbrev pub is_nullish : Value ℕ → Bool
is_nullish Undefined = true
is_nullish Null = true
is_nullish other = false
