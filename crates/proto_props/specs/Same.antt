-- Whether two values are the same (ECMA-262, 7.2.10: SameValue), where a test tells it of locations.
use Rattle.std.specs.Prelude.{Bool, true, false, Option, Some, None, nat_eq}
use Rattle.std.specs.Bool.{beq}
use Rattle.std.specs.Ordering.{int_eq}
use Rattle.std.specs.Cmp.Lexicographic.{pointwise}
use Rattle.world_heap.specs.declared.value.Value.{Value}
use Rattle.world_heap.specs.declared.value.Value.TheVariants.{Undefined, Null, Bool as Boolean, Num, Str, Ref}

module _ {L : Type 0} (same : L → L → Bool) where
  abbrev pub same_value : Value L → Value L → Bool
  same_value Undefined Undefined = true
  same_value Null Null = true
  same_value (Boolean a) (Boolean b) = beq a b
  same_value (Num x) (Num y) = int_eq x y
  same_value (Str s) (Str t) = pointwise nat_eq s t
  same_value (Ref a) (Ref b) = same a b
  same_value v u = false

  -- of two functions that may be missing
  abbrev pub same_function : Option L → Option L → Bool
  same_function None None = true
  same_function (Some a) (Some b) = same a b
  same_function a b = false
