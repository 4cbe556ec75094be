-- The numbers of literals are those of scripts.
use Rattle.std.proofs.Common.{◌≡◌, ℕ, ℤ, pos, List, Bool, true, false, if◌then◌else◌, refl}
use Rattle.world_heap.specs.declared.value.Value.{Value}
use Rattle.world_heap.specs.declared.value.Value.TheVariants.{Num}
use Rattle.world_heap.specs.declared.cell.Cell.{Cell}
use Rattle.world_heap.specs.Over.{IsSafe}
use Rattle.js_semantics.specs.Operators.{is_safe, literal_number}
use Rattle.js_machine.specs.Closed.{ValueFits}
use Rattle.js_step_expr.proofs.Numbers.{safe}

literal_safe : (z : ℤ) → IsSafe (literal_number z)
literal_safe z = by (is_safe z) refl
  where
    by : (b : Bool) → is_safe z ≡ b → IsSafe (if b then z else pos 0)
    by true e = safe z e
    by false e = safe (pos 0) refl

-- the number of a literal fits any heap
pub literal_fits : (cells : List (ℕ × Cell ℕ)) (v : Value ℕ) (z : ℤ) → v ≡ Num (literal_number z) → ValueFits cells v
literal_fits cells v z is = rw is (literal_safe z)
