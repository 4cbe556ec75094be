-- What follows is the same for what an operator comes to and for its answer, whatever the locations are.
use Rattle.std.specs.Prelude.{◌≡◌, ℕ, zero, suc, List, length, ℤ, pos, negsuc, ◌+ℤ◌, ◌-ℤ◌, ◌*ℤ◌, int_div, int_rem, unsigned_abs, ◌==◌, Bool, true, false, nat_lt, if◌then◌else◌, refl}
use Rattle.world_heap.specs.declared.value.Value.{Value}
use Rattle.world_heap.specs.declared.value.Value.TheVariants.{Num}
use Rattle.js_tree.specs.declared.node.BinaryOperator.{BinaryOperator}
use Rattle.js_tree.specs.declared.node.BinaryOperator.TheVariants.{Add, Subtract, Multiply, Divide, Remainder, Less, Greater, LessOrEqual, GreaterOrEqual, InstanceOf, In, StrictEqual, StrictNotEqual, BitAnd, BitOr, BitXor, ShiftLeft, ShiftRight, ShiftRightUnsigned}
use Rattle.js_semantics.specs.declared.fault.Fault.TheVariants.{TooLong, NotAWholeNumber}
use Rattle.js_semantics.specs.Prog.{Prog, make_text}
use Rattle.js_semantics.specs.Operators.{Computed, Is, Makes, Fails, is_safe, whole, quotient, rest_of, of_numbers}
use Rattle.js_semantics.specs.Expressions.{compute}
use Rattle.js_operators.specs.Answers.{made, settled}

module _ {L : Type 0} where
  -- the text is too long, or it isn't
  made_alike : (text : List ℕ) (k : Value L → Prog L) (b : Bool) → nat_lt 1_048_576 (length text) ≡ b
      → compute (Makes text) k ≡ compute (if b then Fails TooLong else Makes text) k
  unfolding compute make_text
  made_alike text k true e = rw e
  made_alike text k false e = refl

  pub alike : (c : Computed L) (k : Value L → Prog L) → compute c k ≡ compute (settled c) k
  unfolding made
  alike (Is v) k = refl
  alike (Makes text) k = made_alike text k (nat_lt 1_048_576 (length text)) refl
  alike (Fails fault) k = refl

  settled_whole : (z : ℤ) → settled {L = L} (whole z) ≡ whole z
  settled_whole z = elim (is_safe z) as (λ b. settled {L = L} (if b then Is (Num z) else Fails NotAWholeNumber) ≡ (if b then Is (Num z) else Fails NotAWholeNumber)) [
    | true ↦ refl
    | false ↦ refl
  ]

  settled_exact : (b : Bool) (z : ℤ) → settled {L = L} (if b then whole z else Fails NotAWholeNumber) ≡ (if b then whole z else Fails NotAWholeNumber)
  settled_exact true z = settled_whole z
  settled_exact false z = refl

  settled_quotient : (x y : ℤ) → settled {L = L} (quotient x y) ≡ quotient x y
  settled_quotient x (pos zero) = refl
  settled_quotient x (pos (suc n)) = settled_exact (unsigned_abs (int_rem x (pos (suc n))) == 0) (int_div x (pos (suc n)))
  settled_quotient x (negsuc n) = settled_exact (unsigned_abs (int_rem x (negsuc n)) == 0) (int_div x (negsuc n))

  settled_rest : (x y : ℤ) → settled {L = L} (rest_of x y) ≡ rest_of x y
  settled_rest x (pos zero) = refl
  settled_rest x (pos (suc n)) = settled_whole (int_rem x (pos (suc n)))
  settled_rest x (negsuc n) = settled_whole (int_rem x (negsuc n))

  -- operators on numbers make no text
  pub settled_numbers : (operator : BinaryOperator) (x y : ℤ) → settled {L = L} (of_numbers operator x y) ≡ of_numbers operator x y
  unfolding of_numbers
  settled_numbers Add x y = settled_whole (x +ℤ y)
  settled_numbers Subtract x y = settled_whole (x -ℤ y)
  settled_numbers Multiply x y = settled_whole (x *ℤ y)
  settled_numbers Divide x y = settled_quotient x y
  settled_numbers Remainder x y = settled_rest x y
  settled_numbers Less x y = refl
  settled_numbers Greater x y = refl
  settled_numbers LessOrEqual x y = refl
  settled_numbers GreaterOrEqual x y = refl
  settled_numbers InstanceOf x y = refl
  settled_numbers In x y = refl
  settled_numbers StrictEqual x y = refl
  settled_numbers StrictNotEqual x y = refl
  settled_numbers BitAnd x y = refl
  settled_numbers BitOr x y = refl
  settled_numbers BitXor x y = refl
  settled_numbers ShiftLeft x y = refl
  settled_numbers ShiftRight x y = refl
  settled_numbers ShiftRightUnsigned x y = refl
