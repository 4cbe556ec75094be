-- What operators come to on numbers is in range (ECMA-262, 21.1.2.6), and so what they answer fits each heap.
use Rattle.std.proofs.Common.{◌≡◌, ◌<◌, ◌≤◌, ◌-◌, ◌/◌, ◌%◌, ◌^◌, ℕ, suc, zero, ℤ, pos, negsuc, ◌-ℤ◌, neg_ℤ, ◌≤ℤ◌, int_le, List, length, nat_lt, Bool, true, false, ◌&&◌, if◌then◌else◌, Option, Some, refl, sym, subst, arith}
use Rattle.std.specs.Prelude.{◌+ℤ◌, ◌*ℤ◌, ◌*◌, bit_and, bit_or, bit_xor, int_rem, int_div}
use Rattle.std.proofs.lemmas.Int.{ints}
use Rattle.std.proofs.lemmas.Nat.{and_le_l, or_of_32, xor_of_32, mod_below}
use Rattle.std.proofs.Math.Nat.{div-le_self}
use lib.Signed.{le_z_yes}
use lib.Dec.{T}
use Rattle.world_heap.specs.declared.value.Value.{Value}
use Rattle.world_heap.specs.declared.value.Value.TheVariants.{Num, Str}
use Rattle.world_heap.specs.declared.cell.Cell.{Cell}
use Rattle.world_heap.specs.Over.{IsSafe}
use Rattle.js_tree.specs.declared.node.BinaryOperator.{BinaryOperator}
use Rattle.js_tree.specs.declared.node.BinaryOperator.TheVariants.{Add, Subtract, Multiply, Divide, Remainder, Less, Greater, LessOrEqual, GreaterOrEqual, InstanceOf, In, StrictEqual, StrictNotEqual, BitAnd, BitOr, BitXor, ShiftLeft, ShiftRight, ShiftRightUnsigned}
use Rattle.js_tree.specs.declared.node.UnaryOperator.{UnaryOperator}
use Rattle.js_tree.specs.declared.node.UnaryOperator.TheVariants.{Not, BitNot, Plus, Minus, Void}
use Rattle.js_semantics.specs.declared.fault.Fault.TheVariants.{NotAWholeNumber, TooLong}
use Rattle.js_semantics.specs.Operators.{Computed, Is, Makes, Fails, is_safe, to_unsigned, to_signed, halved, whole, quotient, rest_of, of_numbers, of_texts, joined, primitive_text, of_operands, unary_of}
use Rattle.js_operators.specs.declared.answer.Answer.{Answer}
use Rattle.js_operators.specs.declared.answer.Answer.TheVariants as answers
use Rattle.js_operators.specs.Answers.{computed_of, made, settled}
use Rattle.js_machine.specs.Closed.{ValueFits}
use Rattle.js_step_expr.specs.Fitting.{AnswerFits}

both : (a b : Bool) → (a && b) ≡ true → (a ≡ true) × (b ≡ true)
both true true e = (refl, refl)
both true false e = absurd (cc e)
both false b e = absurd (cc e)

in_order : (a b : ℤ) → int_le a b ≡ true → a ≤ℤ b
in_order a b e = le_z_yes (subst T (sym e) tt)

-- what passes the test is in range
pub safe : (z : ℤ) → is_safe z ≡ true → IsSafe z
safe z e =
    let p = both (int_le (negsuc 9_007_199_254_740_990) z) (int_le z (pos 9_007_199_254_740_991)) e in
    record { low = in_order _ _ p.0; high = in_order _ _ p.1 }

below_safe : (m n : ℕ) → m ≤ n → n ≤ 9_007_199_254_740_991 → IsSafe (pos m)
below_safe m n le most = record { low = omega (arith, ints); high = omega (arith, ints) }

-- a number of 32 bits is in range, and so is what it is shifted to
bits_below : (z : ℤ) → to_unsigned z < 4_294_967_296
bits_below (pos n) = mod_below n 4_294_967_296 (omega arith)
bits_below (negsuc n) = omega arith

signed_by : (bits : ℕ) (b : Bool) → bits < 4_294_967_296 → IsSafe (if b then pos bits else pos bits -ℤ pos 4_294_967_296)
signed_by bits true below = record { low = omega (arith, ints); high = omega (arith, ints) }
signed_by bits false below = record { low = omega (arith, ints); high = omega (arith, ints) }

signed_safe : (bits : ℕ) → bits < 4_294_967_296 → IsSafe (to_signed bits)
signed_safe bits below = signed_by bits (nat_lt bits 2_147_483_648) below

nearer : (m n : ℕ) → m ≤ n → IsSafe (pos n) → IsSafe (pos m)
nearer m n le h = let high = h.high in record { low = omega (arith, ints); high = omega (arith, ints) }

nearer_below : (m n : ℕ) → m ≤ n → IsSafe (negsuc n) → IsSafe (negsuc m)
nearer_below m n le h = let low = h.low in record { low = omega (arith, ints); high = omega (arith, ints) }

halved_safe : (z : ℤ) (by : ℕ) → IsSafe z → IsSafe (halved z by)
halved_safe (pos n) by h = nearer (n / by) n (div-le_self n by) h
halved_safe (negsuc n) by h = nearer_below (n / by) n (div-le_self n by) h

neg_safe : (z : ℤ) → IsSafe z → IsSafe (neg_ℤ z)
neg_safe z h = let low = h.low in let high = h.high in record { low = omega (arith, ints); high = omega (arith, ints) }

module _ (cells : List (ℕ × Cell ℕ)) where
  -- what an operator comes to
  abbrev pub ComputedFits : Computed ℕ → Type 0
  ComputedFits (Is v) = ValueFits cells v
  ComputedFits (Makes text) = Unit {0}
  ComputedFits (Fails fault) = Unit {0}

  whole_by : (z : ℤ) (b : Bool) → is_safe z ≡ b → ComputedFits (if b then Is (Num z) else Fails NotAWholeNumber)
  whole_by z true e = safe z e
  whole_by z false e = tt

  pub whole_fits : (z : ℤ) → ComputedFits (whole z)
  whole_fits z = whole_by z (is_safe z) refl

  either_fits : (b : Bool) (c d : Computed ℕ) → ComputedFits c → ComputedFits d → ComputedFits (if b then c else d)
  either_fits true c d h k = h
  either_fits false c d h k = k

  quotient_fits : (x y : ℤ) → ComputedFits (quotient x y)
  quotient_fits x (pos zero) = tt
  quotient_fits x (pos (suc n)) = either_fits _ (whole (int_div x (pos (suc n)))) (Fails NotAWholeNumber) (whole_fits (int_div x (pos (suc n)))) tt
  quotient_fits x (negsuc n) = either_fits _ (whole (int_div x (negsuc n))) (Fails NotAWholeNumber) (whole_fits (int_div x (negsuc n))) tt

  rest_fits : (x y : ℤ) → ComputedFits (rest_of x y)
  rest_fits x (pos zero) = tt
  rest_fits x (pos (suc n)) = whole_fits (int_rem x (pos (suc n)))
  rest_fits x (negsuc n) = whole_fits (int_rem x (negsuc n))

  numbers_fit : (operator : BinaryOperator) (x y : ℤ) → ComputedFits (of_numbers operator x y)
  unfolding of_numbers
  numbers_fit Add x y = whole_fits (x +ℤ y)
  numbers_fit Subtract x y = whole_fits (x -ℤ y)
  numbers_fit Multiply x y = whole_fits (x *ℤ y)
  numbers_fit Divide x y = quotient_fits x y
  numbers_fit Remainder x y = rest_fits x y
  numbers_fit Less x y = tt
  numbers_fit Greater x y = tt
  numbers_fit LessOrEqual x y = tt
  numbers_fit GreaterOrEqual x y = tt
  numbers_fit InstanceOf x y = tt
  numbers_fit In x y = tt
  numbers_fit StrictEqual x y = tt
  numbers_fit StrictNotEqual x y = tt
  numbers_fit BitAnd x y =
      let below = bits_below x in
      let le = and_le_l (to_unsigned x) (to_unsigned y) in
      signed_safe (bit_and (to_unsigned x) (to_unsigned y)) (omega arith)
  numbers_fit BitOr x y = signed_safe (bit_or (to_unsigned x) (to_unsigned y)) (or_of_32 (to_unsigned x) (to_unsigned y) (bits_below x) (bits_below y))
  numbers_fit BitXor x y = signed_safe (bit_xor (to_unsigned x) (to_unsigned y)) (xor_of_32 (to_unsigned x) (to_unsigned y) (bits_below x) (bits_below y))
  numbers_fit ShiftLeft x y = signed_safe ((to_unsigned x * 2 ^ (to_unsigned y % 32)) % 4_294_967_296) (mod_below (to_unsigned x * 2 ^ (to_unsigned y % 32)) 4_294_967_296 (omega arith))
  numbers_fit ShiftRight x y = halved_safe (to_signed (to_unsigned x)) (2 ^ (to_unsigned y % 32)) (signed_safe (to_unsigned x) (bits_below x))
  numbers_fit ShiftRightUnsigned x y =
      let below = bits_below x in
      below_safe (to_unsigned x / 2 ^ (to_unsigned y % 32)) (to_unsigned x) (div-le_self (to_unsigned x) (2 ^ (to_unsigned y % 32))) (omega arith)

  texts_fit : (operator : BinaryOperator) (s t : List ℕ) → ComputedFits (of_texts operator s t)
  unfolding of_texts
  texts_fit Add s t = tt
  texts_fit Less s t = tt
  texts_fit Greater s t = tt
  texts_fit LessOrEqual s t = tt
  texts_fit GreaterOrEqual s t = tt
  texts_fit other s t = tt

  joined_fit : (operator : BinaryOperator) (s t : Option (List ℕ)) → ComputedFits (joined operator s t)
  joined_fit Add (Some s) (Some t) = tt
  joined_fit other s t = tt

  operands_fit : (operator : BinaryOperator) (x y : Value ℕ) → ComputedFits (of_operands operator x y)
  unfolding of_operands
  operands_fit operator (Num x) (Num y) = numbers_fit operator x y
  operands_fit operator (Str s) (Str t) = texts_fit operator s t
  operands_fit operator (Str s) y = joined_fit operator (Some s) (primitive_text y)
  operands_fit operator x (Str t) = joined_fit operator (primitive_text x) (Some t)
  operands_fit operator x y = tt

  settled_fits : (c : Computed ℕ) → ComputedFits c → ComputedFits (settled c)
  unfolding made
  settled_fits (Is v) h = h
  settled_fits (Makes text) h = either_fits (nat_lt 1_048_576 (length text)) (Fails TooLong) (Makes text) tt tt
  settled_fits (Fails fault) h = tt

  -- what fits in the words of the language's meaning fits
  pub answer_fits : (answer : Answer ℕ) → ComputedFits (computed_of answer) → AnswerFits cells answer
  answer_fits (answers.Is v) h = h
  answer_fits (answers.Makes text) h = tt
  answer_fits (answers.Fails fault) h = tt

  -- the answer of an operator on two operands
  pub operands_answer : (operator : BinaryOperator) (x y : Value ℕ) (answer : Answer ℕ) → computed_of answer ≡ settled (of_operands operator x y) → AnswerFits cells answer
  operands_answer operator x y answer is = answer_fits answer (subst ComputedFits (sym is) (settled_fits (of_operands operator x y) (operands_fit operator x y)))

  unary_fit : (operator : UnaryOperator) (v : Value ℕ) → ValueFits cells v → ComputedFits (unary_of operator v)
  unfolding unary_of
  unary_fit Not v h = tt
  unary_fit Void v h = tt
  unary_fit Plus (Num z) h = h
  unary_fit Plus other h = tt
  unary_fit Minus (Num z) h = neg_safe z h
  unary_fit Minus other h = tt
  unary_fit BitNot (Num z) h = signed_safe (4_294_967_295 - to_unsigned z) (omega arith)
  unary_fit BitNot other h = tt

  -- the answer of an operator before one operand
  pub unary_answer : (operator : UnaryOperator) (v : Value ℕ) (answer : Answer ℕ) → ValueFits cells v → computed_of answer ≡ unary_of operator v → AnswerFits cells answer
  unary_answer operator v answer fit is = answer_fits answer (subst ComputedFits (sym is) (unary_fit operator v fit))

  -- no number of a script is -2^63
  pub not_least : (v : Value ℕ) → ValueFits cells v → v ≡ Num (negsuc 9_223_372_036_854_775_807) → ⊥
  not_least v fit is =
      let h : IsSafe (negsuc 9_223_372_036_854_775_807) = subst (ValueFits cells) is fit in
      let low = h.low in
      omega (arith, ints)
