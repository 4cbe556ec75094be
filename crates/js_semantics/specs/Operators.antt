-- Operators over whole numbers, texts and booleans (ECMA-262, 13.5 to 13.12; 6.1.6.1: Number; 7.1.2: ToBoolean; 7.2.15:
-- IsStrictlyEqual). A result that is no whole number in range is an error, and so is an operand of another type.
use Rattle.std.specs.Prelude.{ℕ, zero, suc, ◌-◌, ◌*◌, ◌/◌, ◌%◌, ◌^◌, ◌==◌, ◌&&◌, List, [], ◌∷◌, ◌++◌, length, ℤ, pos, negsuc, ◌+ℤ◌, ◌-ℤ◌, ◌*ℤ◌, neg_ℤ, int_lt, int_le, int_div, int_rem, unsigned_abs, bit_and, bit_or, bit_xor, nat_lt, Option, Some, None, Bool, true, false, not, if◌then◌else◌, codes}
use Rattle.std.specs.Fmt.{signed_decimal}
use Rattle.world_heap.specs.declared.value.Value.{Value}
use Rattle.world_heap.specs.declared.value.Value.TheVariants.{Undefined, Null, Bool as Boolean, Num, Str, Ref}
use Rattle.js_tree.specs.declared.node.BinaryOperator.{BinaryOperator}
use Rattle.js_tree.specs.declared.node.BinaryOperator.TheVariants.{Add, Subtract, Multiply, Divide, Remainder, Less, Greater, LessOrEqual, GreaterOrEqual, BitAnd, BitOr, BitXor, ShiftLeft, ShiftRight, ShiftRightUnsigned}
use Rattle.js_tree.specs.declared.node.UnaryOperator.{UnaryOperator}
use Rattle.js_tree.specs.declared.node.UnaryOperator.TheVariants.{Not, BitNot, Plus, Minus, Void}
use Rattle.js_semantics.specs.declared.fault.Fault.{Fault}
use Rattle.js_semantics.specs.declared.fault.Fault.TheVariants.{WrongOperand, NotAWholeNumber}
use Rattle.js_semantics.specs.Properties.{same_text}

-- What an operator comes to: a value, a text that is made, or an error.
pub data Computed (L : Type 0) : Type 0 where
  Is : Value L → Computed L
  Makes : List ℕ → Computed L
  Fails : Fault → Computed L

-- whether a number is from -(2^53 - 1) to 2^53 - 1
abbrev pub is_safe : ℤ → Bool
is_safe z = int_le (negsuc 9_007_199_254_740_990) z && int_le z (pos 9_007_199_254_740_991)

-- The number of a literal (ECMA-262, 12.9.3: NumericValue). No text spells one that a value may not have: the tokens refuse
-- it. A node with such a number, made without a text, counts as 0.
abbrev pub literal_number : ℤ → ℤ
literal_number z = if is_safe z then z else pos 0

-- the number modulo 2^32 (ECMA-262, 7.1.7: ToUint32)
abbrev pub to_unsigned : ℤ → ℕ
to_unsigned (pos n) = n % 4_294_967_296
to_unsigned (negsuc n) = 4_294_967_295 - n % 4_294_967_296

-- the signed number of 32 bits (ECMA-262, 7.1.6: ToInt32)
abbrev pub to_signed : ℕ → ℤ
to_signed bits = if nat_lt bits 2_147_483_648 then pos bits else pos bits -ℤ pos 4_294_967_296

-- the greatest number that isn't above the quotient
abbrev pub halved : ℤ → ℕ → ℤ
halved (pos n) by = pos (n / by)
halved (negsuc n) by = negsuc (n / by)

-- whether a text stands before another, unit by unit
abbrev pub text_before : List ℕ → List ℕ → Bool
text_before [] [] = false
text_before [] (b ∷ bs) = true
text_before (a ∷ as_) [] = false
text_before (a ∷ as_) (b ∷ bs) = if a == b then text_before as_ bs else nat_lt a b

module _ {L : Type 0} where
  -- whether a value counts as true
  unfoldable pub is_truthy : Value L → Bool
  is_truthy Undefined = false
  is_truthy Null = false
  is_truthy (Boolean b) = b
  is_truthy (Num z) = not (unsigned_abs z == 0)
  is_truthy (Str t) = not (length t == 0)
  is_truthy (Ref loc) = true

  -- the text of a primitive value; objects and symbols have none
  unfoldable pub primitive_text : Value L → Option (List ℕ)
  primitive_text Undefined = Some (codes "undefined")
  primitive_text Null = Some (codes "null")
  primitive_text (Boolean true) = Some (codes "true")
  primitive_text (Boolean false) = Some (codes "false")
  primitive_text (Num z) = Some (signed_decimal z)
  primitive_text (Str t) = Some t
  primitive_text (Ref loc) = None

  -- the key that a value is
  unfoldable pub key_of : Value L → Option (List ℕ)
  key_of Undefined = None
  key_of Null = None
  key_of (Boolean b) = None
  key_of (Num z) = Some (signed_decimal z)
  key_of (Str t) = Some t
  key_of (Ref loc) = None

  -- whether two values are the same, where the test tells it of locations
  unfoldable pub strictly_equal : (L → L → Bool) → Value L → Value L → Bool
  strictly_equal same Undefined Undefined = true
  strictly_equal same Null Null = true
  strictly_equal same (Boolean true) (Boolean b) = b
  strictly_equal same (Boolean false) (Boolean b) = not b
  strictly_equal same (Num x) (Num y) = unsigned_abs (x -ℤ y) == 0
  strictly_equal same (Str s) (Str t) = same_text s t
  strictly_equal same (Ref a) (Ref b) = same a b
  strictly_equal same x y = false

  -- a number, where it is one in range
  abbrev pub whole : ℤ → Computed L
  whole z = if is_safe z then Is (Num z) else Fails NotAWholeNumber

  -- an exact quotient; there is none by zero
  abbrev pub quotient : ℤ → ℤ → Computed L
  quotient x (pos zero) = Fails NotAWholeNumber
  quotient x (pos (suc n)) = if unsigned_abs (int_rem x (pos (suc n))) == 0 then whole (int_div x (pos (suc n))) else Fails NotAWholeNumber
  quotient x (negsuc n) = if unsigned_abs (int_rem x (negsuc n)) == 0 then whole (int_div x (negsuc n)) else Fails NotAWholeNumber

  -- what is left of a division, with the sign of the dividend
  abbrev pub rest_of : ℤ → ℤ → Computed L
  rest_of x (pos zero) = Fails NotAWholeNumber
  rest_of x (pos (suc n)) = whole (int_rem x (pos (suc n)))
  rest_of x (negsuc n) = whole (int_rem x (negsuc n))

  -- a number of 32 bits
  abbrev pub signed : ℕ → Computed L
  signed bits = Is (Num (to_signed bits))

  -- the operators on two numbers
  unfoldable pub of_numbers : BinaryOperator → ℤ → ℤ → Computed L
  of_numbers Add x y = whole (x +ℤ y)
  of_numbers Subtract x y = whole (x -ℤ y)
  of_numbers Multiply x y = whole (x *ℤ y)
  of_numbers Divide x y = quotient x y
  of_numbers Remainder x y = rest_of x y
  of_numbers Less x y = Is (Boolean (int_lt x y))
  of_numbers Greater x y = Is (Boolean (int_lt y x))
  of_numbers LessOrEqual x y = Is (Boolean (int_le x y))
  of_numbers GreaterOrEqual x y = Is (Boolean (int_le y x))
  of_numbers BitAnd x y = signed (bit_and (to_unsigned x) (to_unsigned y))
  of_numbers BitOr x y = signed (bit_or (to_unsigned x) (to_unsigned y))
  of_numbers BitXor x y = signed (bit_xor (to_unsigned x) (to_unsigned y))
  of_numbers ShiftLeft x y = signed ((to_unsigned x * 2 ^ (to_unsigned y % 32)) % 4_294_967_296)
  of_numbers ShiftRight x y = Is (Num (halved (to_signed (to_unsigned x)) (2 ^ (to_unsigned y % 32))))
  of_numbers ShiftRightUnsigned x y = Is (Num (pos (to_unsigned x / 2 ^ (to_unsigned y % 32))))
  of_numbers other x y = Fails WrongOperand

  -- the operators on two texts
  unfoldable pub of_texts : BinaryOperator → List ℕ → List ℕ → Computed L
  of_texts Add s t = Makes (s ++ t)
  of_texts Less s t = Is (Boolean (text_before s t))
  of_texts Greater s t = Is (Boolean (text_before t s))
  of_texts LessOrEqual s t = Is (Boolean (not (text_before t s)))
  of_texts GreaterOrEqual s t = Is (Boolean (not (text_before s t)))
  of_texts other s t = Fails WrongOperand

  -- `+` joins a text and another primitive value; no other operator takes both
  abbrev pub joined : BinaryOperator → Option (List ℕ) → Option (List ℕ) → Computed L
  joined Add (Some s) (Some t) = Makes (s ++ t)
  joined other s t = Fails WrongOperand

  -- the operators that look at the types of both operands
  unfoldable pub of_operands : BinaryOperator → Value L → Value L → Computed L
  of_operands operator (Num x) (Num y) = of_numbers operator x y
  of_operands operator (Str s) (Str t) = of_texts operator s t
  of_operands operator (Str s) y = joined operator (Some s) (primitive_text y)
  of_operands operator x (Str t) = joined operator (primitive_text x) (Some t)
  of_operands operator x y = Fails WrongOperand

  -- `+`, `-` and `~` on a number
  abbrev pub of_number : UnaryOperator → ℤ → Computed L
  of_number Plus z = Is (Num z)
  of_number Minus z = Is (Num (neg_ℤ z))
  of_number BitNot z = signed (4_294_967_295 - to_unsigned z)
  of_number other z = Fails WrongOperand

  abbrev pub of_operand : UnaryOperator → Value L → Computed L
  of_operand operator (Num z) = of_number operator z
  of_operand operator other = Fails WrongOperand

  -- the operators before one operand
  unfoldable pub unary_of : UnaryOperator → Value L → Computed L
  unary_of Not v = Is (Boolean (not (is_truthy v)))
  unary_of Void v = Is Undefined
  unary_of Plus v = of_operand Plus v
  unary_of Minus v = of_operand Minus v
  unary_of BitNot v = of_operand BitNot v
