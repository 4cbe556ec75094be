-- What operators between two operands come to.
use Rattle.std.proofs.Common.{◌≡◌, ◌≢◌, ℕ, List, Bool, true, false, not, if◌then◌else◌, nat_eq, Option, Some, None, refl, sym, ap, ◌∙◌}
use Rattle.world_heap.specs.declared.value.Value.{Value}
use Rattle.world_heap.specs.declared.value.Value.TheVariants.{Bool as Boolean}
use Rattle.js_tree.specs.declared.node.Node.{Node}
use Rattle.js_tree.specs.declared.node.BinaryOperator.{BinaryOperator}
use Rattle.js_tree.specs.declared.node.BinaryOperator.TheVariants.{Add, Subtract, Multiply, Divide, Remainder, Less, Greater, LessOrEqual, GreaterOrEqual, InstanceOf, In, StrictEqual, StrictNotEqual, BitAnd, BitOr, BitXor, ShiftLeft, ShiftRight, ShiftRightUnsigned}
use Rattle.js_semantics.specs.declared.fault.Fault.TheVariants.{WrongOperand}
use Rattle.js_semantics.specs.World.{World}
use Rattle.js_semantics.specs.Prog.{Prog}
use Rattle.js_semantics.specs.Properties.{object_of}
use Rattle.js_semantics.specs.Operators.{Computed, Is, Fails, key_of, of_operands, strictly_equal}
use Rattle.js_semantics.specs.Expressions.{apply, compute, has_key, instance_of}
use Rattle.js_operators.specs.Answers.{settled}
use Rattle.js_operators.proofs.Settled.{alike}
use Rattle.js_machine.specs.declared.state.State.{State}
use Rattle.js_machine.specs.Does.{Moves, world_of}
use Rattle.js_machine.proofs.Doing.{moves_by, moves_read}

-- no object has no key
pub has_key_nowhere : (key : Option (List ℕ)) (w : World ℕ) (k : Value ℕ → Prog ℕ) → has_key key None w k ≡ compute (Fails WrongOperand) k
unfolding compute
has_key_nowhere None w k = refl
has_key_nowhere (Some key) w k = refl

-- what is no key is that of no object
pub has_no_key : (object : Option ℕ) (w : World ℕ) (k : Value ℕ → Prog ℕ) → has_key None object w k ≡ compute (Fails WrongOperand) k
unfolding compute
has_no_key object w k = refl

-- an operator that looks at the types of both operands
pub apply_other : (operator : BinaryOperator) (x y : Value ℕ) (k : Value ℕ → Prog ℕ) → operator ≢ InstanceOf → operator ≢ In → operator ≢ StrictEqual → operator ≢ StrictNotEqual → apply operator x y k ≡ compute (of_operands operator x y) k
unfolding apply
apply_other Add x y k a b c d = refl
apply_other Subtract x y k a b c d = refl
apply_other Multiply x y k a b c d = refl
apply_other Divide x y k a b c d = refl
apply_other Remainder x y k a b c d = refl
apply_other Less x y k a b c d = refl
apply_other Greater x y k a b c d = refl
apply_other LessOrEqual x y k a b c d = refl
apply_other GreaterOrEqual x y k a b c d = refl
apply_other InstanceOf x y k a b c d = absurd (a refl)
apply_other In x y k a b c d = absurd (b refl)
apply_other StrictEqual x y k a b c d = absurd (c refl)
apply_other StrictNotEqual x y k a b c d = absurd (d refl)
apply_other BitAnd x y k a b c d = refl
apply_other BitOr x y k a b c d = refl
apply_other BitXor x y k a b c d = refl
apply_other ShiftLeft x y k a b c d = refl
apply_other ShiftRight x y k a b c d = refl
apply_other ShiftRightUnsigned x y k a b c d = refl

-- equal programs come to the same
moves_same : (nodes : List Node) (p q : Prog ℕ) (s : State) → p ≡ q → Moves nodes p s q s
moves_same nodes p q s e = rw e (moves_by nodes q q s (λ supply ds j. refl))

pub moves_other : (nodes : List Node) (operator : BinaryOperator) (x y : Value ℕ) (answer : Computed ℕ) (k : Value ℕ → Prog ℕ) (s : State) → operator ≢ InstanceOf → operator ≢ In → operator ≢ StrictEqual → operator ≢ StrictNotEqual → answer ≡ settled (of_operands operator x y) → Moves nodes (apply operator x y k) s (compute answer k) s
moves_other nodes operator x y answer k s a b c d is =
    moves_same nodes (apply operator x y k) (compute answer k) s (apply_other operator x y k a b c d ∙ alike (of_operands operator x y) k ∙ ap (λ z. compute z k) (sym is))

pub moves_in : (nodes : List Node) (x y : Value ℕ) (answer : Computed ℕ) (k : Value ℕ → Prog ℕ) (s : State) → ((supply : ℕ → ℕ) → has_key (key_of x) (object_of y (world_of nodes supply s)) (world_of nodes supply s) k ≡ compute answer k) → Moves nodes (apply In x y k) s (compute answer k) s
unfolding apply
moves_in nodes x y answer k s is = moves_read nodes (λ w. has_key (key_of x) (object_of y w) w k) (compute answer k) s is

pub moves_equal : (nodes : List Node) (x y : Value ℕ) (b : Bool) (k : Value ℕ → Prog ℕ) (s : State) → b ≡ strictly_equal nat_eq x y → Moves nodes (apply StrictEqual x y k) s (compute (Is (Boolean b)) k) s
unfolding apply compute
moves_equal nodes x y b k s is = moves_read nodes (λ w. k (Boolean (strictly_equal w.same x y))) (k (Boolean b)) s (λ supply. ap (λ t. k (Boolean t)) (sym is))

not_is : (b : Bool) → (if b then false else true) ≡ not b
not_is true = refl
not_is false = refl

pub moves_unequal : (nodes : List Node) (x y : Value ℕ) (b : Bool) (k : Value ℕ → Prog ℕ) (s : State) → b ≡ strictly_equal nat_eq x y → Moves nodes (apply StrictNotEqual x y k) s (compute (Is (Boolean (not b))) k) s
unfolding apply compute
moves_unequal nodes x y b k s is = moves_read nodes (λ w. k (Boolean (if strictly_equal w.same x y then false else true))) (k (Boolean (not b))) s (λ supply. ap (λ t. k (Boolean t)) (not_is (strictly_equal nat_eq x y) ∙ ap not (sym is)))

-- `instanceof` is left
pub moves_instance : (nodes : List Node) (x y : Value ℕ) (k : Value ℕ → Prog ℕ) (s : State) → Moves nodes (apply InstanceOf x y k) s (instance_of x y k) s
unfolding apply
moves_instance nodes x y k s = moves_by nodes (instance_of x y k) (instance_of x y k) s (λ supply ds j. refl)

-- all is left
pub moves_nowhere : (nodes : List Node) (p : Prog ℕ) (s : State) → Moves nodes p s p s
moves_nowhere nodes p s = moves_by nodes p p s (λ supply ds j. refl)
