-- What parts of rows come to that give a value, or end the step.
use Rattle.std.proofs.Common.{◌≡◌, ℕ, suc, ◌≤◌, List, length, true, false, if◌then◌else◌, nat_lt, Result, Ok, Err, IfOk, refl, ap, arith}
use Rattle.std.proofs.lemmas.Result.{IfOk-weaker}
use Rattle.std.proofs.lemmas.Bool.Decides.{nat_tests}
use Rattle.world_heap.specs.declared.value.Value.{Value}
use Rattle.world_heap.specs.declared.value.Value.TheVariants.{Str}
use Rattle.js_tree.specs.declared.node.Node.{Node}
use Rattle.js_semantics.specs.declared.fault.Fault.TheVariants.{TooLong}
use Rattle.js_semantics.specs.declared.fault.StepFault.{StepFault}
use Rattle.world_log.specs.declared.entry.Product.TheVariants.{Stopped}
use Rattle.world_log.specs.declared.entry.Stop.TheVariants.{Units}
use Rattle.js_semantics.specs.Prog.{Prog, count_units, make_text, throw}
use Rattle.js_semantics.specs.Operators.{Is}
use Rattle.js_semantics.specs.Expressions.{compute}
use Rattle.js_machine.specs.declared.state.State.{State}
use Rattle.js_machine.specs.declared.state.Next.{Next}
use Rattle.js_machine.specs.declared.state.Next.TheVariants.{Made}
use Rattle.js_machine.specs.Does.{Does, Moves, CountsUnits}
use Rattle.js_machine.proofs.Doing.{moves_by, moves_on, does_move}
use Rattle.js_machine.proofs.Allocating.{moves_units, does_not_units}
use Rattle.js_step_expr.specs.Settling.{Settles}

-- a text that a string may be counts its units
pub text_counts : (text : List ℕ) (k : Value ℕ → Prog ℕ) → length text ≤ 1_048_576 → make_text text k ≡ count_units (length text) (k (Str text))
unfolding make_text
text_counts text k short =
    let e : nat_lt 1_048_576 (length text) ≡ false = grind (arith, nat_tests) in
    ap (λ b. if b then throw TooLong else count_units (length text) (k (Str text))) e

-- and a longer one is an error
pub text_too_long : (text : List ℕ) (k : Value ℕ → Prog ℕ) → suc 1_048_576 ≤ length text → make_text text k ≡ throw TooLong
unfolding make_text
text_too_long text k long =
    let e : nat_lt 1_048_576 (length text) ≡ true = grind (arith, nat_tests) in
    ap (λ b. if b then throw TooLong else count_units (length text) (k (Str text))) e

pub moves_text : (nodes : List Node) (text : List ℕ) (k : Value ℕ → Prog ℕ) (old new : State) → length text ≤ 1_048_576 → CountsUnits (length text) old new true → Moves nodes (make_text text k) old (k (Str text)) new
moves_text nodes text k old new short h = rw (text_counts text k short) (moves_units nodes (length text) (k (Str text)) old new h)

pub does_not_text : (nodes : List Node) (text : List ℕ) (k : Value ℕ → Prog ℕ) (old new : State) → length text ≤ 1_048_576 → CountsUnits (length text) old new false → Does nodes 2 (make_text text k) old new (Made (Stopped Units))
does_not_text nodes text k old new short h = rw (text_counts text k short) (does_not_units nodes 2 (length text) (k (Str text)) old new (omega arith) h)

-- a value is there at once
pub moves_value : (nodes : List Node) (v : Value ℕ) (k : Value ℕ → Prog ℕ) (s : State) → Moves nodes (compute (Is v) k) s (k v) s
unfolding compute
moves_value nodes v k s = moves_by nodes (k v) (k v) s (λ supply ds j. refl)

-- what is settled after a move
pub settles_after : (nodes : List Node) (p q : Prog ℕ) (k : Value ℕ → Prog ℕ) (old mid new : State) (settled : Result (Value ℕ) Next) → Moves nodes p old q mid → Settles nodes q k mid new settled → Settles nodes p k old new settled
settles_after nodes p q k old mid new (Ok v) m h = moves_on nodes p q (k v) old mid new m h
settles_after nodes p q k old mid new (Err next) m h = does_move nodes 2 p q old mid new next m h

pub settles_after_ok : (nodes : List Node) (p q : Prog ℕ) (k : Value ℕ → Prog ℕ) (old mid new : State) (r : Result (Result (Value ℕ) Next) StepFault) → Moves nodes p old q mid → IfOk r (λ settled. Settles nodes q k mid new settled) → IfOk r (λ settled. Settles nodes p k old new settled)
settles_after_ok nodes p q k old mid new r m = IfOk-weaker r _ _ (λ settled h. settles_after nodes p q k old mid new settled m h)
