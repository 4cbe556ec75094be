-- What operators answer: what they come to, where a text that would be longer than a string may be is an error.
use Rattle.std.specs.Prelude.{◌≡◌, ℕ, List, length, nat_lt, if◌then◌else◌}
use Rattle.world_heap.specs.declared.value.Value.{Value}
use Rattle.js_semantics.specs.declared.fault.Fault.TheVariants.{TooLong}
use Rattle.js_semantics.specs.Prog.{Prog}
use Rattle.js_semantics.specs.Operators.{Computed, Is, Makes, Fails}
use Rattle.js_semantics.specs.Expressions.{compute}
use Rattle.js_operators.specs.declared.answer.Answer.{Answer}
use Rattle.js_operators.specs.declared.answer.Answer.TheVariants as answers

module _ {L : Type 0} where
  -- a text that is made, where a string may be so long
  unfoldable pub made : List ℕ → Computed L
  made text = if nat_lt 1_048_576 (length text) then Fails TooLong else Makes text

  abbrev pub settled : Computed L → Computed L
  settled (Is v) = Is v
  settled (Makes text) = made text
  settled (Fails fault) = Fails fault

  -- an answer, in the words of the language's meaning
  abbrev pub computed_of : Answer L → Computed L
  computed_of (answers.Is v) = Is v
  computed_of (answers.Makes text) = Makes text
  computed_of (answers.Fails fault) = Fails fault

-- what follows is the same for what an operator comes to and for its answer
abbrev pub IsSettledAlike : Type 0
IsSettledAlike = (c : Computed ℕ) (k : Value ℕ → Prog ℕ) → compute c k ≡ compute (settled c) k
