-- What a part of a row answers fits a heap: its locations are those of the heap.
use Rattle.std.specs.Prelude.{◌≡◌, ℕ, nat_eq, List, Result, Ok, Err}
use Rattle.world_heap.specs.declared.value.Value.{Value}
use Rattle.world_heap.specs.declared.cell.Cell.{Cell}
use Rattle.world_heap.specs.Over.{OptionOver}
use Rattle.world_heap.specs.Heaps.{IsCell, IsNoEnv}
use Rattle.js_tree.specs.declared.node.Node.{Node}
use Rattle.js_semantics.specs.declared.fault.StepFault.{StepFault}
use Rattle.js_semantics.specs.declared.fault.StepFault.TheVariants.{Memory}
use Rattle.js_names.specs.Growing.{IsOpen}
use Rattle.js_operators.specs.declared.answer.Answer.{Answer}
use Rattle.js_operators.specs.declared.answer.Answer.TheVariants as answers
use Rattle.js_machine.specs.declared.frame.Key.{Key}
use Rattle.js_machine.specs.declared.state.State.{State}
use Rattle.js_machine.specs.declared.state.Next.{Next}
use Rattle.js_machine.specs.Closed.{KeyOver, AfterFits, GoesOn, IsNamed, PlaceFits, ScopeFits, ValueFits}
use Rattle.js_step_expr.specs.declared.frames.Remaining.{Remaining}
use Rattle.js_step_expr.specs.declared.frames.Remaining.TheVariants.{Read, Property, Write, Instance}

-- what an operator answers
abbrev pub AnswerFits : List (ℕ × Cell ℕ) → Answer ℕ → Type 0
AnswerFits cells (answers.Is v) = ValueFits cells v
AnswerFits cells (answers.Makes text) = Unit {0}
AnswerFits cells (answers.Fails fault) = Unit {0}

-- a value, where the step hasn't ended
abbrev pub SettledFits : List (ℕ × Cell ℕ) → Result (Value ℕ) Next → Type 0
SettledFits cells (Ok v) = ValueFits cells v
SettledFits cells (Err next) = Unit {0}

-- the key of a property (ECMA-262, 13.3.2)
abbrev pub KeyFits : List Node → List (ℕ × Cell ℕ) → Key → Type 0
KeyFits nodes cells key = KeyOver (IsNoEnv nat_eq cells) (IsCell nat_eq cells) (IsOpen cells) (IsNamed nodes) key

-- what is left of an operator's row
abbrev pub RemainingFits : List Node → List (ℕ × Cell ℕ) → Remaining ℕ → Type 0
RemainingFits nodes cells (Read node env frame) = IsNamed nodes node × IsCell nat_eq cells env × AfterFits nodes cells frame
RemainingFits nodes cells (Property base key usage scope) = ValueFits cells base × KeyFits nodes cells key × ScopeFits nodes cells scope
RemainingFits nodes cells (Write place value) = PlaceFits nodes cells place × ValueFits cells value
RemainingFits nodes cells (Instance left right place) = ValueFits cells left × ValueFits cells right × OptionOver (PlaceFits nodes cells) place

-- what is left, where the step hasn't ended
abbrev pub LeftFits : List Node → List (ℕ × Cell ℕ) → Result Next (Remaining ℕ) → Type 0
LeftFits nodes cells (Ok next) = Unit {0}
LeftFits nodes cells (Err left) = RemainingFits nodes cells left

-- From a closed state, a part of a row goes on to one, and what it gives fits the heap of that; or memory runs out.
abbrev pub LastsWith : {A : Type 0} → (List (ℕ × Cell ℕ) → A → Type 0) → List Node → State → State → Result A StepFault → Type 0
LastsWith F nodes old new (Ok given) = GoesOn nodes old new × F new.heap.cells given
LastsWith F nodes old new (Err fault) = fault ≡ Memory
