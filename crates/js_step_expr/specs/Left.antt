-- What a frame of an operator comes to, where what is left may call code.
use Rattle.std.specs.Prelude.{ℕ, List, Result, Ok, Err, Some, None, slice_get}
use Rattle.world_heap.specs.declared.value.Value.TheVariants.{Undefined}
use Rattle.js_tree.specs.declared.node.Node.{Node}
use Rattle.js_semantics.specs.declared.fault.Fault.TheVariants.{NotDefined}
use Rattle.js_semantics.specs.Prog.{Prog, give, throw}
use Rattle.js_semantics.specs.Expressions.{give_type, instance_of}
use Rattle.js_semantics.specs.Access.{read_name}
use Rattle.js_machine.specs.declared.state.State.{State}
use Rattle.js_machine.specs.declared.state.Next.{Next}
use Rattle.js_machine.specs.declared.frame.AfterFrame.{AfterFrame}
use Rattle.js_machine.specs.declared.frame.AfterFrame.TheVariants as afters
use Rattle.js_machine.specs.Parts.{name_of}
use Rattle.js_machine.specs.Does.{Does, Moves}
use Rattle.js_machine.specs.Frames.{after_rest, use_rest, write_place}
use Rattle.js_step_expr.specs.declared.frames.Remaining.{Remaining}
use Rattle.js_step_expr.specs.declared.frames.Remaining.TheVariants.{Read, Property, Write, Instance}

-- what a name that is declared nowhere comes to: `typeof` takes it for undefined
abbrev pub undeclared : AfterFrame ℕ → Prog ℕ
undeclared afters.Typeof = give_type Undefined
undeclared other = throw NotDefined

-- what is left, in the words of the language's meaning
abbrev pub left_of : List Node → Remaining ℕ → Prog ℕ
left_of nodes (Read node env frame) = read_name env (name_of (slice_get nodes node.0)) (undeclared frame) (λ v. after_rest nodes frame v)
left_of nodes (Property base key usage scope) = use_rest nodes usage base key scope
left_of nodes (Write place value) = write_place nodes place value (give value)
left_of nodes (Instance left right None) = instance_of left right (λ v. give v)
left_of nodes (Instance left right (Some place)) = instance_of left right (λ v. write_place nodes place v (give v))

-- A program is done by a step, or comes to what is left of it.
abbrev pub DoesOrComes : List Node → Prog ℕ → State → State → Result Next (Remaining ℕ) → Type 0
DoesOrComes nodes p old new (Ok next) = Does nodes 6 p old new next
DoesOrComes nodes p old new (Err left) = Moves nodes p old (left_of nodes left) new
