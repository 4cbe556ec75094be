-- Calls over a frame: what is done with what they give, and how many turns they may take.
use Rattle.std.specs.Prelude.{ℕ, ◌+◌, List, [], ◌∷◌, Option, Some, None, unwrap_or}
use Rattle.world_heap.specs.declared.value.Value.{Value}
use Rattle.js_tree.specs.declared.node.Node.{Node}
use Rattle.js_semantics.specs.declared.fault.Fault.TheVariants.{NotAFunction}
use Rattle.js_semantics.specs.Prog.{Prog, Enter, Native as NativeRequest, give, on_value, throw}
use Rattle.js_semantics.specs.Access.{invoke}
use Rattle.js_machine.specs.declared.frame.AfterFrame.{AfterFrame}
use Rattle.js_machine.specs.declared.frame.Frame.{Frame}
use Rattle.js_machine.specs.declared.frame.Frame.TheVariants as frames
use Rattle.js_machine.specs.Does.{weight}
use Rattle.js_machine.specs.Frames.{after_rest}
use Rattle.js_calls.specs.declared.callee.Callee.{Callee}
use Rattle.js_calls.specs.declared.callee.Callee.TheVariants.{Closure, Native, Other}

-- what is done with a value: a frame's row goes on, or the value is that of the row
unfoldable pub ending : List Node → Option (AfterFrame ℕ) → Value ℕ → Prog ℕ
ending nodes None v = give v
ending nodes (Some frame) v = after_rest nodes frame v

abbrev pub after_frame : Option (AfterFrame ℕ) → Option (Frame ℕ)
after_frame None = None
after_frame (Some frame) = Some (frames.After frame)

-- the frames of a call
abbrev pub call_frames : Option (AfterFrame ℕ) → List (Frame ℕ)
call_frames None = frames.Leave ∷ []
call_frames (Some frame) = frames.After frame ∷ frames.Leave ∷ []

-- how many turns a call may take: those of its frames, and those of entering its body
unfoldable pub allowance : Option (AfterFrame ℕ) → ℕ
allowance None = 3
allowance (Some frame) = weight (frames.After frame) + 3

-- a call of what a value is as a function
unfoldable pub by_callee : Callee ℕ → Value ℕ → List (Value ℕ) → (Value ℕ → Prog ℕ) → Prog ℕ
by_callee (Closure node env kept) receiver arguments k = invoke node env (unwrap_or kept receiver) arguments (on_value k)
by_callee (Native id) receiver arguments k = Enter (NativeRequest id receiver arguments) (on_value k)
by_callee Other receiver arguments k = throw NotAFunction
