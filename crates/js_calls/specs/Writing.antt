-- What writing a property comes to, in the words of rows: the errors of the language for the refusals.
use Rattle.std.specs.Prelude.{◌≡◌, ℕ, [], ◌∷◌, Result, Ok, Err}
use Rattle.world_heap.specs.declared.value.Value.{Value}
use Rattle.world_heap.specs.declared.value.Value.TheVariants.{Ref}
use Rattle.world_heap.specs.declared.limits.HeapFault.TheVariants as full
use Rattle.world_heap.specs.Maps.{keys}
use Rattle.proto_props.specs.declared.outcome.Refusal.{Refusal}
use Rattle.proto_props.specs.declared.outcome.Refusal.TheVariants.{Operand, ReadOnly, NotExtensible, Hole, Named}
use Rattle.proto_props.specs.declared.outcome.SetDone.{SetDone}
use Rattle.proto_props.specs.declared.outcome.SetDone.TheVariants as done
use Rattle.proto_props.specs.Changes.{Change, Rewrites, Extends, Stays, CallsSetter, Refuses, Carries}
use Rattle.world_log.specs.declared.entry.Stop.{Stop}
use Rattle.world_log.specs.declared.entry.Stop.TheVariants.{Places}
use Rattle.js_machine.specs.declared.state.State.{State}
use Rattle.js_machine.specs.declared.state.Control.TheVariants as controls
use Rattle.js_semantics.specs.declared.fault.Fault.{Fault}
use Rattle.js_semantics.specs.declared.fault.Fault.TheVariants as faults
use Rattle.js_semantics.specs.Prog.{Prog, throw}
use Rattle.js_semantics.specs.Access.{call}
use Rattle.js_semantics.specs.Properties as rows

-- the error of the language for a refusal
unfoldable pub fault_for : Refusal → Fault
fault_for Operand = faults.WrongOperand
fault_for ReadOnly = faults.ReadOnly
fault_for NotExtensible = faults.ReadOnly
fault_for Hole = faults.NoHoles
fault_for Named = faults.ReadOnly

-- the same change of a row
unfoldable pub change_of : {L : Type 0} → Change L → rows.Change L
change_of (Rewrites loc cell) = rows.Writes loc cell 0
change_of (Extends loc cell) = rows.Writes loc cell 1
change_of Stays = rows.Stays
change_of (CallsSetter set) = rows.CallsSetter set
change_of (Refuses refusal) = rows.Refuses (fault_for refusal)

-- What a call answers that carries out a change in a state's heap: what it has done, or a stop where a place more would
-- pass the limit.
abbrev pub Written : Change ℕ → State → State → Result (SetDone ℕ) Stop → Type 0
Written change old new (Ok what) = Carries change old.heap (Ok what) new.heap × (keys new.heap.cells ≡ keys old.heap.cells) × (new ≡ record old { heap = new.heap })
Written change old new (Err Places) = Carries change old.heap (Err full.Places) new.heap × (new ≡ record old { heap = new.heap; control = controls.Stop })
Written change old new (Err other) = ⊥

-- what is done with what the writing of a property has done
unfoldable pub set_next : SetDone ℕ → Value ℕ → Value ℕ → Prog ℕ → Prog ℕ
set_next done.Done of v p = p
set_next (done.CallSetter set) of v p = call (Ref set) of (v ∷ []) (λ u. p)
set_next (done.Refused refusal) of v p = throw (fault_for refusal)
