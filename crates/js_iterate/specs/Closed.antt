-- What is walked and a call that is prepared fit a heap, and what is made from a closed state.
use Rattle.std.specs.Prelude.{◌≡◌, ℕ, nat_eq, List, Result, Ok, Err}
use Rattle.js_tree.specs.declared.node.Node.{Node}
use Rattle.world_heap.specs.declared.cell.Cell.{Cell}
use Rattle.world_heap.specs.declared.cell.MapEntry.{MapEntry}
use Rattle.world_heap.specs.Over.{ListOver}
use Rattle.world_heap.specs.Heaps.{IsCell, IsNoEnv}
use Rattle.js_semantics.specs.declared.fault.StepFault.{StepFault}
use Rattle.js_semantics.specs.declared.fault.StepFault.TheVariants.{Memory}
use Rattle.js_names.specs.Growing.{IsOpen}
use Rattle.js_machine.specs.declared.frame.CallTarget.{CallTarget}
use Rattle.js_machine.specs.declared.state.State.{State}
use Rattle.js_machine.specs.declared.state.Next.{Next}
use Rattle.js_machine.specs.Closed.{GoesOn, IsNamed, TargetOver, ValueFits}
use Rattle.js_iterate.specs.declared.arguments.Pending.{Pending}
use Rattle.js_iterate.specs.declared.walking.Walked.{Walked}
use Rattle.js_iterate.specs.declared.walking.Walked.TheVariants as walked

module _ (cells : List (ℕ × Cell ℕ)) where
  -- an entry of a Map (ECMA-262, 24.1)
  abbrev pub EntryFits : MapEntry ℕ → Type 0
  EntryFits entry = ValueFits cells entry.key × ValueFits cells entry.value

  -- what of a cell is walked
  abbrev pub WalkedFits : Walked ℕ → Type 0
  WalkedFits walked.Itself = Unit {0}
  WalkedFits (walked.Values values) = ListOver (ValueFits cells) values
  WalkedFits (walked.Entries entries) = ListOver EntryFits entries
  WalkedFits walked.Nothing = Unit {0}

  -- the location of an array that is being made
  abbrev pub IsMade : ℕ → Type 0
  IsMade loc = IsNoEnv nat_eq cells loc × IsOpen cells loc

-- what arguments are for, and a call whose arguments are being evaluated (ECMA-262, 13.3.8.1)
module _ (nodes : List Node) (cells : List (ℕ × Cell ℕ)) where
  abbrev pub CallTargetFits : CallTarget ℕ → Type 0
  CallTargetFits target = TargetOver (IsNoEnv nat_eq cells) (IsCell nat_eq cells) (IsOpen cells) (IsNamed nodes) target

  abbrev pub PendingFits : Pending ℕ → Type 0
  PendingFits pending = ListOver (ValueFits cells) pending.before × CallTargetFits pending.target

-- What is answered for a location, from a closed state: the state goes on, and the location fits its heap, where there is
-- one; else memory runs out.
abbrev pub LastsMaking : (List (ℕ × Cell ℕ) → ℕ → Type 0) → List Node → State → State → Result (Result ℕ Next) StepFault → Type 0
LastsMaking F nodes old new (Ok (Ok loc)) = GoesOn nodes old new × F new.heap.cells loc
LastsMaking F nodes old new (Ok (Err next)) = GoesOn nodes old new
LastsMaking F nodes old new (Err fault) = fault ≡ Memory
