-- Environments that a row makes, or the world's stop.
use Rattle.std.proofs.Common.{◌≡◌, ℕ, ◌≤◌, List, Result, Ok, Err, IfOk}
use Rattle.js_tree.specs.declared.node.Node.{Node}
use Rattle.world_heap.specs.declared.cell.Cell.{Cell}
use Rattle.world_heap.specs.Heaps.{units_of}
use Rattle.world_log.specs.declared.entry.Product.TheVariants.{Stopped}
use Rattle.world_log.specs.declared.entry.Stop.{Stop}
use Rattle.js_semantics.specs.declared.fault.StepFault.{StepFault}
use Rattle.js_semantics.specs.Prog.{Prog, alloc}
use Rattle.js_machine.specs.declared.state.State.{State}
use Rattle.js_machine.specs.declared.state.Next.{Next}
use Rattle.js_machine.specs.declared.state.Next.TheVariants.{Made}
use Rattle.js_machine.specs.Does.{Allocates, Does}
use Rattle.js_machine.proofs.Allocating.{does_alloc_ok, not_alloc}

pub made_ok : (nodes : List Node) (n : ℕ) (cell : Cell ℕ) (k : ℕ → Prog ℕ) (old mid new : State) (loc : ℕ) (got : Result ℕ Stop) (r : Result Next StepFault) → units_of cell ≡ 0 → got ≡ Ok loc → Allocates cell old mid got → IfOk r (λ next. Does nodes n (k loc) mid new next) → IfOk r (λ next. Does nodes n (alloc cell k) old new next)
made_ok nodes n cell k old mid new loc got r free is made = does_alloc_ok nodes n cell k old mid new loc r free (rw is at made)

pub made_err : (nodes : List Node) (n : ℕ) (cell : Cell ℕ) (k : ℕ → Prog ℕ) (old new : State) (stop : Stop) (got : Result ℕ Stop) (next : Next) → 1 ≤ n → got ≡ Err stop → Allocates cell old new got → next ≡ Made (Stopped stop) → Does nodes n (alloc cell k) old new next
made_err nodes n cell k old new stop got next some is made told = rw told (not_alloc nodes n cell k old new stop some (rw is at made))
