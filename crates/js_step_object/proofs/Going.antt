-- How a row goes on with what was made or defined.
use Rattle.std.proofs.Common.{◌≡◌, ℕ, List, Option, Some, None, Result, Ok, Err, IfOk, subst, arith}
use Rattle.js_tree.specs.declared.node.Node.{Node}
use Rattle.world_heap.specs.declared.value.Property.{Property}
use Rattle.world_heap.specs.declared.cell.Cell.{Cell}
use Rattle.world_heap.specs.Heaps.{units_of}
use Rattle.world_log.specs.declared.entry.Product.TheVariants.{Stopped}
use Rattle.world_log.specs.declared.entry.Stop.{Stop}
use Rattle.js_semantics.specs.declared.fault.StepFault.{StepFault}
use Rattle.js_semantics.specs.Prog.{Prog, alloc}
use Rattle.js_machine.specs.declared.state.State.{State}
use Rattle.js_machine.specs.declared.state.Next.{Next}
use Rattle.js_machine.specs.declared.state.Next.TheVariants.{Made}
use Rattle.js_machine.specs.Does.{Allocates, Does}
use Rattle.js_machine.proofs.Doing.{allowing, does_move, does_move_ok}
use Rattle.js_machine.proofs.Allocating.{moves_alloc, not_alloc}
use Rattle.js_step_object.specs.Defining.{Comes, Defines, Makes}

-- with what was made
pub then_ok : (nodes : List Node) (f : (ℕ → Prog ℕ) → Prog ℕ) (k : ℕ → Prog ℕ) (old mid new : State) (made : Result ℕ Next) (loc : ℕ) (r : Result Next StepFault) → Makes nodes f old mid made → made ≡ Ok loc → IfOk r (λ next. Does nodes 6 (k loc) mid new next) → IfOk r (λ next. Does nodes 6 (f k) old new next)
then_ok nodes f k old mid new made loc r h is = let g : Makes nodes f old mid (Ok loc) = rw is at h in does_move_ok nodes 6 (f k) (k loc) old mid new r (g k)

pub then_err : (nodes : List Node) (f : (ℕ → Prog ℕ) → Prog ℕ) (k : ℕ → Prog ℕ) (old new : State) (made : Result ℕ Next) (next : Next) → Makes nodes f old new made → made ≡ Err next → Does nodes 6 (f k) old new next
then_err nodes f k old new made next h is = let g : Makes nodes f old new (Err next) = rw is at h in allowing nodes 2 6 (f k) old new next (omega arith) (g k)

-- with what went on
pub comes_ok : (nodes : List Node) (f : Prog ℕ → Prog ℕ) (p : Prog ℕ) (old mid new : State) (ended : Option Next) (r : Result Next StepFault) → Comes nodes f old mid ended → ended ≡ None → IfOk r (λ next. Does nodes 6 p mid new next) → IfOk r (λ next. Does nodes 6 (f p) old new next)
comes_ok nodes f p old mid new ended r h is = let g : Comes nodes f old mid None = rw is at h in does_move_ok nodes 6 (f p) p old mid new r (g p)

pub comes_ended : (nodes : List Node) (f : Prog ℕ → Prog ℕ) (p : Prog ℕ) (old new : State) (ended : Option Next) (next : Next) → Comes nodes f old new ended → ended ≡ Some next → Does nodes 6 (f p) old new next
comes_ended nodes f p old new ended next h is = let g : Comes nodes f old new (Some next) = rw is at h in allowing nodes 2 6 (f p) old new next (omega arith) (g p)

-- what was made or defined is told
pub is_made : (nodes : List Node) (f : (ℕ → Prog ℕ) → Prog ℕ) (old new : State) (made told : Result ℕ Next) → Makes nodes f old new made → made ≡ told → Makes nodes f old new told
is_made nodes f old new made told h is = rw is at h

pub is_defined : (nodes : List Node) (loc : ℕ) (key : List ℕ) (property : Property ℕ) (old new : State) (ended told : Option Next) → Defines nodes loc key property old new ended → ended ≡ told → Defines nodes loc key property old new told
is_defined nodes loc key property old new ended told h is = rw is at h

pub then_does : (nodes : List Node) (f : (ℕ → Prog ℕ) → Prog ℕ) (k : ℕ → Prog ℕ) (old mid new : State) (made : Result ℕ Next) (loc : ℕ) (next : Next) → Makes nodes f old mid made → made ≡ Ok loc → Does nodes 6 (k loc) mid new next → Does nodes 6 (f k) old new next
then_does nodes f k old mid new made loc next h is = let g : Makes nodes f old mid (Ok loc) = rw is at h in does_move nodes 6 (f k) (k loc) old mid new next (g k)

-- a cell that is known
pub alloc_ok : (nodes : List Node) (cell told : Cell ℕ) (old new : State) (got : Result ℕ Stop) (loc : ℕ) → units_of cell ≡ 0 → told ≡ cell → Allocates told old new got → got ≡ Ok loc → Makes nodes (λ k. alloc cell k) old new (Ok loc)
alloc_ok nodes cell told old new got loc free same h is =
    let g : Allocates told old new (Ok loc) = rw is at h in
    λ k. moves_alloc nodes cell k old new loc free (subst (λ c. Allocates c old new (Ok loc)) same g)

pub alloc_err : (nodes : List Node) (cell told : Cell ℕ) (old new : State) (got : Result ℕ Stop) (stop : Stop) (next : Next) → told ≡ cell → Allocates told old new got → got ≡ Err stop → next ≡ Made (Stopped stop) → Makes nodes (λ k. alloc cell k) old new (Err next)
alloc_err nodes cell told old new got stop next same h is ended =
    let g : Allocates cell old new got = subst (λ c. Allocates c old new got) same h in
    λ k. rw ended (not_alloc nodes 2 cell k old new stop (omega arith) (subst (λ r. Allocates cell old new r) is g))
