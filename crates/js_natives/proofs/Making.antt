-- Errors that are made with a message or without one, and lines that are told.
use Rattle.std.proofs.Common.{◌≡◌, ℕ, ◌+◌, ◌*◌, ◌≤◌, Ok, Err, Some, None, Option, List, [], ◌∷◌, IfOk, Result, refl, sym, ap, ◌∙◌, arith}
use Rattle.js_tree.specs.declared.node.Node.{Node}
use Rattle.parcel.specs.declared.parcel.ErrorKind.{ErrorKind}
use Rattle.world_log.specs.declared.entry.Stop.{Stop}
use Rattle.world_log.specs.declared.entry.Product.{Product}
use Rattle.world_log.specs.declared.entry.Product.TheVariants.{Stopped}
use Rattle.js_semantics.specs.declared.fault.StepFault.{StepFault}
use Rattle.js_semantics.specs.declared.outcome.Outcome.{Outcome}
use Rattle.js_semantics.specs.Prog.{Prog, End, Make, alloc, error_cell, make_error}
use Rattle.js_semantics.specs.Run.{run}
use Rattle.js_machine.specs.declared.state.State.{State}
use Rattle.js_machine.specs.declared.state.Control.TheVariants as controls
use Rattle.js_machine.specs.declared.state.Next.{Next}
use Rattle.js_machine.specs.declared.state.Next.TheVariants.{Made}
use Rattle.js_machine.specs.Does.{Allocates, Does, after, left, to_come, weights, work, world_of}
use Rattle.js_machine.proofs.Doing.{does_read, does_read_ok}
use Rattle.js_machine.proofs.Allocating.{does_alloc_ok, not_alloc}

-- a line is told, and the row ends with an outcome
pub does_tell : (nodes : List Node) (n : ℕ) (o : Outcome ℕ) (product : Product) (old new : State) → 2 ≤ n → new ≡ record old { control = controls.Give o } → Does nodes n (Make product (End o)) old new (Made product)
unfolding run
does_tell nodes n o product old new some is = record {
  law = λ supply ds follows. sym (ap (λ s. after (product ∷ []) (to_come nodes supply s ds)) is);
  falls = let e : work new ≡ 32 * left old + weights old.frames.items + 1 = ap work is in omega arith;
  keeps = λ supply f. rw is at f;
  stays = ap (λ s. s.heap) is ∙ sym (ap (λ s. record old.heap { cells = s.heap.cells; counts = s.heap.counts }) is);
}

-- an error is made, and the row goes on with its location
pub does_error_ok : (nodes : List Node) (n : ℕ) (kind : ErrorKind) (message : Option (List ℕ)) (k : ℕ → Prog ℕ) (old mid new : State) (loc : ℕ) (r : Result Next StepFault) → ((supply : ℕ → ℕ) → Allocates (error_cell kind message (world_of nodes supply old)) old mid (Ok loc)) → IfOk r (λ next. Does nodes n (k loc) mid new next) → IfOk r (λ next. Does nodes n (make_error kind message k) old new next)
does_error_ok nodes n kind None k old mid new loc r made h =
    let cell = error_cell kind None (world_of nodes (λ m. m) old) in
    does_read_ok nodes n (λ w. alloc (error_cell kind None w) k) (alloc cell k) old new r (λ supply. refl) (does_alloc_ok nodes n cell k old mid new loc r refl (made (λ m. m)) h)
does_error_ok nodes n kind (Some message) k old mid new loc r made h =
    let cell = error_cell kind (Some message) (world_of nodes (λ m. m) old) in
    does_read_ok nodes n (λ w. alloc (error_cell kind (Some message) w) k) (alloc cell k) old new r (λ supply. refl) (does_alloc_ok nodes n cell k old mid new loc r refl (made (λ m. m)) h)

-- or the world stops
pub does_not_error : (nodes : List Node) (n : ℕ) (kind : ErrorKind) (message : Option (List ℕ)) (k : ℕ → Prog ℕ) (old new : State) (stop : Stop) → 1 ≤ n → ((supply : ℕ → ℕ) → Allocates (error_cell kind message (world_of nodes supply old)) old new (Err stop)) → Does nodes n (make_error kind message k) old new (Made (Stopped stop))
does_not_error nodes n kind None k old new stop some made =
    let cell = error_cell kind None (world_of nodes (λ m. m) old) in
    does_read nodes n (λ w. alloc (error_cell kind None w) k) (alloc cell k) old new (Made (Stopped stop)) (λ supply. refl) (not_alloc nodes n cell k old new stop some (made (λ m. m)))
does_not_error nodes n kind (Some message) k old new stop some made =
    let cell = error_cell kind (Some message) (world_of nodes (λ m. m) old) in
    does_read nodes n (λ w. alloc (error_cell kind (Some message) w) k) (alloc cell k) old new (Made (Stopped stop)) (λ supply. refl) (not_alloc nodes n cell k old new stop some (made (λ m. m)))
