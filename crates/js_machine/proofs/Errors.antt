-- How an error is thrown.
use Rattle.std.proofs.Common.{◌≡◌, ℕ, ◌≤◌, Ok, Err, Some, None, Option, List, true, IfOk, Result, nat_eq, refl}
use Rattle.js_tree.specs.declared.node.Node.{Node}
use Rattle.world_heap.specs.declared.value.Value.TheVariants.{Ref}
use Rattle.world_log.specs.declared.entry.Stop.{Stop}
use Rattle.world_log.specs.declared.entry.Product.TheVariants.{Stopped}
use Rattle.js_semantics.specs.declared.fault.Fault.{Fault}
use Rattle.js_semantics.specs.declared.fault.StepFault.{StepFault}
use Rattle.js_semantics.specs.declared.outcome.Outcome.TheVariants.{Thrown}
use Rattle.parcel.specs.declared.parcel.ErrorKind.{ErrorKind}
use Rattle.world_heap.specs.declared.cell.Cell.{Cell}
use Rattle.world_heap.specs.declared.cell.Cell.TheVariants.{Error}
use Rattle.world_heap.specs.Heaps.{Fits, IsNoEnv, units_of}
use Rattle.world_heap.specs.Over.{OptionOver}
use Rattle.js_semantics.specs.Faults.{kind_number, kind_of, message_of, prototype_of_kind}
use Rattle.js_semantics.specs.World.{World, built_in}
use Rattle.js_machine.specs.Parts.{message_entry}
use Rattle.js_semantics.specs.Prog.{End, alloc, error_cell, throw}
use Rattle.js_machine.specs.declared.state.State.{State}
use Rattle.js_machine.specs.declared.state.Next.{Next}
use Rattle.js_machine.specs.declared.state.Next.TheVariants.{Made}
use Rattle.js_machine.specs.Does.{Does, Allocates, world_of}
use Rattle.js_machine.proofs.Doing.{does_read, does_read_ok}
use Rattle.js_machine.proofs.Allocating.{does_alloc_ok, not_alloc}

-- an error is thrown, once it is made
pub does_throw_ok : (nodes : List Node) (n : ℕ) (fault : Fault) (old mid new : State) (loc : ℕ) (r : Result Next StepFault) → ((supply : ℕ → ℕ) → Allocates (error_cell (kind_of fault) (Some (message_of fault)) (world_of nodes supply old)) old mid (Ok loc)) → IfOk r (λ next. Does nodes n (End (Thrown (Ref loc))) mid new next) → IfOk r (λ next. Does nodes n (throw fault) old new next)
unfolding throw
does_throw_ok nodes n fault old mid new loc r made h =
    let cell = error_cell (kind_of fault) (Some (message_of fault)) (world_of nodes (λ m. m) old) in
    does_read_ok nodes n (λ w. alloc (error_cell (kind_of fault) (Some (message_of fault)) w) (λ l. End (Thrown (Ref l)))) (alloc cell (λ l. End (Thrown (Ref l)))) old new r (λ supply. refl) (does_alloc_ok nodes n cell (λ l. End (Thrown (Ref l))) old mid new loc r refl (made (λ m. m)) h)

-- or the world stops
pub does_not_throw : (nodes : List Node) (n : ℕ) (fault : Fault) (old new : State) (stop : Stop) → 1 ≤ n → ((supply : ℕ → ℕ) → Allocates (error_cell (kind_of fault) (Some (message_of fault)) (world_of nodes supply old)) old new (Err stop)) → Does nodes n (throw fault) old new (Made (Stopped stop))
unfolding throw
does_not_throw nodes n fault old new stop some made =
    let cell = error_cell (kind_of fault) (Some (message_of fault)) (world_of nodes (λ m. m) old) in
    does_read nodes n (λ w. alloc (error_cell (kind_of fault) (Some (message_of fault)) w) (λ l. End (Thrown (Ref l)))) (alloc cell (λ l. End (Thrown (Ref l)))) old new (Made (Stopped stop)) (λ supply. refl) (not_alloc nodes n cell (λ l. End (Thrown (Ref l))) old new stop some (made (λ m. m)))

-- an error with its properties, whether it has a message or not
pub error_is : (kind : ErrorKind) (message : Option (List ℕ)) (w : World ℕ) → error_cell kind message w ≡ Error (record { proto = built_in (prototype_of_kind kind) w; properties = message_entry message; extensible = true }) (kind_number kind)
error_is kind None w = refl
error_is kind (Some message) w = refl

-- it takes no units
pub error_free : (kind : ErrorKind) (message : Option (List ℕ)) (w : World ℕ) → units_of (error_cell kind message w) ≡ 0
error_free kind None w = refl
error_free kind (Some message) w = refl

-- and where it may stand, so may its prototype
pub error_proto : (cells : List (ℕ × Cell ℕ)) (kind : ErrorKind) (message : Option (List ℕ)) (w : World ℕ) → Fits nat_eq cells (error_cell kind message w) → OptionOver (IsNoEnv nat_eq cells) (built_in (prototype_of_kind kind) w)
error_proto cells kind None w fit = fit.0.0
error_proto cells kind (Some message) w fit = fit.0.0
