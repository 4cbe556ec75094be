-- How objects are constructed.
use Rattle.std.proofs.Common.{◌≡◌, ℕ, List, [], Option, Some, None, Bool, true, false, if◌then◌else◌, IfOk, Result, Ok, Err, refl, sym, ap, ◌∙◌, arith}
use Rattle.std.specs.Prelude.{codes, slice_get}
use Rattle.world_heap.specs.declared.value.Value.{Value}
use Rattle.world_heap.specs.declared.value.Value.TheVariants.{Undefined, Ref}
use Rattle.world_heap.specs.declared.cell.Cell.{Cell}
use Rattle.world_heap.specs.declared.cell.Cell.TheVariants.{Object, Array, Closure, Native, Far, Error, Map, Set, Promise, Port, Buffer, View, Symbol, Env}
use Rattle.world_heap.specs.Table.{found_under}
use Rattle.js_tree.specs.declared.node.Node.{Node}
use Rattle.js_semantics.specs.declared.fault.Fault.TheVariants.{NotAConstructor}
use Rattle.js_semantics.specs.declared.fault.StepFault.{StepFault}
use Rattle.world_log.specs.declared.entry.Product.TheVariants.{Stopped}
use Rattle.world_log.specs.declared.entry.Stop.{Stop}
use Rattle.js_semantics.specs.World.{World, cell_of}
use Rattle.js_semantics.specs.Prog.{Prog, Enter, Read, Native as NativeRequest, alloc, give, on_value, throw}
use Rattle.js_semantics.specs.Access.{invoke}
use Rattle.js_semantics.specs.Natives.{is_error_function}
use Rattle.js_semantics.specs.Objects.{construct, construct_cell, constructed, is_constructor, prototype_in}
use Rattle.js_machine.specs.declared.frame.AfterFrame.TheVariants as afters
use Rattle.js_machine.specs.declared.state.State.{State}
use Rattle.js_machine.specs.declared.state.Next.{Next}
use Rattle.js_machine.specs.declared.state.Next.TheVariants.{Made}
use Rattle.js_machine.specs.Does.{Allocates, Does, under_frame, world_of}
use Rattle.js_machine.specs.Frames.{after_rest}
use Rattle.js_machine.proofs.Doing.{does_read_ok}
use Rattle.js_machine.proofs.Allocating.{does_alloc_ok, not_alloc}
use Rattle.js_calls.specs.declared.constructing.Constructor.{Constructor}
use Rattle.js_calls.specs.declared.constructing.Constructor.TheVariants as constructors
use Rattle.js_calls.specs.Calling.{ending}
use Rattle.js_calls.specs.Constructing.{closure_maker, construct_by, constructor_in, made_prototype, native_maker}
use Rattle.js_calls.proofs.Called.{ended}

module _ (arguments : List (Value ℕ)) (w : World ℕ) (k : Value ℕ → Prog ℕ) where
  closure_makes : (b : Bool) (node env : ℕ) (proto : Option ℕ) → (if b then alloc (Object (record { proto = proto; properties = []; extensible = true })) (λ loc. invoke node env (Ref loc) arguments (on_value (λ v. Read (λ after. k (constructed loc v after))))) else throw NotAConstructor) ≡ construct_by (closure_maker b node env) proto arguments k
  unfolding construct_by closure_maker
  closure_makes true node env proto = refl
  closure_makes false node env proto = refl

  native_makes : (b : Bool) (id : ℕ) (proto : Option ℕ) → (if b then Enter (NativeRequest id Undefined arguments) (on_value k) else throw NotAConstructor) ≡ construct_by (native_maker b id) proto arguments k
  unfolding construct_by native_maker
  native_makes true id proto = refl
  native_makes false id proto = refl

  -- an object is constructed by what its constructor's cell makes
  cell_makes : (cell : Option (Cell ℕ)) → construct_cell cell arguments w k ≡ construct_by (constructor_in w.tree cell) (made_prototype cell w) arguments k
  unfolding construct_by constructor_in made_prototype
  cell_makes None = refl
  cell_makes (Some (Object b)) = refl
  cell_makes (Some (Array p vs f)) = refl
  cell_makes (Some (Closure b n e r)) = closure_makes (is_constructor (slice_get w.tree n)) n e (prototype_in (found_under b.properties (codes "prototype")) w)
  cell_makes (Some (Native b i vs)) = native_makes (is_error_function i) i None
  cell_makes (Some (Far b n)) = refl
  cell_makes (Some (Error b e)) = refl
  cell_makes (Some (Map b es)) = refl
  cell_makes (Some (Set b vs)) = refl
  cell_makes (Some (Promise b s rs)) = refl
  cell_makes (Some (Port b n h ms cs)) = refl
  cell_makes (Some (Buffer b bs)) = refl
  cell_makes (Some (View b l o n)) = refl
  cell_makes (Some (Symbol t)) = refl
  cell_makes (Some (Env o bs)) = refl

module _ (nodes : List Node) (arguments : List (Value ℕ)) where
  module _ (f : Value ℕ) (seen : Constructor ℕ) (old new : State) (r : Result Next StepFault) (is : (supply : ℕ → ℕ) → seen ≡ constructor_in nodes (cell_of f (world_of nodes supply old))) where
    constructs : (q : Prog ℕ) → ((supply : ℕ → ℕ) → construct_by seen (made_prototype (cell_of f (world_of nodes supply old)) (world_of nodes supply old)) arguments (λ v. give v) ≡ q) → IfOk r (λ next. Does nodes 4 q old new next) → IfOk r (λ next. Does nodes 4 (construct f arguments (λ v. give v)) old new next)
    unfolding construct
    constructs q comes =
        does_read_ok nodes 4 (λ w. construct_cell (cell_of f w) arguments w (λ v. give v)) q old new r
        (λ supply. let w = world_of nodes supply old in
        cell_makes arguments w (λ v. give v) (cell_of f w)
        ∙ sym (ap (λ c. construct_by c (made_prototype (cell_of f w) w) arguments (λ v. give v)) (is supply))
        ∙ comes supply)

    pub by_closure : (node env : ℕ) (proto : Option ℕ) → seen ≡ constructors.Closure node env → ((supply : ℕ → ℕ) → proto ≡ made_prototype (cell_of f (world_of nodes supply old)) (world_of nodes supply old))
        → IfOk r (λ next. Does nodes 4 (construct_by (constructors.Closure node env) proto arguments (λ v. give v)) old new next) → IfOk r (λ next. Does nodes 4 (construct f arguments (λ v. give v)) old new next)
    by_closure node env proto e inherits =
        constructs (construct_by (constructors.Closure node env) proto arguments (λ v. give v)) (λ supply. let w = world_of nodes supply old in
        ap (λ c. construct_by c (made_prototype (cell_of f w) w) arguments (λ v. give v)) e
        ∙ sym (ap (λ p. construct_by (constructors.Closure node env) p arguments (λ v. give v)) (inherits supply)))

    -- a built-in function is called
    pub by_native : (id : ℕ) → seen ≡ constructors.Native id → IfOk r (λ next. Does nodes 4 (Enter (NativeRequest id Undefined arguments) (λ o. under_frame nodes None o)) old new next) → IfOk r (λ next. Does nodes 4 (construct f arguments (λ v. give v)) old new next)
    unfolding construct_by ending
    by_native id e =
        constructs (Enter (NativeRequest id Undefined arguments) (λ o. under_frame nodes None o)) (λ supply. let w = world_of nodes supply old in
        ap (λ c. construct_by c (made_prototype (cell_of f w) w) arguments (λ v. give v)) e
        ∙ ap (λ j. Enter (NativeRequest id Undefined arguments) j) (ended nodes None))

    -- what is no constructor throws
    pub by_nothing : seen ≡ constructors.Nothing → IfOk r (λ next. Does nodes 4 (throw NotAConstructor) old new next) → IfOk r (λ next. Does nodes 4 (construct f arguments (λ v. give v)) old new next)
    unfolding construct_by
    by_nothing e =
        constructs (throw NotAConstructor) (λ supply. let w = world_of nodes supply old in
        ap (λ c. construct_by c (made_prototype (cell_of f w) w) arguments (λ v. give v)) e)

  -- the new object is made, and the function called on it
  pub object_ok : (node env : ℕ) (proto : Option ℕ) (old mid new : State) (loc : ℕ) (r : Result Next StepFault) → Allocates (Object (record { proto = proto; properties = []; extensible = true })) old mid (Ok loc)
      → IfOk r (λ next. Does nodes 4 (invoke node env (Ref loc) arguments (on_value (ending nodes (Some (afters.Constructed loc))))) mid new next) → IfOk r (λ next. Does nodes 4 (construct_by (constructors.Closure node env) proto arguments (λ v. give v)) old new next)
  unfolding construct_by ending
  object_ok node env proto old mid new loc r made h =
      does_alloc_ok nodes 4 (Object (record { proto = proto; properties = []; extensible = true })) (λ at. invoke node env (Ref at) arguments (on_value (λ v. after_rest nodes (afters.Constructed at) v))) old mid new loc r refl made h

  pub no_object : (node env : ℕ) (proto : Option ℕ) (old new : State) (stop : Stop) → Allocates (Object (record { proto = proto; properties = []; extensible = true })) old new (Err stop) → Does nodes 4 (construct_by (constructors.Closure node env) proto arguments (λ v. give v)) old new (Made (Stopped stop))
  unfolding construct_by
  no_object node env proto old new stop made =
      not_alloc nodes 4 (Object (record { proto = proto; properties = []; extensible = true })) (λ at. invoke node env (Ref at) arguments (on_value (λ v. after_rest nodes (afters.Constructed at) v))) old new stop (omega arith) made

-- an object that was returned takes the place of the new one
pub constructed_ok : (nodes : List Node) (object : ℕ) (v made : Value ℕ) (old new : State) (r : Result Next StepFault) → ((supply : ℕ → ℕ) → made ≡ constructed object v (world_of nodes supply old))
    → IfOk r (λ next. Does nodes 2 (give made) old new next) → IfOk r (λ next. Does nodes 2 (after_rest nodes (afters.Constructed object) v) old new next)
constructed_ok nodes object v made old new r is =
    does_read_ok nodes 2 (λ w. give (constructed object v w)) (give made) old new r (λ supply. sym (ap (λ x. give x) (is supply)))
