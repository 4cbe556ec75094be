-- Properties, names and calls make nothing themselves.
use Rattle.std.proofs.Common.{ℕ, List, [], ◌∷◌, Bool, true, false, Option, Some, None}
use Rattle.std.specs.Prelude.{nat_lt, slice_get}
use Rattle.world_heap.specs.declared.value.Value.{Value}
use Rattle.world_heap.specs.declared.value.Value.TheVariants.{Undefined, Ref}
use Rattle.world_heap.specs.declared.value.Property.{Property}
use Rattle.world_heap.specs.declared.cell.Cell.{Cell}
use Rattle.world_heap.specs.declared.cell.Cell.TheVariants.{Closure, Native as NativeCell, Env}
use Rattle.js_tree.specs.declared.node.NodeId.{NodeId}
use Rattle.js_tree.specs.declared.node.BindElement.{BindElement}
use Rattle.js_tree.specs.declared.node.Function.{Function}
use Rattle.proto_props.specs.declared.get.Got.{Got}
use Rattle.proto_props.specs.declared.get.Got.TheVariants.{Value as Given, CallGetter, Absent, Refused}
use Rattle.proto_props.specs.Gets.{gets}
use Rattle.js_semantics.specs.declared.fault.Fault.TheVariants.{TooManyCalls}
use Rattle.js_semantics.specs.declared.scope.Scope.{Scope}
use Rattle.js_semantics.specs.declared.outcome.Outcome.{Outcome}
use Rattle.js_semantics.specs.World.{World, cell_at, cell_of}
use Rattle.js_semantics.specs.Prog.{Prog, Cont, change, make_text}
use Rattle.js_semantics.specs.Properties.{Change, Writes, Stays, CallsSetter, Refuses, Deletion, Leaves, Removes, Keeps, made_of, set_on, delete_step, define_step}
use Rattle.js_semantics.specs.Environments.{binding_of, bind_in, bound_in}
use Rattle.js_semantics.specs.Access.{make_array, or_default, bind_value, bind_parameters, leave, run_body, run_function, activate, invoke, call_cell, call, function_of, rest_of, take_up, get, carry_out, set, define, delete_with, delete, binding_value, global_holder, read_global, read_name, write_binding, write_global, write_name}
use Rattle.alone_laws.proofs.Orderly.{Meets, Steady, SteadyFor, if_steady, on_value_steady, alloc_steady, throw_steady, bind_steady, make_text_steady, count_places_steady, steady}

module _ {L : Type 0} (asked : Bool) where
  pub make_array_steady : (items : List (Value L)) (k : L → Prog L) → SteadyFor asked k → Steady asked (make_array items k)
  unfolding make_array
  make_array_steady items k h = search (steady)

  pub or_default_steady : (default : Option NodeId) (v : Value L) (scope : Scope L) (k : Value L → Prog L) → SteadyFor asked k → Steady asked (or_default default v scope k)
  unfolding or_default
  or_default_steady (Some default) Undefined scope k h = on_value_steady asked k h
  or_default_steady default v scope k h = h v

  pub bind_value_steady : (pattern : NodeId) (v : Value L) (scope : Scope L) (p : Prog L) → Steady asked p → Steady asked (bind_value pattern v scope p)
  bind_value_steady pattern v scope p h = on_value_steady asked _ (λ u. h)

  pub bind_parameters_steady : (elements : List BindElement) (rest : Option NodeId) (arguments : List (Value L)) (scope : Scope L) (p : Prog L) → Steady asked p → Steady asked (bind_parameters elements rest arguments scope p)
  bind_parameters_steady [] None arguments scope p h = h
  bind_parameters_steady [] (Some rest) arguments scope p h = search (make_array_steady, bind_value_steady)
  bind_parameters_steady (element ∷ elements) rest arguments scope p h =
      search (or_default_steady, bind_value_steady, bind_parameters_steady elements rest (rest_of arguments) scope p h)

  pub leave_steady : (k : Cont L) → SteadyFor asked k → (o : Outcome L) → Steady asked (leave k o)
  leave_steady k h o = λ w l. (l, h _)

  pub run_body_steady : (function : Function) (arguments : List (Value L)) (scope : Scope L) → Steady asked (run_body function arguments scope)
  run_body_steady function arguments scope = bind_parameters_steady function.parameters function.rest arguments scope _ (λ o. tt)

  pub run_function_steady : (function : Function) (env : L) (receiver : Value L) (arguments : List (Value L)) (k : Cont L) → SteadyFor asked k → Steady asked (run_function function env receiver arguments k)
  run_function_steady function env receiver arguments k h = λ w l. alloc_steady asked _ _ (λ inner. let scope : Scope L = record { env = inner; receiver = receiver } in bind_steady asked (run_body function arguments scope) (leave k) (run_body_steady function arguments scope) (leave_steady k h))

  pub activate_steady : (function : Option Function) (env : L) (receiver : Value L) (arguments : List (Value L)) (k : Cont L) (w : World L) → Meets asked w → SteadyFor asked k → Steady asked (activate function env receiver arguments k w)
  activate_steady None env receiver arguments k w l h = search (steady)
  activate_steady (Some function) env receiver arguments k w l h = if_steady asked (nat_lt w.depth w.limits.depth) _ _ (l, run_function_steady function env receiver arguments k h) (throw_steady L asked TooManyCalls)

  pub invoke_steady : (node : ℕ) (env : L) (receiver : Value L) (arguments : List (Value L)) (k : Cont L) → SteadyFor asked k → Steady asked (invoke node env receiver arguments k)
  unfolding invoke
  invoke_steady node env receiver arguments k h = λ w l. activate_steady (function_of (slice_get w.tree node)) env receiver arguments k w l h

  pub call_cell_steady : (cell : Option (Cell L)) (receiver : Value L) (arguments : List (Value L)) (k : Value L → Prog L) → SteadyFor asked k → Steady asked (call_cell cell receiver arguments k)
  call_cell_steady (Some (Closure body node env kept)) receiver arguments k h = search (steady, invoke_steady)
  call_cell_steady (Some (NativeCell body id kept)) receiver arguments k h = search (steady)
  call_cell_steady other receiver arguments k h = search (steady)

  pub call_steady : (callee receiver : Value L) (arguments : List (Value L)) (k : Value L → Prog L) → SteadyFor asked k → Steady asked (call callee receiver arguments k)
  unfolding call
  call_steady callee receiver arguments k h = λ w l. call_cell_steady (cell_of callee w) receiver arguments k h

  pub take_up_steady : (got : Got L) (of : Value L) (key : List ℕ) (k : Value L → Prog L) → SteadyFor asked k → Steady asked (take_up got of key k)
  take_up_steady (Given v) of key k h = elim (made_of of key) as (λ made. Steady asked (elim made [ Some text ↦ make_text text k | None ↦ k v ])) [ Some text ↦ make_text_steady asked text k h | None ↦ h v ]
  take_up_steady (CallGetter get) of key k h = call_steady _ of [] k h
  take_up_steady Absent of key k h = h Undefined
  take_up_steady Refused of key k h = search (steady)

  pub get_steady : (of : Value L) (key : List ℕ) (k : Value L → Prog L) → SteadyFor asked k → Steady asked (get of key k)
  unfolding get
  get_steady of key k h = λ w l. take_up_steady (gets w.same w.heap of key) of key k h

  pub carry_out_steady : (change : Change L) (of v : Value L) (p : Prog L) → Steady asked p → Steady asked (carry_out change of v p)
  carry_out_steady (Writes loc cell places) of v p h = count_places_steady asked places _ (λ w l. (l, h))
  carry_out_steady Stays of v p h = h
  carry_out_steady (CallsSetter set) of v p h = call_steady _ _ _ _ (λ u. h)
  carry_out_steady (Refuses fault) of v p h = throw_steady L asked fault

  pub set_steady : (of : Value L) (key : List ℕ) (v : Value L) (p : Prog L) → Steady asked p → Steady asked (set of key v p)
  unfolding set
  set_steady of key v p h = λ w l. carry_out_steady (set_on of key v w) of v p h

  pub define_steady : (loc : L) (key : List ℕ) (property : Option (Property L) → Property L) (p : Prog L) → Steady asked p → Steady asked (define loc key property p)
  unfolding define
  define_steady loc key property p h = λ w l. carry_out_steady (define_step loc key property w) (Ref loc) Undefined p h

  pub delete_with_steady : (deletion : Option (Deletion L)) → Steady asked (delete_with deletion)
  delete_with_steady None = search (steady)
  delete_with_steady (Some Leaves) = tt
  delete_with_steady (Some (Removes loc cell)) = λ w l. (l, tt)
  delete_with_steady (Some Keeps) = search (steady)

  pub delete_steady : (of : Value L) (key : List ℕ) → Steady asked (delete of key)
  unfolding delete
  delete_steady of key = λ w l. delete_with_steady (delete_step of key w)

  pub binding_value_steady : (value : Option (Value L)) (k : Value L → Prog L) → SteadyFor asked k → Steady asked (binding_value value k)
  binding_value_steady None k h = search (steady)
  binding_value_steady (Some v) k h = h v

  pub read_global_steady : (global : Option (Value L)) (name : List ℕ) (absent : Prog L) (k : Value L → Prog L) → Steady asked absent → SteadyFor asked k → Steady asked (read_global global name absent k)
  read_global_steady None name absent k x h = x
  read_global_steady (Some global) name absent k x h = get_steady global name k h

  pub read_name_steady : (env : L) (name : List ℕ) (absent : Prog L) (k : Value L → Prog L) → Steady asked absent → SteadyFor asked k → Steady asked (read_name env name absent k)
  unfolding read_name
  read_name_steady env name absent k x h = λ w l. elim (binding_of env name w) as (λ found. Steady asked (elim found [ Some one ↦ binding_value one.1.value k | None ↦ read_global (global_holder name w) name absent k ])) [
    | Some one ↦ binding_value_steady one.1.value k h
    | None ↦ read_global_steady (global_holder name w) name absent k x h
  ]

  bound_in_meets : (cell : Option (Cell L)) (env : L) (name : List ℕ) (v : Value L) (w : World L) → Meets asked w → Meets asked (bound_in cell env name v w)
  bound_in_meets (Some (Env outer bindings)) env name v w l = l
  bound_in_meets cell env name v w l = l

  pub bind_in_meets : (env : L) (name : List ℕ) (v : Value L) (w : World L) → Meets asked w → Meets asked (bind_in env name v w)
  bind_in_meets env name v w l = bound_in_meets (cell_at env w) env name v w l

  pub write_binding_steady : (value : Option (Value L)) (fixed : Bool) (p : Prog L) → Steady asked p → Steady asked (write_binding value fixed p)
  write_binding_steady None fixed p h = search (steady)
  write_binding_steady (Some old) true p h = search (steady)
  write_binding_steady (Some old) false p h = h

  pub write_global_steady : (global : Option (Value L)) (name : List ℕ) (v : Value L) (p : Prog L) → Steady asked p → Steady asked (write_global global name v p)
  write_global_steady None name v p h = search (steady)
  write_global_steady (Some global) name v p h = set_steady global name v p h

  pub write_name_steady : (env : L) (name : List ℕ) (v : Value L) (p : Prog L) → Steady asked p → Steady asked (write_name env name v p)
  unfolding write_name
  write_name_steady env name v p h = λ w l. elim (binding_of env name w) as (λ found. Steady asked (elim found [ Some one ↦ write_binding one.1.value one.1.fixed (change (bind_in one.0 name v) p) | None ↦ write_global (global_holder name w) name v p ])) [
    | Some one ↦ write_binding_steady one.1.value one.1.fixed _ (λ u m. (bind_in_meets one.0 name v u m, h))
    | None ↦ write_global_steady (global_holder name w) name v p h
  ]

pub ruleset steady_access = (steady, make_array_steady, or_default_steady, bind_value_steady, invoke_steady, call_steady, get_steady, set_steady, define_steady, delete_steady, read_name_steady, write_name_steady)
