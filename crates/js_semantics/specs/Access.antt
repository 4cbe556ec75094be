-- Reading, writing and removing properties, with the functions that they call, and calls of functions (ECMA-262, 7.3.2:
-- Get; 7.3.4: Set; 7.3.14: Call; 10.2.1: calls of closures; 10.2.11: their declarations).
use Rattle.std.specs.Prelude.{ℕ, ◌+◌, ◌-◌, List, [], ◌∷◌, ◌++◌, map, nat_lt, option_to_list, Option, Some, None, unwrap_or, Bool, true, false, if◌then◌else◌, slice_get}
use Rattle.std.specs.Option.{option_and_then}
use Rattle.world_heap.specs.declared.value.Value.{Value}
use Rattle.world_heap.specs.declared.value.Value.TheVariants.{Undefined, Bool as Boolean, Ref}
use Rattle.world_heap.specs.declared.value.Property.{Property}
use Rattle.world_heap.specs.declared.cell.Cell.{Cell}
use Rattle.world_heap.specs.declared.cell.Cell.TheVariants.{Array, Closure, Native as NativeCell}
use Rattle.world_heap.specs.declared.builtin.BuiltIn.TheVariants.{ArrayPrototype, Global}
use Rattle.js_tree.specs.declared.node.NodeId.{NodeId}
use Rattle.js_tree.specs.declared.node.BindElement.{BindElement}
use Rattle.js_tree.specs.declared.node.Function.{Function}
use Rattle.js_tree.specs.declared.node.Node.{Node}
use Rattle.js_tree.specs.declared.node.Node.TheVariants as kinds
use Rattle.js_semantics.specs.declared.fault.Fault.TheVariants.{NotAFunction, NotAnObject, ReadOnly, TooManyCalls, NotDefined, NotReady}
use Rattle.js_semantics.specs.declared.scope.Scope.{Scope}
use Rattle.js_semantics.specs.World.{World, built_in, cell_of, with_cell}
use Rattle.js_semantics.specs.declared.outcome.Outcome.{Outcome}
use Rattle.js_semantics.specs.declared.outcome.Outcome.TheVariants.{Normal, Return, Break, Continue, Thrown}
use Rattle.js_semantics.specs.Prog.{Prog, Cont, End, Enter, Read, Write, Bind, Native, Node as NodeRequest, bind, on_value, eval, alloc, change, count_places, give, throw, make_text}
use Rattle.proto_props.specs.declared.get.Got.{Got}
use Rattle.proto_props.specs.declared.get.Got.TheVariants.{Value as Given, CallGetter, Absent, Refused}
use Rattle.proto_props.specs.Gets.{gets}
use Rattle.js_semantics.specs.Properties.{Change, Writes, Stays, CallsSetter, Refuses, Deletion, Leaves, Removes, Keeps, made_of, has_property, set_on, delete_step, define_step}
use Rattle.js_semantics.specs.Environments.{binding_of, bind_in, parameters_of, env_cell}

-- the function of a node
unfoldable pub function_of : Option Node → Option Function
function_of (Some (kinds.FunDecl name function)) = Some function
function_of (Some (kinds.Fun name function)) = Some function
function_of (Some (kinds.Arrow function)) = Some function
function_of (Some (kinds.Method key function)) = Some function
function_of (Some (kinds.Getter key function)) = Some function
function_of (Some (kinds.Setter key function)) = Some function
function_of other = None

-- the patterns of a parameter list
abbrev pub patterns_of : Function → List NodeId
patterns_of function = map (λ element. element.bind) function.parameters ++ option_to_list function.rest

module _ {L : Type 0} where
  -- the first argument; a missing one is undefined
  abbrev pub first_of : List (Value L) → Value L
  first_of [] = Undefined
  first_of (v ∷ vs) = v

  abbrev pub rest_of : List (Value L) → List (Value L)
  rest_of [] = []
  rest_of (v ∷ vs) = vs

  -- a new array of these values
  unfoldable pub make_array : List (Value L) → (L → Prog L) → Prog L
  make_array items k = Read (λ w. alloc (Array (built_in ArrayPrototype w) items false) k)

  -- The value, or where it is undefined the default.
  unfoldable pub or_default : Option NodeId → Value L → Scope L → (Value L → Prog L) → Prog L
  or_default (Some default) Undefined scope k = eval default scope k
  or_default other v scope k = k v

  -- binds a value to a pattern
  abbrev pub bind_value : NodeId → Value L → Scope L → Prog L → Prog L
  bind_value pattern v scope p = Enter (Bind pattern v scope) (λ o. on_value (λ u. p) o)

  -- binds the arguments to the parameters, each after its default, and what is left to the rest parameter
  abbrev pub bind_parameters : List BindElement → Option NodeId → List (Value L) → Scope L → Prog L → Prog L
  bind_parameters [] None arguments scope p = p
  bind_parameters [] (Some rest) arguments scope p = make_array arguments (λ loc. bind_value rest (Ref loc) scope p)
  bind_parameters (element ∷ elements) rest arguments scope p =
      or_default element.default (first_of arguments) scope (λ v. bind_value element.bind v scope (bind_parameters elements rest (rest_of arguments) scope p))

  -- what a function gives: the value of its `return`, or of the expression that its body is
  abbrev pub given_by : Outcome L → Outcome L
  given_by (Normal v) = Normal v
  given_by (Return v) = Normal v
  given_by Break = Normal Undefined
  given_by Continue = Normal Undefined
  given_by (Thrown v) = Thrown v

  -- the end of a call
  abbrev pub leave : Cont L → Cont L
  leave k o = Read (λ w. Write (record w { depth = w.depth - 1 }) (k (given_by o)))

  -- the parameters and the body, in the environment of the call
  abbrev pub run_body : Function → List (Value L) → Scope L → Prog L
  run_body function arguments scope = bind_parameters function.parameters function.rest arguments scope (Enter (NodeRequest function.body scope) (λ o. End o))

  -- an environment with the parameters, and the function in it
  abbrev pub run_function : Function → L → Value L → List (Value L) → Cont L → Prog L
  run_function function env receiver arguments k =
      Read (λ w. alloc (env_cell (Some env) (parameters_of w.tree (patterns_of function))) (λ inner. bind (run_body function arguments (record { env = inner; receiver = receiver })) (leave k)))

  -- A call is active until it ends; one above the limit is an error.
  abbrev pub activate : Option Function → L → Value L → List (Value L) → Cont L → World L → Prog L
  activate None env receiver arguments k w = throw NotAFunction
  activate (Some function) env receiver arguments k w =
      if nat_lt w.depth w.limits.depth then Write (record w { depth = w.depth + 1 }) (run_function function env receiver arguments k) else throw TooManyCalls

  -- a call of the function of a node
  unfoldable pub invoke : ℕ → L → Value L → List (Value L) → Cont L → Prog L
  invoke node env receiver arguments k = Read (λ w. activate (function_of (slice_get w.tree node)) env receiver arguments k w)

  -- Calls what stands there, with a receiver; what can't be called is an error. An arrow function keeps its receiver.
  abbrev pub call_cell : Option (Cell L) → Value L → List (Value L) → (Value L → Prog L) → Prog L
  call_cell (Some (Closure body node env kept)) receiver arguments k = invoke node env (unwrap_or kept receiver) arguments (on_value k)
  call_cell (Some (NativeCell body id kept)) receiver arguments k = Enter (Native id receiver arguments) (on_value k)
  call_cell other receiver arguments k = throw NotAFunction

  -- Calls a value with a receiver and arguments, and goes on with what it gives.
  unfoldable pub call : Value L → Value L → List (Value L) → (Value L → Prog L) → Prog L
  call callee receiver arguments k = Read (λ w. call_cell (cell_of callee w) receiver arguments k)

  -- goes on with what a property gives; a unit of a string is made
  abbrev pub take_up : Got L → Value L → List ℕ → (Value L → Prog L) → Prog L
  take_up (Given v) of key k = elim (made_of of key) [ Some text ↦ make_text text k | None ↦ k v ]
  take_up (CallGetter get) of key k = call (Ref get) of [] k
  take_up Absent of key k = k Undefined
  take_up Refused of key k = throw NotAnObject

  -- Reads a property of a value; a getter is called with the value as its receiver.
  unfoldable pub get : Value L → List ℕ → (Value L → Prog L) → Prog L
  get of key k = Read (λ w. take_up (gets w.same w.heap of key) of key k)

  abbrev pub carry_out : Change L → Value L → Value L → Prog L → Prog L
  carry_out (Writes loc cell places) of v p = count_places places (change (with_cell loc cell) p)
  carry_out Stays of v p = p
  carry_out (CallsSetter set) of v p = call (Ref set) of (v ∷ []) (λ u. p)
  carry_out (Refuses fault) of v p = throw fault

  -- Writes a property of a value; a setter is called with the value as its receiver.
  unfoldable pub set : Value L → List ℕ → Value L → Prog L → Prog L
  set of key v p = Read (λ w. carry_out (set_on of key v w) of v p)

  -- defines a member of an object that is being made, from what stood under the key
  unfoldable pub define : L → List ℕ → (Option (Property L) → Property L) → Prog L → Prog L
  define loc key property p = Read (λ w. carry_out (define_step loc key property w) (Ref loc) Undefined p)

  abbrev pub delete_with : Option (Deletion L) → Prog L
  delete_with None = throw NotAnObject
  delete_with (Some Leaves) = give (Boolean true)
  delete_with (Some (Removes loc cell)) = change (with_cell loc cell) (give (Boolean true))
  delete_with (Some Keeps) = throw ReadOnly

  -- removes a property of a value
  unfoldable pub delete : Value L → List ℕ → Prog L
  delete of key = Read (λ w. delete_with (delete_step of key w))

  -- the value of a binding (ECMA-262, 9.1.1.1.6)
  abbrev pub binding_value : Option (Value L) → (Value L → Prog L) → Prog L
  binding_value None k = throw NotReady
  binding_value (Some v) k = k v

  -- what the global object says of a name
  abbrev pub global_holder : List ℕ → World L → Option (Value L)
  global_holder name w = option_and_then (λ global. if has_property global name w then Some (Ref global) else None) (built_in Global w)

  -- a property of the global object that has it; a name that stands nowhere comes to `absent`
  abbrev pub read_global : Option (Value L) → List ℕ → Prog L → (Value L → Prog L) → Prog L
  read_global None name absent k = absent
  read_global (Some global) name absent k = get global name k

  -- The value of a name (ECMA-262, 9.4.2): of the innermost binding, else of the global object's property.
  unfoldable pub read_name : L → List ℕ → Prog L → (Value L → Prog L) → Prog L
  read_name env name absent k = Read (λ w. elim (binding_of env name w) [
    | Some found ↦ binding_value found.1.value k
    | None ↦ read_global (global_holder name w) name absent k
  ])

  -- A binding that isn't ready can't be written, nor can a fixed one.
  abbrev pub write_binding : Option (Value L) → (fixed : Bool) → Prog L → Prog L
  write_binding None fixed p = throw NotReady
  write_binding (Some old) true p = throw ReadOnly
  write_binding (Some old) false p = p

  abbrev pub write_global : Option (Value L) → List ℕ → Value L → Prog L → Prog L
  write_global None name v p = throw NotDefined
  write_global (Some global) name v p = set global name v p

  -- Writes the innermost binding of a name, else the global object's property (ECMA-262, 6.2.5.6).
  unfoldable pub write_name : L → List ℕ → Value L → Prog L → Prog L
  write_name env name v p = Read (λ w. elim (binding_of env name w) [
    | Some found ↦ write_binding found.1.value found.1.fixed (change (bind_in found.0 name v) p)
    | None ↦ write_global (global_holder name w) name v p
  ])
