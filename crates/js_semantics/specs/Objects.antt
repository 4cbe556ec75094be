-- The rows of array and object literals (ECMA-262, 13.2.4 and 13.2.5), functions (15.2 to 15.4: definitions), calls
-- (13.3.6) and `new` (13.3.5).
use Rattle.std.specs.Prelude.{ℕ, List, [], ◌∷◌, Option, Some, None, Bool, true, false, if◌then◌else◌, slice_get, codes}
use Rattle.std.specs.Option.{option_or, option_map_or}
use Rattle.world_heap.specs.declared.value.Value.{Value}
use Rattle.world_heap.specs.declared.value.Value.TheVariants.{Undefined, Ref}
use Rattle.world_heap.specs.declared.value.Property.{Property}
use Rattle.world_heap.specs.declared.value.Property.TheVariants.{Data}
use Rattle.world_heap.specs.declared.cell.Body.{Body}
use Rattle.world_heap.specs.declared.cell.Cell.{Cell}
use Rattle.world_heap.specs.declared.cell.Cell.TheVariants.{Object, Closure, Native as NativeCell}
use Rattle.world_heap.specs.declared.builtin.BuiltIn.{BuiltIn}
use Rattle.world_heap.specs.declared.builtin.BuiltIn.TheVariants.{ObjectPrototype, FunctionPrototype}
use Rattle.world_heap.specs.Table.{found_under}
use Rattle.js_tree.specs.declared.node.NodeId.{NodeId}
use Rattle.js_tree.specs.declared.node.PropertyKey.{PropertyKey}
use Rattle.js_tree.specs.declared.node.PropertyKey.TheVariants.{Written, Computed}
use Rattle.js_tree.specs.declared.node.Node.{Node}
use Rattle.js_tree.specs.declared.node.Node.TheVariants as kinds
use Rattle.js_semantics.specs.declared.fault.Fault.TheVariants.{NotAConstructor}
use Rattle.js_semantics.specs.declared.scope.Scope.{Scope}
use Rattle.js_semantics.specs.World.{World, built_in, cell_of}
use Rattle.js_semantics.specs.Prog.{Prog, Enter, Read, Member, Native, on_value, eval, step, alloc, change, give, done, throw}
use Rattle.js_semantics.specs.Properties.{plain, with_getter, with_setter, object_of}
use Rattle.js_semantics.specs.Environments.{unready, env_cell, bind_in}
use Rattle.js_semantics.specs.Operators.{key_of}
use Rattle.js_semantics.specs.Access.{call, define, get, invoke, make_array}
use Rattle.js_semantics.specs.Expressions.{index_parts, with_key}
use Rattle.js_semantics.specs.Iteration.{arguments_of, elements_into}
use Rattle.js_semantics.specs.Natives.{is_error_function}

-- whether a node makes functions that can be called with `new`
abbrev pub is_constructor : Option Node → Bool
is_constructor (Some (kinds.FunDecl name function)) = true
is_constructor (Some (kinds.Fun name function)) = true
is_constructor other = false

-- the key that a member is written with
abbrev pub member_key_of : Option Node → Option PropertyKey
member_key_of (Some (kinds.Property key value)) = Some key
member_key_of (Some (kinds.Method key function)) = Some key
member_key_of (Some (kinds.Getter key function)) = Some key
member_key_of (Some (kinds.Setter key function)) = Some key
member_key_of other = None

module _ {L : Type 0} where
  -- a body without properties
  abbrev pub bare : BuiltIn → World L → Body L
  bare name w = record { proto = built_in name w; properties = []; extensible = true }

  -- makes a closure
  unfoldable pub make_closure : NodeId → L → Option (Value L) → (L → Prog L) → Prog L
  make_closure node env receiver k = Read (λ w. alloc (Closure (bare FunctionPrototype w) node.0 env receiver) k)

  -- makes a plain object
  unfoldable pub make_object : (L → Prog L) → Prog L
  make_object k = Read (λ w. alloc (Object (bare ObjectPrototype w)) k)

  -- Makes a function that can be called with `new`: the closure, its prototype object, and the property that leads to it
  -- (ECMA-262, 10.2.5: MakeConstructor).
  unfoldable pub make_function : NodeId → L → (L → Prog L) → Prog L
  make_function node env k = make_closure node env None (λ loc. make_object (λ proto. define loc (codes "prototype") (λ old. Data (Ref proto) true false false) (k loc)))

  -- 13.2.4 Array Initializer

  unfoldable pub row_array : List NodeId → Scope L → Prog L
  row_array nodes scope = make_array [] (λ loc. elements_into loc nodes scope (give (Ref loc)))

  -- 13.2.5 Object Initializer

  abbrev pub members_into : L → List NodeId → Scope L → Prog L → Prog L
  members_into loc [] scope p = p
  members_into loc (node ∷ nodes) scope p = Enter (Member node loc scope) (λ o. on_value (λ u. members_into loc nodes scope p) o)

  unfoldable pub row_object : List NodeId → Scope L → Prog L
  row_object nodes scope = make_object (λ loc. members_into loc nodes scope (give (Ref loc)))

  -- the key of a member: a written one takes no step
  abbrev pub member_key : PropertyKey → Scope L → (List ℕ → Prog L) → Prog L
  member_key (Written text) scope k = k text
  member_key (Computed node) scope k = eval node scope (λ v. with_key (key_of v) k)

  -- the definition of a member under its key
  abbrev pub member_under : Option Node → NodeId → L → Scope L → List ℕ → Prog L
  member_under (Some (kinds.Property key value)) node loc scope text = eval value scope (λ v. define loc text (λ old. plain v) done)
  member_under (Some (kinds.Method key function)) node loc scope text =
      make_closure node scope.env None (λ f. define loc text (λ old. plain (Ref f)) done)
  member_under (Some (kinds.Getter key function)) node loc scope text =
      make_closure node scope.env None (λ f. define loc text (λ old. with_getter f old) done)
  member_under (Some (kinds.Setter key function)) node loc scope text =
      make_closure node scope.env None (λ f. define loc text (λ old. with_setter f old) done)
  member_under other node loc scope text = done

  abbrev pub member_keyed : Option PropertyKey → Option Node → NodeId → L → Scope L → Prog L
  member_keyed None member node loc scope = done
  member_keyed (Some key) member node loc scope = member_key key scope (λ text. member_under member node loc scope text)

  -- The row of a member, which defines a property of the object.
  unfoldable pub member_of : Option Node → NodeId → L → Scope L → Prog L
  member_of member node loc scope = member_keyed (member_key_of member) member node loc scope

  -- 15.2.5 and 15.3.4 Function Definitions

  -- A function with a name of its own has it in an environment around, where it can't be written.
  unfoldable pub row_fun : NodeId → Option (List ℕ) → Scope L → Prog L
  row_fun node None scope = make_function node scope.env (λ loc. give (Ref loc))
  row_fun node (Some name) scope =
      alloc (env_cell (Some scope.env) (unready true name ∷ [])) (λ env. make_function node env (λ loc. change (bind_in env name (Ref loc)) (give (Ref loc))))

  -- An arrow function keeps the receiver of where it stands.
  unfoldable pub row_arrow : NodeId → Scope L → Prog L
  row_arrow node scope = make_closure node scope.env (Some scope.receiver) (λ loc. give (Ref loc))

  -- 13.3.6 Function Calls

  -- The function and its receiver: the object of a property, else undefined.
  abbrev pub callee_of : Option Node → NodeId → Scope L → (Value L → Value L → Prog L) → Prog L
  callee_of (Some (kinds.Dot object name)) node scope k = step (eval object scope (λ base. get base name (λ f. k f base)))
  callee_of (Some (kinds.Index object key)) node scope k =
      step (index_parts object key scope (λ base text. get base text (λ f. k f base)))
  callee_of other node scope k = eval node scope (λ f. k f Undefined)

  unfoldable pub row_call : NodeId → List NodeId → Scope L → Prog L
  row_call callee nodes scope =
      Read (λ w. callee_of (slice_get w.tree callee.0) callee scope (λ f receiver. arguments_of nodes scope (λ vs. call f receiver vs (λ v. give v))))

  -- 13.3.5 The new Operator

  -- the prototype of a new object: the function's `prototype`, where it is an object
  abbrev pub prototype_in : Option (Property L) → World L → Option L
  prototype_in (Some (Data v writable enumerable configurable)) w = option_or (object_of v w) (built_in ObjectPrototype w)
  prototype_in other w = built_in ObjectPrototype w

  -- an object that is returned takes the place of the new one
  abbrev pub constructed : L → Value L → World L → Value L
  constructed loc v w = option_map_or (λ returned. Ref returned) (object_of v w) (Ref loc)

  -- The new object is made before the call.
  abbrev pub construct_closure : Body L → ℕ → L → List (Value L) → World L → (Value L → Prog L) → Prog L
  construct_closure body node env vs w k =
      if is_constructor (slice_get w.tree node) then alloc (Object (record { proto = prototype_in (found_under body.properties (codes "prototype")) w; properties = []; extensible = true })) (λ loc. invoke node env (Ref loc) vs (on_value (λ v. Read (λ after. k (constructed loc v after)))))
      else throw NotAConstructor

  abbrev pub construct_cell : Option (Cell L) → List (Value L) → World L → (Value L → Prog L) → Prog L
  construct_cell (Some (Closure body node env kept)) vs w k = construct_closure body node env vs w k
  construct_cell (Some (NativeCell body id kept)) vs w k = if is_error_function id then Enter (Native id Undefined vs) (on_value k) else throw NotAConstructor
  construct_cell other vs w k = throw NotAConstructor

  unfoldable pub construct : Value L → List (Value L) → (Value L → Prog L) → Prog L
  construct f vs k = Read (λ w. construct_cell (cell_of f w) vs w k)

  unfoldable pub row_new : NodeId → List NodeId → Scope L → Prog L
  row_new callee nodes scope = eval callee scope (λ f. arguments_of nodes scope (λ vs. construct f vs (λ v. give v)))
