-- The rows of declarations and patterns (ECMA-262, 14.3) and of statements (14.2, 14.4 to 14.15, 16.1: scripts).
use Rattle.std.specs.Prelude.{ℕ, ◌+◌, List, [], ◌∷◌, map, length, nat_eq, Option, Some, None, Bool, true, false, not, if◌then◌else◌, slice_get}
use Rattle.std.specs.List.{flat_map}
use Rattle.std.specs.Option.{option_map_or}
use Rattle.world_heap.specs.declared.value.Value.{Value}
use Rattle.world_heap.specs.declared.value.Value.TheVariants.{Undefined, Null, Ref}
use Rattle.world_heap.specs.declared.cell.Binding.{Binding}
use Rattle.world_heap.specs.declared.cell.Cell.{Cell}
use Rattle.world_heap.specs.declared.cell.Cell.TheVariants.{Array}
use Rattle.world_heap.specs.declared.builtin.BuiltIn.TheVariants.{Global}
use Rattle.js_tree.specs.declared.node.NodeId.{NodeId}
use Rattle.js_tree.specs.declared.node.Declarator.{Declarator}
use Rattle.js_tree.specs.declared.node.BindElement.{BindElement}
use Rattle.js_tree.specs.declared.node.BindProperty.{BindProperty}
use Rattle.js_tree.specs.declared.node.Node.{Node}
use Rattle.js_tree.specs.declared.node.Node.TheVariants as kinds
use Rattle.js_semantics.specs.declared.fault.Fault.TheVariants.{NotAnObject, NotIterable}
use Rattle.js_semantics.specs.declared.scope.Scope.{Scope}
use Rattle.js_semantics.specs.World.{World, built_in, cell_at}
use Rattle.js_semantics.specs.declared.outcome.Outcome.{Outcome}
use Rattle.js_semantics.specs.declared.outcome.Outcome.TheVariants.{Normal, Return, Break, Continue, Thrown}
use Rattle.js_semantics.specs.Prog.{Prog, Cont, End, Enter, Read, Node as NodeRequest, While, DoWhile, For, ForOf, bind, on_value, eval, alloc, change, done, throw}
use Rattle.js_semantics.specs.Environments.{names_of, declared_in, unready, env_cell, bind_in, fill_name, bindings_at}
use Rattle.js_semantics.specs.Operators.{is_truthy}
use Rattle.js_semantics.specs.Access.{or_default, bind_value, get}
use Rattle.js_semantics.specs.Iteration.{items_at, walk_value}
use Rattle.js_semantics.specs.Objects.{make_function}

-- the names of a declaration
abbrev pub names_by : List Node → List Declarator → List (List ℕ)
names_by tree pairs = flat_map (λ pair. names_of tree pair.bind) pairs

module _ {L : Type 0} where
  -- the same receiver in another environment
  abbrev pub inside : L → Scope L → Scope L
  inside env scope = record scope { env = env }

  -- 14.3.3 Destructuring Binding Patterns

  abbrev pub bind_properties : List BindProperty → Value L → Scope L → Prog L
  bind_properties [] v scope = done
  bind_properties (part ∷ parts) v scope =
      get v part.key (λ x. or_default part.default x scope (λ y. bind_value part.bind y scope (bind_properties parts v scope)))

  -- undefined and null have no properties
  abbrev pub bind_object : List BindProperty → Value L → Scope L → Prog L
  bind_object parts Undefined scope = throw NotAnObject
  bind_object parts Null scope = throw NotAnObject
  bind_object parts v scope = bind_properties parts v scope

  abbrev pub item_or_undefined : Option (Value L) → Value L
  item_or_undefined (Some v) = v
  item_or_undefined None = Undefined

  -- the elements from a place on, as the array has them at each turn
  abbrev pub bind_elements : List BindElement → ℕ → L → Scope L → Prog L
  bind_elements [] place array scope = done
  bind_elements (part ∷ parts) place array scope =
      Read (λ w. or_default part.default (item_or_undefined (slice_get (items_at (cell_at array w)) place)) scope (λ y. bind_value part.bind y scope (bind_elements parts (place + 1) array scope)))

  abbrev pub bind_array_at : Option (Cell L) → List BindElement → L → Scope L → Prog L
  bind_array_at (Some (Array proto items frozen)) parts loc scope = bind_elements parts 0 loc scope
  bind_array_at other parts loc scope = throw NotIterable

  abbrev pub bind_array : List BindElement → Value L → Scope L → Prog L
  bind_array parts (Ref loc) scope = Read (λ w. bind_array_at (cell_at loc w) parts loc scope)
  bind_array parts other scope = throw NotIterable

  -- The row of a pattern.
  unfoldable pub pattern_of : Option Node → Value L → Scope L → Prog L
  pattern_of (Some (kinds.BindName name)) v scope = change (fill_name scope.env name v) done
  pattern_of (Some (kinds.BindObject parts)) v scope = bind_object parts v scope
  pattern_of (Some (kinds.BindArray parts)) v scope = bind_array parts v scope
  pattern_of other v scope = done

  -- 14.3.1 Let and Const Declarations

  abbrev pub value_or_undefined : Option NodeId → Scope L → (Value L → Prog L) → Prog L
  value_or_undefined None scope k = k Undefined
  value_or_undefined (Some node) scope k = eval node scope k

  abbrev pub declare_pairs : List Declarator → Scope L → Prog L
  declare_pairs [] scope = done
  declare_pairs (pair ∷ pairs) scope =
      value_or_undefined pair.value scope (λ v. bind_value pair.bind v scope (declare_pairs pairs scope))

  unfoldable pub row_declare : List Declarator → Scope L → Prog L
  row_declare pairs scope = declare_pairs pairs scope

  -- 14.2 Block and 16.1 Scripts

  -- the function of a declaration is made when its scope is entered (ECMA-262, 14.2.3)
  abbrev pub fill_function : Option Node → NodeId → L → Prog L → Prog L
  fill_function (Some (kinds.FunDecl name function)) node env p = make_function node env (λ loc. change (bind_in env name (Ref loc)) p)
  fill_function other node env p = p

  abbrev pub fill_functions : List NodeId → L → Prog L → Prog L
  fill_functions [] env p = p
  fill_functions (item ∷ items) env p = Read (λ w. fill_function (slice_get w.tree item.0) item env (fill_functions items env p))

  -- the items one after another; any outcome but a value ends them
  abbrev pub run_items : List NodeId → Scope L → Prog L
  run_items [] scope = done
  run_items (item ∷ items) scope = Enter (NodeRequest item scope) (λ o. on_value (λ u. run_items items scope) o)

  -- an environment of their own for items that declare a name
  abbrev pub enter_block : List (Binding L) → List NodeId → Scope L → Prog L
  enter_block [] items scope = run_items items scope
  enter_block (b ∷ bs) items scope =
      alloc (env_cell (Some scope.env) (b ∷ bs)) (λ env. fill_functions items env (run_items items (inside env scope)))

  unfoldable pub row_block : List NodeId → Scope L → Prog L
  row_block items scope = Read (λ w. enter_block (declared_in w.tree items) items scope)

  -- the global object, which is the receiver at the top of a script
  abbrev pub global_of : World L → Value L
  global_of w = option_map_or (λ loc. Ref loc) (built_in Global w) Undefined

  -- The row of a script, which always has an environment.
  unfoldable pub script_of : Option Node → Prog L
  script_of (Some (kinds.Script items)) =
      Read (λ w. alloc (env_cell None (declared_in w.tree items)) (λ env. fill_functions items env (run_items items (record { env = env; receiver = global_of w }))))
  script_of other = done

  -- 14.5 Expression Statement, 14.6 The if Statement

  unfoldable pub row_expression : NodeId → Scope L → Prog L
  row_expression value scope = eval value scope (λ v. done)

  -- a statement, or nothing
  abbrev pub run_or_done : Option NodeId → Scope L → Prog L
  run_or_done None scope = done
  run_or_done (Some node) scope = Enter (NodeRequest node scope) (λ o. End o)

  unfoldable pub row_if : NodeId → NodeId → Option NodeId → Scope L → Prog L
  row_if test first second scope = eval test scope (λ v. run_or_done (if is_truthy v then Some first else second) scope)

  -- 14.7 Iteration Statements

  -- the end of a loop's body: a turn more after a value or `continue`, no more after `break`
  abbrev pub after_body : Prog L → Cont L
  after_body more (Normal v) = more
  after_body more (Return v) = End (Return v)
  after_body more Break = done
  after_body more Continue = more
  after_body more (Thrown v) = End (Thrown v)

  -- 14.7.3 The while Statement: what follows the test
  abbrev pub while_turn : NodeId → NodeId → Scope L → Value L → Prog L
  while_turn test body scope v = if is_truthy v
      then Enter (NodeRequest body scope) (λ o. after_body (Enter (While test body scope) (λ p. End p)) o) else done

  unfoldable pub row_while : NodeId → NodeId → Scope L → Prog L
  row_while test body scope = Enter (While test body scope) (λ o. End o)

  -- 14.7.2 The do-while Statement: what follows the body
  abbrev pub do_turn : NodeId → NodeId → Scope L → Cont L
  do_turn body test scope o = after_body (eval test scope (λ v. if is_truthy v then Enter (DoWhile body test scope) (λ p. End p) else done)) o

  unfoldable pub row_do_while : NodeId → NodeId → Scope L → Prog L
  row_do_while body test scope = Enter (DoWhile body test scope) (λ o. End o)

  -- 14.7.4 The for Statement

  -- an environment with the same bindings (ECMA-262, 14.7.4.4: CreatePerIterationEnvironment)
  abbrev pub copied_cell : Option (Option L × List (Binding L)) → Scope L → (Scope L → Prog L) → Prog L
  copied_cell None scope k = k scope
  copied_cell (Some found) scope k = alloc (env_cell found.0 found.1) (λ env. k (inside env scope))

  abbrev pub copy_scope : Bool → Scope L → (Scope L → Prog L) → Prog L
  copy_scope false scope k = k scope
  copy_scope true scope k = Read (λ w. copied_cell (bindings_at (cell_at scope.env w)) scope k)

  abbrev pub run_next : Option NodeId → Scope L → Prog L → Prog L
  run_next None scope p = p
  run_next (Some next) scope p = eval next scope (λ v. p)

  -- what follows the body: the copy, what stands third, and the next turn
  abbrev pub for_turn : Bool → Option NodeId → Option NodeId → NodeId → Scope L → Cont L
  for_turn copied test next body scope o =
      after_body (copy_scope copied scope (λ turn. run_next next turn (Enter (For copied test next body turn) (λ p. End p)))) o

  -- what follows the test
  abbrev pub for_tested : Bool → Option NodeId → Option NodeId → NodeId → Scope L → Value L → Prog L
  for_tested copied test next body scope v =
      if is_truthy v then Enter (NodeRequest body scope) (λ o. for_turn copied test next body scope o) else done

  -- the first test, or the first body where there is no test
  abbrev pub for_start : Bool → Option NodeId → Option NodeId → NodeId → Scope L → Prog L
  for_start copied test next body scope = copy_scope copied scope (λ turn. Enter (For copied test next body turn) (λ o. End o))

  -- what stands first is done in an environment with its names, and then the turns; only those of `let` are copied
  abbrev pub for_declared : (copied fixed : Bool) → List (List ℕ) → NodeId → Option NodeId → Option NodeId → NodeId → Scope L → Prog L
  for_declared copied fixed names first test next body scope =
      alloc (env_cell (Some scope.env) (map (unready fixed) names)) (λ env. Enter (NodeRequest first (inside env scope)) (λ o. on_value (λ u. for_start copied test next body (inside env scope)) o))

  abbrev pub for_from : List Node → Option Node → NodeId → Option NodeId → Option NodeId → NodeId → Scope L → Prog L
  for_from tree (Some (kinds.Let pairs)) first test next body scope =
      for_declared (not (nat_eq (length (names_by tree pairs)) 0)) false (names_by tree pairs) first test next body scope
  for_from tree (Some (kinds.Const pairs)) first test next body scope =
      for_declared false true (names_by tree pairs) first test next body scope
  for_from tree other first test next body scope = eval first scope (λ v. for_start false test next body scope)

  unfoldable pub row_for : Option NodeId → Option NodeId → Option NodeId → NodeId → Scope L → Prog L
  row_for None test next body scope = for_start false test next body scope
  row_for (Some first) test next body scope = Read (λ w. for_from w.tree (slice_get w.tree first.0) first test next body scope)

  -- 14.7.5 The for-of Statement

  -- A turn for the item at a place, in an environment of its own, where the array has such an item.
  abbrev pub of_turn : Bool → NodeId → NodeId → L → ℕ → Scope L → Prog L
  of_turn constant pattern body array place around = Read (λ w. elim (slice_get (items_at (cell_at array w)) place) [
    | Some item ↦ alloc (env_cell (Some around.env) (map (unready constant) (names_of w.tree pattern))) (λ env. Enter (ForOf constant pattern body array place item (inside env around) around) (λ o. End o))
    | None ↦ done
  ])

  -- what follows the pattern: the body, and the next item
  abbrev pub of_bound : Bool → NodeId → NodeId → L → ℕ → (turn around : Scope L) → Prog L
  of_bound constant pattern body array place turn around =
      Enter (NodeRequest body turn) (λ o. after_body (of_turn constant pattern body array (place + 1) around) o)

  -- The list is evaluated outside the environments of the turns.
  unfoldable pub row_for_of : Bool → NodeId → NodeId → NodeId → Scope L → Prog L
  row_for_of constant pattern list body scope = eval list scope (λ v. walk_value v (λ array. of_turn constant pattern body array 0 scope))

  -- 14.8 continue, 14.9 break, 14.10 return, 14.14 throw

  unfoldable pub row_return : Option NodeId → Scope L → Prog L
  row_return value scope = value_or_undefined value scope (λ v. End (Return v))

  unfoldable pub row_throw : NodeId → Scope L → Prog L
  row_throw value scope = eval value scope (λ v. End (Thrown v))

  -- 14.15 The try Statement

  -- the handler, in an environment with the names of its pattern, where it has one
  abbrev pub handle : Option NodeId → NodeId → Value L → Scope L → Prog L
  handle None handler v scope = Enter (NodeRequest handler scope) (λ o. End o)
  handle (Some pattern) handler v scope =
      Read (λ w. alloc (env_cell (Some scope.env) (map (unready false) (names_of w.tree pattern))) (λ env. bind_value pattern v (inside env scope) (Enter (NodeRequest handler (inside env scope)) (λ o. End o))))

  -- what becomes of the outcome of the block
  abbrev pub caught : Option NodeId → Option NodeId → Scope L → Cont L
  caught pattern (Some handler) scope (Thrown v) = handle pattern handler v scope
  caught pattern handler scope o = End o

  -- what `finally` ends with takes the place of the outcome, unless it is a value
  abbrev pub replaced_by : Outcome L → Cont L
  replaced_by before (Normal v) = End before
  replaced_by before (Return v) = End (Return v)
  replaced_by before Break = End Break
  replaced_by before Continue = End Continue
  replaced_by before (Thrown v) = End (Thrown v)

  abbrev pub at_last : Option NodeId → Scope L → Cont L
  at_last None scope o = End o
  at_last (Some last) scope o = Enter (NodeRequest last scope) (λ p. replaced_by o p)

  unfoldable pub row_try : NodeId → Option NodeId → Option NodeId → Option NodeId → Scope L → Prog L
  row_try block pattern handler last scope =
      Enter (NodeRequest block scope) (λ o. bind (caught pattern handler scope o) (λ p. at_last last scope p))
