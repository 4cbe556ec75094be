-- Which names a scope declares (ECMA-262, 8.2.1 BoundNames and 8.2.4 LexicallyDeclaredNames), and which of them it
-- declares again. A script, a block, a function with its body, a `catch` with its body and the head of a `for` each
-- have a scope.
use Rattle.std.specs.Prelude.{ℕ, List, [], ◌∷◌, ◌++◌, map, length, Option, Some, None, nat_eq, if◌then◌else◌}
use Rattle.std.specs.List.{flat_map, filter_map, list_any}
use Rattle.std.specs.Option.{option_map, option_and_then, option_map_or}
use Rattle.std.specs.Cmp.Lexicographic.{pointwise}
use Rattle.js_tree.specs.declared.node.NodeId.{NodeId}
use Rattle.js_tree.specs.declared.node.Function.{Function}
use Rattle.js_tree.specs.declared.node.Node.{Node}
use Rattle.js_tree.specs.declared.node.Node.TheVariants.{Script, Block, Let, Const, FunDecl, For, ForOf, Try, Fun, Arrow, Method, Getter, Setter, BindName, BindObject, BindArray}
use Rattle.js_tree.specs.Children.{given, all_of}
use Rattle.js_tree.specs.Nodes.{Nodes, node_at}
use Rattle.js_scope.specs.Walk.{walk}

-- the name that a node declares
abbrev pub declared_name : Node → Option (List ℕ)
declared_name (BindName name) = Some name
declared_name (FunDecl name function) = Some name
declared_name _ = None

-- the parts of a declaration or a pattern that bind names
abbrev pub binding_parts : Node → List ℕ
binding_parts (Let pairs) = map (λ pair. pair.bind.0) pairs
binding_parts (Const pairs) = map (λ pair. pair.bind.0) pairs
binding_parts (BindObject parts) = map (λ part. part.bind.0) parts
binding_parts (BindArray parts) = map (λ part. part.bind.0) parts
binding_parts _ = []

unfoldable pub binding_parts_at : Nodes → ℕ → List ℕ
binding_parts_at nodes id = option_map_or binding_parts (node_at nodes id) []

-- the name that the node with that number declares, with the number
unfoldable pub declared_at : Nodes → ℕ → Option (ℕ × List ℕ)
declared_at nodes id = option_map (λ name. (id, name)) (option_and_then declared_name (node_at nodes id))

-- the names that nodes declare, in source order
unfoldable pub names : Nodes → List ℕ → List (ℕ × List ℕ)
names nodes ids = filter_map (declared_at nodes) (flat_map (walk (binding_parts_at nodes) (length nodes)) ids)

abbrev pub items_in : Option Node → List ℕ
items_in (Some (Block items)) = all_of items
items_in _ = []

-- the items of a block
unfoldable pub items_at : Nodes → NodeId → List ℕ
items_at nodes id = items_in (node_at nodes id.0)

-- the parameters of a function, and the items of its body
abbrev pub function_parts : Nodes → Function → List ℕ
function_parts nodes function =
    map (λ part. part.bind.0) function.parameters ++ (given function.rest ++ items_at nodes function.body)

-- the binding of a `catch`, and the items of its body: without a binding the body has the scope of any block
abbrev pub catch_parts : Nodes → Option NodeId → Option NodeId → List ℕ
catch_parts nodes (Some bind) (Some handler) = bind.0 ∷ items_at nodes handler
catch_parts nodes _ _ = []

abbrev pub function_of : Node → Option Function
function_of (FunDecl name function) = Some function
function_of (Fun name function) = Some function
function_of (Arrow function) = Some function
function_of (Method key function) = Some function
function_of (Getter key function) = Some function
function_of (Setter key function) = Some function
function_of _ = None

-- what declares the names of the scope of a node that is no function: nothing where it has none
abbrev pub other_parts : Nodes → Node → List ℕ
other_parts nodes (Script items) = all_of items
other_parts nodes (Block items) = all_of items
other_parts nodes (Try block bind handler last) = catch_parts nodes bind handler
other_parts nodes (For first test next body) = given first
other_parts nodes (ForOf constant bind list body) = bind.0 ∷ []
other_parts nodes _ = []

-- what declares the names of a node's scope
unfoldable pub scope_parts : Nodes → Node → List ℕ
scope_parts nodes node = option_map_or (function_parts nodes) (function_of node) (other_parts nodes node)

-- the nodes by which a name comes again, after the names that stand before
abbrev pub repeats : List (List ℕ) → List (ℕ × List ℕ) → List ℕ
repeats before [] = []
repeats before (declared ∷ rest) = if list_any (pointwise nat_eq declared.1) before
    then declared.0 ∷ repeats before rest
    else repeats (before ++ declared.1 ∷ []) rest

-- the nodes by which a name comes again in its scope
unfoldable pub repeated_in : Nodes → Node → List ℕ
repeated_in nodes node = repeats [] (names nodes (scope_parts nodes node))

-- the same for every scope of a tree
unfoldable pub repeated : Nodes → List ℕ
repeated nodes = flat_map (λ node. repeated_in nodes node.0) nodes
