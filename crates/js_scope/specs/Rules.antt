-- The rules that a node may break (ECMA-262: 13.1.1, 13.2.5.1, 13.5.1.1, 13.15.1, 14.2.1, 14.8.1, 14.9.1, 14.10 and
-- 15.1.1), for the part of the language that is read here.
use Rattle.std.specs.Prelude.{ℕ, List, [], ◌∷◌, map, Bool as Boolean, true, false, ◌&&◌, ◌||◌, not, nat_eq, Option, Some, is_some, codes, find}
use Rattle.std.specs.List.{list_any}
use Rattle.std.specs.Option.{option_map, option_and_then, option_map_or}
use Rattle.std.specs.Cmp.Lexicographic.{pointwise}
use Rattle.js_tree.specs.declared.node.NodeId.{NodeId}
use Rattle.js_tree.specs.declared.node.Node.{Node}
use Rattle.js_tree.specs.declared.node.Node.TheVariants.{FunDecl, While, DoWhile, For, ForOf, Return, Break, Continue, Name, Fun, Assign, AssignOp, Update, Delete, Dot, Index, Property, BindName}
use Rattle.js_tree.specs.declared.node.PropertyKey.TheVariants.{Written}
use Rattle.js_tree.specs.Children.{children}
use Rattle.js_tree.specs.Nodes.{Nodes, node_at}
use Rattle.js_scope.specs.declared.fault.ScopeKind.{ScopeKind}
use Rattle.js_scope.specs.declared.fault.ScopeKind.TheVariants.{Twice, Return as MisplacedReturn, Loop, Target, Delete as DeletesName, Name as RestrictedName, Proto}
use Rattle.js_scope.specs.declared.place.Place.{Place}
use Rattle.js_scope.specs.Names.{function_of}

abbrev pub is_function : Node → Boolean
is_function node = is_some (function_of node)

abbrev pub is_loop : Node → Boolean
is_loop (While test body) = true
is_loop (DoWhile body test) = true
is_loop (For first test next body) = true
is_loop (ForOf constant bind list body) = true
is_loop _ = false

-- A part of a node: a function is around what stands in it, and a loop too unless a function stands between.
abbrev pub within : Place → Node → ℕ → Place
within place node child = record {
  node = record { 0 = child };
  in_function = is_function node || place.in_function;
  in_loop = is_loop node || (not (is_function node) && place.in_loop);
}

-- the parts of what stands at a place
unfoldable pub parts_at : Nodes → Place → List Place
parts_at nodes place = option_map_or (λ node. map (within place node) (children node)) (node_at nodes place.node.0) []

abbrev pub is_return : Node → Boolean
is_return (Return value) = true
is_return _ = false

abbrev pub is_jump : Node → Boolean
is_jump Break = true
is_jump Continue = true
is_jump _ = false

-- A name, a member by name and a member by key can be written to.
abbrev pub is_reference : Node → Boolean
is_reference (Name name) = true
is_reference (Dot object name) = true
is_reference (Index object key) = true
is_reference _ = false

abbrev pub can_be_written : Nodes → NodeId → Boolean
can_be_written nodes id = option_map_or is_reference (node_at nodes id.0) false

-- whether an assignment, `++` or `--` writes to what can't be written to
abbrev pub misses_target : Nodes → Node → Boolean
misses_target nodes (Assign target value) = not (can_be_written nodes target)
misses_target nodes (AssignOp operator target value) = not (can_be_written nodes target)
misses_target nodes (Update operator target before) = not (can_be_written nodes target)
misses_target nodes _ = false

abbrev pub is_name : Node → Boolean
is_name (Name name) = true
is_name _ = false

abbrev pub deletes_name : Nodes → Node → Boolean
deletes_name nodes (Delete operand) = option_map_or is_name (node_at nodes operand.0) false
deletes_name nodes _ = false

-- `eval` and `arguments` are no names in strict code.
abbrev pub is_restricted : List ℕ → Boolean
is_restricted name = pointwise nat_eq name (codes "eval") || pointwise nat_eq name (codes "arguments")

-- whether a node is or binds such a name
abbrev pub has_restricted_name : Node → Boolean
has_restricted_name (Name name) = is_restricted name
has_restricted_name (FunDecl name function) = is_restricted name
has_restricted_name (Fun (Some name) function) = is_restricted name
has_restricted_name (BindName name) = is_restricted name
has_restricted_name _ = false

-- whether a node is a property with the written key `__proto__`
abbrev pub sets_proto : Node → Boolean
sets_proto (Property (Written key) value) = pointwise nat_eq key (codes "__proto__")
sets_proto _ = false

-- whether what stands at a place breaks a rule, where the repeated declarations are given
unfoldable pub breaks : Nodes → List ℕ → Place → Node → ScopeKind → Boolean
breaks nodes again place node Twice = list_any (nat_eq place.node.0) again
breaks nodes again place node MisplacedReturn = is_return node && not place.in_function
breaks nodes again place node Loop = is_jump node && not place.in_loop
breaks nodes again place node Target = misses_target nodes node
breaks nodes again place node DeletesName = deletes_name nodes node
breaks nodes again place node RestrictedName = has_restricted_name node
breaks nodes again place node Proto = sets_proto node

-- the kinds of rule, in the order in which they are told
abbrev pub kinds : List ScopeKind
kinds = Twice ∷ MisplacedReturn ∷ Loop ∷ Target ∷ DeletesName ∷ RestrictedName ∷ Proto ∷ []

-- the first rule that what stands at a place breaks
unfoldable pub broken_by : Nodes → List ℕ → Place → Node → Option ScopeKind
broken_by nodes again place node = find (breaks nodes again place node) kinds

-- the number of the node at a place, with the first rule that it breaks
unfoldable pub fault_at : Nodes → List ℕ → Place → Option (ℕ × ScopeKind)
fault_at nodes again place =
    option_map (λ kind. (place.node.0, kind)) (option_and_then (broken_by nodes again place) (node_at nodes place.node.0))
