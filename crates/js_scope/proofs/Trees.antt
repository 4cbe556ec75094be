-- In a tree the children of a node stand before it, and so do the parts that declare names.
use Rattle.std.proofs.Common.{◌≡◌, ℕ, ◌<◌, List, [], ◌∷◌, ◌++◌, length, map, Option, Some, None, IfSome, refl, subst, arith}
use Rattle.std.proofs.lemmas.List.Elements.{recursion_from_All, All-from_recursion}
use Rattle.std.proofs.lemmas.Option.{slice_get_within}
use Rattle.std.specs.List.{flat_map, AllByRecursion, slice_get}
use Rattle.std.specs.Option.{option_map, option_map_or}
use Rattle.js_tree.specs.declared.node.NodeId.{NodeId}
use Rattle.js_tree.specs.declared.node.Function.{Function}
use Rattle.js_tree.specs.declared.node.PropertyKey.{PropertyKey}
use Rattle.js_tree.specs.declared.node.Node.{Node}
use Rattle.js_tree.specs.declared.node.Node.TheVariants.{Script, Block, Let, Const, FunDecl, For, ForOf, Try, Fun, Arrow, Method, Getter, Setter, BindObject, BindArray}
use Rattle.js_tree.specs.Children.{one, given, of_elements, of_key, of_function, children}
use Rattle.js_tree.specs.Nodes.{Nodes, node_at, StandsBelow, IsTree}
use Rattle.js_scope.specs.declared.place.Place.{Place}
use Rattle.js_scope.specs.Names.{binding_parts, binding_parts_at, items_in, items_at, function_of, function_parts, catch_parts, other_parts, scope_parts}
use Rattle.js_scope.specs.Rules.{within, parts_at}
use Rattle.js_scope.proofs.Walks.{all_weaker, all_append, all_front, all_back, all_map}

-- all of the numbers are below a bound
abbrev pub Below : ℕ → List ℕ → Type 0
Below n ids = AllByRecursion (λ id. id < n) ids

pub below_from_stands : (n : ℕ) (node : Node) → StandsBelow n node → Below n (children node)
unfolding StandsBelow
below_from_stands n node h = recursion_from_All (λ id. id < n) (children node) h

pub node_within : (nodes : Nodes) (id : ℕ) (node : Node) → node_at nodes id ≡ Some node → id < length nodes
unfolding node_at
node_within nodes id node h = within_by nodes id (slice_get nodes id) refl h
  where
    within_by : (nodes : Nodes) (id : ℕ) (o : Option (Node × ℕ)) → slice_get nodes id ≡ o → option_map (λ e. e.0) o ≡ Some node → id < length nodes
    within_by nodes id None e k = cc
    within_by nodes id (Some x) e k = slice_get_within nodes id x e

-- The children of a node of a tree stand in it.
pub children_below : (nodes : Nodes) → IsTree nodes → (id : ℕ) (node : Node) → node_at nodes id ≡ Some node → Below (length nodes) (children node)
unfolding IsTree
children_below nodes tree id node e =
    let lt = node_within nodes id node e in
    all_weaker _ (λ child. child < length nodes) (λ child h. omega arith) (children node) (below_from_stands id node (tree id node e))

items_below_by : (n : ℕ) (o : Option Node) → ((node : Node) → o ≡ Some node → Below n (children node)) → Below n (items_in o)
unfolding children
items_below_by n (Some (Block items)) h = h (Block items) refl
items_below_by n _ h = tt

pub items_below : (nodes : Nodes) → IsTree nodes → (id : NodeId) → Below (length nodes) (items_at nodes id)
unfolding items_at
items_below nodes tree id = items_below_by (length nodes) (node_at nodes id.0) (children_below nodes tree id.0)

bind_below : {D : Type 0} (n : ℕ) (bind : D → NodeId) (value : D → Option NodeId) (all : List D) → Below n (flat_map (λ d. one (bind d) ++ given (value d)) all) → Below n (map (λ d. (bind d).0) all)
bind_below n bind value [] h = tt
bind_below n bind value (d ∷ all) h =
    (h.0, bind_below n bind value all (all_back _ (given (value d)) (flat_map (λ e. one (bind e) ++ given (value e)) all) h.1))

pub binding_below : (n : ℕ) (node : Node) → Below n (children node) → Below n (binding_parts node)
unfolding children
binding_below n (Let pairs) h = bind_below n (λ pair. pair.bind) (λ pair. pair.value) pairs h
binding_below n (Const pairs) h = bind_below n (λ pair. pair.bind) (λ pair. pair.value) pairs h
binding_below n (BindObject parts) h = bind_below n (λ part. part.bind) (λ part. part.default) parts h
binding_below n (BindArray parts) h = bind_below n (λ part. part.bind) (λ part. part.default) parts h
binding_below n _ h = tt

binding_falls_by : (n : ℕ) (o : Option Node) → ((node : Node) → o ≡ Some node → Below n (children node)) → Below n (option_map_or binding_parts o [])
binding_falls_by n None h = tt
binding_falls_by n (Some node) h = binding_below n node (h node refl)

pub binding_falls : (nodes : Nodes) → IsTree nodes → (id : ℕ) → Below id (binding_parts_at nodes id)
unfolding IsTree binding_parts_at
binding_falls nodes tree id = binding_falls_by id (node_at nodes id) (λ node e. below_from_stands id node (tree id node e))

pub body_below : (n : ℕ) (function : Function) → Below n (of_function function) → function.body.0 < n
body_below n function h =
    (all_back _ (given function.rest) (one function.body) (all_back _ (of_elements function.parameters) (given function.rest ++ one function.body) h)).0

function_parts_below : (nodes : Nodes) → IsTree nodes → (function : Function) → Below (length nodes) (of_function function) → Below (length nodes) (function_parts nodes function)
function_parts_below nodes tree function h =
    let tail = given function.rest ++ one function.body in
    let params = bind_below (length nodes) (λ part. part.bind) (λ part. part.default) function.parameters (all_front _ (of_elements function.parameters) tail h) in
    let rest = all_front _ (given function.rest) (one function.body) (all_back _ (of_elements function.parameters) tail h) in
    all_append _ (map (λ part. part.bind.0) function.parameters) (given function.rest ++ items_at nodes function.body) params
    (all_append _ (given function.rest) (items_at nodes function.body) rest (items_below nodes tree function.body))

function_same : (n : ℕ) (f g : Function) → Some f ≡ Some g → Below n (of_function f) → Below n (of_function g)
function_same n f g e h = let same : f ≡ g = cc in subst (λ x. Below n (of_function x)) same h

key_function_same : (n : ℕ) (key : PropertyKey) (f g : Function) → Some f ≡ Some g → Below n (of_key key ++ of_function f) → Below n (of_function g)
key_function_same n key f g e h = function_same n f g e (all_back _ (of_key key) (of_function f) h)

pub function_below : (n : ℕ) (node : Node) (function : Function) → function_of node ≡ Some function → Below n (children node) → Below n (of_function function)
unfolding children
function_below n (FunDecl name f) function e h = function_same n f function e h
function_below n (Fun name f) function e h = function_same n f function e h
function_below n (Arrow f) function e h = function_same n f function e h
function_below n (Method key f) function e h = key_function_same n key f function e h
function_below n (Getter key f) function e h = key_function_same n key f function e h
function_below n (Setter key f) function e h = key_function_same n key f function e h
function_below n _ function e h = cc

catch_below : (nodes : Nodes) → IsTree nodes → (bind handler last : Option NodeId) → Below (length nodes) (given bind ++ (given handler ++ given last)) → Below (length nodes) (catch_parts nodes bind handler)
catch_below nodes tree (Some bind) (Some handler) last h = (h.0, items_below nodes tree handler)
catch_below nodes tree _ _ last h = tt

other_below : (nodes : Nodes) → IsTree nodes → (node : Node) → Below (length nodes) (children node) → Below (length nodes) (other_parts nodes node)
unfolding children
other_below nodes tree (Script items) h = h
other_below nodes tree (Block items) h = h
other_below nodes tree (Try block bind handler last) h = catch_below nodes tree bind handler last h.1
other_below nodes tree (For first test next body) h = all_front _ (given first) (given test ++ (given next ++ one body)) h
other_below nodes tree (ForOf constant bind list body) h = (h.0, tt)
other_below nodes tree _ h = tt

scope_below_by : (nodes : Nodes) → IsTree nodes → (node : Node) (o : Option Function) → function_of node ≡ o → Below (length nodes) (children node) → Below (length nodes) (option_map_or (function_parts nodes) o (other_parts nodes node))
scope_below_by nodes tree node None e h = other_below nodes tree node h
scope_below_by nodes tree node (Some function) e h = function_parts_below nodes tree function (function_below (length nodes) node function e h)

pub scope_below : (nodes : Nodes) → IsTree nodes → (node : Node) → StandsBelow (length nodes) node → Below (length nodes) (scope_parts nodes node)
unfolding scope_parts
scope_below nodes tree node h = scope_below_by nodes tree node (function_of node) refl (below_from_stands (length nodes) node h)

parts_fall_by : (place : Place) (o : Option Node) → ((node : Node) → o ≡ Some node → Below place.node.0 (children node)) → AllByRecursion (λ part. part.node.0 < place.node.0) (option_map_or (λ node. map (within place node) (children node)) o [])
parts_fall_by place None h = tt
parts_fall_by place (Some node) h = all_map (λ part. part.node.0 < place.node.0) (within place node) (children node) (h node refl)

pub parts_fall : (nodes : Nodes) → IsTree nodes → (place : Place) → AllByRecursion (λ part. part.node.0 < place.node.0) (parts_at nodes place)
unfolding IsTree parts_at
parts_fall nodes tree place = parts_fall_by place (node_at nodes place.node.0) (λ node e. below_from_stands place.node.0 node (tree place.node.0 node e))

handler_below_by : (n : ℕ) (bind handler last : Option NodeId) → Below n (given bind ++ (given handler ++ given last)) → IfSome handler (λ id. id.0 < n)
handler_below_by n bind None last h = tt
handler_below_by n bind (Some id) last h = (all_front _ (given (Some id)) (given last) (all_back _ (given bind) (given (Some id) ++ given last) h)).0

-- The body of a `catch` stands below what its `try` does.
pub handler_below : (n : ℕ) (node : Node) (block : NodeId) (bind handler last : Option NodeId) → node ≡ Try block bind handler last → StandsBelow n node → IfSome handler (λ id. id.0 < n)
unfolding children
handler_below n node block bind handler last e h = handler_below_by n bind handler last (subst (λ x. Below n (children x)) e (below_from_stands n node h)).1

-- The children of a node of a tree stand in it.
pub stands_in : (nodes : Nodes) → IsTree nodes → (id : ℕ) (node : Node) → node_at nodes id ≡ Some node → StandsBelow (length nodes) node
unfolding StandsBelow
stands_in nodes tree id node e = All-from_recursion (λ child. child < length nodes) (children node) (children_below nodes tree id node e)
