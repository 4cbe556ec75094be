-- The first early error of a tree stands in it.
use Rattle.std.proofs.Common.{◌≡◌, ℕ, ◌<◌, List, [], ◌∷◌, length, Option, Some, None, Err, refl, ap, subst, ◌∙◌}
use Rattle.std.proofs.lemmas.Option.{slice_get_within}
use Rattle.std.specs.List.{filter_map, cons_option, slice_get}
use Rattle.std.specs.Option.{option_map, option_and_then, unwrap_or}
use Rattle.js_tree.specs.declared.node.Node.{Node}
use Rattle.js_tree.specs.Nodes.{Nodes, node_at, place_at}
use Rattle.js_scope.specs.declared.fault.ScopeKind.{ScopeKind}
use Rattle.js_scope.specs.declared.place.Place.{Place}
use Rattle.js_scope.specs.Names.{repeated}
use Rattle.js_scope.specs.Rules.{broken_by, fault_at}
use Rattle.js_scope.specs.Faults.{places, faults}
use Rattle.js_source.specs.declared.fault.SourceFault.TheVariants.{At}
use Rattle.js_source.specs.Kinds.{early}
use Rattle.js_source.specs.Source.{unless_broken}

-- What a filter finds first it finds at some item.
module _ {X Y : Type 0} (f : X → Option Y) where
  pub first_found : (xs : List X) (y : Y) → slice_get (filter_map f xs) 0 ≡ Some y → (x : X) × (f x ≡ Some y)
  first_found [] y e = absurd cc
  first_found (x ∷ xs) y e = first_found_by (first_found xs y) (f x) refl e
    where
      first_found_by : (slice_get (filter_map f xs) 0 ≡ Some y → (z : X) × (f z ≡ Some y)) → (o : Option Y) → f x ≡ o → slice_get (cons_option o (filter_map f xs)) 0 ≡ Some y → (z : X) × (f z ≡ Some y)
      first_found_by later None k e = later e
      first_found_by later (Some z) k e = (x, cc)

-- a node that is there has a number below the count
pub node_within : (nodes : Nodes) (id : ℕ) (node : Node) → node_at nodes id ≡ Some node → id < length nodes
unfolding node_at
node_within nodes id node e = node_within_by nodes id node (slice_get nodes id) refl e
  where
    node_within_by : (nodes : Nodes) (id : ℕ) (node : Node) (o : Option (Node × ℕ)) → slice_get nodes id ≡ o → option_map (λ entry. entry.0) o ≡ Some node → id < length nodes
    node_within_by nodes id node None k e = absurd cc
    node_within_by nodes id node (Some entry) k e = slice_get_within nodes id entry k

-- what breaks a rule at a place stands in the tree
pub fault_within : (nodes : Nodes) (again : List ℕ) (place : Place) (fault : ℕ × ScopeKind) → fault_at nodes again place ≡ Some fault → fault.0 < length nodes
unfolding fault_at
fault_within nodes again place fault e = by_node (node_at nodes place.node.0) refl e
  where
    by_kind : (node : Node) → node_at nodes place.node.0 ≡ Some node → (o : Option ScopeKind) → option_map (λ kind. (place.node.0, kind)) o ≡ Some fault → fault.0 < length nodes
    by_kind node k None e = absurd cc
    by_kind node k (Some kind) e =
        let same : place.node.0 ≡ fault.0 = cc in
        subst (λ id. id < length nodes) same (node_within nodes place.node.0 node k)

    by_node : (o : Option Node) → node_at nodes place.node.0 ≡ o → option_map (λ kind. (place.node.0, kind)) (option_and_then (broken_by nodes again place) o) ≡ Some fault → fault.0 < length nodes
    by_node None k e = absurd cc
    by_node (Some node) k e = by_kind node k (broken_by nodes again place node) e

pub first_within : (nodes : Nodes) (fault : ℕ × ScopeKind) → slice_get (faults nodes) 0 ≡ Some fault → fault.0 < length nodes
unfolding faults
first_within nodes fault e =
    let found = first_found (fault_at nodes (repeated nodes)) (places nodes) fault e in
    fault_within nodes (repeated nodes) found.0 fault found.1

-- The first fault is told at the place of its node.
pub first_told : (nodes : Nodes) (found : List (ℕ × ScopeKind)) (id place : ℕ) (kind : ScopeKind) → slice_get found 0 ≡ Some (id, kind) → place_at nodes id ≡ Some place → unless_broken nodes found ≡ Err (At place (early kind))
first_told nodes [] id place kind e k = absurd cc
first_told nodes (first ∷ others) id place kind e k =
    let same : first ≡ (id, kind) = cc in
    ap (λ fault. Err (At (unwrap_or (place_at nodes fault.0) 0) (early fault.1))) same ∙ ap (λ o. Err (At (unwrap_or o 0) (early kind))) k
