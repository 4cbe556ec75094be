-- A walk over the places of a tree.
use Rattle.std.proofs.Common.{◌≡◌, ℕ, ◌+◌, ◌-◌, ◌<◌, List, [], ◌∷◌, ◌++◌, length, reverse, Some, None, false, refl, sym, ◌∙◌, ap, subst, arith}
use Rattle.std.proofs.lemmas.List.{append-nil}
use Rattle.std.specs.List.{flat_map, filter_map, cons_option, AllByRecursion, slice_get}
use Rattle.std.specs.Option.{option_map, option_and_then}
use Rattle.js_tree.specs.declared.node.NodeId.{NodeId}
use Rattle.js_tree.specs.declared.node.Node.{Node}
use Rattle.js_tree.specs.Nodes.{Nodes, node_at, IsTree}
use Rattle.js_scope.specs.declared.fault.ScopeKind.{ScopeKind}
use Rattle.js_scope.specs.declared.place.Place.{Place}
use Rattle.js_scope.specs.Walk.{walk}
use Rattle.js_scope.specs.Names.{repeated}
use Rattle.js_scope.specs.Rules.{parts_at, broken_by, fault_at}
use Rattle.js_scope.specs.Faults.{top, places, faults}
use Rattle.js_scope.proofs.Walks.{walk_turn, stand_first, stand_turn}
use Rattle.js_scope.proofs.Trees.{parts_fall}

-- the places that are still to be looked at, from a stack whose last is next
abbrev pub places_left : Nodes → List Place → List Place
places_left nodes stack = flat_map (walk (parts_at nodes) (length nodes)) (reverse stack)

abbrev pub PlacesStand : Nodes → List Place → Type 0
PlacesStand nodes stack = AllByRecursion (λ place. place.node.0 < length nodes) (reverse stack)

module _ (nodes : Nodes) (tree : IsTree nodes) (stack : List Place) (place : Place) (old : List Place) (was : old ≡ stack ++ place ∷ []) (stands : PlacesStand nodes old) where
  here : PlacesStand nodes (stack ++ place ∷ [])
  here = subst (PlacesStand nodes) was stands

  pub place_stands : place.node.0 < length nodes
  place_stands = stand_first (parts_at nodes) (λ x. x.node.0) (parts_fall nodes tree) (length nodes) stack place here

  module _ (new : List Place) (now : new ≡ stack ++ reverse (parts_at nodes place)) where
    pub places_turn : places_left nodes old ≡ place ∷ places_left nodes new
    places_turn =
        ap (places_left nodes) was ∙ (walk_turn (parts_at nodes) (λ x. x.node.0) (parts_fall nodes tree) (length nodes) stack place place_stands ∙ ap (λ xs. place ∷ places_left nodes xs) (sym now))

    pub places_stand : PlacesStand nodes new
    places_stand = subst (PlacesStand nodes) (sym now) (stand_turn (parts_at nodes) (λ x. x.node.0) (parts_fall nodes tree) (length nodes) stack place here)

-- what is told of a place whose node is known
pub fault_of : (nodes : Nodes) (again : List ℕ) (place : Place) (node : Node) → node_at nodes place.node.0 ≡ Some node → fault_at nodes again place ≡ option_map (λ kind. (place.node.0, kind)) (broken_by nodes again place node)
unfolding fault_at
fault_of nodes again place node e = ap (λ o. option_map (λ kind. (place.node.0, kind)) (option_and_then (broken_by nodes again place) o)) e

-- At first the root is left.
pub faults_first : (nodes : Nodes) (stack : List Place) → stack ≡ top nodes ∷ [] → filter_map (fault_at nodes (repeated nodes)) (places_left nodes stack) ≡ faults nodes
unfolding faults places
faults_first nodes stack e = ap (λ xs. filter_map (fault_at nodes (repeated nodes)) (places_left nodes xs)) e ∙ ap (filter_map (fault_at nodes (repeated nodes))) (append-nil (walk (parts_at nodes) (length nodes) (top nodes)))

-- A tree without nodes has no faults.
pub faults_none : faults [] ≡ []
unfolding faults places walk
faults_none = refl

-- The root is the last node.
pub top_is : (nodes : Nodes) (root : NodeId) → root.0 + 1 ≡ length nodes → record { node = root; in_function = false; in_loop = false } ≡ top nodes
top_is nodes root e =
    let same : root.0 ≡ length nodes - 1 = omega arith in
    ap (λ n. record { node = record { 0 = n }; in_function = false; in_loop = false }) same

pub stands_at_first : (nodes : Nodes) (root : NodeId) → root.0 + 1 ≡ length nodes → (stack : List Place) → stack ≡ top nodes ∷ [] → PlacesStand nodes stack
stands_at_first nodes root e stack k =
    let lt : (top nodes).node.0 < length nodes = omega arith in
    subst (PlacesStand nodes) (sym k) (lt, tt)

module _ (nodes : Nodes) (tree : IsTree nodes) (stack : List Place) (place : Place) (old : List Place) (was : old ≡ stack ++ place ∷ []) (stands : PlacesStand nodes old) (found : filter_map (fault_at nodes (repeated nodes)) (places_left nodes old) ≡ faults nodes) (node : Node) (is : node_at nodes place.node.0 ≡ Some node) where
  -- The fault of the next place is the first one.
  pub fault_told : (kind : ScopeKind) → Some kind ≡ broken_by nodes (repeated nodes) place node → slice_get (faults nodes) 0 ≡ Some (place.node.0, kind)
  fault_told kind e =
      let f = fault_at nodes (repeated nodes) in
      let next = stack ++ reverse (parts_at nodes place) in
      let told : f place ≡ Some (place.node.0, kind) = fault_of nodes (repeated nodes) place node is ∙ ap (option_map (λ k. (place.node.0, k))) (sym e) in
      let first = ap (filter_map f) (places_turn nodes tree stack place old was stands next refl) ∙ ap (λ o. cons_option o (filter_map f (places_left nodes next))) told in
      ap (λ xs. slice_get xs 0) (sym found ∙ first)

  -- Where the next place has no fault, what is left has the faults.
  pub none_told : None ≡ broken_by nodes (repeated nodes) place node → (new : List Place) → new ≡ stack ++ reverse (parts_at nodes place) → filter_map (fault_at nodes (repeated nodes)) (places_left nodes new) ≡ faults nodes
  none_told e new now =
      let f = fault_at nodes (repeated nodes) in
      let told : f place ≡ None = fault_of nodes (repeated nodes) place node is ∙ ap (option_map (λ k. (place.node.0, k))) (sym e) in
      let first = ap (filter_map f) (places_turn nodes tree stack place old was stands new now) ∙ ap (λ o. cons_option o (filter_map f (places_left nodes new))) told in
      sym first ∙ found
