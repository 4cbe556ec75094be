-- What a walk over the parts of a scope finds.
use Rattle.std.proofs.Common.{◌≡◌, ℕ, ◌+◌, ◌≤◌, List, [], ◌∷◌, ◌++◌, length, reverse, take, Option, Some, None, refl, sym, ◌∙◌, ap, subst, get_or, arith}
use Rattle.std.proofs.lemmas.List.{reverse-reverse, append-nil, take_more, take_all}
use Rattle.std.proofs.lemmas.Grind.{flat_map-append}
use Rattle.std.proofs.lemmas.Option.{slice_get_within, get_or_from_slice_get}
use Rattle.std.specs.List.{flat_map, filter_map, cons_option, slice_get}
use Rattle.std.specs.Option.{option_map, option_and_then, option_map_or}
use Rattle.js_tree.specs.declared.node.Node.{Node}
use Rattle.js_tree.specs.Nodes.{Nodes, node_at, StandsBelow, IsTree}
use Rattle.js_scope.specs.Walk.{walk}
use Rattle.js_scope.specs.Names.{declared_name, binding_parts, binding_parts_at, declared_at, names, scope_parts, repeats, repeated_in, repeated}
use Rattle.js_scope.proofs.Walks.{walk_turn, stand_first, stand_turn}
use Rattle.js_scope.proofs.Trees.{Below, binding_falls, scope_below}

-- the parts that are still to be walked, from a stack whose last is next
abbrev pub left : Nodes → List ℕ → List ℕ
left nodes stack = flat_map (walk (binding_parts_at nodes) (length nodes)) (reverse stack)

pub binding_parts_of : (nodes : Nodes) (id : ℕ) (node : Node) → node_at nodes id ≡ Some node → binding_parts_at nodes id ≡ binding_parts node
unfolding binding_parts_at
binding_parts_of nodes id node e = ap (λ o. option_map_or binding_parts o []) e

pub declared_of : (nodes : Nodes) (id : ℕ) (node : Node) → node_at nodes id ≡ Some node → declared_at nodes id ≡ option_map (λ name. (id, name)) (declared_name node)
unfolding declared_at
declared_of nodes id node e = ap (λ o. option_map (λ name. (id, name)) (option_and_then declared_name o)) e

module _ (nodes : Nodes) (tree : IsTree nodes) (stack : List ℕ) (id : ℕ) (node : Node) (is : node_at nodes id ≡ Some node) (old new : List ℕ) (was : old ≡ stack ++ id ∷ []) (now : new ≡ stack ++ reverse (binding_parts node)) (stands : Below (length nodes) (reverse old)) where
  pub left_turn : left nodes old ≡ id ∷ left nodes new
  left_turn =
      let here : Below (length nodes) (reverse (stack ++ id ∷ [])) = subst (λ xs. Below (length nodes) (reverse xs)) was stands in
      let lt = stand_first (binding_parts_at nodes) (λ x. x) (binding_falls nodes tree) (length nodes) stack id here in
      let turn = walk_turn (binding_parts_at nodes) (λ x. x) (binding_falls nodes tree) (length nodes) stack id lt in
      let parts : new ≡ stack ++ reverse (binding_parts_at nodes id) = now ∙ ap (λ xs. stack ++ reverse xs) (sym (binding_parts_of nodes id node is)) in
      ap (left nodes) was ∙ (turn ∙ ap (λ xs. id ∷ left nodes xs) (sym parts))

  pub stands_after : Below (length nodes) (reverse new)
  stands_after =
      let here : Below (length nodes) (reverse (stack ++ id ∷ [])) = subst (λ xs. Below (length nodes) (reverse xs)) was stands in
      let parts : new ≡ stack ++ reverse (binding_parts_at nodes id) = now ∙ ap (λ xs. stack ++ reverse xs) (sym (binding_parts_of nodes id node is)) in
      subst (λ xs. Below (length nodes) (reverse xs)) (sym parts) (stand_turn (binding_parts_at nodes) (λ x. x) (binding_falls nodes tree) (length nodes) stack id here)

  pub names_turn : names nodes (reverse old) ≡ cons_option (option_map (λ name. (id, name)) (declared_name node)) (names nodes (reverse new))
  unfolding names
  names_turn = ap (filter_map (declared_at nodes)) left_turn ∙ ap (λ o. cons_option o (filter_map (declared_at nodes) (left nodes new))) (declared_of nodes id node is)

-- Before the walk all is left: the parts of the scope.
pub found_first : (nodes : Nodes) (node : Node) (parts stack : List ℕ) → parts ≡ scope_parts nodes node → stack ≡ reverse parts → repeats [] (names nodes (reverse stack)) ≡ repeated_in nodes node
unfolding repeated_in
found_first nodes node parts stack e k = ap (λ xs. repeats [] (names nodes xs)) (ap reverse k ∙ (reverse-reverse parts ∙ e))

pub stands_first : (nodes : Nodes) → IsTree nodes → (node : Node) → StandsBelow (length nodes) node → (parts stack : List ℕ) → parts ≡ scope_parts nodes node → stack ≡ reverse parts → Below (length nodes) (reverse stack)
stands_first nodes tree node h parts stack e k =
    let same : scope_parts nodes node ≡ reverse stack = sym (ap reverse k ∙ (reverse-reverse parts ∙ e)) in
    subst (Below (length nodes)) same (scope_below nodes tree node h)

-- Where nothing is left, nothing more comes again.
pub found_last : (nodes : Nodes) (stack : List ℕ) → length stack ≡ 0 → (again : List ℕ) (before : List (List ℕ)) → again ++ repeats before (names nodes (reverse stack)) ≡ again
unfolding names
found_last nodes [] e again before = append-nil again
found_last nodes (id ∷ stack) e again before = absurd (omega arith)

-- A list's items one further.
pub taken_turn : (nodes : Nodes) (id : ℕ) (node : Node) (f : Node → List ℕ) → node_at nodes id ≡ Some node → flat_map (λ entry. f entry.0) (take (id + 1) nodes) ≡ flat_map (λ entry. f entry.0) (take id nodes) ++ f node
unfolding node_at
taken_turn nodes id node f e = taken_turn_by nodes id node f (slice_get nodes id) refl e
  where
    taken_turn_by : (nodes : Nodes) (id : ℕ) (node : Node) (f : Node → List ℕ) (o : Option (Node × ℕ)) → slice_get nodes id ≡ o → option_map (λ entry. entry.0) o ≡ Some node → flat_map (λ entry. f entry.0) (take (id + 1) nodes) ≡ flat_map (λ entry. f entry.0) (take id nodes) ++ f node
    taken_turn_by nodes id node f None e k = cc
    taken_turn_by nodes id node f (Some entry) e k =
        let lt = slice_get_within nodes id entry e in
        let here = get_or_from_slice_get nodes id entry entry e in
        let same : entry.0 ≡ node = cc in
        ap (flat_map (λ entry. f entry.0)) (take_more nodes id entry lt) ∙ (flat_map-append (λ entry. f entry.0) (take id nodes) (get_or nodes id entry ∷ []) ∙ ap (λ xs. flat_map (λ entry. f entry.0) (take id nodes) ++ xs) (append-nil (f (get_or nodes id entry).0) ∙ ap f (ap (λ entry. entry.0) here ∙ same)))

-- All nodes were looked at.
pub taken_last : (nodes : Nodes) (id : ℕ) → length nodes ≤ id → (again : List ℕ) → again ≡ flat_map (λ entry. repeated_in nodes entry.0) (take id nodes) → again ≡ repeated nodes
unfolding repeated
taken_last nodes id h again e = e ∙ ap (flat_map (λ entry. repeated_in nodes entry.0)) (take_all id nodes h)
