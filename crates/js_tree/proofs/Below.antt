-- That children stand before their parents, as a test.
use Rattle.std.proofs.Common.{inl, inr, get_or, ◌≡◌, ◌<◌, ◌≤◌, ◌+◌, ◌^◌, ◌&&◌, ℕ, zero, suc, Bool, true, false, List, [], ◌∷◌, ◌++◌, length, Option, Some, None, refl, ap, sym, ◌∙◌, subst, arith, nat_lt}
use Rattle.std.specs.List.{list_all, All}
use Rattle.std.proofs.lemmas.Bool.{ltb-true, lt-ltb}
use Rattle.std.proofs.lemmas.List.Folds.{list_all-append}
use Rattle.std.proofs.lemmas.List.Elements.{All-head, All-tail, All-cons}
use Rattle.std.specs.List.{slice_get}
use Rattle.std.specs.Option.{option_map}
use Rattle.std.proofs.lemmas.Option.{slice_get_within, slice_get-get_or}
use Rattle.std.proofs.Math.Nat.{eq-or-lt_of_le}
use Rattle.js_tree.proofs.Ordered.{found_there}
use Rattle.js_tree.specs.declared.node.Node.{Node}
use Rattle.js_tree.specs.Children.{children}
use Rattle.js_tree.specs.Nodes.{Nodes, node_at, StandsBelow, IsTree}

pub list_all_append : {X : Type 0} (p : X → Bool) (xs ys : List X) → list_all p (xs ++ ys) ≡ (list_all p xs && list_all p ys)
list_all_append p xs ys = list_all-append p xs ys

pub both_true : (a b : Bool) → ((a && b) ≡ true) → (a ≡ true) × (b ≡ true)
both_true true b e = (refl, e)
both_true false b e = absurd (cc)

-- a test of each number, as a fact
pub All-from_test : (count : ℕ) (xs : List ℕ) → list_all (λ x. nat_lt x count) xs ≡ true → All (λ x. x < count) xs
All-from_test count [] e = λ k d h. absurd (omega arith)
All-from_test count (x ∷ xs) e =
    let both = both_true (nat_lt x count) (list_all (λ y. nat_lt y count) xs) e in
    All-cons (λ y. y < count) x xs (ltb-true x count both.0) (All-from_test count xs both.1)

pub test-from_All : (count : ℕ) (xs : List ℕ) → All (λ x. x < count) xs → list_all (λ x. nat_lt x count) xs ≡ true
test-from_All count [] all = refl
test-from_All count (x ∷ xs) all =
    let first = lt-ltb x count (All-head (λ y. y < count) x xs all) in
    let rest = test-from_All count xs (All-tail (λ y. y < count) x xs all) in
    rw first rest

-- what was tested of a node
pub stands : (count : ℕ) (node : Node) → list_all (λ child. nat_lt child count) (children node) ≡ true → StandsBelow count node
unfolding StandsBelow
stands count node e = All-from_test count (children node) e

pub stands_not : (count : ℕ) (node : Node) → list_all (λ child. nat_lt child count) (children node) ≡ false → StandsBelow count node → ⊥
unfolding StandsBelow
stands_not count node e all = let stands_all = test-from_All count (children node) all in cc

-- the node that was read at a number
pub node_there : (nodes : Nodes) (at : ℕ) (pair : Node × ℕ) → at < length nodes → pair ≡ get_or nodes at pair
    → node_at nodes at ≡ Some pair.0
unfolding node_at
node_there nodes at pair within is = ap (option_map (λ n. n.0)) (slice_get-get_or nodes at pair within ∙ ap Some (sym is))

-- A node whose children don't all stand before it makes the list no tree.
pub refused : (nodes : Nodes) (at : ℕ) (pair : Node × ℕ) → at < length nodes → pair ≡ get_or nodes at pair
    → list_all (λ child. nat_lt child at) (children pair.0) ≡ false → IsTree nodes → ⊥
unfolding IsTree
refused nodes at pair within is tested ordered = stands_not at pair.0 tested (ordered at pair.0 (node_there nodes at pair within is))

-- one more node that stands behind its children
pub one_more : (nodes : Nodes) (at : ℕ) (pair : Node × ℕ) → at < length nodes → pair ≡ get_or nodes at pair
    → list_all (λ child. nat_lt child at) (children pair.0) ≡ true
    → ((id : ℕ) (node : Node) → id < at → node_at nodes id ≡ Some node → StandsBelow id node)
    → (id : ℕ) (node : Node) → id < at + 1 → node_at nodes id ≡ Some node → StandsBelow id node
one_more nodes at pair within is tested before id node below found =
    let bound : id ≤ at = omega arith in
    elim (eq-or-lt_of_le bound) [
      | inl same ↦
          let there = node_there nodes at pair within is in
          let node_is : pair.0 ≡ node = (let both : Some pair.0 ≡ Some node = sym there ∙ (ap (node_at nodes) (sym same) ∙ found) in cc) in
          rw (same, ← node_is) (stands at pair.0 tested)
      | inr less ↦ before id node less found
    ]

-- Nodes of which each stands behind its children are a tree.
pub all_stand : (nodes : Nodes) (at : ℕ) → length nodes ≤ at
    → ((id : ℕ) (node : Node) → id < at → node_at nodes id ≡ Some node → StandsBelow id node) → IsTree nodes
unfolding IsTree node_at
all_stand nodes at past before id node found =
    let there = found_there (λ n. n.0) (slice_get nodes id) node found in
    let within = slice_get_within nodes id there.0 there.1 in
    before id node (omega (arith, within)) found
