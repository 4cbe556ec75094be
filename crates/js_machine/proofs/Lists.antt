-- Lists from a place on, and nodes by their numbers.
use Rattle.std.proofs.Common.{◌≡◌, ℕ, zero, suc, ◌+◌, ◌<◌, ◌≤◌, List, [], ◌∷◌, length, drop, get_or, Some, None, refl, sym, ap, ◌∙◌, arith, add-one}
use Rattle.std.specs.Prelude.{slice_get, option_map}
use Rattle.std.proofs.lemmas.Option.{slice_get-map, slice_get_past}
use Rattle.js_tree.specs.declared.node.Node.{Node}
use Rattle.js_tree.specs.Nodes.{Nodes, node_at}
use Rattle.js_names.specs.Patterns.{nodes_of}
use Rattle.js_names.proofs.Naming.{node_is}

drop_at-suc : {A : Type 0} (xs : List A) (i : ℕ) (d : A) → i < length xs → drop i xs ≡ get_or xs i d ∷ drop (suc i) xs
drop_at-suc [] i d h = absurd (omega arith)
drop_at-suc (y ∷ ys) zero d h = refl
drop_at-suc (y ∷ ys) (suc i) d h = drop_at-suc ys i d (omega arith)

-- what stands at a place is the first from there on
pub drop_at : {A : Type 0} (xs : List A) (i : ℕ) (d : A) → i < length xs → drop i xs ≡ get_or xs i d ∷ drop (i + 1) xs
drop_at xs i d h = rw add-one (drop_at-suc xs i d h)

pub drop_some : {A : Type 0} (xs : List A) (i : ℕ) (x : A) → i < length xs → x ≡ get_or xs i x → drop i xs ≡ x ∷ drop (i + 1) xs
drop_some xs i x h e = drop_at xs i x h ∙ ap (λ y. y ∷ drop (i + 1) xs) (sym e)

-- behind the end there is nothing
pub drop_none : {A : Type 0} (xs : List A) (i : ℕ) → length xs ≤ i → drop i xs ≡ []
drop_none [] zero h = refl
drop_none [] (suc i) h = refl
drop_none (y ∷ ys) zero h = absurd (omega arith)
drop_none (y ∷ ys) (suc i) h = drop_none ys i (omega arith)

pub node_some : (nodes : Nodes) (id : ℕ) (node : Node) → node_at nodes id ≡ Some node → slice_get (nodes_of nodes) id ≡ Some node
node_some nodes id node h = node_is nodes id ∙ h

pub node_none : (nodes : Nodes) (id : ℕ) → length nodes ≤ id → slice_get (nodes_of nodes) id ≡ None
node_none nodes id h = slice_get-map (λ n. n.0) nodes id ∙ ap (λ o. option_map (λ n. n.0) o) (slice_get_past nodes id h)
