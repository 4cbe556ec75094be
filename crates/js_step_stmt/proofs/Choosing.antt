-- Which way a row goes, by what it reads.
use Rattle.std.proofs.Common.{◌≡◌, ℕ, suc, ◌+◌, List, [], ◌∷◌, ◌++◌, length, map, drop, not, nat_eq, Bool, true, false, Option, Some, None, refl, sym, ap, ◌∙◌}
use Rattle.std.specs.Prelude.{slice_get}
use Rattle.std.specs.List.{flat_map}
use Rattle.std.proofs.lemmas.List.{map-append, append-nil}
use Rattle.std.proofs.lemmas.List.Concat.{flat_map-cons}
use Rattle.world_heap.specs.declared.value.Value.{Value}
use Rattle.world_heap.specs.declared.cell.Binding.{Binding}
use Rattle.world_heap.specs.declared.cell.Cell.{Cell}
use Rattle.world_heap.specs.declared.cell.Cell.TheVariants.{Array}
use Rattle.js_tree.specs.declared.node.NodeId.{NodeId}
use Rattle.js_tree.specs.declared.node.Declarator.{Declarator}
use Rattle.js_tree.specs.declared.node.BindElement.{BindElement}
use Rattle.js_tree.specs.declared.node.Node.{Node}
use Rattle.js_tree.specs.declared.node.Node.TheVariants as kinds
use Rattle.js_semantics.specs.declared.scope.Scope.{Scope}
use Rattle.js_semantics.specs.declared.fault.Fault.TheVariants.{NotIterable}
use Rattle.js_semantics.specs.Prog.{Prog, End, Enter, ForOf, Node as NodeRequest, Read, alloc, done, eval, on_value, throw}
use Rattle.js_semantics.specs.World.{cell_at}
use Rattle.js_semantics.specs.Iteration.{items_at}
use Rattle.js_semantics.specs.Access.{bind_value, or_default}
use Rattle.js_semantics.specs.Environments.{bindings_at, declared_by, declared_in, env_cell, names_of, unready}
use Rattle.js_semantics.specs.Statements.{copied_cell, copy_scope, bind_array_at, bind_elements, declare_pairs, for_from, for_start, inside, item_or_undefined, names_by, run_items}
use Rattle.js_machine.specs.Frames.{declared_rest, element_bound}
use Rattle.js_step_stmt.specs.Choices.{is_array_cell}

-- the items, declarators and elements from a place on, where there is one more
pub items_some : (xs rest : List NodeId) (item : NodeId) (scope : Scope ℕ) → xs ≡ item ∷ rest → run_items xs scope ≡ Enter (NodeRequest item scope) (λ o. on_value (λ u. run_items rest scope) o)
items_some xs rest item scope is = rw is refl

pub declare_some : (nodes : List Node) (xs rest : List Declarator) (pair : Declarator) (value : NodeId) (scope : Scope ℕ) → xs ≡ pair ∷ rest → pair.value ≡ Some value → declare_pairs xs scope ≡ Enter (NodeRequest value scope) (λ o. on_value (λ v. declared_rest nodes xs scope v) o)
declare_some nodes xs rest pair value scope is here = rw (is, here) refl

-- the names that a declaration binds
map_flat : {X A B : Type 0} (f : A → B) (g : X → List A) (xs : List X) → map f (flat_map g xs) ≡ flat_map (λ x. map f (g x)) xs
map_flat f g [] = refl
map_flat f g (x ∷ xs) = ap (map f) (flat_map-cons g x xs) ∙ map-append f (g x) (flat_map g xs) ∙ ap (λ ys. map f (g x) ++ ys) (map_flat f g xs) ∙ sym (flat_map-cons (λ y. map f (g y)) x xs)

declared_one : (tree : List Node) (first : NodeId) → declared_in {L = ℕ} tree (first ∷ []) ≡ declared_by tree (slice_get tree first.0)
unfolding declared_in
declared_one tree first = append-nil (declared_by tree (slice_get tree first.0))

pub names_let : (tree : List Node) (first : NodeId) (pairs : List Declarator) (here : Node) → slice_get tree first.0 ≡ Some here → here ≡ kinds.Let pairs → declared_in {L = ℕ} tree (first ∷ []) ≡ map (unready false) (names_by tree pairs)
names_let tree first pairs here at is = declared_one tree first ∙ ap (declared_by tree) (at ∙ ap (λ n. Some n) is) ∙ sym (map_flat (unready false) (λ (pair : Declarator). names_of tree pair.bind) pairs)

pub names_const : (tree : List Node) (first : NodeId) (pairs : List Declarator) (here : Node) → slice_get tree first.0 ≡ Some here → here ≡ kinds.Const pairs → declared_in {L = ℕ} tree (first ∷ []) ≡ map (unready true) (names_by tree pairs)
names_const tree first pairs here at is = declared_one tree first ∙ ap (declared_by tree) (at ∙ ap (λ n. Some n) is) ∙ sym (map_flat (unready true) (λ (pair : Declarator). names_of tree pair.bind) pairs)

-- a `for` with a declaration
length_map : {A B : Type 0} (f : A → B) (xs : List A) → length (map f xs) ≡ length xs
length_map f [] = refl
length_map f (x ∷ xs) = ap suc (length_map f xs)

module _ (tree : List Node) (first : NodeId) (bindings : List (Binding ℕ)) (test next : Option NodeId) (body : NodeId) (scope : Scope ℕ) where
  abbrev pub begun : Bool → Prog ℕ
  begun copied = alloc (env_cell (Some scope.env) bindings) (λ env. Enter (NodeRequest first (inside env scope)) (λ o. on_value (λ v. for_start copied test next body (inside env scope)) o))

  pub for_let : (pairs : List Declarator) (here : Node) (copied : Bool) → slice_get tree first.0 ≡ Some here → here ≡ kinds.Let pairs → bindings ≡ declared_in tree (first ∷ []) → copied ≡ not (nat_eq (length bindings) 0) → for_from tree (Some here) first test next body scope ≡ begun copied
  for_let pairs here copied at is made any =
      let names : bindings ≡ map (unready false) (names_by tree pairs) = made ∙ names_let tree first pairs here at is in
      let many : copied ≡ not (nat_eq (length (names_by tree pairs)) 0) = any ∙ ap (λ n. not (nat_eq n 0)) (ap length names ∙ length_map (unready false) (names_by tree pairs)) in
      rw (is, many, names) refl

  pub for_const : (pairs : List Declarator) (here : Node) (copied : Bool) → slice_get tree first.0 ≡ Some here → here ≡ kinds.Const pairs → bindings ≡ declared_in tree (first ∷ []) → copied ≡ false → for_from tree (Some here) first test next body scope ≡ begun copied
  for_const pairs here copied at is made no_copy =
      let names : bindings ≡ map (unready true) (names_by tree pairs) = made ∙ names_const tree first pairs here at is in
      rw (is, no_copy, names) refl

-- and without one
module _ (tree : List Node) (first : NodeId) (test next : Option NodeId) (body : NodeId) (scope : Scope ℕ) where
  pub for_other : (here : Node) → ((pairs : List Declarator) → here ≡ kinds.Let pairs → ⊥) → ((pairs : List Declarator) → here ≡ kinds.Const pairs → ⊥) → for_from tree (Some here) first test next body scope ≡ Enter (NodeRequest first scope) (λ o. on_value (λ v. for_start false test next body scope) o)
  for_other (kinds.Let pairs) a b = absurd (a pairs refl)
  for_other (kinds.Const pairs) a b = absurd (b pairs refl)
  for_other other a b = refl

  pub for_none : (here : Option Node) → here ≡ None → for_from tree here first test next body scope ≡ Enter (NodeRequest first scope) (λ o. on_value (λ v. for_start false test next body scope) o)
  for_none here is = rw is refl

-- an array, and what isn't one
pub array_is : (found : Option (Cell ℕ)) (parts : List BindElement) (loc : ℕ) (scope : Scope ℕ) → is_array_cell found ≡ true → bind_array_at found parts loc scope ≡ bind_elements parts 0 loc scope
array_is (Some (Array proto items frozen)) parts loc scope yes_it = refl
array_is other parts loc scope yes_it = absurd (cc)

pub array_not : (found : Option (Cell ℕ)) (parts : List BindElement) (loc : ℕ) (scope : Scope ℕ) → is_array_cell found ≡ false → bind_array_at found parts loc scope ≡ throw NotIterable
array_not (Some (Array proto items frozen)) parts loc scope no_it = absurd (cc)
array_not other parts loc scope no_it = refl

-- the elements of a pattern from a place on, where there is one more
pub next_is : {A : Type 0} (list xs : List A) (at next : ℕ) (x : A) → list ≡ xs → (drop at list ≡ x ∷ drop next list) × (next ≡ at + 1) → drop at xs ≡ x ∷ drop (at + 1) xs
next_is list xs at next x is h = rw (← is, ← h.1) h.0

pub elements_some : (xs rest : List BindElement) (part : BindElement) (at array : ℕ) (scope : Scope ℕ) → xs ≡ part ∷ rest → bind_elements xs at array scope ≡ Read (λ w. or_default part.default (item_or_undefined (slice_get (items_at (cell_at array w)) at)) scope (λ y. bind_value part.bind y scope (bind_elements rest (at + 1) array scope)))
elements_some xs rest part at array scope is = rw is refl

pub element_default : (nodes : List Node) (xs rest : List BindElement) (part : BindElement) (at array : ℕ) (scope : Scope ℕ) (node : NodeId) → xs ≡ part ∷ rest → eval node scope (λ y. bind_value part.bind y scope (bind_elements rest (at + 1) array scope)) ≡ Enter (NodeRequest node scope) (λ o. on_value (λ v. element_bound nodes xs at array scope v) o)
element_default nodes xs rest part at array scope node is = rw is refl

-- a turn of a `for` over an array, where it has an item more, and where it hasn't
module _ (tree : List Node) (constant : Bool) (pattern body : NodeId) (array place : ℕ) (around : Scope ℕ) where
  abbrev pub turn_of : Option (Value ℕ) → Prog ℕ
  turn_of found = elim found [
    | Some item ↦ alloc (env_cell (Some around.env) (map (unready constant) (names_of tree pattern))) (λ env. Enter (ForOf constant pattern body array place item (inside env around) around) (λ o. End o))
    | None ↦ done
  ]

  pub of_item : (found : Option (Value ℕ)) (item : Value ℕ) (bindings : List (Binding ℕ)) → found ≡ Some item → bindings ≡ map (unready constant) (names_of tree pattern) → turn_of found ≡ alloc (env_cell (Some around.env) bindings) (λ env. Enter (ForOf constant pattern body array place item (inside env around) around) (λ o. End o))
  of_item found item bindings is made = rw (is, made) refl

  pub of_none : (found : Option (Value ℕ)) → found ≡ None → turn_of found ≡ done
  of_none found is = rw is refl

-- the environment of a turn is copied, where the loop has one for each turn
pub copied_true : (copied : Bool) (scope : Scope ℕ) (k : Scope ℕ → Prog ℕ) → copied ≡ true → copy_scope copied scope k ≡ Read (λ w. copied_cell (bindings_at (cell_at scope.env w)) scope k)
copied_true copied scope k is = rw is refl
