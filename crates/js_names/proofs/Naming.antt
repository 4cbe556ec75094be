-- The names of a pattern, from those of its parts: a pattern's nodes have falling numbers, so that as many levels as the
-- tree has nodes are enough.
use Rattle.std.proofs.Common.{◌≡◌, ◌<◌, ◌≤◌, ◌+◌, ◌-◌, ℕ, zero, suc, Bool, false, option_to_list, List, [], ◌∷◌, ◌++◌, length, Option, Some, None, map, take, get_or, slice_get, refl, ap, sym, ◌∙◌, subst, arith}
use Rattle.std.specs.List.{flat_map, All}
use Rattle.std.proofs.lemmas.List.{length-map, map-append, append-nil, take_all, take_more, flat_map_more}
use Rattle.std.proofs.lemmas.List.Folds.{flat_map-map}
use Rattle.std.proofs.lemmas.List.Elements.{All-head, All-tail}
use Rattle.std.proofs.lemmas.Grind.{flat_map-append}
use Rattle.std.proofs.lemmas.Option.{slice_get-map, slice_get_past}
use Rattle.world_heap.specs.Over.{ListOver}
use Rattle.world_heap.specs.declared.cell.Binding.{Binding}
use Rattle.js_tree.specs.declared.node.NodeId.{NodeId}
use Rattle.js_tree.specs.declared.node.Declarator.{Declarator}
use Rattle.js_tree.specs.declared.node.BindElement.{BindElement}
use Rattle.js_tree.specs.declared.node.BindProperty.{BindProperty}
use Rattle.js_tree.specs.declared.node.Function.{Function}
use Rattle.js_tree.specs.declared.node.Node.{Node}
use Rattle.js_tree.specs.declared.node.Node.TheVariants as kinds
use Rattle.js_tree.specs.Children.{children, given, of_elements, of_properties}
use Rattle.js_tree.specs.Nodes.{Nodes, node_at, StandsBelow, IsTree}
use Rattle.js_semantics.specs.Environments.{names_in, names_within, names_of, unready, declared_by, declared_in, parameters_of}
use Rattle.js_semantics.specs.Access.{patterns_of}
use Rattle.js_names.specs.Patterns.{nodes_of, own_names, parts_of}

over_more : {A : Type 0} (P Q : A → Type 0) → ((x : A) → P x → Q x) → (xs : List A) → ListOver P xs → ListOver Q xs
over_more P Q more [] h = tt
over_more P Q more (x ∷ xs) h = (more x h.0, over_more P Q more xs h.1)

-- the parts of a pattern stand below it
all_past : (P : ℕ → Type 0) (o : Option NodeId) (rest : List ℕ) → All P (given o ++ rest) → All P rest
all_past P None rest h = h
all_past P (Some id) rest h = All-tail P id.0 rest h

elements_below : (count : ℕ) (parts : List BindElement) → All (λ child. child < count) (of_elements parts) → ListOver (λ (p : NodeId). p.0 < count) (map (λ (part : BindElement). part.bind) parts)
elements_below count [] h = tt
elements_below count (p ∷ parts) h = (
  All-head (λ child. child < count) p.bind.0 (given p.default ++ of_elements parts) h,
  elements_below count parts (all_past (λ child. child < count) p.default (of_elements parts) (All-tail (λ child. child < count) p.bind.0 (given p.default ++ of_elements parts) h)),
)

properties_below : (count : ℕ) (parts : List BindProperty) → All (λ child. child < count) (of_properties parts) → ListOver (λ (p : NodeId). p.0 < count) (map (λ (part : BindProperty). part.bind) parts)
properties_below count [] h = tt
properties_below count (p ∷ parts) h = (
  All-head (λ child. child < count) p.bind.0 (given p.default ++ of_properties parts) h,
  properties_below count parts (all_past (λ child. child < count) p.default (of_properties parts) (All-tail (λ child. child < count) p.bind.0 (given p.default ++ of_properties parts) h)),
)

pub parts_below : (count : ℕ) (here : Node) → StandsBelow count here → ListOver (λ (p : NodeId). p.0 < count) (parts_of here)
unfolding StandsBelow children
parts_below count (kinds.BindObject parts) h = properties_below count parts h
parts_below count (kinds.BindArray parts) h = elements_below count parts h
parts_below count other h = tt

-- what two rules say of a pattern that say the same of its parts
flat_agree : {A B : Type 0} (bind : A → NodeId) (f g : NodeId → List B) (parts : List A) → ListOver (λ p. f p ≡ g p) (map bind parts) → flat_map (λ a. f (bind a)) parts ≡ flat_map (λ a. g (bind a)) parts
flat_agree bind f g [] h = refl
flat_agree bind f g (p ∷ parts) h = λ i. h.0 i ++ flat_agree bind f g parts h.1 i

agree : (f g : NodeId → List (List ℕ)) (here : Node) → ListOver (λ p. f p ≡ g p) (parts_of here) → names_in f (Some here) ≡ names_in g (Some here)
agree f g (kinds.BindObject parts) h = flat_agree (λ (part : BindProperty). part.bind) f g parts h
agree f g (kinds.BindArray parts) h = flat_agree (λ (part : BindElement). part.bind) f g parts h
agree f g (kinds.BindName name) h = refl
agree f g other h = refl

pub node_is : (nodes : Nodes) (id : ℕ) → slice_get (nodes_of nodes) id ≡ node_at nodes id
unfolding node_at
node_is nodes id = slice_get-map (λ n. n.0) nodes id

module _ (nodes : Nodes) (ordered : IsTree nodes) where
  agree_at : (f g : NodeId → List (List ℕ)) (id : ℕ) → ((p : NodeId) → p.0 < id → f p ≡ g p) → names_in f (slice_get (nodes_of nodes) id) ≡ names_in g (slice_get (nodes_of nodes) id)
  unfolding IsTree
  agree_at f g id same =
      let is = node_is nodes id in
      ap (names_in f) is ∙ elim (node_at nodes id) as (λ o. node_at nodes id ≡ o → names_in f o ≡ names_in g o) [
        | None ↦ λ e. refl
        | Some here ↦ λ e. agree f g here (over_more (λ (p : NodeId). p.0 < id) (λ p. f p ≡ g p) same (parts_of here) (parts_below id here (ordered id here e)))
      ] refl ∙ sym (ap (names_in g) is)

  enough : (n m : ℕ) (node : NodeId) → node.0 < n → node.0 < m → names_within n (nodes_of nodes) node ≡ names_within m (nodes_of nodes) node
  enough zero m node h k = absurd (omega arith)
  enough (suc n) zero node h k = absurd (omega arith)
  enough (suc n) (suc m) node h k = agree_at (names_within n (nodes_of nodes)) (names_within m (nodes_of nodes)) node.0 (λ p lt. enough n m p (omega arith) (omega arith))

  -- the names of a pattern that stands
  pub names_step : (node : NodeId) → node.0 < length nodes → names_of (nodes_of nodes) node ≡ names_in (names_of (nodes_of nodes)) (slice_get (nodes_of nodes) node.0)
  unfolding names_of
  names_step node within =
      let all = length-map nodes (λ (n : Node × ℕ). n.0) in
      let count : length (nodes_of nodes) ≡ suc (length nodes - 1) = omega (arith, all, within) in
      ap (λ n. names_within n (nodes_of nodes) node) count
      ∙ agree_at (names_within (length nodes - 1) (nodes_of nodes)) (names_within (length (nodes_of nodes)) (nodes_of nodes)) node.0 (λ p lt. enough (length nodes - 1) (length (nodes_of nodes)) p (omega (arith, lt, within)) (omega (arith, lt, within, all)))

-- a node that doesn't stand has none
pub names_absent : (nodes : Nodes) (node : NodeId) → length nodes ≤ node.0 → names_of (nodes_of nodes) node ≡ []
unfolding names_of
names_absent nodes node past = by (length (nodes_of nodes))
  where
    by : (n : ℕ) → names_within n (nodes_of nodes) node ≡ []
    by zero = refl
    by (suc n) = ap (names_in (names_within n (nodes_of nodes))) (slice_get_past (nodes_of nodes) node.0 (omega (arith, length-map nodes (λ (n : Node × ℕ). n.0), past)))

-- a pattern's own name, and those of its parts
pub names_split : (below : NodeId → List (List ℕ)) (here : Node) → names_in below (Some here) ≡ own_names here ++ flat_map below (parts_of here)
names_split below (kinds.BindName name) = refl
names_split below (kinds.BindObject parts) = sym (flat_map-map below (λ (part : BindProperty). part.bind) parts)
names_split below (kinds.BindArray parts) = sym (flat_map-map below (λ (part : BindElement). part.bind) parts)
names_split below other = refl

map-flat : {A B C : Type 0} (u : B → C) (f : A → List B) (xs : List A) → map u (flat_map f xs) ≡ flat_map (λ x. map u (f x)) xs
map-flat u f [] = refl
map-flat u f (x ∷ xs) = map-append u (f x) (flat_map f xs) ∙ ap (λ ys. map u (f x) ++ ys) (map-flat u f xs)

append-assoc : {A : Type 0} (xs ys zs : List A) → (xs ++ ys) ++ zs ≡ xs ++ (ys ++ zs)
append-assoc [] ys zs = refl
append-assoc (x ∷ xs) ys zs = ap (λ rest. x ∷ rest) (append-assoc xs ys zs)

-- a pattern is declared where its own name and its parts are
pub declared_all : (nodes : Nodes) → IsTree nodes → (node : NodeId) (here : Node) (fixed : Bool) (old : List (Binding ℕ)) → node.0 < length nodes → node_at nodes node.0 ≡ Some here
    → (old ++ map (unready fixed) (own_names here)) ++ flat_map (λ p. map (unready fixed) (names_of (nodes_of nodes) p)) (parts_of here) ≡ old ++ map (unready fixed) (names_of (nodes_of nodes) node)
declared_all nodes ordered node here fixed old within is =
    let names = names_of (nodes_of nodes) in
    let whole : names node ≡ own_names here ++ flat_map names (parts_of here) = names_step nodes ordered node within ∙ ap (names_in names) (node_is nodes node.0 ∙ is) ∙ names_split names here in
    append-assoc old (map (unready fixed) (own_names here)) (flat_map (λ p. map (unready fixed) (names p)) (parts_of here))
    ∙ ap (λ more. old ++ more) (ap (λ more. map (unready fixed) (own_names here) ++ more) (sym (map-flat (unready fixed) names (parts_of here))) ∙ sym (map-append (unready fixed) (own_names here) (flat_map names (parts_of here))) ∙ ap (map (unready fixed)) (sym whole))

pub declared_none : (nodes : Nodes) (node : NodeId) (fixed : Bool) (old : List (Binding ℕ)) → length nodes ≤ node.0 → old ≡ old ++ map (unready fixed) (names_of (nodes_of nodes) node)
declared_none nodes node fixed old past = sym (ap (λ names. old ++ map (unready fixed) names) (names_absent nodes node past) ∙ append-nil old)

-- a turn of a loop that adds what each has
pub added_more : {X A : Type 0} (f : X → List A) (start now next : List A) (xs : List X) (i : ℕ) (d : X) → i < length xs → now ≡ start ++ flat_map f (take i xs) → next ≡ now ++ f (get_or xs i d) → next ≡ start ++ flat_map f (take (i + 1) xs)
added_more f start now next xs i d lt was is =
    is ∙ ap (λ ys. ys ++ f (get_or xs i d)) was ∙ flat_map_more f start (take i xs) (get_or xs i d) ∙ ap (λ ys. start ++ flat_map f ys) (sym (take_more xs i d lt))

pub over_at : {A : Type 0} (P : A → Type 0) (xs : List A) (i : ℕ) (x : A) → ListOver P xs → slice_get xs i ≡ Some x → P x
over_at P [] i x h e = absurd (cc)
over_at P (y ∷ xs) zero x h e = let same : y ≡ x = cc in subst P same h.0
over_at P (y ∷ xs) (suc i) x h e = over_at P xs i x h.1 e

-- a pattern after the loop over its parts
pub pattern_done : (nodes : Nodes) → IsTree nodes → (node : NodeId) (here : Node) (fixed : Bool) (old now : List (Binding ℕ)) (i : ℕ) → node.0 < length nodes → node_at nodes node.0 ≡ Some here → length (parts_of here) ≤ i
    → now ≡ (old ++ map (unready fixed) (own_names here)) ++ flat_map (λ p. map (unready fixed) (names_of (nodes_of nodes) p)) (take i (parts_of here))
    → now ≡ old ++ map (unready fixed) (names_of (nodes_of nodes) node)
pattern_done nodes ordered node here fixed old now i within is all now_is =
    now_is ∙ ap (λ ps. (old ++ map (unready fixed) (own_names here)) ++ flat_map (λ p. map (unready fixed) (names_of (nodes_of nodes) p)) ps) (take_all i (parts_of here) all)
    ∙ declared_all nodes ordered node here fixed old within is

-- an item that declares nothing
pub item_none : (nodes : Nodes) (id : ℕ) (old : List (Binding ℕ)) → length nodes ≤ id → old ≡ old ++ declared_by (nodes_of nodes) (slice_get (nodes_of nodes) id)
item_none nodes id old past =
    sym (ap (λ o. old ++ declared_by (nodes_of nodes) o) (slice_get_past (nodes_of nodes) id (omega (arith, length-map nodes (λ (n : Node × ℕ). n.0), past))) ∙ append-nil old)

-- an item that stands
pub item_is : (nodes : Nodes) (id : ℕ) (here : Node) (old now : List (Binding ℕ)) → node_at nodes id ≡ Some here → now ≡ old ++ declared_by (nodes_of nodes) (Some here) → now ≡ old ++ declared_by (nodes_of nodes) (slice_get (nodes_of nodes) id)
item_is nodes id here old now is now_is = now_is ∙ sym (ap (λ o. old ++ declared_by (nodes_of nodes) o) (node_is nodes id ∙ is))

-- the bindings of all parameters
pub parameters_are : (tree : List Node) (function : Function) (first all : List (Binding ℕ)) → first ≡ [] ++ flat_map (λ (element : BindElement). map (unready false) (names_of tree element.bind)) function.parameters
    → all ≡ first ++ flat_map (λ pattern. map (unready false) (names_of tree pattern)) (option_to_list function.rest) → all ≡ parameters_of tree (patterns_of function)
unfolding parameters_of
parameters_are tree function first all first_is all_is =
    let f : NodeId → List (Binding ℕ) = λ pattern. map (unready false) (names_of tree pattern) in
    all_is ∙ ap (λ bs. bs ++ flat_map f (option_to_list function.rest)) (first_is ∙ sym (flat_map-map f (λ (element : BindElement). element.bind) function.parameters))
    ∙ sym (flat_map-append f (map (λ (element : BindElement). element.bind) function.parameters) (option_to_list function.rest))

pub declared_are : (tree : List Node) (items : List NodeId) (i : ℕ) (all : List (Binding ℕ)) → length items ≤ i → all ≡ flat_map (λ item. declared_by tree (slice_get tree item.0)) (take i items) → all ≡ declared_in tree items
unfolding declared_in
declared_are tree items i all past is = is ∙ ap (flat_map (λ item. declared_by tree (slice_get tree item.0))) (take_all i items past)

-- a node that is no declaration declares nothing
pub other_none : (tree : List Node) (here : Node) (old : List (Binding ℕ)) → ((pairs : List Declarator) → here ≡ kinds.Let pairs → ⊥) → ((pairs : List Declarator) → here ≡ kinds.Const pairs → ⊥) → ((name : List ℕ) (function : Function) → here ≡ kinds.FunDecl name function → ⊥)
    → old ≡ old ++ declared_by tree (Some here)
other_none tree (kinds.Let pairs) old a b d = absurd (a pairs refl)
other_none tree (kinds.Const pairs) old a b d = absurd (b pairs refl)
other_none tree (kinds.FunDecl name function) old a b d = absurd (d name function refl)
other_none tree other old a b d = sym (append-nil old)
