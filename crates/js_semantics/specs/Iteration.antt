-- What is walked by `for .. of` and by a spread (ECMA-262, 7.4: iterator records; 23.1.5.1, 22.1.5.1: arrays and strings).
-- An array is walked as it stands at each turn; what else can be walked is put into a new array first.
use Rattle.std.specs.Prelude.{ℕ, ◌&&◌, nat_le, List, [], ◌∷◌, ◌++◌, Option, Some, None, Bool, true, false, slice_get}
use Rattle.world_heap.specs.declared.value.Value.{Value}
use Rattle.world_heap.specs.declared.value.Value.TheVariants.{Str, Ref}
use Rattle.world_heap.specs.declared.cell.MapEntry.{MapEntry}
use Rattle.world_heap.specs.declared.cell.Cell.{Cell}
use Rattle.world_heap.specs.declared.cell.Cell.TheVariants.{Array, Map, Set}
use Rattle.js_tree.specs.declared.node.NodeId.{NodeId}
use Rattle.js_tree.specs.declared.node.Node.{Node}
use Rattle.js_tree.specs.declared.node.Node.TheVariants as kinds
use Rattle.js_semantics.specs.declared.fault.Fault.TheVariants.{NotIterable}
use Rattle.js_semantics.specs.declared.scope.Scope.{Scope}
use Rattle.js_semantics.specs.World.{World, cell_at, with_cell}
use Rattle.js_semantics.specs.Prog.{Prog, Read, eval, step, change, count_places, throw, make_text}
use Rattle.js_semantics.specs.Access.{make_array}

-- whether two units are a pair of surrogates (ECMA-262, 11.1.4: code points)
abbrev pub is_pair : ℕ → ℕ → Bool
is_pair high low = nat_le 55_296 high && nat_le high 56_319 && nat_le 56_320 low && nat_le low 57_343

-- the code points of a text, each as a text
abbrev pub points_of : List ℕ → List (List ℕ)
points_of [] = []
points_of (unit ∷ []) = (unit ∷ []) ∷ []
points_of (high ∷ low ∷ rest) = elim (is_pair high low) [
  | true ↦ (high ∷ low ∷ []) ∷ points_of rest
  | false ↦ (high ∷ []) ∷ points_of (low ∷ rest)
]

module _ {L : Type 0} where
  -- the items of an array
  abbrev pub items_at : Option (Cell L) → List (Value L)
  items_at (Some (Array proto items frozen)) = items
  items_at other = []

  abbrev pub with_item : Value L → Cell L → Cell L
  with_item v (Array proto items frozen) = Array proto (items ++ v ∷ []) frozen
  with_item v other = other

  abbrev pub pushed : Option (Cell L) → L → Value L → World L → World L
  pushed None loc v w = w
  pushed (Some cell) loc v w = with_cell loc (with_item v cell) w

  -- one more item at the end of an array that is being made, with its place
  unfoldable pub push_item : L → Value L → Prog L → Prog L
  push_item loc v p = count_places 1 (change (λ w. pushed (cell_at loc w) loc v w) p)

  abbrev pub push_items : L → List (Value L) → Prog L → Prog L
  push_items loc [] p = p
  push_items loc (v ∷ vs) p = push_item loc v (push_items loc vs p)

  -- each text is made, and put at the end
  abbrev pub push_texts : L → List (List ℕ) → Prog L → Prog L
  push_texts loc [] p = p
  push_texts loc (text ∷ texts) p = make_text text (λ v. push_item loc v (push_texts loc texts p))

  -- an array of the key and the value of each entry
  abbrev pub push_entries : L → List (MapEntry L) → Prog L → Prog L
  push_entries loc [] p = p
  push_entries loc (entry ∷ entries) p = make_array (entry.key ∷ entry.value ∷ []) (λ pair. push_item loc (Ref pair) (push_entries loc entries p))

  abbrev pub walk_cell : Option (Cell L) → L → (L → Prog L) → Prog L
  walk_cell (Some (Array proto items frozen)) loc k = k loc
  walk_cell (Some (Map body entries)) loc k = make_array [] (λ array. push_entries array entries (k array))
  walk_cell (Some (Set body entries)) loc k = make_array [] (λ array. push_items array entries (k array))
  walk_cell other loc k = throw NotIterable

  -- the array that is walked for a value
  unfoldable pub walk_value : Value L → (L → Prog L) → Prog L
  walk_value (Ref loc) k = Read (λ w. walk_cell (cell_at loc w) loc k)
  walk_value (Str text) k = make_array [] (λ array. push_texts array (points_of text) (k array))
  walk_value other k = throw NotIterable

  -- the values of an element or argument: one, or with a spread all that are walked
  abbrev pub values_of : Option Node → NodeId → Scope L → (List (Value L) → Prog L) → Prog L
  values_of (Some (kinds.Spread list)) node scope k =
      step (eval list scope (λ v. walk_value v (λ array. Read (λ w. k (items_at (cell_at array w))))))
  values_of other node scope k = eval node scope (λ v. k (v ∷ []))

  -- the values of a list of arguments, behind those that were evaluated already (ECMA-262, 13.3.8)
  abbrev pub arguments_from : List (Value L) → List NodeId → Scope L → (List (Value L) → Prog L) → Prog L
  arguments_from before [] scope k = k before
  arguments_from before (node ∷ nodes) scope k =
      Read (λ w. values_of (slice_get w.tree node.0) node scope (λ vs. arguments_from (before ++ vs) nodes scope k))

  unfoldable pub arguments_of : List NodeId → Scope L → (List (Value L) → Prog L) → Prog L
  arguments_of nodes scope k = arguments_from [] nodes scope k

  -- the elements of an array literal, put into the array one after another (ECMA-262, 13.2.4)
  abbrev pub elements_into : L → List NodeId → Scope L → Prog L → Prog L
  elements_into loc [] scope p = p
  elements_into loc (node ∷ nodes) scope p =
      Read (λ w. values_of (slice_get w.tree node.0) node scope (λ vs. push_items loc vs (elements_into loc nodes scope p)))
