-- How a value is walked, and what follows it.
use Rattle.std.proofs.Common.{◌≡◌, ℕ, ◌≤◌, List, [], Option, Some, None, Result, Ok, Err, IfOk, nat_eq, refl, sym, ap, ◌∙◌}
use Rattle.std.specs.Prelude.{slice_get}
use Rattle.js_tree.specs.declared.node.NodeId.{NodeId}
use Rattle.js_tree.specs.declared.node.Node.{Node}
use Rattle.js_semantics.specs.declared.scope.Scope.{Scope}
use Rattle.js_step_object.specs.Elements.{spread_in}
use Rattle.js_step_object.proofs.Pushing.{element_is, element_row}
use Rattle.world_heap.specs.declared.value.Value.{Value}
use Rattle.world_heap.specs.declared.value.Value.TheVariants.{Ref, Str}
use Rattle.world_heap.specs.declared.cell.Cell.{Cell}
use Rattle.world_heap.specs.declared.cell.Cell.TheVariants.{Array, Map, Set}
use Rattle.world_heap.specs.Maps.{find}
use Rattle.js_semantics.specs.declared.fault.StepFault.{StepFault}
use Rattle.js_semantics.specs.World.{cell_at}
use Rattle.js_semantics.specs.Prog.{Prog, Read, throw}
use Rattle.js_semantics.specs.Access.{make_array}
use Rattle.js_semantics.specs.declared.fault.Fault.TheVariants.{NotIterable}
use Rattle.world_heap.specs.declared.cell.MapEntry.{MapEntry}
use Rattle.js_semantics.specs.Iteration.{items_at, points_of, push_entries, push_items, push_texts, values_of, walk_cell, walk_value}
use Rattle.js_machine.specs.declared.state.State.{State}
use Rattle.js_machine.specs.declared.state.Next.{Next}
use Rattle.js_machine.specs.Does.{Does}
use Rattle.js_machine.proofs.Doing.{allowing, does_move_ok, does_read, does_read_ok, moves_on, moves_read}
use Rattle.js_step_object.specs.Defining.{Comes, Makes}
use Rattle.js_step_object.proofs.Going.{comes_ok, comes_ended}
use Rattle.js_iterate.specs.declared.walking.Walked.{Walked}
use Rattle.js_iterate.specs.declared.walking.Walked.TheVariants.{Values, Entries, Nothing}
use Rattle.js_iterate.specs.Walking.{walk_found, walked_in}

-- what is found of a cell is walked as the cell is
cell_is : (c : Option (Cell ℕ)) (loc : ℕ) (k : ℕ → Prog ℕ) → walk_cell c loc k ≡ walk_found (walked_in c) loc k
unfolding walk_found walked_in
cell_is (Some (Array proto items frozen)) loc k = refl
cell_is (Some (Map body entries)) loc k = refl
cell_is (Some (Set body values)) loc k = refl
cell_is other loc k = refl

pub found_makes : (nodes : List Node) (loc : ℕ) (found : Walked ℕ) (old new : State) (r : Result (Result ℕ Next) StepFault) → found ≡ walked_in (find nat_eq old.heap.cells loc) → IfOk r (λ made. Makes nodes (λ k. walk_found found loc k) old new made) → IfOk r (λ made. Makes nodes (λ k. walk_value (Ref loc) k) old new made)
unfolding walk_value
found_makes nodes loc found old new (Err fault) is h = tt
found_makes nodes loc found old new (Ok (Ok array)) is h = λ k.
    moves_on nodes (Read (λ w. walk_cell (cell_at loc w) loc k)) (walk_found found loc k) (k array) old old new (moves_read nodes (λ w. walk_cell (cell_at loc w) loc k) (walk_found found loc k) old (λ supply. cell_is (find nat_eq old.heap.cells loc) loc k ∙ ap (λ f. walk_found f loc k) (sym is))) (h k)
found_makes nodes loc found old new (Ok (Err next)) is h = λ k.
    does_read nodes 2 (λ w. walk_cell (cell_at loc w) loc k) (walk_found found loc k) old new next (λ supply. cell_is (find nat_eq old.heap.cells loc) loc k ∙ ap (λ f. walk_found f loc k) (sym is)) (h k)

-- what follows a value that is walked
module _ (nodes : List Node) (n : ℕ) (v : Value ℕ) (k : ℕ → Prog ℕ) (old mid : State) (made : Result ℕ Next) (h : Makes nodes (λ j. walk_value v j) old mid made) where
  pub walk_ok : (new : State) (loc : ℕ) (r : Result Next StepFault) → made ≡ Ok loc → IfOk r (λ next. Does nodes n (k loc) mid new next) → IfOk r (λ next. Does nodes n (walk_value v k) old new next)
  walk_ok new loc r is = let g : Makes nodes (λ j. walk_value v j) old mid (Ok loc) = rw is at h in does_move_ok nodes n (walk_value v k) (k loc) old mid new r (g k)

  pub walk_ended : (next : Next) → 2 ≤ n → made ≡ Err next → Does nodes n (walk_value v k) old mid next
  walk_ended next some is = let g : Makes nodes (λ j. walk_value v j) old mid (Err next) = rw is at h in allowing nodes 2 n (walk_value v k) old mid next some (g k)

-- the items of what is walked go into the array of a literal
module _ (nodes : List Node) (array walked : ℕ) (items : List (Value ℕ)) (q : Prog ℕ) (old mid : State) (ended : Option Next) (is : items ≡ items_at (find nat_eq old.heap.cells walked)) (h : Comes nodes (λ p. push_items array items p) old mid ended) where
  pub spread_ok : (new : State) (r : Result Next StepFault) → ended ≡ None → IfOk r (λ next. Does nodes 6 q mid new next) → IfOk r (λ next. Does nodes 6 (Read (λ w. push_items array (items_at (cell_at walked w)) q)) old new next)
  spread_ok new r goes came =
      does_read_ok nodes 6 (λ w. push_items array (items_at (cell_at walked w)) q) (push_items array items q) old new r (λ supply. ap (λ l. push_items array l q) (sym is)) (comes_ok nodes (λ p. push_items array items p) q old mid new ended r h goes came)

  pub spread_ended : (next : Next) → ended ≡ Some next → Does nodes 6 (Read (λ w. push_items array (items_at (cell_at walked w)) q)) old mid next
  spread_ended next goes =
      does_read nodes 6 (λ w. push_items array (items_at (cell_at walked w)) q) (push_items array items q) old mid next (λ supply. ap (λ l. push_items array l q) (sym is)) (comes_ended nodes (λ p. push_items array items p) q old mid ended next h goes)

-- what was found at a location
pub found_values : (nodes : List Node) (loc : ℕ) (found : Walked ℕ) (values told : List (Value ℕ)) (old new : State) (r : Result (Result ℕ Next) StepFault) → found ≡ Values values → told ≡ values → IfOk r (λ made. Makes nodes (λ k. make_array [] (λ array. push_items array told (k array))) old new made) → IfOk r (λ made. Makes nodes (λ k. walk_found found loc k) old new made)
unfolding walk_found
found_values nodes loc found values told old new r is same h = rw is (rw same at h)

pub found_entries : (nodes : List Node) (loc : ℕ) (found : Walked ℕ) (entries told : List (MapEntry ℕ)) (old new : State) (r : Result (Result ℕ Next) StepFault) → found ≡ Entries entries → told ≡ entries → IfOk r (λ made. Makes nodes (λ k. make_array [] (λ array. push_entries array told (k array))) old new made) → IfOk r (λ made. Makes nodes (λ k. walk_found found loc k) old new made)
unfolding walk_found
found_entries nodes loc found entries told old new r is same h = rw is (rw same at h)

pub found_nothing : (nodes : List Node) (loc : ℕ) (found : Walked ℕ) (old new : State) (r : Result (Result ℕ Next) StepFault) → found ≡ Nothing → IfOk r (λ made. Makes nodes (λ k. throw NotIterable) old new made) → IfOk r (λ made. Makes nodes (λ k. walk_found found loc k) old new made)
unfolding walk_found
found_nothing nodes loc found old new r is h = rw is h

-- what a value is
pub value_text : (nodes : List Node) (v : Value ℕ) (text told : List ℕ) (old new : State) (r : Result (Result ℕ Next) StepFault) → v ≡ Str text → told ≡ text → IfOk r (λ made. Makes nodes (λ k. make_array [] (λ array. push_texts array (points_of told) (k array))) old new made) → IfOk r (λ made. Makes nodes (λ k. walk_value v k) old new made)
unfolding walk_value
value_text nodes v text told old new r is same h = rw is (rw same at h)

pub value_refused : (nodes : List Node) (v : Value ℕ) (old new : State) (r : Result (Result ℕ Next) StepFault) → ((loc : ℕ) → v ≡ Ref loc → ⊥) → ((text : List ℕ) → v ≡ Str text → ⊥) → IfOk r (λ made. Makes nodes (λ k. throw NotIterable) old new made) → IfOk r (λ made. Makes nodes (λ k. walk_value v k) old new made)
unfolding walk_value
value_refused nodes (Ref loc) old new r refers spells h = absurd (refers loc refl)
value_refused nodes (Str text) old new r refers spells h = absurd (spells text refl)
value_refused nodes other old new r refers spells h = h

-- an argument that the tree tells
pub does_argument : (nodes : List Node) (node : NodeId) (scope : Scope ℕ) (k : List (Value ℕ) → Prog ℕ) (found : Option NodeId) (old new : State) (r : Result Next StepFault) → found ≡ spread_in (slice_get nodes node.0) → IfOk r (λ next. Does nodes 4 (element_row found node scope k) old new next) → IfOk r (λ next. Does nodes 4 (Read (λ w. values_of (slice_get w.tree node.0) node scope k)) old new next)
does_argument nodes node scope k found old new r is h =
    does_read_ok nodes 4 (λ w. values_of (slice_get w.tree node.0) node scope k) (element_row found node scope k) old new r (λ supply. element_is (slice_get nodes node.0) node scope k ∙ ap (λ o. element_row o node scope k) (sym is)) h

-- the items of what is walked are arguments
pub does_items : (nodes : List Node) (array : ℕ) (items : List (Value ℕ)) (k : List (Value ℕ) → Prog ℕ) (old new : State) (r : Result Next StepFault) → items ≡ items_at (find nat_eq old.heap.cells array) → IfOk r (λ next. Does nodes 6 (k items) old new next) → IfOk r (λ next. Does nodes 6 (Read (λ w. k (items_at (cell_at array w)))) old new next)
does_items nodes array items k old new r is h = does_read_ok nodes 6 (λ w. k (items_at (cell_at array w))) (k items) old new r (λ supply. ap k (sym is)) h
