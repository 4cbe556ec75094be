-- How the removal of a property is put together.
use Rattle.std.proofs.Common.{◌≡◌, ℕ, List, Option, Some, None, Bool, true, false, not, if◌then◌else◌, is_some, nat_eq, Result, IfOk, refl, sym, ap, ◌∙◌, arith}
use Rattle.std.specs.Option.{option_map_or}
use Rattle.world_heap.specs.declared.value.Value.{Value}
use Rattle.world_heap.specs.declared.value.Value.TheVariants.{Str, Ref}
use Rattle.world_heap.specs.declared.cell.Body.{Body}
use Rattle.world_heap.specs.declared.cell.Cell.{Cell}
use Rattle.world_heap.specs.Bodies.{body_of}
use Rattle.world_heap.specs.Maps.{find, keys, put}
use Rattle.world_heap.specs.Views.{HeapView}
use Rattle.proto_props.specs.declared.remove.Removal.{Removal}
use Rattle.proto_props.specs.declared.remove.Removal.TheVariants.{Absent, Fixed, Free}
use Rattle.proto_props.specs.Gets.{text_unit}
use Rattle.proto_props.specs.Own.{is_length}
use Rattle.proto_props.specs.Removes.{after_removal, cells_without, is_gone, removal, removal_from}
use Rattle.js_tree.specs.declared.node.Node.{Node}
use Rattle.js_semantics.specs.declared.fault.StepFault.{StepFault}
use Rattle.js_semantics.specs.Run.{Arrival, run}
use Rattle.js_semantics.specs.World.{World}
use Rattle.js_semantics.specs.Prog.{Cont, Prog, bind}
use Rattle.js_semantics.specs.Properties.{Deletion, Keeps, Leaves, Removes, delete_step, deleted, deleted_at, without}
use Rattle.js_semantics.specs.Access.{delete, delete_with}
use Rattle.js_machine.specs.declared.state.State.{State}
use Rattle.js_machine.specs.declared.state.Next.{Next}
use Rattle.js_machine.specs.Does.{Does, Moves, budget_of, left, world_of}
use Rattle.js_machine.proofs.Changing.{follows_keys}
use Rattle.js_machine.proofs.Doing.{does_move_ok, does_read_ok}
use Rattle.js_step_access.specs.Removing.{is_kept, removed}

-- what the removal of a property comes to, where nothing changes
pub delete_ok : (nodes : List Node) (of : Value ℕ) (key : List ℕ) (q : Prog ℕ) (old new : State) (r : Result Next StepFault) → ((w : World ℕ) → delete_with (delete_step of key w) ≡ q)
    → IfOk r (λ next. Does nodes 6 q old new next) → IfOk r (λ next. Does nodes 6 (delete of key) old new next)
unfolding delete
delete_ok nodes of key q old new r is h = does_read_ok nodes 6 (λ w. delete_with (delete_step of key w)) q old new r (λ supply. is (world_of nodes supply old)) h

kept_by : (named : Bool) (unit : Option (List ℕ)) → delete_with {L = ℕ} (Some (if named then Keeps else option_map_or (λ u. Keeps) unit Leaves)) ≡ removed (not (if named then true else is_some unit))
kept_by true unit = refl
kept_by false None = refl
kept_by false (Some u) = refl

-- a string's length and its units stay
pub unit_ok : (nodes : List Node) (text key : List ℕ) (kept : Bool) (old new : State) (r : Result Next StepFault) → kept ≡ is_kept text key
    → IfOk r (λ next. Does nodes 6 (removed (not kept)) old new next) → IfOk r (λ next. Does nodes 6 (delete (Str text) key) old new next)
unfolding delete_step
unit_ok nodes text key kept old new r is h = delete_ok nodes (Str text) key (removed (not kept)) old new r (λ w. rw is (kept_by (is_length key) (text_unit text key))) h

-- a deletion is what becomes of the cells, and of the property
abbrev Agrees : List (ℕ × Cell ℕ) → Deletion ℕ → Bool → List (ℕ × Cell ℕ) → Type 0
Agrees cells Leaves gone cs = (gone ≡ true) × (cs ≡ cells)
Agrees cells Keeps gone cs = (gone ≡ false) × (cs ≡ cells)
Agrees cells (Removes loc cell) gone cs = (gone ≡ true) × (cs ≡ put nat_eq cells loc cell)

module _ (cells : List (ℕ × Cell ℕ)) (loc : ℕ) (key : List ℕ) where
  agrees_free : (cell : Cell ℕ) (b : Option (Body ℕ)) → find nat_eq cells loc ≡ Some cell → body_of cell ≡ b → Agrees cells (without b cell loc key) true (cells_without cells loc key)
  agrees_free cell None at is = (refl, rw (at, is) refl)
  agrees_free cell (Some b) at is = (refl, rw (at, is) refl)

  agrees_by : (cell : Cell ℕ) (r : Removal) → find nat_eq cells loc ≡ Some cell → Agrees cells (deleted r cell loc key) (is_gone r) (after_removal r cells loc key)
  agrees_by cell Absent at = (refl, refl)
  agrees_by cell Fixed at = (refl, refl)
  agrees_by cell Free at = agrees_free cell (body_of cell) at refl

  agrees_at : (found : Option (Cell ℕ)) → find nat_eq cells loc ≡ found → Agrees cells (deleted_at found loc key) (is_gone (option_map_or (λ c. removal c key) found Absent)) (after_removal (option_map_or (λ c. removal c key) found Absent) cells loc key)
  agrees_at None at = (refl, refl)
  agrees_at (Some cell) at = agrees_by cell (removal cell key) at

  agrees : Agrees cells (deleted_at (find nat_eq cells loc) loc key) (is_gone (removal_from cells loc key)) (after_removal (removal_from cells loc key) cells loc key)
  agrees = agrees_at (find nat_eq cells loc) refl

-- a state that differs in its cells alone
module _ (nodes : List Node) (old mid : State) (p q : Prog ℕ) (cs : List (ℕ × Cell ℕ)) where
  abbrev with_cells : State
  with_cells = record old { heap = record old.heap { cells = cs } }

  moves_to : mid ≡ with_cells → keys mid.heap.cells ≡ keys old.heap.cells
      → ((supply : ℕ → ℕ) (ds : List Arrival) (k : Cont ℕ) → run ds (budget_of old) (world_of nodes supply old) (bind p k) ≡ run ds (budget_of with_cells) (world_of nodes supply with_cells) (bind q k))
      → Moves nodes p old q mid
  moves_to is kept same = record {
    law = λ supply ds k follows. same supply ds k ∙ sym (ap (λ (s : State). run ds (budget_of s) (world_of nodes supply s) (bind q k)) is);
    frames = ap (λ s. s.frames.items) is;
    left = let e : left mid ≡ left old = ap left is in omega arith;
    keeps = λ supply f. follows_keys supply 0 mid.heap.cells old.heap.cells kept f;
    stays = ap (λ s. s.heap) is ∙ sym (ap (λ (s : State). record old.heap { cells = s.heap.cells; counts = s.heap.counts }) is);
  }

moves_removal : (nodes : List Node) (d : Deletion ℕ) (gone : Bool) (cs : List (ℕ × Cell ℕ)) (old mid : State) → Agrees old.heap.cells d gone cs → mid ≡ record old { heap = record old.heap { cells = cs } } → keys mid.heap.cells ≡ keys old.heap.cells
    → Moves nodes (delete_with (Some d)) old (removed gone) mid
unfolding run
moves_removal nodes Leaves gone cs old mid (told, are) is kept = moves_to nodes old mid (delete_with (Some Leaves)) (removed gone) cs is kept (λ supply ds k. rw (told, are) refl)
moves_removal nodes Keeps gone cs old mid (told, are) is kept = moves_to nodes old mid (delete_with (Some Keeps)) (removed gone) cs is kept (λ supply ds k. rw (told, are) refl)
moves_removal nodes (Removes loc cell) gone cs old mid (told, are) is kept = moves_to nodes old mid (delete_with (Some (Removes loc cell))) (removed gone) cs is kept (λ supply ds k. rw (told, are) refl)

-- a property of what stands at a location is removed, or stays
pub removed_ok : (nodes : List Node) (loc : ℕ) (key : List ℕ) (gone : Bool) (heap : HeapView) (old mid new : State) (r : Result Next StepFault) → mid ≡ record old { heap = heap } → gone ≡ is_gone (removal_from old.heap.cells loc key)
    → heap ≡ record old.heap { cells = after_removal (removal_from old.heap.cells loc key) old.heap.cells loc key } → keys heap.cells ≡ keys old.heap.cells
    → IfOk r (λ next. Does nodes 6 (removed gone) mid new next) → IfOk r (λ next. Does nodes 6 (delete (Ref loc) key) old new next)
unfolding delete delete_step
removed_ok nodes loc key gone heap old mid new r is told heap_is kept h =
    let cells = old.heap.cells in
    let whole : mid ≡ record old { heap = record old.heap { cells = after_removal (removal_from cells loc key) cells loc key } } = is ∙ ap (λ (v : HeapView). record old { heap = v }) heap_is in
    let same : keys mid.heap.cells ≡ keys cells = ap (λ (s : State). keys s.heap.cells) is ∙ kept in
    does_read_ok nodes 6 (λ w. delete_with (delete_step (Ref loc) key w)) (delete_with (Some (deleted_at (find nat_eq cells loc) loc key))) old new r (λ supply. refl)
    (does_move_ok nodes 6 _ (removed gone) old mid new r (rw told (moves_removal nodes _ (is_gone (removal_from cells loc key)) (after_removal (removal_from cells loc key) cells loc key) old mid (agrees cells loc key) whole same)) h)
