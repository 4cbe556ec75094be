-- How an element is put at the end of an array, and how elements are entered.
use Rattle.std.proofs.Common.{◌≡◌, ℕ, ◌+◌, ◌≤◌, ◌<◌, List, [], ◌∷◌, ◌++◌, Option, Some, None, Bool, true, false, Result, Ok, Err, nat_eq, refl, sym, ap, ◌∙◌, arith}
use Rattle.js_tree.specs.declared.node.NodeId.{NodeId}
use Rattle.js_tree.specs.declared.node.Node.{Node}
use Rattle.js_tree.specs.declared.node.Node.TheVariants as kinds
use Rattle.world_heap.specs.declared.value.Value.{Value}
use Rattle.world_heap.specs.declared.cell.Cell.{Cell}
use Rattle.world_heap.specs.declared.cell.Cell.TheVariants.{Array}
use Rattle.world_heap.specs.declared.limits.HeapFault.{HeapFault}
use Rattle.world_heap.specs.declared.limits.HeapFault.TheVariants as full
use Rattle.world_heap.specs.Maps.{find}
use Rattle.world_heap.specs.Views.{HeapView}
use Rattle.world_heap.specs.Growth.{grown}
use Rattle.proto_props.specs.declared.outcome.SetDone.{SetDone}
use Rattle.proto_props.specs.Adds.{IsOpenArray}
use Rattle.proto_props.specs.Changes.{Extending}
use Rattle.js_semantics.specs.declared.scope.Scope.{Scope}
use Rattle.world_log.specs.declared.entry.Product.TheVariants.{Stopped}
use Rattle.world_log.specs.declared.entry.Stop.TheVariants.{Places}
use Rattle.js_semantics.specs.World.{cell_at}
use Rattle.js_semantics.specs.Prog.{Prog, Read, change, eval, step}
use Rattle.js_semantics.specs.Iteration.{items_at, push_item, pushed, values_of, walk_value}
use Rattle.js_machine.specs.declared.state.State.{State}
use Rattle.js_machine.specs.declared.state.Control.TheVariants as controls
use Rattle.js_machine.specs.declared.state.Next.{Next}
use Rattle.js_machine.specs.declared.state.Next.TheVariants.{Made}
use Rattle.js_machine.specs.Does.{world_of}
use Rattle.js_step_object.specs.Defining.{Comes}
use Rattle.js_step_object.specs.Elements.{is_open_array, spread_in}
use Rattle.js_machine.proofs.Changing.{passed_none, passed_places}
use Rattle.js_step_object.proofs.Writing.{does_not_place, moves_write}

-- an array that isn't frozen
open_cell : (cells : List (ℕ × Cell ℕ)) (loc : ℕ) (c : Cell ℕ) → find nat_eq cells loc ≡ Some c → is_open_array c ≡ true → IsOpenArray cells loc
open_cell cells loc (Array p vs false) found h = (p, vs, found)
open_cell cells loc (Array p vs true) found h = absurd (cc)
open_cell cells loc other found h = absurd (cc)

pub open_array : (cells : List (ℕ × Cell ℕ)) (loc : ℕ) (c : Cell ℕ) (told : Bool) → find nat_eq cells loc ≡ Some c → told ≡ is_open_array c → told ≡ true → IsOpenArray cells loc
open_array cells loc c told found is h = open_cell cells loc c found (sym is ∙ h)

pub open_only : (cells : List (ℕ × Cell ℕ)) (loc : ℕ) (c : Cell ℕ) → find nat_eq cells loc ≡ Some c → IsOpenArray cells loc → is_open_array c ≡ true
open_only cells loc c found stands =
    let some : Some c ≡ Some (Array stands.0 stands.1 false) = sym found ∙ stands.2 in
    let is : c ≡ Array stands.0 stands.1 false = cc in
    ap (λ x. is_open_array x) is

-- an element is put at its end
pub push_ok : (nodes : List Node) (loc : ℕ) (v : Value ℕ) (old new : State) (heap : HeapView) (r : Result (SetDone ℕ) HeapFault) (done : SetDone ℕ) → IsOpenArray old.heap.cells loc → ((p : Option ℕ) (vs : List (Value ℕ)) → find nat_eq old.heap.cells loc ≡ Some (Array p vs false) → Extending old.heap loc (Array p (vs ++ v ∷ []) false) r heap) → r ≡ Ok done → new ≡ record old { heap = heap } → Comes nodes (λ q. push_item loc v q) old new None
unfolding push_item
push_ok nodes loc v old new heap r done stands law ok is = λ q.
    let (p, vs, found) = stands in
    let wrote : Extending old.heap loc (Array p (vs ++ v ∷ []) false) (Ok done) heap = rw ok at (law p vs found) in
    let room : old.heap.counts.places + 1 ≤ old.heap.limits.places = passed_none old.heap.limits (grown old.heap.counts 0 1 0) wrote.0 in
    moves_write nodes 1 loc (Array p (vs ++ v ∷ []) false) (λ w. pushed (cell_at loc w) loc v w) q old new (λ supply. ap (λ o. pushed o loc v (world_of nodes supply old)) found) (omega arith) (is ∙ ap (λ h. record old { heap = h }) wrote.2)

-- no place is left for it
pub push_full : (nodes : List Node) (loc : ℕ) (v : Value ℕ) (old mid new : State) (heap : HeapView) (r : Result (SetDone ℕ) HeapFault) (fault : HeapFault) (next : Next) → IsOpenArray old.heap.cells loc → ((p : Option ℕ) (vs : List (Value ℕ)) → find nat_eq old.heap.cells loc ≡ Some (Array p vs false) → Extending old.heap loc (Array p (vs ++ v ∷ []) false) r heap) → r ≡ Err fault → fault ≡ full.Places → mid ≡ record old { heap = heap } → new ≡ record mid { control = controls.Stop } → next ≡ Made (Stopped Places) → Comes nodes (λ q. push_item loc v q) old new (Some next)
unfolding push_item
push_full nodes loc v old mid new heap r fault next stands law answered fault_is between is told_is = λ q.
    let (p, vs, found) = stands in
    let err : r ≡ Err full.Places = answered ∙ ap (λ f. Err f) fault_is in
    let kept : Extending old.heap loc (Array p (vs ++ v ∷ []) false) (Err full.Places) heap = rw err at (law p vs found) in
    let above : old.heap.limits.places < old.heap.counts.places + 1 = passed_places old.heap.limits (grown old.heap.counts 0 1 0) kept.0 in
    let same : mid ≡ old = between ∙ ap (λ h. record old { heap = h }) kept.1 in
    rw told_is (does_not_place nodes 2 (change (λ w. pushed (cell_at loc w) loc v w) q) old new (omega arith) above (is ∙ ap (λ (s : State). record s { control = controls.Stop }) same))

-- the values of an element, by whether it is a spread
abbrev pub element_row : Option NodeId → NodeId → Scope ℕ → (List (Value ℕ) → Prog ℕ) → Prog ℕ
element_row None node scope k = eval node scope (λ v. k (v ∷ []))
element_row (Some list) node scope k = step (eval list scope (λ v. walk_value v (λ array. Read (λ w. k (items_at (cell_at array w))))))

pub element_is : (o : Option Node) (node : NodeId) (scope : Scope ℕ) (k : List (Value ℕ) → Prog ℕ) → values_of o node scope k ≡ element_row (spread_in o) node scope k
element_is (Some (kinds.Spread list)) node scope k = refl
element_is other node scope k = refl
