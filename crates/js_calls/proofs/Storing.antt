-- How the writing of a property is put together.
use Rattle.std.proofs.Common.{◌≡◌, ◌≢◌, ℕ, ◌+◌, ◌*◌, ◌-◌, ◌≤◌, List, [], ◌∷◌, Some, true, false, if◌then◌else◌, IfOk, Result, Ok, Err, nat_eq, refl, sym, ap, ◌∙◌, arith}
use Rattle.world_heap.specs.declared.value.Value.{Value}
use Rattle.world_heap.specs.declared.value.Value.TheVariants.{Ref}
use Rattle.world_heap.specs.declared.cell.Cell.{Cell}
use Rattle.world_heap.specs.declared.limits.Full.TheVariants.{Places as FullPlaces}
use Rattle.world_heap.specs.Growth.{first_passed, grown}
use Rattle.world_heap.specs.Maps.{find, put}
use Rattle.world_heap.specs.Views.{HeapView}
use Rattle.proto_props.specs.declared.outcome.SetDone.{SetDone}
use Rattle.proto_props.specs.declared.outcome.SetDone.TheVariants as done
use Rattle.proto_props.specs.Changes.{Change, Rewrites, Extends, Stays, CallsSetter, Refuses}
use Rattle.proto_props.specs.Sets.{sets}
use Rattle.js_tree.specs.declared.node.Node.{Node}
use Rattle.js_semantics.specs.declared.fault.Fault.{Fault}
use Rattle.js_semantics.specs.declared.fault.Fault.TheVariants.{ReadOnly}
use Rattle.js_semantics.specs.declared.fault.StepFault.{StepFault}
use Rattle.world_log.specs.declared.entry.Product.TheVariants.{Stopped}
use Rattle.world_log.specs.declared.entry.Stop.{Stop}
use Rattle.world_log.specs.declared.entry.Stop.TheVariants as stops
use Rattle.js_semantics.specs.Run.{receive, run}
use Rattle.js_semantics.specs.World.{with_cell}
use Rattle.js_semantics.specs.Prog.{Prog, Place, Read, Write, bind, throw}
use Rattle.js_semantics.specs.Properties.{is_symbol, set_on, set_step}
use Rattle.js_semantics.specs.Properties as rows
use Rattle.js_semantics.specs.Access.{carry_out, set}
use Rattle.js_semantics.proofs.Programs.{place_none, place_some}
use Rattle.js_machine.specs.declared.state.State.{State}
use Rattle.js_machine.specs.declared.state.Control.TheVariants as controls
use Rattle.js_machine.specs.declared.state.Next.{Next}
use Rattle.js_machine.specs.declared.state.Next.TheVariants.{Made}
use Rattle.js_machine.specs.Does.{budget_of, world_of, stack_rest, to_come, after, weights, work, left, Does, Moves}
use Rattle.js_machine.proofs.Changing.{follows_keys, passed_none, passed_places}
use Rattle.js_machine.proofs.Doing.{does_move_ok, does_read, does_read_ok, moves_by}
use Rattle.js_calls.specs.Writing.{Written, change_of, set_next}
use Rattle.js_calls.proofs.Joining.{set_same}

-- a property is written, or a setter or an error comes next
pub moves_set : (nodes : List Node) (change : Change ℕ) (of v : Value ℕ) (p : Prog ℕ) (old mid : State) (what : SetDone ℕ) → Written change old mid (Ok what) → Moves nodes (carry_out (change_of change) of v p) old (set_next what of v p) mid
unfolding change_of set_next run
moves_set nodes (Rewrites loc cell) of v p old mid what ((what_is, heap_is), kept, is) =
    let wrote : HeapView = record old.heap { cells = put nat_eq old.heap.cells loc cell } in
    let whole : mid ≡ record old { heap = wrote } = is ∙ ap (λ (h : HeapView). record old { heap = h }) heap_is in
    rw what_is (record {
      law = λ supply ds k follows. sym (ap (λ (s : State). run ds (budget_of s) (world_of nodes supply s) (bind p k)) whole);
      frames = ap (λ s. s.frames.items) whole;
      left = let e : left mid ≡ left old = ap left whole in omega arith;
      keeps = λ supply f. follows_keys supply 0 mid.heap.cells old.heap.cells kept f;
      stays = ap (λ s. s.heap) whole ∙ sym (ap (λ (s : State). record old.heap { cells = s.heap.cells; counts = s.heap.counts }) whole);
    })
moves_set nodes (Extends loc cell) of v p old mid what ((room, what_is, heap_is), kept, is) =
    let wrote : HeapView = record old.heap { cells = put nat_eq old.heap.cells loc cell; counts = grown old.heap.counts 0 1 0 } in
    let whole : mid ≡ record old { heap = wrote } = is ∙ ap (λ (h : HeapView). record old { heap = h }) heap_is in
    let fits = passed_none old.heap.limits (grown old.heap.counts 0 1 0) room in
    let some : (budget_of old).places ≢ 0 = λ z. absurd (omega arith) in
    let place : old.heap.limits.places - (old.heap.counts.places + 1) ≡ old.heap.limits.places - old.heap.counts.places - 1 = omega arith in
    let unit : old.heap.counts.units + 0 ≡ old.heap.counts.units = omega arith in
    let now : State = record old { heap = wrote } in
    rw what_is (record {
      law = λ supply ds k follows.
          let w = world_of nodes supply old in
          place_some ds (receive ds) (budget_of old) (bind (Read (λ u. Write (with_cell loc cell u) p)) k) w some
          ∙ sym (ap (λ n. run ds (record (budget_of old) { places = n }) (with_cell loc cell w) (bind p k)) place)
          ∙ sym (ap (λ u. run ds (budget_of now) (record (with_cell loc cell w) { units = u }) (bind p k)) unit)
          ∙ sym (ap (λ (s : State). run ds (budget_of s) (world_of nodes supply s) (bind p k)) whole);
      frames = ap (λ s. s.frames.items) whole;
      left = let e : left mid ≡ left now = ap left whole in omega arith;
      keeps = λ supply f. follows_keys supply 0 mid.heap.cells old.heap.cells kept f;
      stays = ap (λ s. s.heap) whole ∙ sym (ap (λ (s : State). record old.heap { cells = s.heap.cells; counts = s.heap.counts }) whole);
    })
moves_set nodes Stays of v p old mid what ((what_is, heap_is), kept, is) =
    let e : what ≡ done.Done = cc in
    let whole : mid ≡ old = is ∙ ap (λ (h : HeapView). record old { heap = h }) heap_is in
    rw (e, whole) (moves_by nodes p p old (λ supply ds k. refl))
moves_set nodes (CallsSetter set) of v p old mid what ((what_is, heap_is), kept, is) =
    let e : what ≡ done.CallSetter set = cc in
    let whole : mid ≡ old = is ∙ ap (λ (h : HeapView). record old { heap = h }) heap_is in
    rw (e, whole) (moves_by nodes _ _ old (λ supply ds k. refl))
moves_set nodes (Refuses refusal) of v p old mid what ((what_is, heap_is), kept, is) =
    let e : what ≡ done.Refused refusal = cc in
    let whole : mid ≡ old = is ∙ ap (λ (h : HeapView). record old { heap = h }) heap_is in
    rw (e, whole) (moves_by nodes _ _ old (λ supply ds k. refl))

-- or the world stops where a place more would pass the limit
not_extended : (nodes : List Node) (n : ℕ) (loc : ℕ) (cell : Cell ℕ) (p : Prog ℕ) (old new : State) → 1 ≤ n → first_passed old.heap.limits (grown old.heap.counts 0 1 0) ≡ Some FullPlaces → new ≡ record old { control = controls.Stop }
    → Does nodes n (Place (Read (λ u. Write (with_cell loc cell u) p))) old new (Made (Stopped stops.Places))
unfolding run
not_extended nodes n loc cell p old new some room is =
    let above = passed_places old.heap.limits (grown old.heap.counts 0 1 0) room in
    let none : (budget_of old).places ≡ 0 = omega arith in
    record {
      law = λ supply ds follows.
          place_none ds (receive ds) (budget_of old) (bind (Read (λ u. Write (with_cell loc cell u) p)) (stack_rest nodes old)) (world_of nodes supply old) none
          ∙ sym (ap (λ s. after (Stopped stops.Places ∷ []) (to_come nodes supply s ds)) is);
      falls = let e : work new ≡ 32 * left old + weights old.frames.items + 0 = ap work is in omega arith;
      keeps = λ supply f. rw is at f;
      stays = ap (λ s. s.heap) is ∙ sym (ap (λ s. record old.heap { cells = s.heap.cells; counts = s.heap.counts }) is);
    }

pub does_not_set : (nodes : List Node) (n : ℕ) (change : Change ℕ) (of v : Value ℕ) (p : Prog ℕ) (old new : State) (stop : Stop) → 1 ≤ n → Written change old new (Err stop) → Does nodes n (carry_out (change_of change) of v p) old new (Made (Stopped stop))
unfolding change_of
does_not_set nodes n change of v p old new stops.Fuel some h = absurd h
does_not_set nodes n change of v p old new stops.Cells some h = absurd h
does_not_set nodes n change of v p old new stops.Units some h = absurd h
does_not_set nodes n (Rewrites loc cell) of v p old new stops.Places some h = absurd (cc)
does_not_set nodes n (Extends loc cell) of v p old new stops.Places some ((room, heap_is), is) =
    not_extended nodes n loc cell p old new some room (is ∙ ap (λ (h : HeapView). record old { heap = h; control = controls.Stop }) heap_is)
does_not_set nodes n Stays of v p old new stops.Places some h = absurd (cc)
does_not_set nodes n (CallsSetter set) of v p old new stops.Places some h = absurd (cc)
does_not_set nodes n (Refuses refusal) of v p old new stops.Places some h = absurd (cc)

-- what writing a property of an object that is no symbol comes to
reads : (nodes : List Node) (loc : ℕ) (key : List ℕ) (v : Value ℕ) (p : Prog ℕ) (old : State) (supply : ℕ → ℕ) → is_symbol (find nat_eq old.heap.cells loc) ≡ false
    → carry_out (set_on (Ref loc) key v (world_of nodes supply old)) (Ref loc) v p ≡ carry_out (change_of (sets nat_eq old.heap.cells loc key v)) (Ref loc) v p
reads nodes loc key v p old supply plain =
    let w = world_of nodes supply old in
    ap (λ b. carry_out (if b then rows.Refuses ReadOnly else set_step loc key v w) (Ref loc) v p) plain
    ∙ ap (λ c. carry_out c (Ref loc) v p) (set_same loc key v w)

pub set_ok : (nodes : List Node) (n loc : ℕ) (key : List ℕ) (v : Value ℕ) (p : Prog ℕ) (old mid new : State) (what : SetDone ℕ) (r : Result Next StepFault) → is_symbol (find nat_eq old.heap.cells loc) ≡ false → Written (sets nat_eq old.heap.cells loc key v) old mid (Ok what)
    → IfOk r (λ next. Does nodes n (set_next what (Ref loc) v p) mid new next) → IfOk r (λ next. Does nodes n (set (Ref loc) key v p) old new next)
unfolding set
set_ok nodes n loc key v p old mid new what r plain wrote h =
    let change = sets nat_eq old.heap.cells loc key v in
    does_read_ok nodes n (λ w. carry_out (set_on (Ref loc) key v w) (Ref loc) v p) (carry_out (change_of change) (Ref loc) v p) old new r (λ supply. reads nodes loc key v p old supply plain)
    (does_move_ok nodes n _ _ old mid new r (moves_set nodes change (Ref loc) v p old mid what wrote) h)

pub not_set : (nodes : List Node) (n loc : ℕ) (key : List ℕ) (v : Value ℕ) (p : Prog ℕ) (old new : State) (stop : Stop) → 1 ≤ n → is_symbol (find nat_eq old.heap.cells loc) ≡ false → Written (sets nat_eq old.heap.cells loc key v) old new (Err stop)
    → Does nodes n (set (Ref loc) key v p) old new (Made (Stopped stop))
unfolding set
not_set nodes n loc key v p old new stop some plain wrote =
    let change = sets nat_eq old.heap.cells loc key v in
    does_read nodes n (λ w. carry_out (set_on (Ref loc) key v w) (Ref loc) v p) (carry_out (change_of change) (Ref loc) v p) old new (Made (Stopped stop)) (λ supply. reads nodes loc key v p old supply plain)
    (does_not_set nodes n change (Ref loc) v p old new stop some wrote)

-- writing what takes no property is an error
pub refused_ok : (nodes : List Node) (n : ℕ) (of : Value ℕ) (key : List ℕ) (v : Value ℕ) (p : Prog ℕ) (fault : Fault) (old new : State) (r : Result Next StepFault) → ((supply : ℕ → ℕ) → set_on of key v (world_of nodes supply old) ≡ rows.Refuses fault)
    → IfOk r (λ next. Does nodes n (throw fault) old new next) → IfOk r (λ next. Does nodes n (set of key v p) old new next)
unfolding set
refused_ok nodes n of key v p fault old new r is h =
    does_read_ok nodes n (λ w. carry_out (set_on of key v w) of v p) (throw fault) old new r (λ supply. ap (λ c. carry_out c of v p) (is supply)) h

pub symbol_refused : (nodes : List Node) (loc : ℕ) (key : List ℕ) (v : Value ℕ) (old : State) (supply : ℕ → ℕ) → is_symbol (find nat_eq old.heap.cells loc) ≡ true → set_on (Ref loc) key v (world_of nodes supply old) ≡ rows.Refuses ReadOnly
symbol_refused nodes loc key v old supply symbol = ap (λ b. if b then rows.Refuses ReadOnly else set_step loc key v (world_of nodes supply old)) symbol
