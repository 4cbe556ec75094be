-- A new world in a pool.
use Rattle.std.proofs.Common.{◌≡◌, ℕ, ◌+◌, List, [], length, false, Some, nat_eq, refl, sym, ap, ◌∙◌, subst, arith}
use Rattle.js_tree.specs.declared.node.Node.{Node}
use Rattle.world_kind.specs.declared.WorldKind.{WorldKind}
use Rattle.world_heap.specs.Maps.{keys, find, without, stands}
use Rattle.world_heap.specs.Shelf.{values_of}
use Rattle.world_heap.specs.Starting.{empty_heap, with_built_in}
use Rattle.world_heap.specs.Views.{Bounds, HeapView, PoolView}
use Rattle.js_names.specs.Patterns.{nodes_of}
use Rattle.js_semantics.specs.Alone.{IsRenamed, alone, alone_by}
use Rattle.js_semantics.specs.Run.{Arrival, Setting, Trace, entries}
use Rattle.js_semantics.proofs.Relocating.{alone_same}
use Rattle.js_machine.specs.declared.state.State.{State}
use Rattle.js_machine.specs.Closed.{IsClosed}
use Rattle.js_machine.specs.Does.{Follows, IsFresh, awaits_in, is_running, to_come}
use Rattle.world_log.specs.declared.entry.Delivery.TheVariants.{Load}
use Rattle.world_machine.proofs.Awaiting.{awaited_by}
use Rattle.alone_laws.specs.Sizes.{IsOneSize, alone_cells, cells_at_end}
use Rattle.alone_laws.specs.Turns.{IsYielding, Turns}
use Rattle.alone_laws.proofs.Sizing.{one_size}
use Rattle.alone_laws.proofs.Turning.{yielding}
use Rattle.world_machine.specs.declared.machine.Machine.{Machine}
use Rattle.world_machine.specs.declared.world.World.{World}
use Rattle.world_machine.specs.World.{Counts, IsBegun, Parts, Promises, Sits, heap_in, state_over}
use Rattle.world_machine.proofs.Coming.{still}
use Rattle.world_machine.proofs.Supplying.{some_supply}
use Rattle.world_machine.proofs.Pools.{coming_by, filling_by, find-without, in_by, machine_in, owner_by, size_by, spares_by, stands-without}

-- what a first state makes is what its world makes alone, in turns
module _ (nodes : List Node) (setting : Setting) (s : State) (m : Machine) (pool : PoolView) (p : Parts s m pool) (traces : (supply : ℕ → ℕ) (ds : List Arrival) → Follows supply 0 s.heap.cells → to_come nodes supply s ds ≡ alone_by supply setting ds) where
  traces_in : (supply : ℕ → ℕ) (ds : List Arrival) → Follows supply 0 (values_of pool.maps m.seat.owner) → to_come nodes supply (state_over m (heap_in m.seat pool)) ds ≡ alone_by supply setting ds
  traces_in supply ds f =
      ap (λ (x : State). to_come nodes supply x ds) p.state ∙ traces supply ds (subst (λ (x : State). Follows supply 0 x.heap.cells) p.state f)

  turns_in : (supply : ℕ → ℕ) (ds : List Arrival) → Follows supply 0 (values_of pool.maps m.seat.owner) → Turns false (entries (to_come nodes supply (state_over m (heap_in m.seat pool)) ds))
  unfolding IsYielding
  turns_in supply ds f = subst (λ (t : Trace ℕ). Turns false (entries t)) (sym (traces_in supply ds f)) (yielding supply setting ds)

  alone_in : Promises nodes m (values_of pool.maps m.seat.owner) (alone setting)
  unfolding IsRenamed
  alone_in supply ds distinct f = ap entries (traces_in supply ds f) ∙ alone_same supply setting ds (λ a b ma mb e. distinct a b e)

  counted_in : Counts nodes m (values_of pool.maps m.seat.owner) (alone_cells setting)
  unfolding IsOneSize
  counted_in supply ds distinct f = ap cells_at_end (traces_in supply ds f) ∙ one_size supply setting ds (λ a b ma mb e. distinct a b e)

pub begun : (script : List (Node × ℕ)) (kind : WorldKind) (limits : Bounds) (old : PoolView) (s : State) (m : Machine) (new : PoolView) → IsFresh kind (with_built_in (empty_heap limits old) s.heap.cells) s
    → ((supply : ℕ → ℕ) (ds : List Arrival) → Follows supply 0 s.heap.cells → to_come (nodes_of script) supply s ds ≡ alone_by supply (record { kind = kind; limits = limits; tree = nodes_of script }) ds)
    → IsClosed (nodes_of script) s → Parts s m new → IsBegun (alone (record { kind = kind; limits = limits; tree = nodes_of script })) (alone_cells (record { kind = kind; limits = limits; tree = nodes_of script })) old (record { script = script; machine = Some m }) new
begun script kind limits old s m new fresh traces closed p =
    let nodes = nodes_of script in
    let setting : Setting = record { kind = kind; limits = limits; tree = nodes } in
    let world : World = record { script = script; machine = Some m } in
    let heap_is = fresh.0 in
    let owner : m.seat.owner ≡ old.given = ap (λ (x : State). x.heap.owner) p.state ∙ ap (λ (h : HeapView). h.owner) heap_is in
    let given : new.given ≡ old.given + 1 = ap (λ (x : State). x.heap.given) p.state ∙ ap (λ (h : HeapView). h.given) heap_is in
    let others : without nat_eq new.maps m.seat.owner ≡ old.maps = ap (λ (x : State). x.heap.others) p.state ∙ ap (λ (h : HeapView). h.others) heap_is in
    let waits : is_running m.control ≡ false = ap (λ (x : State). is_running x.control) p.state ∙ ap is_running fresh.2 in
    let sits : Sits nodes m new = record {
      owned = p.owned;
      below = omega (arith, owner, given);
      distinct = p.distinct;
      closed = subst (IsClosed nodes) (sym p.state) closed;
      waits = waits;
      turns = turns_in nodes setting s m new p traces;
    } in
    let own = owner_by world m refl in
    record {
      stands = in_by world new m refl sits;
      comes = coming_by world new m (alone setting) refl (alone_in nodes setting s m new p traces);
      fills = filling_by world new m (alone_cells setting) refl (counted_in nodes setting s m new p traces);
      size =
          let some = some_supply (values_of new.maps m.seat.owner) p.distinct in
          size_by world new m refl ∙ sym (still nodes some.0 (state_over m (heap_in m.seat new)) waits) ∙ counted_in nodes setting s m new p traces some.0 [] some.1 some.2;
      awaits = awaited_by world m Load refl ∙ ap (λ (x : State). awaits_in x.control x.loaded Load) p.state ∙ λ i. awaits_in (fresh.2 i) (fresh.6 i) Load;
      apart = λ w h e.
          let at = machine_in w old h in
          let same : Some at.0.seat.owner ≡ Some m.seat.owner = sym (owner_by w at.0 at.1) ∙ e ∙ own in
          let one : at.0.seat.owner ≡ m.seat.owner = cc in
          omega (arith, one, owner, at.2.below);
      spares = spares_by world m.seat.owner old new own
          (λ k h. sym (find-without new.maps m.seat.owner k h) ∙ ap (λ ms. find nat_eq ms k) others)
          (λ k h. sym (stands-without new.maps m.seat.owner k h) ∙ ap (λ ms. stands nat_eq (keys ms) k) others)
          (omega (arith, given));
      given = given;
      count = p.count ∙ ap (λ (h : HeapView). length h.others + 1) heap_is;
    }
