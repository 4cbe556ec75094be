-- Which deliveries a world takes.
use Rattle.std.proofs.Common.{◌≡◌, List, ◌∷◌, Bool, false, Some, None, sym, ap, subst}
use Rattle.std.specs.Option.{option_map_or}
use Rattle.world_heap.specs.Shelf.{values_of}
use Rattle.world_heap.specs.Views.{PoolView}
use Rattle.world_log.specs.declared.entry.Delivery.{Delivery}
use Rattle.world_log.specs.declared.entry.Entry.{Entry}
use Rattle.world_log.specs.declared.entry.Entry.TheVariants as entry
use Rattle.js_names.specs.Patterns.{nodes_of}
use Rattle.js_semantics.specs.Run.{Arrival}
use Rattle.js_machine.specs.Does.{awaits_in}
use Rattle.world_machine.specs.declared.machine.Machine.{Machine}
use Rattle.world_machine.specs.declared.world.World.{World}
use Rattle.world_machine.specs.World.{IsComing, IsIn, Takes, heap_in, is_awaited, state_over}
use Rattle.world_machine.proofs.Coming.{takes}
use Rattle.world_machine.proofs.Pools.{machine_in, promises_by}
use Rattle.world_machine.proofs.Supplying.{some_supply}

pub awaited_by : (w : World) (m : Machine) (what : Delivery) → w.machine ≡ Some m → is_awaited w what ≡ awaits_in m.control m.loaded what
unfolding is_awaited
awaited_by w m what e = ap (λ x. option_map_or (λ (n : Machine). awaits_in n.control n.loaded what) x false) e

pub awaited_none : (w : World) (what : Delivery) → w.machine ≡ None → is_awaited w what ≡ false
unfolding is_awaited
awaited_none w what e = ap (λ x. option_map_or (λ (n : Machine). awaits_in n.control n.loaded what) x false) e

-- what is awaited is taken, and nothing else
pub taken_exactly : (w : World) (pool : PoolView) (coming : List Arrival → List Entry) (fresh : Bool) (what : Delivery) (ds : List Arrival) → IsIn w pool → IsComing w pool coming → Takes (is_awaited w what) (entry.Delivery fresh what) (coming (record { fresh = fresh; what = what } ∷ ds))
taken_exactly w pool coming fresh what ds h c =
    let at = machine_in w pool h in
    let m = at.0 in
    let some = some_supply (values_of pool.maps m.seat.owner) at.2.distinct in
    let d : Arrival = record { fresh = fresh; what = what } in
    subst (Takes (is_awaited w what) (entry.Delivery fresh what)) (promises_by w pool m coming at.1 c some.0 (d ∷ ds) some.1 some.2)
    (takes (nodes_of w.script) some.0 (state_over m (heap_in m.seat pool)) fresh what ds (is_awaited w what) at.2.waits (sym (awaited_by w m what at.1)))
