use Rattle.std.proofs.Common.{arith}
use Rattle.world_heap.proofs.Regions.{stored_filled, sum-maps}
use Rattle.world_heap.proofs.store.Store.filled.Goals as goal

pub returns : goal.returns
returns g c =
    let slots = c.self.inside.chunks in
    let regions = c.self.inside.regions.items in
    let all = sum-maps slots regions (stored_filled slots regions c.self.invariant.0) in
    rw (← c.self.view_is, all) (omega (arith, c.self.invariant.0.held.counted, c.len.ensures.slots, c.vacant.ensures))
