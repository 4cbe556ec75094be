use Rattle.std.proofs.Common.{nat_eq}
use Rattle.world_heap.specs.Maps.{without}
use Rattle.world_heap.specs.Shelf.{values_of}
use Rattle.world_heap.specs.Views.{SeatView, PoolView}
use Rattle.world_heap.proofs.heap.Heap.join.Goals as goal

pub returns : goal.returns
returns c = λ i.
    let s : SeatView = c.seat.view_is i in
    let p : PoolView = c.pool.view_is i in
    record {
      owner = s.owner;
      cells = values_of p.maps s.owner;
      others = without nat_eq p.maps s.owner;
      counts = s.counts;
      limits = s.limits;
      base = s.base;
      given = p.given;
    }
