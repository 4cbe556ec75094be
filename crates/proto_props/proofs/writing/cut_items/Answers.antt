use Rattle.std.proofs.Common.{nat_eq, take}
use Rattle.world_heap.specs.Over.{ValueOver}
use Rattle.world_heap.specs.Heaps.{IsNoEnv}
use Rattle.proto_props.proofs.Arrays.{mid_found, mid_over, refilled_by, over_take}
use Rattle.proto_props.proofs.writing.cut_items.Goals as goal

pub refill-requires-clause-array : goal.refill-requires-clause-array
refill-requires-clause-array c =
    let e = c.empty_out-array in
    mid_found c.args.heap.now e.new.heap e.new.heap c.args.loc e.result.proto e.result.items e.ensures.was.0 e.ensures.was.1 e.ensures.is

pub refill-requires-clause-fits : goal.refill-requires-clause-fits
refill-requires-clause-fits c =
    let e = c.empty_out-array in
    rw c.shorten.ensures (over_take (ValueOver (IsNoEnv nat_eq e.new.heap.cells)) c.args.count e.result.items (mid_over c.args.heap.now e.new.heap e.new.heap c.args.loc e.result.proto e.result.items e.ensures.was.0 e.ensures.was.1 e.ensures.is e.ensures.well))

pub returns : goal.returns
returns c =
    let e = c.empty_out-array in
    refilled_by c.args.heap.now e.new.heap c.refill.new.heap c.args.loc e.result.proto e.result.items e.ensures.was.0 e.ensures.was.1 e.ensures.is (take c.args.count) c.shorten.new.items c.shorten.ensures c.refill.ensures
