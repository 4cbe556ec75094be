use Rattle.std.proofs.Common.{nat_eq, slice_set}
use Rattle.world_heap.specs.Over.{ValueOver}
use Rattle.world_heap.specs.Heaps.{IsNoEnv}
use Rattle.proto_props.proofs.Arrays.{mid_found, mid_over, mid_value, refilled_by, over_set}
use Rattle.proto_props.proofs.writing.put_item.Goals as goal

pub refill-requires-clause-array : goal.refill-requires-clause-array
refill-requires-clause-array c =
    let e = c.empty_out-array in
    mid_found c.args.heap.now e.new.heap e.new.heap c.args.loc e.result.proto e.result.items e.ensures.was.0 e.ensures.was.1 e.ensures.is

pub refill-requires-clause-fits : goal.refill-requires-clause-fits
refill-requires-clause-fits c =
    let e = c.empty_out-array in
    rw c.put_value.ensures (over_set (ValueOver (IsNoEnv nat_eq e.new.heap.cells)) e.result.items c.args.index c.args.value (mid_over c.args.heap.now e.new.heap e.new.heap c.args.loc e.result.proto e.result.items e.ensures.was.0 e.ensures.was.1 e.ensures.is e.ensures.well) (mid_value c.args.heap.now e.new.heap e.new.heap c.args.loc e.result.proto e.result.items e.ensures.was.0 e.ensures.was.1 e.ensures.is c.args.value c.requires.fits))

pub returns : goal.returns
returns c =
    let e = c.empty_out-array in
    refilled_by c.args.heap.now e.new.heap c.refill.new.heap c.args.loc e.result.proto e.result.items e.ensures.was.0 e.ensures.was.1 e.ensures.is (λ vs. slice_set vs c.args.index c.args.value) c.put_value.new.items c.put_value.ensures c.refill.ensures
