use Rattle.std.proofs.Common.{nat_eq, ◌++◌, ◌∷◌, [], false}
use Rattle.world_heap.specs.Over.{ValueOver}
use Rattle.world_heap.specs.Heaps.{IsNoEnv}
use Rattle.world_heap.proofs.Wells.{list_push}
use Rattle.proto_props.proofs.Arrays.{mid_found, mid_over, mid_value, refilled_by, refilled_same, same_array}
use Rattle.proto_props.proofs.writing.push_in.Goals as goal

pub refill-requires-clause-array : goal.refill-requires-clause-array
refill-requires-clause-array c =
    let e = c.empty_out-array in
    mid_found c.args.heap.now e.new.heap e.new.heap c.args.loc e.result.proto e.result.items e.ensures.was.0 e.ensures.was.1 e.ensures.is

pub refill-requires-clause-fits : goal.refill-requires-clause-fits
refill-requires-clause-fits c =
    let e = c.empty_out-array in
    rw c.in-Ok.ensures.ok (list_push (ValueOver (IsNoEnv nat_eq e.new.heap.cells)) e.result.items c.args.value (mid_over c.args.heap.now e.new.heap e.new.heap c.args.loc e.result.proto e.result.items e.ensures.was.0 e.ensures.was.1 e.ensures.is e.ensures.well) (mid_value c.args.heap.now e.new.heap e.new.heap c.args.loc e.result.proto e.result.items e.ensures.was.0 e.ensures.was.1 e.ensures.is c.args.value c.requires.fits))

pub refill-requires-in-Err-clause-array : goal.refill-requires-in-Err-clause-array
refill-requires-in-Err-clause-array c =
    let e = c.empty_out-array in
    mid_found c.args.heap.now e.new.heap e.new.heap c.args.loc e.result.proto e.result.items e.ensures.was.0 e.ensures.was.1 e.ensures.is

pub refill-requires-in-Err-clause-fits : goal.refill-requires-in-Err-clause-fits
refill-requires-in-Err-clause-fits c =
    let e = c.empty_out-array in
    rw c.in-Err.ensures.err (mid_over c.args.heap.now e.new.heap e.new.heap c.args.loc e.result.proto e.result.items e.ensures.was.0 e.ensures.was.1 e.ensures.is e.ensures.well)

pub returns-in-Ok-clause-ok : goal.returns-in-Ok-clause-ok
returns-in-Ok-clause-ok c = λ p vs h.
    let e = c.empty_out-array in
    refilled_by c.args.heap.now e.new.heap c.refill.new.heap c.args.loc e.result.proto e.result.items e.ensures.was.0 e.ensures.was.1 e.ensures.is (λ vs. vs ++ c.args.value ∷ []) c.push.new.self c.in-Ok.ensures.ok c.refill.ensures p vs false h

pub returns-in-Err-clause-err : goal.returns-in-Err-clause-err
returns-in-Err-clause-err c =
    let e = c.empty_out-array in
    let a = c.requires.array in
    let unfrozen = (same_array _ e.result.proto a.0 e.result.items a.1 e.ensures.was.0 false e.ensures.was.1 a.2).frozen in
    refilled_same c.args.heap.now e.new.heap c.refill-in-Err.new.heap c.args.loc e.result.proto e.result.items e.ensures.was.0 e.ensures.was.1 e.ensures.is unfrozen (rw c.in-Err.ensures.err at c.refill-in-Err.ensures)
