use Rattle.std.proofs.Common.{◌≡◌, ◌∙◌, Some, sym, ap}
use Rattle.world_heap.specs.Views.{HeapView}
use Rattle.world_heap.specs.Growth.{grown, first_passed}
use Rattle.proto_props.proofs.writing.push_item.Goals as goal

pub unreachable-requires : goal.unreachable-requires
unreachable-requires c =
    let a = c.requires.array in
    let old = c.args.heap.now in
    let same = ap (λ (h : HeapView). first_passed h.limits (grown h.counts 0 1 0)) (c.in-Ok.ensures.ok a.0 a.1 a.2) in
    let passed : first_passed old.limits (grown old.counts 0 1 0) ≡ Some c.in-Err-grow.field-0 = sym same ∙ c.in-Err-grow.ensures.0 in
    c.in_default.not-Some c.in-Err-grow.field-0 (c.would_pass.ensures ∙ passed)
