use Rattle.std.proofs.Common.{◌≡◌, ◌∙◌, Some, true, not, ◌&&◌, sym, ap, nat_eq, arith}
use Rattle.world_heap.specs.declared.cell.Cell.TheVariants.{Array}
use Rattle.world_heap.specs.Maps.{find}
use Rattle.proto_props.specs.Same.{same_value}
use Rattle.proto_props.specs.Adds.{value_with}
use Rattle.proto_props.specs.Defines.{item_value}
use Rattle.proto_props.proofs.Arrays.{array_stands}
use Rattle.proto_props.proofs.Deciding.{some_of, defines_frozen, stays_or_refuses}
use Rattle.proto_props.proofs.defining.define_item.Goals as goal

pub cell-requires : goal.cell-requires
cell-requires c = array_stands c.args.heap.now.cells c.args.loc c.requires.array

pub add-requires-clause-stands : goal.add-requires-clause-stands
add-requires-clause-stands c = array_stands c.args.heap.now.cells c.args.loc c.requires.array

pub cell-requires-then-frozen : goal.cell-requires-then-frozen
cell-requires-then-frozen c = array_stands c.args.heap.now.cells c.args.loc c.requires.array

pub returns-then-frozen : goal.returns-then-frozen
returns-then-frozen c =
    let a = c.in-Array in
    let v = some_of (item_value a.items c.args.key) (grind (arith, c.has_item.ensures, c.if-not-own.false)) in
    let u = c.in-Some.value in
    let found : find nat_eq c.args.heap.now.cells c.args.loc ≡ Some (Array a.proto a.items true) = c.cell.ensures.found ∙ ap Some (a.is ∙ ap (Array a.proto a.items) c.if-frozen.true) in
    let both : Some c.cell-then-frozen.result.now ≡ Some (Array a.proto a.items true) = sym c.cell-then-frozen.ensures.found ∙ found in
    let again : c.cell-then-frozen.result.now ≡ Array a.proto a.items true = cc in
    let asked = sym (λ i. value_with (not (c.if-frozen.true i)) (not (c.names_length.ensures i)) (not (c.if-frozen.true i) && not (c.names_length.ensures i)) c.args.property) ∙ sym c.value_asked.ensures ∙ c.in-Some.is in
    let told = c.kept-done.ensures a.proto a.items true v.0 again v.1 in
    rw (defines_frozen c.args.heap.now.cells c.args.loc c.args.key c.args.property a.proto a.items v.0 u found v.1 asked)
    (rw told (stays_or_refuses (same_value nat_eq v.0 u) c.args.heap.now))
