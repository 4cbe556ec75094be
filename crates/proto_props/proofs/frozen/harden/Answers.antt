use Rattle.std.proofs.Common.{◌≡◌, ◌∙◌, ◌+◌, ◌<◌, suc, sym, ap, arith, length, Some, slice_get, false, ℕ}
use Rattle.std.specs.Map.{values_of}
use Rattle.indexmap.specs.IndexMap.{set_value_at}
use Rattle.world_heap.specs.declared.value.Value.TheVariants.{Undefined}
use Rattle.world_heap.specs.declared.value.Property.{Property}
use Rattle.world_heap.specs.declared.value.Property.TheVariants.{Data}
use Rattle.proto_props.specs.Freezes.{frozen_property}
use Rattle.proto_props.proofs.Hardening.{part_frozen, length-part, part_all, part_more, length_written}
use Rattle.proto_props.proofs.frozen.harden.Goals as goal

pub replace_at-property-requires : goal.replace_at-property-requires
replace_at-property-requires c =
    omega (arith, ap length c.properties.invariant, length-part c.properties.at c.args.table.now, c.len-at-end.ensures.count, c.properties-test.true)

pub replace_at-requires : goal.replace_at-requires
replace_at-requires c =
    let same : length c.replace_at-property.new.self ≡ length c.args.table.now = ap length c.replace_at-property.ensures.is ∙ length_written c.properties.table c.properties.at (Data Undefined false false false) ∙ ap length c.properties.invariant ∙ length-part c.properties.at c.args.table.now in
    omega (arith, same, c.len-at-end.ensures.count, c.properties-test.true)

pub properties-preserved : goal.properties-preserved
properties-preserved c =
    let initial = c.args.table.now in
    let blank : Property ℕ = Data Undefined false false false in
    let within : c.properties.at < length initial = omega (arith, c.len-at-end.ensures.count, c.properties-test.true) in
    let was : slice_get (values_of (part_frozen c.properties.at initial)) c.properties.at ≡ Some c.replace_at-property.result = ap (λ es. slice_get (values_of es) c.properties.at) (sym c.properties.invariant) ∙ c.replace_at-property.ensures.was in
    let step : suc c.properties.at ≡ c.properties.at + 1 = omega arith in
    c.replace_at.ensures.is
    ∙ (λ i. set_value_at (c.replace_at-property.ensures.is i) c.properties.at (c.hard.ensures i))
    ∙ ap (λ es. set_value_at (set_value_at es c.properties.at blank) c.properties.at (frozen_property c.replace_at-property.result)) c.properties.invariant
    ∙ part_more c.properties.at initial c.replace_at-property.result blank within was
    ∙ ap (λ n. part_frozen n initial) step

pub returns : goal.returns
returns c =
    c.properties.invariant ∙ part_all c.properties.at c.args.table.now (omega (arith, c.len-at-end.ensures.count, c.properties-test.false))
