use Rattle.std.proofs.Common.{sym, ◌∙◌}
use Rattle.wire_input.proofs.PlainParts.{value-plain, value-ports}
use Rattle.wire_input.proofs.Said.{placed-told, value-nodes, fault-told, within-checked, within-not}
use Rattle.wire_input.proofs.place.parcel_of_value.Goals as goal

pub returns-in-Err-clause-exact : goal.returns-in-Err-clause-exact
returns-in-Err-clause-exact c = fault-told _ _ _ c.new-nodes.ensures c.in-Err.fault c.in-Err.ensures

pub returns-then-not-check-clause-exact : goal.returns-then-not-check-clause-exact
returns-then-not-check-clause-exact c =
    within-not _ _ (placed-told _ _ _ c.new-nodes.ensures c.in-Ok.root c.in-Ok.ensures) (sym c.check.ensures ∙ c.if-not-check.true)

pub returns-clause-exact : goal.returns-clause-exact
returns-clause-exact c =
    within-checked _ _ (placed-told _ _ _ c.new-nodes.ensures c.in-Ok.root c.in-Ok.ensures) (sym c.check.ensures ∙ c.if-not-check.false)

pub returns-clause-plain : goal.returns-clause-plain
returns-clause-plain c = value-plain _ _ _ (value-nodes _ _ _ c.new-nodes.ensures c.in-Ok.root c.in-Ok.ensures)

pub returns-clause-ports : goal.returns-clause-ports
returns-clause-ports c = value-ports _ _ _ (value-nodes _ _ _ c.new-nodes.ensures c.in-Ok.root c.in-Ok.ensures)
