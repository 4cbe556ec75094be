use Rattle.std.proofs.Common.{◌≡◌, ◌+◌, ◌*◌, drop}
use Rattle.parcel.specs.Checked.{in_turn, visit_property, visit_entry, item_met}
use Rattle.parcel.proofs.walk.+walk.Given as goal

abbrev pub decreases-item_met : goal.decreases-item_met
decreases-item_met l = 6 * l.depth

abbrev pub decreases-items_met : goal.decreases-items_met
decreases-items_met l = 6 * l.depth + 1

abbrev pub decreases-entries_met : goal.decreases-entries_met
decreases-entries_met l = 6 * l.depth + 1

abbrev pub decreases-properties_met : goal.decreases-properties_met
decreases-properties_met l = 6 * l.depth + 1

abbrev pub decreases-contents_met : goal.decreases-contents_met
decreases-contents_met l = 6 * l.depth + 2

abbrev pub decreases-node_met : goal.decreases-node_met
decreases-node_met l = 6 * l.depth + 3

abbrev pub decreases-reference_met : goal.decreases-reference_met
decreases-reference_met l = 6 * l.depth + 4

abbrev pub decreases-value_met : goal.decreases-value_met
decreases-value_met l = 6 * l.depth + 5

-- The rest of the items gives the answer.
abbrev pub invariant-items_met-items : goal.invariant-items_met-items
invariant-items_met-items l =
    in_turn (item_met l.depth l.nodes) (drop l.item-index l.items) l.met
    ≡ in_turn (item_met l.depth l.nodes) l.items l.initial.met

abbrev pub invariant-entries_met-entries : goal.invariant-entries_met-entries
invariant-entries_met-entries l =
    in_turn (visit_entry (item_met l.depth l.nodes)) (drop l.key-index l.entries) l.met
    ≡ in_turn (visit_entry (item_met l.depth l.nodes)) l.entries l.initial.met

abbrev pub invariant-properties_met-properties : goal.invariant-properties_met-properties
invariant-properties_met-properties l =
    in_turn (visit_property (item_met l.depth l.nodes)) (drop l.key-index l.properties) l.met
    ≡ in_turn (visit_property (item_met l.depth l.nodes)) l.properties l.initial.met
