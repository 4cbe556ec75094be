use Rattle.std.proofs.Common.{◌+◌, ◌*◌, ◌++◌, [], drop}
use Rattle.parcel.specs.Text.{Writes, list_shown, property_shown, entry_shown, item_shown}
use Rattle.parcel.proofs.text.+text.Given as goal

abbrev pub decreases-show_item : goal.decreases-show_item
decreases-show_item l = 6 * l.depth

abbrev pub decreases-show_property : goal.decreases-show_property
decreases-show_property l = 6 * l.depth + 1

abbrev pub decreases-show_entry : goal.decreases-show_entry
decreases-show_entry l = 6 * l.depth + 1

abbrev pub decreases-show_items : goal.decreases-show_items
decreases-show_items l = 6 * l.depth + 2

abbrev pub decreases-show_properties : goal.decreases-show_properties
decreases-show_properties l = 6 * l.depth + 2

abbrev pub decreases-show_entries : goal.decreases-show_entries
decreases-show_entries l = 6 * l.depth + 2

abbrev pub decreases-show_node : goal.decreases-show_node
decreases-show_node l = 6 * l.depth + 3

abbrev pub decreases-show_rest : goal.decreases-show_rest
decreases-show_rest l = 6 * l.depth + 4

-- What is written so far and what the rest shows are what the whole shows.
abbrev pub invariant-show_items-items : goal.invariant-show_items-items
invariant-show_items-items l =
    let show = item_shown l.depth l.nodes in
    let rest = list_shown show l.lead (drop l.item-index l.items) l.after in
    Writes l.initial.out.items (l.out.items ++ rest.0) rest.1 (list_shown show [] l.items l.next)

abbrev pub invariant-show_properties-properties : goal.invariant-show_properties-properties
invariant-show_properties-properties l =
    let show = property_shown (item_shown l.depth l.nodes) in
    let rest = list_shown show l.lead (drop l.property-index l.properties) l.after in
    Writes l.initial.out.items (l.out.items ++ rest.0) rest.1 (list_shown show [] l.properties l.next)

abbrev pub invariant-show_entries-entries : goal.invariant-show_entries-entries
invariant-show_entries-entries l =
    let show = entry_shown (item_shown l.depth l.nodes) in
    let rest = list_shown show l.lead (drop l.entry-index l.entries) l.after in
    Writes l.initial.out.items (l.out.items ++ rest.0) rest.1 (list_shown show [] l.entries l.next)
