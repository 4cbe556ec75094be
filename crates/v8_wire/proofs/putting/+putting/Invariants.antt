use Rattle.std.proofs.Common.{◌≡◌, ◌+◌, ◌*◌, drop}
use Rattle.v8_wire.specs.Spelling.{written, put_all, put_property, put_entry, put_item}
use Rattle.v8_wire.proofs.putting.+putting.Given as goal

abbrev pub decreases-put_item_of : goal.decreases-put_item_of
decreases-put_item_of l = 5 * l.depth

abbrev pub decreases-put_value_of : goal.decreases-put_value_of
decreases-put_value_of l = 5 * l.depth + 4

abbrev pub decreases-put_node_of : goal.decreases-put_node_of
decreases-put_node_of l = 5 * l.depth + 3

abbrev pub decreases-put_contents_of : goal.decreases-put_contents_of
decreases-put_contents_of l = 5 * l.depth + 2

abbrev pub decreases-put_properties : goal.decreases-put_properties
decreases-put_properties l = 5 * l.depth + 1

abbrev pub decreases-put_items : goal.decreases-put_items
decreases-put_items l = 5 * l.depth + 1

abbrev pub decreases-put_entries : goal.decreases-put_entries
decreases-put_entries l = 5 * l.depth + 1

-- what is still to be written gives what the whole gives
abbrev pub invariant-put_properties-properties : goal.invariant-put_properties-properties
invariant-put_properties-properties l =
    put_all (put_property (put_item l.depth l.nodes)) (drop l.key-index l.properties) (written l.out.items l.next)
    ≡ put_all (put_property (put_item l.depth l.nodes)) l.properties (written l.fn.out.items l.met)

abbrev pub invariant-put_items-items : goal.invariant-put_items-items
invariant-put_items-items l =
    put_all (put_item l.depth l.nodes) (drop l.item-index l.items) (written l.out.items l.next)
    ≡ put_all (put_item l.depth l.nodes) l.items (written l.fn.out.items l.met)

abbrev pub invariant-put_entries-entries : goal.invariant-put_entries-entries
invariant-put_entries-entries l =
    put_all (put_entry (put_item l.depth l.nodes)) (drop l.key-index l.entries) (written l.out.items l.next)
    ≡ put_all (put_entry (put_item l.depth l.nodes)) l.entries (written l.fn.out.items l.met)
