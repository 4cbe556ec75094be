use Rattle.std.proofs.Common.{◌≡◌, ◌+◌, ◌*◌, drop, codes, true, ℕ}
use Rattle.js_semantics.specs.World.{World, over}
use Rattle.js_semantics.specs.Display.{shown_value}
use Rattle.js_display.specs.Levels.{listed_under}
use Rattle.js_display.proofs.Turns.{items_left, properties_left}
use Rattle.js_display.proofs.values.+levels.Given as goal

abbrev pub decreases-show_items : goal.decreases-show_items
decreases-show_items l = 5 * l.depth + 4

abbrev pub decreases-show_properties : goal.decreases-show_properties
decreases-show_properties l = 5 * l.depth + 4

abbrev pub decreases-show_property : goal.decreases-show_property
decreases-show_property l = 5 * l.depth + 3

abbrev pub decreases-show_value : goal.decreases-show_value
decreases-show_value l = 5 * l.depth + 2

abbrev pub decreases-show_location : goal.decreases-show_location
decreases-show_location l = 5 * l.depth + 1

abbrev pub decreases-show_array : goal.decreases-show_array
decreases-show_array l = 5 * l.depth

abbrev pub decreases-show_object : goal.decreases-show_object
decreases-show_object l = 5 * l.depth

-- The line with what is left behind it is what the line with everything is.
abbrev pub invariant-show_items-items : goal.invariant-show_items-items
invariant-show_items-items l = (w : World ℕ) →
    let show = shown_value (over l.heap w) l.depth l.around in
    items_left (over l.heap w) show (codes "]") true l.items l.fn.line ≡ items_left (over l.heap w) show (codes "]") l.first (drop l.item-index l.items) l.line

abbrev pub invariant-show_properties-names : goal.invariant-show_properties-names
invariant-show_properties-names l = (w : World ℕ) →
    let show = shown_value (over l.heap w) l.depth l.around in
    properties_left (over l.heap w) show (codes "}") true (listed_under l.properties l.names) l.fn.line
    ≡ properties_left (over l.heap w) show (codes "}") l.first (listed_under l.properties (drop l.name-index l.names)) l.line
