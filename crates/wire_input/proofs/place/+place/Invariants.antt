use Rattle.std.proofs.Common.{◌≡◌, ℕ, ◌+◌, List, ◌++◌, length, drop}
use Rattle.serde_json.specs.View.{items_view, members_view}
use Rattle.parcel.specs.declared.parcel.PNode.{PNode}
use Rattle.wire_input.specs.Input.{items_placed, class_placed, classes_placed}
use Rattle.wire_input.proofs.Placing.{with_front}
use Rattle.wire_input.proofs.place.+place.Given as goal

-- What was placed so far, with what the rest gives behind it, is what the whole gives.
abbrev pub invariant-place_items-values : goal.invariant-place_items-values
invariant-place_items-values l = (ns : List PNode) × (l.nodes ≡ l.initial.nodes ++ ns)
    × (items_placed (items_view l.values.items) (length l.initial.nodes)
    ≡ with_front l.items ns (items_placed (items_view (drop l.value-index l.value-items)) (length l.nodes)))

abbrev pub invariant-place_class-members : goal.invariant-place_class-members
invariant-place_class-members l = (ns : List PNode) × (l.nodes ≡ l.initial.nodes ++ ns)
    × (class_placed (members_view l.members.entries) l.class (length l.initial.nodes)
    ≡ with_front l.properties ns (class_placed (members_view l.key-iterator) l.class (length l.nodes)))

abbrev pub invariant-place_classes-classes : goal.invariant-place_classes-classes
invariant-place_classes-classes l = (ns : List PNode) × (l.nodes ≡ l.initial.nodes ++ ns) × (count : ℕ) × (count + l.class ≡ 12)
    × (classes_placed (class_placed (members_view l.members.entries)) 11 1 (length l.initial.nodes)
    ≡ with_front l.properties ns (classes_placed (class_placed (members_view l.members.entries)) count l.class (length l.nodes)))
