-- What the definition of fronts says of a view of two bytes at the root.
use Rattle.std.proofs.Common.{◌≡◌, [], ◌∷◌, Some, None, refl}
use Rattle.parcel.specs.declared.parcel.Item.TheVariants.{Node}
use Rattle.parcel.specs.declared.parcel.PNode.TheVariants.{Buffer, View, Set}
use Rattle.parcel.specs.declared.parcel.Parcel.{Parcel}
use Rattle.v8_wire.specs.Spelling.{spelled, varint, groups, put_item, put_value, put_node, put_buffer, put_contents}
use Rattle.wire_laws.specs.Fronts.{viewed_bytes, buffer_alone, front_read}

sample : Parcel
sample = record { root = Node 1; nodes = Buffer (7 ∷ 8 ∷ []) ∷ View 0 1 1 ∷ [] }

-- FF 0F, the buffer 42 02 07 08, the view 56 42 01 01 00
spelling : spelled sample ≡ 255 ∷ 15 ∷ 66 ∷ 2 ∷ 7 ∷ 8 ∷ 86 ∷ 66 ∷ 1 ∷ 1 ∷ 0 ∷ []
unfolding sample spelled varint groups put_item put_value put_node put_buffer
spelling = refl

in-the-buffer : front_read sample 5 ≡ None
unfolding sample front_read viewed_bytes spelled varint groups put_item put_value put_node put_contents
in-the-buffer = refl

at-the-tag : front_read sample 6 ≡ Some (buffer_alone (7 ∷ 8 ∷ []))
unfolding sample front_read viewed_bytes spelled varint groups put_item put_value put_node put_contents
at-the-tag = refl

behind-the-tag : front_read sample 7 ≡ None
unfolding sample front_read viewed_bytes spelled varint groups put_item put_value put_node put_contents
behind-the-tag = refl

-- a view that isn't the root
inner : front_read (record { root = Node 0; nodes = Set (Node 2 ∷ []) ∷ Buffer [] ∷ View 1 0 0 ∷ [] }) 5 ≡ None
unfolding front_read viewed_bytes
inner = refl
