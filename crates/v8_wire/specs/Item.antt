-- Items (ValueDeserializer::ReadObject, ReadObjectInternal, ReadJSArrayBufferView) and whole texts (ReadHeader).
use Rattle.std.specs.Prelude.{ℕ, zero, suc, ◌+◌, ◌==◌, ◌||◌, nat_lt, nat_le, if◌then◌else◌, Bool as Boolean, List, [], ◌∷◌, length, slice_get, slice_set, Option, Some, None, Result, Ok}
use Rattle.parcel.specs.declared.parcel.Item.{Item}
use Rattle.parcel.specs.declared.parcel.Item.TheVariants.{Node}
use Rattle.parcel.specs.declared.parcel.PNode.{PNode}
use Rattle.parcel.specs.declared.parcel.PNode.TheVariants.{Port, Buffer, View}
use Rattle.parcel.specs.declared.parcel.Parcel.{Parcel}
use Rattle.v8_wire.specs.declared.kind.WireKind.TheVariants.{Header, Version, Trailing, TooLarge}
use Rattle.v8_wire.specs.declared.kind.WireKind.TheVariants as kinds
use Rattle.v8_wire.specs.declared.fault.Fault.{Fault}
use Rattle.v8_wire.specs.declared.met.Met.{Met}
use Rattle.v8_wire.specs.Faults.{◌>>=◌, fault, cut}
use Rattle.v8_wire.specs.Number.{varint_at}
use Rattle.v8_wire.specs.Met.{are_full, with_node}
use Rattle.v8_wire.specs.Leaf.{unpadded, is_composite_tag, leaf_at, refused}
use Rattle.v8_wire.specs.Contents.{ItemReader, opened_at, contents_at}

-- the length of a buffer
abbrev pub buffer_size : Option PNode → Option ℕ
buffer_size (Some (Buffer bytes)) = Some (length bytes)
buffer_size _ = None

-- A node with items behind its tag. It takes its number first, and its contents when they are read.
unfoldable pub composite_at : ItemReader → ℕ → Met → ℕ → List ℕ → Result (Item × Met × List ℕ) Fault
composite_at inner tag met left bytes = with_node left (Port 0) met >>= λ n. opened_at tag bytes >>= λ begun.
    contents_at inner (length begun.1) begun.0 n.1 begun.1
    >>= λ x. Ok (Node n.0, record x.1 { nodes = slice_set x.1.nodes n.0 x.0 }, x.2)

-- the flags of a view, where it has them: none is set
unfoldable pub flags_at : Boolean → ℕ → List ℕ → Result (List ℕ) Fault
flags_at flags left [] = if flags then cut else Ok []
flags_at flags left (b ∷ rest) = if flags then (if b == 0 then Ok rest else fault left kinds.View) else Ok (b ∷ rest)

-- A view of a buffer of this number and size, behind its tag: a view of bytes, its offset and its length.
unfoldable pub view_at : ℕ → ℕ → Met → ℕ → List ℕ → Result (Item × Met × List ℕ) Fault
view_at buffer size met left [] = if are_full met.nodes then fault left TooLarge else cut
view_at buffer size met left (b ∷ rest) = if are_full met.nodes then fault left TooLarge
    else if b == 66 then (varint_at rest >>= λ offset. varint_at offset.1 >>= λ count.
    if nat_lt size (offset.0 + count.0) then fault left kinds.View
    else (flags_at met.flags left count.1 >>= λ rest. with_node left (View buffer offset.0 count.0) met
    >>= λ n. Ok (Node n.0, n.1, rest)))
    else fault left kinds.View

-- Behind a buffer: `V` and its view, or something else.
unfoldable pub viewed_with : ℕ → ℕ → Met → List ℕ → List ℕ → Result (Item × Met × List ℕ) Fault
viewed_with buffer size met bytes [] = Ok (Node buffer, met, bytes)
viewed_with buffer size met bytes (b ∷ rest) = if b == 86 then view_at buffer size met (length (b ∷ rest)) rest
    else Ok (Node buffer, met, bytes)

abbrev pub viewed_if : Option ℕ → ℕ → Met → List ℕ → Result (Item × Met × List ℕ) Fault
viewed_if None number met bytes = Ok (Node number, met, bytes)
viewed_if (Some size) number met bytes = viewed_with number size met bytes (unpadded bytes)

-- A buffer may stand before its view, also one that was met before.
unfoldable pub viewed_at : Item → Met → List ℕ → Result (Item × Met × List ℕ) Fault
viewed_at (Node number) met bytes = viewed_if (buffer_size (slice_get met.nodes number)) number met bytes
viewed_at item met bytes = Ok (item, met, bytes)

-- What stands where no item more may stand.
unfoldable pub refused_at : Met → List ℕ → Result (Item × Met × List ℕ) Fault
refused_at met [] = cut
refused_at met (tag ∷ rest) = refused TooLarge tag met (length (tag ∷ rest)) rest

-- An item with its tag in front, where `inner` reads an item one deeper.
unfoldable pub entered_at : ItemReader → Met → List ℕ → Result (Item × Met × List ℕ) Fault
entered_at inner met [] = cut
entered_at inner met (tag ∷ rest) = if is_composite_tag tag then composite_at inner tag met (length (tag ∷ rest)) rest
    else (leaf_at tag met (length (tag ∷ rest)) rest >>= λ x. viewed_at x.0 x.1 x.2)

-- The item in front, where so many levels are left, its own among them.
unfoldable pub item_at : ℕ → Met → List ℕ → Result (Item × Met × List ℕ) Fault
item_at zero met bytes = refused_at met (unpadded bytes)
item_at (suc depth) met bytes = if nat_le 1_000_000 met.items then refused_at met (unpadded bytes)
    else entered_at (item_at depth) (record met { items = met.items + 1 }) (unpadded bytes)

-- The root is the last that stands in the bytes.
unfoldable pub alone : Item → Met → List ℕ → Result Parcel Fault
alone root met [] = Ok (record { root = root; nodes = met.nodes })
alone root met (b ∷ rest) = fault (length (b ∷ rest)) Trailing

-- nothing is met yet
abbrev pub fresh : ℕ → Boolean → Met
fresh ports flags = record { ports = ports; flags = flags; nodes = []; items = 0; units = 0 }

-- behind the version: the root, which may hold 1,000 levels more
unfoldable pub root_at : ℕ → Boolean → List ℕ → Result Parcel Fault
root_at ports flags bytes = item_at 1_001 (fresh ports flags) bytes >>= λ x. alone x.0 x.1 x.2

-- Views have flags from version 14 on.
unfoldable pub version_at : ℕ → List ℕ → Result Parcel Fault
version_at ports [] = cut
version_at ports (version ∷ rest) = if version == 13 || version == 14 || version == 15
    then root_at ports (nat_le 14 version) rest
    else fault (length (version ∷ rest)) Version

-- What the bytes read as where so many ports came along, or their first fault.
unfoldable pub parcel_at : ℕ → List ℕ → Result Parcel Fault
parcel_at ports [] = cut
parcel_at ports (b ∷ rest) = if b == 255 then version_at ports rest else fault (length (b ∷ rest)) Header
