-- What a front of a spelling reads as (V8, src/objects/value-serializer.cc, WriteJSArrayBufferView).
use Rattle.std.specs.Prelude.{◌≡◌, ℕ, ◌==◌, if◌then◌else◌, List, [], ◌∷◌, length, slice_get, Option, Some, None, Ok}
use Rattle.parcel.specs.declared.parcel.Item.{Item}
use Rattle.parcel.specs.declared.parcel.Item.TheVariants.{Node}
use Rattle.parcel.specs.declared.parcel.PNode.{PNode}
use Rattle.parcel.specs.declared.parcel.PNode.TheVariants.{Buffer, View}
use Rattle.parcel.specs.declared.parcel.Parcel.{Parcel}
use Rattle.v8_wire.specs.Faults.{cut}
use Rattle.v8_wire.specs.Item.{parcel_at}
use Rattle.v8_wire.specs.Spelling.{spelled}

-- the bytes of a buffer
abbrev pub contents_of : Option PNode → Option (List ℕ)
contents_of (Some (Buffer bytes)) = Some bytes
contents_of _ = None

-- the bytes that a view sees
abbrev pub seen_by : List PNode → Option PNode → Option (List ℕ)
seen_by nodes (Some (View of offset size)) = contents_of (slice_get nodes of)
seen_by nodes _ = None

abbrev pub seen_at : List PNode → Item → Option (List ℕ)
seen_at nodes (Node node) = seen_by nodes (slice_get nodes node)
seen_at nodes _ = None

-- The bytes of the buffer that the root is a view of, where it is a view.
unfoldable pub viewed_bytes : Parcel → Option (List ℕ)
viewed_bytes parcel = seen_at parcel.nodes parcel.root

-- a buffer alone
abbrev pub buffer_alone : List ℕ → Parcel
buffer_alone bytes = record { root = Node 0; nodes = Buffer bytes ∷ [] }

-- What a front of so many bytes reads as, where the root is a view of these bytes: its buffer, if it spells just that.
abbrev pub buffer_in : Option (List ℕ) → ℕ → Option Parcel
buffer_in None n = None
buffer_in (Some bytes) n = if n == length (spelled (buffer_alone bytes)) then Some (buffer_alone bytes) else None

-- What the first n bytes of a parcel's spelling read as, where they aren't all of it: nothing, but the buffer where the
-- root is a view and they spell just its buffer.
unfoldable pub front_read : Parcel → ℕ → Option Parcel
front_read parcel n = buffer_in (viewed_bytes parcel) n

-- Bytes read as a parcel, or end inside the text.
abbrev pub ReadsAs : ℕ → List ℕ → Option Parcel → Type 0
ReadsAs ports bytes None = parcel_at ports bytes ≡ cut
ReadsAs ports bytes (Some parcel) = parcel_at ports bytes ≡ Ok parcel
