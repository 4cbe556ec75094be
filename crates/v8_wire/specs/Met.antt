-- What a reader has met, within the limits of a copy.
use Rattle.std.specs.Prelude.{ℕ, ◌+◌, nat_lt, nat_le, if◌then◌else◌, Bool, List, [], ◌∷◌, ◌++◌, length, Result, Ok}
use Rattle.parcel.specs.declared.parcel.PNode.{PNode}
use Rattle.v8_wire.specs.declared.kind.WireKind.TheVariants.{TooLarge}
use Rattle.v8_wire.specs.declared.fault.Fault.{Fault}
use Rattle.v8_wire.specs.declared.met.Met.{Met}
use Rattle.v8_wire.specs.Faults.{fault}

-- no node more is taken
abbrev pub are_full : List PNode → Bool
are_full nodes = nat_le 100_000 (length nodes)

-- so many units of text more, at whose tag `left` bytes are left
abbrev pub with_units : ℕ → ℕ → Met → Result Met Fault
with_units left more met = if nat_lt 16_777_216 (met.units + more) then fault left TooLarge
    else Ok (record met { units = met.units + more })

-- a node more, and its number
abbrev pub with_node : ℕ → PNode → Met → Result (ℕ × Met) Fault
with_node left node met = if are_full met.nodes then fault left TooLarge
    else Ok (length met.nodes, record met { nodes = met.nodes ++ node ∷ [] })
