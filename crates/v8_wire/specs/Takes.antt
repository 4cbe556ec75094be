-- What taking a parcel from bytes answers.
use Rattle.std.specs.Prelude.{◌≡◌, ℕ, ◌-◌, Result, Ok, Err}
use Rattle.parcel.specs.declared.parcel.Parcel.{Parcel}
use Rattle.v8_wire.specs.declared.kind.WireFault.{WireFault}
use Rattle.v8_wire.specs.declared.kind.WireFault.TheVariants.{At, Memory}
use Rattle.v8_wire.specs.declared.fault.Fault.{Fault}

-- The parcel that the bytes read as, or their first fault by its place; memory may run out.
abbrev pub Takes : ℕ → Result Parcel WireFault → Result Parcel Fault → Type 0
Takes size (Ok parcel) read = read ≡ Ok parcel
Takes size (Err Memory) read = Unit {0}
Takes size (Err (At place kind)) read = (left : ℕ) × (read ≡ Err (record { left = left; kind = kind })) × (place ≡ size - left)
