use Rattle.std.proofs.Common.{◌≡◌, Result, Ok, Err, inl, inr, refl}
use Rattle.v8_wire.specs.Item.{parcel_at}
use Rattle.wire_laws.specs.Answers.{IsOneOf}
use Rattle.wire_laws.proofs.bytes_read_or_are_at_fault.Goals as goal

is_one : {A F : Type 0} (read : Result A F) → IsOneOf read
is_one (Ok value) = (inl (value, refl), λ other fault is not. cc)
is_one (Err fault) = (inr (fault, refl), λ value other is not. cc)

pub returns : goal.returns
returns c = λ bytes ports. is_one (parcel_at ports bytes)
