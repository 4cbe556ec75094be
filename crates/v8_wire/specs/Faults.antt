-- What a reader answers: a value and the bytes behind it, or the first fault.
use Rattle.std.specs.Prelude.{◌≡◌, ℕ, Result, Ok, Err}
use Rattle.v8_wire.specs.declared.kind.WireKind.{WireKind}
use Rattle.v8_wire.specs.declared.kind.WireKind.TheVariants.{Cut}
use Rattle.v8_wire.specs.declared.fault.Fault.{Fault}
use Rattle.v8_wire.specs.declared.fault.Stop.{Stop}
use Rattle.v8_wire.specs.declared.fault.Stop.TheVariants as stops

infixl 10 ◌>>=◌
abbrev pub ◌>>=◌ : {A B : Type 0} → Result A Fault → (A → Result B Fault) → Result B Fault
(Ok x) >>= f = f x
(Err e) >>= f = Err e

-- a fault where so many bytes are left
abbrev pub fault : {A : Type 0} → ℕ → WireKind → Result A Fault
fault left kind = Err (record { left = left; kind = kind })

-- The bytes end inside the text: the place is their end.
abbrev pub cut : {A : Type 0} → Result A Fault
cut = fault 0 Cut

-- What a function returned, seen by view, is what reading gives, unless memory ran out.
abbrev pub Fails : {Y : Type 0} → Stop → Result Y Fault → Type 0
Fails stops.Memory read = Unit {0}
Fails (stops.At f) read = read ≡ Err f

abbrev pub Gives : {X Y : Type 0} → (X → Y) → Result X Stop → Result Y Fault → Type 0
Gives view (Ok x) read = read ≡ Ok (view x)
Gives view (Err e) read = Fails e read
