-- What a reader answers: a value, or the first fault.
use Rattle.std.specs.Prelude.{◌≡◌, Result, Ok, Err}
use Rattle.js_token.specs.declared.token.LexFault.{LexFault}
use Rattle.js_token.specs.declared.token.LexFault.TheVariants.{At, Memory}

infixl 10 ◌>>=◌
abbrev pub ◌>>=◌ : {A B : Type 0} → Result A LexFault → (A → Result B LexFault) → Result B LexFault
(Ok x) >>= f = f x
(Err fault) >>= f = Err fault

-- A call fails with the fault that reading gives, or since memory ran out.
abbrev pub Fails : {Y : Type 0} → LexFault → Result Y LexFault → Type 0
Fails Memory read = Unit {0}
Fails (At place kind) read = read ≡ Err (At place kind)

-- What a call answers, as `view` sees it, is what reading gives, unless memory ran out.
abbrev pub Gives : {X Y : Type 0} → (X → Y) → Result X LexFault → Result Y LexFault → Type 0
Gives view (Ok x) read = read ≡ Ok (view x)
Gives view (Err fault) read = Fails fault read
