-- Lemmas on answers in steps.
use Rattle.std.proofs.Common.{◌≡◌, Bool, true, false, cond, Result, Ok, Err, refl, inl, inr, ◌⊎◌}
use Rattle.std.specs.Prelude.{Option, Some, None}
use Rattle.js_token.specs.declared.token.LexFault.{LexFault}
use Rattle.js_token.specs.Reading.{◌>>=◌}

-- What is read in two steps is read in each.
pub bind_ok : {A B : Type 0} (r : Result A LexFault) (f : A → Result B LexFault) (y : B) → (r >>= f) ≡ Ok y → (x : A) × (r ≡ Ok x) × (f x ≡ Ok y)
bind_ok (Ok x) f y h = (x, refl, h)
bind_ok (Err fault) f y h = absurd cc

-- which of two
pub chosen : {A : Type 0} (b : Bool) (x y z : A) → cond b x y ≡ z → ((b ≡ true) × (x ≡ z)) ⊎ ((b ≡ false) × (y ≡ z))
chosen true x y z h = inl (refl, h)
chosen false x y z h = inr (refl, h)

pub ok_same : {A : Type 0} (a b : A) → ◌≡◌ {A = Result A LexFault} (Ok a) (Ok b) → a ≡ b
ok_same a b h = cc

pub some_same : {A : Type 0} (a b : A) → Some a ≡ Some b → a ≡ b
some_same a b h = cc

pub none_some : {A B : Type 0} (a : A) → ◌≡◌ {A = Option A} None (Some a) → B
none_some a h = absurd cc

pub err_ok : {A B : Type 0} (fault : LexFault) (a : A) → ◌≡◌ {A = Result A LexFault} (Err fault) (Ok a) → B
err_ok fault a h = absurd cc
