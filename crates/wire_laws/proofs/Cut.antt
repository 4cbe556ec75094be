-- What a reader answers of a front of bytes, beside what it answers of all of them.
use Rattle.std.proofs.Common.{◌⊎◌, ◌≡◌, ℕ, zero, suc, List, [], ◌∷◌, ◌++◌, Result, Ok, Err, Bool, true, false, refl, inl, inr}
use Rattle.std.specs.Prelude.{if◌then◌else◌}
use Rattle.v8_wire.specs.Faults.{◌>>=◌, cut}
use Rattle.v8_wire.specs.Leaf.{unpadded}
use Rattle.v8_wire.specs.Contents.{turn_with, turned}
use Rattle.v8_wire.specs.Item.{fresh}

-- ---- names of types that readers have, which are private to their crate

abbrev type_of : {A : Type 0} → A → Type 0
type_of {A = A} x = A

abbrev error_of : {A B : Type 0} → Result A B → Type 0
error_of {B = B} x = B

abbrev second_of : {A B C : Type 0} → (A → B → C) → Type 0
second_of {B = B} f = B

abbrev pub Fault : Type 0
Fault = error_of (cut {A = ℕ})

abbrev pub Met : Type 0
Met = type_of (fresh 0 true)

abbrev pub Open : Type 0
Open = second_of turn_with

abbrev pub Turn : Type 0
Turn = second_of turned

-- ---- fronts

-- All fail, the front is cut, or it gives something.
pub data Front (A : Type 0) (Gives : A → Result A Fault → Type 0) (all front : Result A Fault) : Type 0 where
  failed : (f : Fault) → all ≡ Err f → Front A Gives all front
  ended : front ≡ cut → Front A Gives all front
  gives : (x : A) → front ≡ Ok x → Gives x all → Front A Gives all front

-- All give the same, with more behind it.
abbrev pub Exactly : {A : Type 0} → (A → A) → A → Result A Fault → Type 0
Exactly longer x all = all ≡ Ok (longer x)

abbrev pub same : {A : Type 0} → A → A
same x = x

abbrev pub after1 : List ℕ → List ℕ → List ℕ
after1 back x = x ++ back

abbrev pub after2 : {A : Type 0} → List ℕ → A × List ℕ → A × List ℕ
after2 back x = (x.0, x.1 ++ back)

abbrev pub after3 : {A : Type 0} → List ℕ → A × Met × List ℕ → A × Met × List ℕ
after3 back x = (x.0, x.1, x.2 ++ back)

pub loosened : {A : Type 0} {G H : A → Result A Fault → Type 0} {all front : Result A Fault}
    → ((x : A) → G x all → H x all) → Front A G all front → Front A H all front
loosened more (Front.failed f h) = Front.failed f h
loosened more (Front.ended h) = Front.ended h
loosened more (Front.gives x h k) = Front.gives x h (more x k)

pub behind : {A B : Type 0} {H : B → Result B Fault → Type 0} (longer : A → A) {all front : Result A Fault} (f g : A → Result B Fault)
    → Front A (Exactly longer) all front → ((x : A) → Front B H (f (longer x)) (g x)) → Front B H (all >>= f) (front >>= g)
behind longer f g (Front.failed e h) more = rw h (Front.failed e refl)
behind longer f g (Front.ended h) more = rw h (Front.ended refl)
behind longer f g (Front.gives x h k) more = rw (h, k) (more x)

-- The same behind a front that may give something else.
pub loosely : {A B : Type 0} {G : A → Result A Fault → Type 0} {H : B → Result B Fault → Type 0} {all front : Result A Fault} (f g : A → Result B Fault)
    → Front A G all front → ((x : A) (all : Result A Fault) → G x all → Front B H (all >>= f) (g x)) → Front B H (all >>= f) (front >>= g)
loosely f g (Front.failed e h) more = rw h (Front.failed e refl)
loosely f g (Front.ended h) more = rw h (Front.ended refl)
loosely {all = all} f g (Front.gives x h k) more = rw h (more x all k)

pub either : {A : Type 0} {G : A → Result A Fault → Type 0} {a b a' b' : Result A Fault} (test : Bool)
    → Front A G a a' → Front A G b b' → Front A G (if test then a else b) (if test then a' else b')
either true h k = h
either false h k = k

-- A front of nothing but padding, or a tag.
pub unpadded-front : (back bytes : List ℕ) → (unpadded bytes ≡ []) ⊎ ((b : ℕ) × (rest : List ℕ) × (unpadded bytes ≡ b ∷ rest) × (unpadded (bytes ++ back) ≡ b ∷ (rest ++ back)))
unfolding unpadded
unpadded-front back [] = inl refl
unpadded-front back (zero ∷ bytes) = unpadded-front back bytes
unpadded-front back (suc b ∷ bytes) = inr (suc b, bytes, refl, refl)

-- The same of what equals it.
pub moved : {A : Type 0} {G : A → Result A Fault → Type 0} {all all' front front' : Result A Fault} → all ≡ all' → front ≡ front' → Front A G all' front' → Front A G all front
moved e k h = rw (e, k) h
