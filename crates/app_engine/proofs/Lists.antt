-- Lists: their first items, what follows them, and what stands in front.
use Rattle.std.proofs.Common.{◌≡◌, List, [], ◌∷◌, ◌++◌, ap, refl}

abbrev head_or : {A : Type 0} → A → List A → A
head_or d [] = d
head_or d (x ∷ xs) = x

abbrev pub tail_of : {A : Type 0} → List A → List A
tail_of [] = []
tail_of (x ∷ xs) = xs

pub heads : {A : Type 0} (x y : A) (xs ys : List A) → x ∷ xs ≡ y ∷ ys → x ≡ y
heads x y xs ys h = ap (head_or x) h

pub tails : {A : Type 0} (x y : A) (xs ys : List A) → x ∷ xs ≡ y ∷ ys → xs ≡ ys
tails x y xs ys h = ap tail_of h

-- a list with nothing in it has no front
pub none_of : {A : Type 0} (xs ys : List A) → [] ≡ xs ++ ys → xs ≡ []
none_of [] ys h = refl
none_of (x ∷ xs) ys h = cc

-- what stands in front of two lists that are equal
pub cancel : {A : Type 0} (xs s t : List A) → xs ++ s ≡ xs ++ t → s ≡ t
cancel [] s t h = h
cancel (x ∷ xs) s t h = cancel xs s t (tails x x (xs ++ s) (xs ++ t) h)
