-- Walks over the parts of a whole, where each part is smaller than the whole.
use Rattle.std.proofs.Common.{◌≡◌, ℕ, ◌<◌, List, [], ◌∷◌, ◌++◌, map, reverse, zero, suc, refl, ap, sym, ◌∙◌, arith}
use Rattle.std.proofs.lemmas.List.{reverse-append, reverse-reverse}
use Rattle.std.proofs.lemmas.Grind.{flat_map-append}
use Rattle.std.specs.List.{flat_map, AllByRecursion}
use Rattle.js_scope.specs.Walk.{walk}

pub all_weaker : {X : Type 0} (P Q : X → Type 0) → ((x : X) → P x → Q x) → (xs : List X) → AllByRecursion P xs → AllByRecursion Q xs
all_weaker P Q f [] h = tt
all_weaker P Q f (x ∷ xs) h = (f x h.0, all_weaker P Q f xs h.1)

pub all_append : {X : Type 0} (P : X → Type 0) → (xs ys : List X) → AllByRecursion P xs → AllByRecursion P ys → AllByRecursion P (xs ++ ys)
all_append P [] ys h k = k
all_append P (x ∷ xs) ys h k = (h.0, all_append P xs ys h.1 k)

pub all_front : {X : Type 0} (P : X → Type 0) → (xs ys : List X) → AllByRecursion P (xs ++ ys) → AllByRecursion P xs
all_front P [] ys h = tt
all_front P (x ∷ xs) ys h = (h.0, all_front P xs ys h.1)

pub all_back : {X : Type 0} (P : X → Type 0) → (xs ys : List X) → AllByRecursion P (xs ++ ys) → AllByRecursion P ys
all_back P [] ys h = h
all_back P (x ∷ xs) ys h = all_back P xs ys h.1

pub all_map : {X Y : Type 0} (P : Y → Type 0) (f : X → Y) → (xs : List X) → AllByRecursion (λ x. P (f x)) xs → AllByRecursion P (map f xs)
all_map P f [] h = tt
all_map P f (x ∷ xs) h = (h.0, all_map P f xs h.1)

same_parts : {X Y : Type 0} (f g : X → List Y) → (xs : List X) → AllByRecursion (λ x. f x ≡ g x) xs → flat_map f xs ≡ flat_map g xs
same_parts f g [] h = refl
same_parts f g (x ∷ xs) h = let rest = same_parts f g xs h.1 in let here = h.0 in cc

module _ {P : Type 0} (parts : P → List P) (size : P → ℕ) (falls : (whole : P) → AllByRecursion (λ part. size part < size whole) (parts whole)) where
  -- A walk is the same at every depth above the size of the whole.
  walk_same : (m n : ℕ) (whole : P) → size whole < m → size whole < n → walk parts m whole ≡ walk parts n whole
  unfolding walk
  walk_same zero n whole h k = absurd (omega arith)
  walk_same (suc m) zero whole h k = absurd (omega arith)
  walk_same (suc m) (suc n) whole h k =
      ap (λ rest. whole ∷ rest) (same_parts (walk parts m) (walk parts n) (parts whole) (all_weaker _ (λ part. walk parts m part ≡ walk parts n part) (λ part lt. walk_same m n part (omega arith) (omega arith)) (parts whole) (falls whole)))

  -- the whole, and then the walks of its parts
  pub walk_whole : (n : ℕ) (whole : P) → size whole < n → walk parts n whole ≡ whole ∷ flat_map (walk parts n) (parts whole)
  unfolding walk
  walk_whole zero whole h = absurd (omega arith)
  walk_whole (suc n) whole h =
      ap (λ rest. whole ∷ rest) (same_parts (walk parts n) (walk parts (suc n)) (parts whole) (all_weaker _ (λ part. walk parts n part ≡ walk parts (suc n) part) (λ part lt. walk_same n (suc n) part (omega arith) (omega arith)) (parts whole) (falls whole)))

  -- On a stack whose last is next, a whole gives way to its parts.
  pub walk_turn : (n : ℕ) (stack : List P) (whole : P) → size whole < n → flat_map (walk parts n) (reverse (stack ++ whole ∷ [])) ≡ whole ∷ flat_map (walk parts n) (reverse (stack ++ reverse (parts whole)))
  walk_turn n stack whole h =
      let first : reverse (stack ++ whole ∷ []) ≡ whole ∷ reverse stack = reverse-append stack (whole ∷ []) in
      let then : reverse (stack ++ reverse (parts whole)) ≡ parts whole ++ reverse stack = reverse-append stack (reverse (parts whole)) ∙ ap (λ xs. xs ++ reverse stack) (reverse-reverse (parts whole)) in
      let here = walk_whole n whole h in
      let both = flat_map-append (walk parts n) (parts whole) (reverse stack) in
      ap (flat_map (walk parts n)) first ∙ (ap (λ xs. xs ++ flat_map (walk parts n) (reverse stack)) here ∙ ap (λ xs. whole ∷ xs) (sym both ∙ ap (flat_map (walk parts n)) (sym then)))

  pub stand_first : (n : ℕ) (stack : List P) (whole : P) → AllByRecursion (λ part. size part < n) (reverse (stack ++ whole ∷ [])) → size whole < n
  stand_first n stack whole h = (rw (reverse-append stack (whole ∷ [])) at h).0

  pub stand_turn : (n : ℕ) (stack : List P) (whole : P) → AllByRecursion (λ part. size part < n) (reverse (stack ++ whole ∷ [])) → AllByRecursion (λ part. size part < n) (reverse (stack ++ reverse (parts whole)))
  stand_turn n stack whole h =
      let here = rw (reverse-append stack (whole ∷ [])) at h in
      let lt : size whole < n = here.0 in
      let below = all_weaker _ (λ part. size part < n) (λ part k. omega arith) (parts whole) (falls whole) in
      rw (reverse-append stack (reverse (parts whole)), reverse-reverse (parts whole)) (all_append _ (parts whole) (reverse stack) below here.1)
