-- A sorted list is the numbers ascending.
use Rattle.std.proofs.Common.{◌≡◌, ℕ, suc, ◌+◌, ◌<◌, ◌≤◌, true, false, List, [], ◌∷◌, ◌++◌, length, get_or, refl, sym, ap, ◌∙◌, subst, arith, nat_eq, nat_le, if◌then◌else◌, sum_by, IsSorted, IsPermutation, take, slice_get, Option, Some, None, option_to_list, is_none}
use Rattle.std.specs.Ordering.{nat_cmp, is_lt}
use Rattle.std.specs.declared.cmp.Ordering.TheVariants.{Less}
use Rattle.std.specs.Cmp.{nat_cmp_is}
use Rattle.std.proofs.lemmas.Bool.Decides.{nat_tests}
use Rattle.std.proofs.lemmas.List.Sums.{sum_by-cons}
use Rattle.std.proofs.lemmas.List.Sorted.{sum_by-IsPermutation}
use Rattle.std.proofs.lemmas.List.{take_more}
use Rattle.std.proofs.lemmas.List.Elements.{filter_map-append, filter-append}
use Rattle.std.proofs.lemmas.Option.{slice_get_within, get_or_from_slice_get}
use Rattle.std.specs.List.{cons_option}
use Rattle.wl_text.specs.Number.{index_of}
use Rattle.world_heap.specs.Keys.{inserted, ascending, indices_of, others_of}
use Rattle.world_heap.specs.Stored.{times}

-- each number is at most the next
abbrev pub Rises : ℕ → List ℕ → Type 0
Rises n [] = Unit {0}
Rises n (x ∷ xs) = (n ≤ x) × Rises x xs

lower : (m n : ℕ) (xs : List ℕ) → m ≤ n → Rises n xs → Rises m xs
lower m n [] le h = tt
lower m n (x ∷ xs) le h = (omega (arith, h.0), h.1)

rises_inserted : (m n : ℕ) (xs : List ℕ) → m ≤ n → Rises m xs → Rises m (inserted n xs)
rises_inserted m n [] le h = (le, tt)
rises_inserted m n (x ∷ xs) le h =
    elim (nat_le n x) as (λ b. nat_le n x ≡ b → Rises m (if b then n ∷ x ∷ xs else x ∷ inserted n xs)) [
      | true ↦ λ e. (le, (grind (arith, nat_tests), h.1))
      | false ↦ λ e. (h.0, rises_inserted x n xs (grind (arith, nat_tests)) h.1)
    ] refl

rises_ascending : (xs : List ℕ) → Rises 0 (ascending xs)
rises_ascending [] = tt
rises_ascending (x ∷ xs) = rises_inserted 0 x (ascending xs) (omega arith) (rises_ascending xs)

times_inserted : (k n : ℕ) (xs : List ℕ) → times k (inserted n xs) ≡ (if nat_eq k n then 1 else 0) + times k xs
times_inserted k n [] = refl
times_inserted k n (x ∷ xs) =
    elim (nat_le n x) as (λ b. times k (if b then n ∷ x ∷ xs else x ∷ inserted n xs) ≡ (if nat_eq k n then 1 else 0) + ((if nat_eq k x then 1 else 0) + times k xs)) [
      | true ↦ refl
      | false ↦ omega (arith, times_inserted k n xs)
    ]

times_ascending : (k : ℕ) (xs : List ℕ) → times k (ascending xs) ≡ times k xs
times_ascending k [] = refl
times_ascending k (x ∷ xs) = times_inserted k x (ascending xs) ∙ ap (λ n. (if nat_eq k x then 1 else 0) + n) (times_ascending k xs)

-- a number in a rising list is no lower than its bound
rises_least : (n k : ℕ) (xs : List ℕ) → Rises n xs → 0 < times k xs → n ≤ k
rises_least n k [] h t = absurd (omega (arith, t))
rises_least n k (x ∷ xs) h t =
    elim (nat_eq k x) as (λ b. nat_eq k x ≡ b → 0 < (if b then 1 else 0) + times k xs → n ≤ k) [
      | true ↦ λ e _. let q : k ≡ x = grind (arith, nat_tests) in omega (arith, q, h.0)
      | false ↦ λ e r. omega (arith, h.0, rises_least x k xs h.1 (omega (arith, r)))
    ] refl t

here : (x : ℕ) (xs : List ℕ) → 0 < times x (x ∷ xs)
here x xs = let same : nat_eq x x ≡ true = grind (arith, nat_tests) in rw same (omega arith)

-- rising lists with the same numbers are the same
same_rising : (n m : ℕ) (xs ys : List ℕ) → Rises n xs → Rises m ys → ((k : ℕ) → times k xs ≡ times k ys) → xs ≡ ys
same_rising n m [] [] h j same = refl
same_rising n m [] (y ∷ ys) h j same = absurd (omega (arith, same y, here y ys))
same_rising n m (x ∷ xs) [] h j same = absurd (omega (arith, same x, here x xs))
same_rising n m (x ∷ xs) (y ∷ ys) h j same =
    let yx : y ≤ x = rises_least y x (y ∷ ys) (omega arith, j.1) (omega (arith, same x, here x xs)) in
    let xy : x ≤ y = rises_least x y (x ∷ xs) (omega arith, h.1) (omega (arith, same y, here y ys)) in
    let e : x ≡ y = omega (arith, yx, xy) in
    let rest = same_rising x y xs ys h.1 j.1 (λ k. let s = ap {B = ℕ} (λ z. (if nat_eq k z then 1 else 0)) e in omega (arith, same k, s)) in
    λ i. e i ∷ rest i

-- what a sort gives
sorted_rises : (n : ℕ) (xs : List ℕ) → ((k : ℕ) → k + 1 < length xs → get_or xs k 0 ≤ get_or xs (k + 1) 0) → (0 < length xs → n ≤ get_or xs 0 0) → Rises n xs
sorted_rises n [] h first = tt
sorted_rises n (x ∷ xs) h first = (first (omega arith), sorted_rises x xs (λ k less. let q : suc k + 1 ≡ suc (k + 1) = omega arith in subst (λ m. get_or xs k 0 ≤ get_or (x ∷ xs) m 0) q (h (suc k) (omega (arith, less)))) (λ some. h 0 (omega (arith, some))))

times_sum : (k : ℕ) (xs : List ℕ) → sum_by (λ x. if nat_eq k x then 1 else 0) xs ≡ times k xs
times_sum k [] = refl
times_sum k (x ∷ xs) = sum_by-cons (λ x. if nat_eq k x then 1 else 0) x xs ∙ ap (λ n. (if nat_eq k x then 1 else 0) + n) (times_sum k xs)

pub sorted_is : (xs ys : List ℕ) → IsPermutation xs ys → IsSorted nat_cmp ys → ys ≡ ascending xs
sorted_is xs ys p s =
    same_rising 0 0 ys (ascending xs) (sorted_rises 0 ys (λ k less. at k (s k 0 (omega arith) less)) (λ _. omega arith)) (rises_ascending xs)
    (λ k. sym (times_sum k ys) ∙ sum_by-IsPermutation (λ x. if nat_eq k x then 1 else 0) xs ys p ∙ times_sum k xs ∙ sym (times_ascending k xs))
  where
    at : (k : ℕ) → is_lt (nat_cmp (get_or ys (k + 1) 0) (get_or ys k 0)) ≡ false → get_or ys k 0 ≤ get_or ys (k + 1) 0
    at k e =
        let a = get_or ys (k + 1) 0 in
        let b = get_or ys k 0 in
        elim (nat_le b a) as (λ t. nat_le b a ≡ t → b ≤ a) [
          | true ↦ λ q. grind (arith, nat_tests)
          | false ↦ λ q.
              let less : a < b = grind (arith, nat_tests) in
              let cmp : Less ≡ nat_cmp a b = nat_cmp_is a b Less less in
              let yes_less : true ≡ false = ap is_lt cmp ∙ e in
              absurd (cc)
        ] refl

-- one name more
pub take_got : {X : Type 0} (xs : List X) (i : ℕ) (x : X) → slice_get xs i ≡ Some x → take (i + 1) xs ≡ take i xs ++ x ∷ []
take_got xs i x h = take_more xs i x (slice_get_within xs i x h) ∙ ap (λ y. take i xs ++ y ∷ []) (get_or_from_slice_get xs i x x h)

one_index : (o : Option ℕ) → cons_option o [] ≡ option_to_list o
one_index None = refl
one_index (Some i) = refl

pub indices-push : (names : List (List ℕ)) (name : List ℕ) → indices_of (names ++ name ∷ []) ≡ indices_of names ++ option_to_list (index_of name)
indices-push names name = filter_map-append index_of names (name ∷ []) ∙ ap (λ ns. indices_of names ++ ns) (one_index (index_of name))

pub others-push : (names : List (List ℕ)) (name : List ℕ) → others_of (names ++ name ∷ []) ≡ others_of names ++ (if is_none (index_of name) then name ∷ [] else [])
others-push names name = filter-append (λ n. is_none (index_of n)) names (name ∷ [])
