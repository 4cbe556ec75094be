-- The transcript is the same for every supply of distinct locations. The definitions use nothing of a location but the test for equality, so they can be read
-- over the line of types that a permutation of the numbers makes, and the two ends of that line are the two runs.
use Rattle.std.proofs.Common.{◌≡◌, ◌≢◌, ℕ, suc, ◌+◌, ◌<◌, Bool, true, false, cond, eqb, nat_lt, List, [], ◌∷◌, length, map, get_or, Option, Some, None, refl, sym, ap, ◌∙◌, arith}
use Rattle.std.specs.Prelude.{option_map, if◌then◌else◌}
use Rattle.std.specs.List.{range_with_len}
use Rattle.std.proofs.lemmas.List.{get_or-map, length-map}
use Rattle.std.proofs.lemmas.List.FromFn.{length-range_with_len, get_or-range_with_len}
use Rattle.std.proofs.lemmas.Bool.{eq-eqb, eqb-true}
use Rattle.std.proofs.lemmas.Bool.Decides.{nat_tests}
use mathlib.Core.Path.{PathP, fun_ext}
use mathlib.Core.Equiv.{Iso, iso_to_equiv}
use Rattle.js_semantics.specs.World.{limited}
use Rattle.js_semantics.specs.Run.{Setting, Arrival, entries}
use Rattle.js_semantics.specs.Alone.{trace_of, alone_by, alone, cells_of, IsRenamed, IsDetermined}

abbrev IsDistinct : List ℕ → Type 0
IsDistinct xs = (i j : ℕ) → i < length xs → j < length xs → get_or xs i 0 ≡ get_or xs j 0 → i ≡ j

-- a test keeps its answer under a one-to-one map
same_test : (I : Iso ℕ ℕ) (a b : ℕ) (p q : Bool) → eqb a b ≡ p → eqb (I.fun a) (I.fun b) ≡ q → p ≡ q
same_test I a b true true e f = refl
same_test I a b false false e f = refl
same_test I a b true false e f =
    sym (eq-eqb (I.fun a) (I.fun b) (ap I.fun (eqb-true a b e))) ∙ f
same_test I a b false true e f =
    sym e ∙ eq-eqb a b (sym (I.linv a) ∙ ap I.inv (eqb-true (I.fun a) (I.fun b) f) ∙ I.linv b)

-- the test for equality, read over the line
pub same_line : (I : Iso ℕ ℕ) → PathP (λ i. V i ℕ ℕ (iso_to_equiv I) → V i ℕ ℕ (iso_to_equiv I) → Bool) eqb eqb
same_line I = λ i x y.
    hcom 1 0 (eqb (vproj i x (iso_to_equiv I)) (vproj i y (iso_to_equiv I))) [
      | i = 0 ↦ j. same_test I x y _ _ refl refl j
      | i = 1 ↦ _. eqb x y
    ]

-- two numbers change places
swap : ℕ → ℕ → ℕ → ℕ
swap a b x = cond (eqb x a) b (cond (eqb x b) a x)

swap-swap : (a b x : ℕ) → swap a b (swap a b x) ≡ x
unfolding swap
swap-swap a b x = grind (arith, nat_tests)

swap_first : (a b : ℕ) → swap a b a ≡ b
unfolding swap
swap_first a b = grind (arith, nat_tests)

swap_other : (a b x : ℕ) → x ≢ a → x ≢ b → swap a b x ≡ x
unfolding swap
swap_other a b x = grind (arith, nat_tests)

-- a permutation, and then a swap
swapped : Iso ℕ ℕ → ℕ → ℕ → Iso ℕ ℕ
swapped I a b = record {
  fun = λ x. swap a b (I.fun x);
  inv = λ y. I.inv (swap a b y);
  rinv = λ y. ap (swap a b) (I.rinv (swap a b y)) ∙ swap-swap a b y;
  linv = λ x. ap I.inv (swap-swap a b (I.fun x)) ∙ I.linv x;
}

same : Iso ℕ ℕ
same = record { fun = λ x. x; inv = λ x. x; rinv = λ x. refl; linv = λ x. refl }

map_swap : (f : ℕ → ℕ) (a b : ℕ) (xs ys : List ℕ) → map f xs ≡ ys → ((k : ℕ) → k < length ys → get_or ys k 0 ≢ a) → ((k : ℕ) → k < length ys → get_or ys k 0 ≢ b) → map (λ x. swap a b (f x)) xs ≡ ys
map_swap f a b [] ys e na nb = e
map_swap f a b (x ∷ xs) [] e na nb = absurd (cc)
map_swap f a b (x ∷ xs) (y ∷ ys) e na nb =
    let h : f x ≡ y = cc in
    let t : map f xs ≡ ys = cc in
    let here = ap (swap a b) h ∙ swap_other a b y (na 0 (omega arith)) (nb 0 (omega arith)) in
    let rest = map_swap f a b xs ys t (λ k l. na (suc k) (omega arith)) (λ k l. nb (suc k) (omega arith)) in
    cc

tail : (x : ℕ) (xs : List ℕ) → IsDistinct (x ∷ xs) → IsDistinct xs
tail x xs d i j l m e = omega (arith, d (suc i) (suc j) (omega arith) (omega arith) e)

head_apart : (x : ℕ) (xs : List ℕ) → IsDistinct (x ∷ xs) → (k : ℕ) → k < length xs → get_or xs k 0 ≢ x
head_apart x xs d k l e = absurd (omega (arith, d (suc k) 0 (omega arith) (omega arith) e))

-- a permutation that takes one list of distinct numbers to another
pub permuted : (xs ys : List ℕ) → IsDistinct xs → IsDistinct ys → length xs ≡ length ys → (I : Iso ℕ ℕ) × (map I.fun xs ≡ ys)
unfolding swapped same
permuted [] [] d e l = (same, refl)
permuted [] (y ∷ ys) d e l = absurd (omega arith)
permuted (x ∷ xs) [] d e l = absurd (omega arith)
permuted (x ∷ xs) (y ∷ ys) d e l =
    let r = permuted xs ys (tail x xs d) (tail y ys e) (omega arith) in
    let I = r.0 in
    let apart : (k : ℕ) → k < length ys → get_or ys k 0 ≢ I.fun x = λ k lt h.
    let at : get_or ys k 0 ≡ I.fun (get_or xs k 0) = ap (λ zs. get_or zs k 0) (sym r.1) ∙ get_or-map I.fun xs k 0 0 (omega arith) in
    let z : get_or xs k 0 ≡ x = sym (I.linv (get_or xs k 0)) ∙ ap I.inv (sym at ∙ h) ∙ I.linv x in
    head_apart x xs d k (omega arith) z
    in
    let rest = map_swap I.fun (I.fun x) y xs ys r.1 apart (head_apart y ys e) in
    let here = swap_first (I.fun x) y in
    (swapped I (I.fun x) y, λ i. here i ∷ rest i)

range_distinct : (n : ℕ) → IsDistinct (range_with_len 0 n)
range_distinct n i j l m e =
    omega (arith, length-range_with_len 0 n, get_or-range_with_len 0 n i 0, get_or-range_with_len 0 n j 0)

range_at : (n i : ℕ) → i < n → get_or (range_with_len 0 n) i 0 ≡ i
range_at n i l = let z : 0 + i ≡ i = omega arith in get_or-range_with_len 0 n i 0 l ∙ z

pub same_supply : (s : ℕ → Option ℕ) (n : ℕ) → option_map (λ l. l) (s n) ≡ s n
same_supply s n = go (s n)
  where
    go : (o : Option ℕ) → option_map (λ l. l) o ≡ o
    go None = refl
    go (Some l) = refl

-- a run under a permutation of the locations
carried : (I : Iso ℕ ℕ) (setting : Setting) (ds : List Arrival) (s : ℕ → Option ℕ) → entries (trace_of setting ds eqb s) ≡ entries (trace_of setting ds eqb (λ n. option_map I.fun (s n)))
carried I setting ds s =
    sym (ap (λ g. entries (trace_of setting ds eqb g)) (fun_ext (λ n. same_supply s n)))
    ∙ (λ i. entries (trace_of {L = V i ℕ ℕ (iso_to_equiv I)} setting ds (same_line I i) (λ n. option_map (λ a. vin i a (I.fun a)) (s n))))

limited_as : (I : Iso ℕ ℕ) (cells : ℕ) (f g : ℕ → ℕ) → ((n : ℕ) → n < cells → I.fun (f n) ≡ g n) → (n : ℕ) → option_map I.fun (limited cells f n) ≡ limited cells g n
limited_as I cells f g h n = go (nat_lt n cells) refl
  where
    go : (t : Bool) → nat_lt n cells ≡ t → option_map I.fun (if t then Some (f n) else None) ≡ (if t then Some (g n) else None)
    go false e = refl
    go true e = ap Some (h n (grind (arith, nat_tests)))

-- with other locations a world makes the same entries
pub alone_same : IsRenamed
unfolding IsRenamed alone alone_by
alone_same supply setting ds distinct =
    let n = cells_of setting in
    let range = range_with_len 0 n in
    let xs = map supply range in
    let len : length xs ≡ n = length-map range supply ∙ length-range_with_len 0 n in
    let at : (i : ℕ) → i < n → get_or xs i 0 ≡ supply i = λ i l. get_or-map supply range i 0 0 (omega (arith, length-range_with_len 0 n)) ∙ ap supply (range_at n i l) in
    let d : IsDistinct xs = λ i j l m e. distinct i j (omega arith) (omega arith) (sym (at i (omega arith)) ∙ e ∙ at j (omega arith)) in
    let r = permuted xs range d (range_distinct n) (len ∙ sym (length-range_with_len 0 n)) in
    let I = r.0 in
    let to : (i : ℕ) → i < n → I.fun (supply i) ≡ i = λ i l.
    ap I.fun (sym (at i l))
    ∙ sym (get_or-map I.fun xs i 0 0 (omega arith))
    ∙ ap (λ ys. get_or ys i 0) r.1
    ∙ range_at n i l
    in
    carried I setting ds (limited n supply)
    ∙ ap (λ g. entries (trace_of setting ds eqb g)) (fun_ext (λ i. limited_as I n supply (λ i. i) to i))

pub alone_one : IsDetermined
unfolding IsDetermined IsRenamed
alone_one supply other setting ds distinct apart =
    alone_same supply setting ds distinct ∙ sym (alone_same other setting ds apart)
