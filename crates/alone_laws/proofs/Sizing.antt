-- What is told of a trace without a location is the same for every supply of distinct locations.
use Rattle.std.proofs.Common.{◌≡◌, ℕ, ◌+◌, ◌<◌, Bool, true, false, eqb, nat_lt, List, length, map, get_or, Option, Some, None, refl, sym, ap, ◌∙◌, arith}
use Rattle.std.specs.Prelude.{option_map, if◌then◌else◌}
use Rattle.std.specs.List.{range_with_len}
use Rattle.std.proofs.lemmas.List.{get_or-map, length-map}
use Rattle.std.proofs.lemmas.List.FromFn.{length-range_with_len, get_or-range_with_len}
use Rattle.std.proofs.lemmas.Bool.Decides.{nat_tests}
use mathlib.Core.Path.{fun_ext}
use mathlib.Core.Equiv.{Iso, iso_to_equiv}
use Rattle.js_semantics.specs.World.{limited}
use Rattle.js_semantics.specs.Run.{Setting, Arrival, Trace}
use Rattle.js_semantics.specs.Alone.{trace_of, alone_by, cells_of, IsDistinctSupply}
use Rattle.js_semantics.proofs.Relocating.{permuted, same_line, same_supply}
use Rattle.alone_laws.specs.Sizes.{IsOneSize, alone_cells, cells_at_end}

range_distinct : (n i j : ℕ) → i < length (range_with_len 0 n) → j < length (range_with_len 0 n) → get_or (range_with_len 0 n) i 0 ≡ get_or (range_with_len 0 n) j 0 → i ≡ j
range_distinct n i j l m e =
    omega (arith, length-range_with_len 0 n, get_or-range_with_len 0 n i 0, get_or-range_with_len 0 n j 0)

range_at : (n i : ℕ) → i < n → get_or (range_with_len 0 n) i 0 ≡ i
range_at n i l = let z : 0 + i ≡ i = omega arith in get_or-range_with_len 0 n i 0 l ∙ z

limited_as : (I : Iso ℕ ℕ) (cells : ℕ) (f g : ℕ → ℕ) → ((n : ℕ) → n < cells → I.fun (f n) ≡ g n) → (n : ℕ) → option_map I.fun (limited cells f n) ≡ limited cells g n
limited_as I cells f g h n = go (nat_lt n cells) refl
  where
    go : (t : Bool) → nat_lt n cells ≡ t → option_map I.fun (if t then Some (f n) else None) ≡ (if t then Some (g n) else None)
    go false e = refl
    go true e = ap Some (h n (grind (arith, nat_tests)))

module _ (A : Type 0) (told : (L : Type 0) → Trace L → A) where
  -- a run under a permutation of the locations
  carried : (I : Iso ℕ ℕ) (setting : Setting) (ds : List Arrival) (s : ℕ → Option ℕ) → told ℕ (trace_of setting ds eqb s) ≡ told ℕ (trace_of setting ds eqb (λ n. option_map I.fun (s n)))
  carried I setting ds s =
      sym (ap (λ g. told ℕ (trace_of setting ds eqb g)) (fun_ext (λ n. same_supply s n)))
      ∙ (λ i. told (V i ℕ ℕ (iso_to_equiv I)) (trace_of {L = V i ℕ ℕ (iso_to_equiv I)} setting ds (same_line I i) (λ n. option_map (λ a. vin i a (I.fun a)) (s n))))

  pub told_same : (supply : ℕ → ℕ) (setting : Setting) (ds : List Arrival) → IsDistinctSupply (cells_of setting) supply → told ℕ (alone_by supply setting ds) ≡ told ℕ (alone_by (λ n. n) setting ds)
  unfolding alone_by
  told_same supply setting ds distinct =
      let n = cells_of setting in
      let range = range_with_len 0 n in
      let xs = map supply range in
      let len : length xs ≡ n = length-map range supply ∙ length-range_with_len 0 n in
      let at : (i : ℕ) → i < n → get_or xs i 0 ≡ supply i = λ i l. get_or-map supply range i 0 0 (omega (arith, length-range_with_len 0 n)) ∙ ap supply (range_at n i l) in
      let d : (i j : ℕ) → i < length xs → j < length xs → get_or xs i 0 ≡ get_or xs j 0 → i ≡ j = λ i j l m e. distinct i j (omega arith) (omega arith) (sym (at i (omega arith)) ∙ e ∙ at j (omega arith)) in
      let r = permuted xs range d (range_distinct n) (len ∙ sym (length-range_with_len 0 n)) in
      let I = r.0 in
      let to : (i : ℕ) → i < n → I.fun (supply i) ≡ i = λ i l.
      ap I.fun (sym (at i l))
      ∙ sym (get_or-map I.fun xs i 0 0 (omega arith))
      ∙ ap (λ ys. get_or ys i 0) r.1
      ∙ range_at n i l
      in
      carried I setting ds (limited n supply)
      ∙ ap (λ g. told ℕ (trace_of setting ds eqb g)) (fun_ext (λ i. limited_as I n supply (λ i. i) to i))

pub one_size : IsOneSize
unfolding IsOneSize alone_cells
one_size supply setting ds distinct = told_same ℕ (λ L t. cells_at_end {L = L} t) supply setting ds distinct
