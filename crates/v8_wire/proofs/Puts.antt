-- Lemmas on writing one after another.
use Rattle.std.proofs.Common.{◌≡◌, ℕ, suc, ◌+◌, ◌<◌, ◌≤◌, List, ◌∷◌, length, get_or, drop, refl, sym, ◌∙◌, drop-cons, add-one}
use Rattle.std.proofs.Math.ListN.{drop_of_length-le}
use Rattle.v8_wire.specs.Spelling.{Written, put_all}

module _ {A : Type 0} (put : A → Written → Written) (xs : List A) (i : ℕ) (all : Written) where
  -- what is left after one more
  pub put_all-step : (x : A) (before after : Written) → i < length xs → x ≡ get_or xs i x → after ≡ put x before
      → put_all put (drop i xs) before ≡ all → put_all put (drop (i + 1) xs) after ≡ all
  unfolding put_all
  put_all-step x before after lt is made so_far =
      let parts : drop i xs ≡ get_or xs i x ∷ drop (suc i) xs = drop-cons xs i x lt in
      let one : put_all put (drop i xs) before ≡ put_all put (drop (i + 1) xs) after =
      rw (parts, ← is, made, add-one) refl in
      sym one ∙ so_far

  -- nothing is left
  pub put_all-done : (w : Written) → length xs ≤ i → put_all put (drop i xs) w ≡ all → w ≡ all
  unfolding put_all
  put_all-done w le so_far = rw (drop_of_length-le xs le) at so_far
