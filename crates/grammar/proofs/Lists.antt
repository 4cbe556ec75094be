-- From tests of a list of rules to those of every number.
use Rattle.std.proofs.Common.{true, ◌≡◌, ℕ, zero, suc, ◌+◌, ◌<◌, List, [], ◌∷◌, length, refl, sym, subst, arith}
use Rattle.grammar.specs.Grammar.{Grammar, token, entry, Language}
use Rattle.grammar.specs.Reading.{nullable, firsts}
use Rattle.grammar.specs.Kinds.{apart, covers}
use Rattle.grammar.specs.Tests.{fits, goes_on, decided, InPlace, Fits, Examples, open_ended, AllFit, AllOpen}
use Rattle.grammar.specs.Pairs.{Forks, levels, even, told, paired, AllPaired}

module _ {A : Type 0} (l : Language A) where
  pub fit-at : (tails : ℕ → List ℕ) (xs : List (Grammar A)) (k n : ℕ) → AllFit l tails k xs
      → (fits l.heads tails (k + n) (entry (token []) xs n) ≡ true) × InPlace l.rules (entry (token []) xs n)
  unfolding AllFit entry nullable firsts covers goes_on decided InPlace
  fit-at tails [] k n a = (refl, tt)
  fit-at tails (x ∷ xs) k zero a = let e : k + 0 ≡ k = omega arith in rw e (a.0)
  fit-at tails (x ∷ xs) k (suc n) a = let e : k + suc n ≡ suc k + n = omega arith in rw e (fit-at tails xs (suc k) n a.1)

  pub fits-of_list : (tails : ℕ → List ℕ) (xs : List (Grammar A)) → ((n : ℕ) → l.rules n ≡ entry (token []) xs n) → AllFit l tails 0 xs → Fits l tails
  fits-of_list tails xs is a n =
      let k = fit-at tails xs 0 n a in
      let e : 0 + n ≡ n = omega arith in
      subst (λ x. (fits l.heads tails n x ≡ true) × InPlace l.rules x) (sym (is n)) (subst (λ m. (fits l.heads tails m (entry (token []) xs n) ≡ true) × InPlace l.rules (entry (token []) xs n)) e k)

  pub open-at : (e : Examples) (xs : List (Grammar A)) (k n : ℕ) → n < length xs → AllOpen l e k xs → open_ended l.heads e (k + n) (entry (token []) xs n) ≡ true
  unfolding AllOpen entry
  open-at e [] k n small a = absurd (omega (arith, small))
  open-at e (x ∷ xs) k zero small a = let i : k + 0 ≡ k = omega arith in rw i (a.0)
  open-at e (x ∷ xs) k (suc n) small a = let i : k + suc n ≡ suc k + n = omega arith in rw i (open-at e xs (suc k) n (omega (arith, small)) a.1)

  pub opens-of_list : (e : Examples) (xs : List (Grammar A)) → ((n : ℕ) → l.rules n ≡ entry (token []) xs n) → e.size ≡ length xs → AllOpen l e 0 xs
      → (n : ℕ) → n < e.size → open_ended l.heads e n (l.rules n) ≡ true
  opens-of_list e xs is size a n small =
      let i : 0 + n ≡ n = omega arith in
      let k = open-at e xs 0 n (omega (arith, small, size)) a in
      subst (λ x. open_ended l.heads e n x ≡ true) (sym (is n)) (subst (λ m. open_ended l.heads e m (entry (token []) xs n) ≡ true) i k)

  pub paired-at : (b : Forks) (xs : List (Grammar A)) (n : ℕ) → AllPaired l b xs → paired l.heads b (entry (token []) xs n) ≡ true
  unfolding AllPaired entry levels even told apart
  paired-at b [] n a = refl
  paired-at b (x ∷ xs) zero a = a.0
  paired-at b (x ∷ xs) (suc n) a = paired-at b xs n a.1

  pub paired-of_list : (b : Forks) (xs : List (Grammar A)) → ((n : ℕ) → l.rules n ≡ entry (token []) xs n) → AllPaired l b xs → (n : ℕ) → paired l.heads b (l.rules n) ≡ true
  paired-of_list b xs is a n = subst (λ x. paired l.heads b x ≡ true) (sym (is n)) (paired-at b xs n a)
