-- How many members a list may have is immaterial once it is more than there are tokens. And the laws of exact places.
use Rattle.std.proofs.Common.{true, false, Bool, ◌≡◌, ℕ, zero, suc, ◌+◌, ◌≤◌, ◌<◌, List, [], ◌∷◌, ◌++◌, length, Ok, Err, refl, ap, sym, ◌∙◌, arith}
use Rattle.std.proofs.lemmas.List.{length-append}
use Rattle.std.specs.Prelude.{if◌then◌else◌}
use Rattle.grammar.specs.Kinds.{among, apart, covers, not}
use Rattle.grammar.specs.Grammar.{Tree, tip, pair, node, Grammar, empty, token, call, line, both, either, fork, many, named, prefer, starting, on, Language, Relation, starts, Derives, Viable, NoneGoesOn}
use Rattle.grammar.specs.Reading.{Fault, Answer, ◌>>=◌, nullable, firsts, furthest, perhaps, choose, refused, many_at, read_at, read}
use Rattle.grammar.specs.Tests.{decided, goes_on, InPlace, Fits, AllApart, Examples, Opens}
use Rattle.grammar.proofs.Laws.{second, turn, Sound, read_at-sound, read-sound}
use Rattle.grammar.proofs.Sets.{and_both, not_true, begun-surely}
use Rattle.grammar.proofs.Complete.{Begins, in-place, spells-begun, derived-shorter, derives-begun, NoneWithin, fault-is, one_tree}
use Rattle.grammar.proofs.Completed.{fault-viable}
use Rattle.grammar.proofs.Deeper.{fault-is_ever}

abbrev pub Agree : {A : Type 0} → ℕ → (List A → Answer A) → (List A → Answer A) → Type 0
Agree {A} bound rd rd' = (ts : List A) → length ts < bound → rd ts ≡ rd' ts

pub bind-agree : {A : Type 0} (r r' : Answer A) (f f' : Tree A × List A → Answer A) → r ≡ r' → ((p : Tree A × List A) → r ≡ Ok p → f p ≡ f' p) → (r >>= f) ≡ (r' >>= f')
bind-agree (Ok y) r' f f' e h = h y refl ∙ ap (λ v. v >>= f') e
bind-agree (Err c) r' f f' e h = ap (λ v. v >>= f') e

pub perhaps-agree : {A : Type 0} (b : Bool) (rd rd' : List A → Answer A) (ts : List A) → rd ts ≡ rd' ts → perhaps b rd ts ≡ perhaps b rd' ts
perhaps-agree true rd rd' ts e = e
perhaps-agree false rd rd' ts e = refl

pub choose-agree : {A : Type 0} (b : Bool) (rd rd' sd sd' : List A → Answer A) (ts : List A) → rd ts ≡ rd' ts → sd ts ≡ sd' ts → choose b rd sd ts ≡ choose b rd' sd' ts
choose-agree true rd rd' sd sd' ts e f = e
choose-agree false rd rd' sd sd' ts e f = f

module _ {A : Type 0} (l : Language A) (tails : ℕ → List ℕ) (f : Fits l tails) where
  -- Each member is shorter than the list was.
  pub many-agree : (test : ℕ → Bool) (more : Tree A → Bool) (rd rd' : List A → Answer A) (bound : ℕ) → Agree bound rd rd'
      → ((ts : List A) (p : Tree A × List A) → rd ts ≡ Ok p → length p.1 < length ts)
      → (n n' : ℕ) (ts : List A) → length ts < n → length ts < n' → length ts < bound → many_at l test more rd n ts ≡ many_at l test more rd' n' ts
  unfolding many_at
  many-agree test more rd rd' bound g s zero n' ts a b c = absurd (omega (arith, a))
  many-agree test more rd rd' bound g s (suc n) zero ts a b c = absurd (omega (arith, b))
  many-agree test more rd rd' bound g s (suc n) (suc n') ts a b c =
      ap (λ v. if starts l test ts then v else Ok (tip, ts))
      (bind-agree (rd ts) (rd' ts) (turn l test more rd n) (turn l test more rd' n') (g ts c)
      (λ p e.
      let less = s ts p e in
      ap (λ v. v >>= λ y. Ok (pair p.0 y.0, y.1))
      (perhaps-agree (more p.0) (many_at l test more rd n) (many_at l test more rd' n') p.1
      (many-agree test more rd rd' bound g s n n' p.1 (omega (arith, a, less)) (omega (arith, b, less)) (omega (arith, c, less))))))

  pub read_at-agree : (R : ℕ → Relation A) (low high bound : ℕ) (r r' : ℕ → List A → Answer A) → bound ≤ low → bound ≤ high → ((n : ℕ) → Begins l (l.heads n) false (R n))
      → ((n : ℕ) → Sound (R n) (r n)) → ((n : ℕ) → Agree bound (r n) (r' n)) → (x : Grammar A) → InPlace l.rules x → decided l.heads tails x ≡ true
      → Agree bound (read_at l low r x) (read_at l high r' x)
  unfolding read_at decided InPlace
  read_at-agree R low high bound r r' j k b s m empty p d ts c = refl
  read_at-agree R low high bound r r' j k b s m (token kinds) p d ts c = refl
  read_at-agree R low high bound r r' j k b s m (call name) p d ts c = m name ts c
  read_at-agree R low high bound r r' j k b s m (line name x) p d ts c =
      let t = in-place l tails f name x p in read_at-agree R low high bound r r' j k b s m x t.4 t.3 ts c
  read_at-agree R low high bound r r' j k b s m (both x y) p d ts c =
      let d₁ = and_both (apart (goes_on l.heads tails x) (firsts l.heads y)) _ d in
      let d₂ = and_both (decided l.heads tails x) (decided l.heads tails y) d₁.1 in
      bind-agree (read_at l low r x ts) (read_at l high r' x ts) (second l (λ _. read_at l low r y)) (second l (λ _. read_at l high r' y))
      (read_at-agree R low high bound r r' j k b s m x p.0 d₂.0 ts c)
      (λ q e.
      let shorter = derived-shorter l tails f R b x p.0 ts q.1 q.0 (read_at-sound l R low r s x ts q e) in
      ap (λ v. v >>= λ z. Ok (pair q.0 z.0, z.1)) (read_at-agree R low high bound r r' j k b s m y p.1 d₂.1 q.1 (omega (arith, c, shorter))))
  read_at-agree R low high bound r r' j k b s m (either x y) p d ts c =
      let d₁ = and_both (not (nullable x)) _ d in
      let d₂ = and_both (apart (firsts l.heads x) (firsts l.heads y)) _ d₁.1 in
      let d₃ = and_both (decided l.heads tails x) (decided l.heads tails y) d₂.1 in
      ap (λ v. if starts l (among (firsts l.heads x)) ts then v else read_at l low r y ts) (read_at-agree R low high bound r r' j k b s m x p.0 d₃.0 ts c)
      ∙ ap (λ v. if starts l (among (firsts l.heads x)) ts then read_at l high r' x ts else v) (read_at-agree R low high bound r r' j k b s m y p.1 d₃.1 ts c)
  read_at-agree R low high bound r r' j k b s m (fork stop x y) p d ts c =
      let d₁ = and_both (decided l.heads tails x) (decided l.heads tails y) d in
      ap (λ v. furthest (refused l stop v) (read_at l low r y ts)) (read_at-agree R low high bound r r' j k b s m x p.0 d₁.0 ts c)
      ∙ ap (λ v. furthest (refused l stop (read_at l high r' x ts)) v) (read_at-agree R low high bound r r' j k b s m y p.1 d₁.1 ts c)
  read_at-agree R low high bound r r' j k b s m (many more x) p d ts c =
      let d₁ = and_both (not (nullable x)) _ d in
      let d₂ = and_both (apart (goes_on l.heads tails x) (firsts l.heads x)) (decided l.heads tails x) d₁.1 in
      many-agree (among (firsts l.heads x)) more (read_at l low r x) (read_at l high r' x) bound (read_at-agree R low high bound r r' j k b s m x p d₂.1)
      (λ ts q e. (begun-surely l (firsts l.heads x) (nullable x) ts q.1 (not_true (nullable x) d₁.0)
      (spells-begun l tails f R b x p ts q.1 q.0 (read_at-sound l R low r s x ts q e))).1)
      low high ts (omega (arith, c, j)) (omega (arith, c, k)) c
  read_at-agree R low high bound r r' j k b s m (named name x) p d ts c =
      ap (λ v. v >>= λ q. Ok (node name q.0, q.1)) (read_at-agree R low high bound r r' j k b s m x p d ts c)
  read_at-agree R low high bound r r' j k b s m (prefer kinds x) p d ts c =
      let d₁ = and_both (not (nullable x)) _ d in
      let d₂ = and_both (covers kinds (firsts l.heads x)) (decided l.heads tails x) d₁.1 in
      perhaps-agree (starts l (among kinds) ts) (read_at l low r x) (read_at l high r' x) ts (read_at-agree R low high bound r r' j k b s m x p d₂.1 ts c)
  read_at-agree R low high bound r r' j k b s m (starting test x) p d ts c =
      let d₁ = and_both (not (nullable x)) _ d in
      ap (λ v. if starts l test ts then v else Err (false, ts)) (read_at-agree R low high bound r r' j k b s m x p d₁.1 ts c)
  read_at-agree R low high bound r r' j k b s m (on test x y z) p d ts c =
      let d₁ = and_both (apart (goes_on l.heads tails x) (firsts l.heads y ++ firsts l.heads z)) _ d in
      let d₂ = and_both (decided l.heads tails x) _ d₁.1 in
      let d₃ = and_both (decided l.heads tails y) (decided l.heads tails z) d₂.1 in
      bind-agree (read_at l low r x ts) (read_at l high r' x ts) (second l (λ a. choose (test a) (read_at l low r y) (read_at l low r z)))
      (second l (λ a. choose (test a) (read_at l high r' y) (read_at l high r' z)))
      (read_at-agree R low high bound r r' j k b s m x p.0 d₂.0 ts c)
      (λ q e.
      let shorter = derived-shorter l tails f R b x p.0 ts q.1 q.0 (read_at-sound l R low r s x ts q e) in
      ap (λ v. v >>= λ z. Ok (pair q.0 z.0, z.1))
      (choose-agree (test q.0) (read_at l low r y) (read_at l high r' y) (read_at l low r z) (read_at l high r' z) q.1
      (read_at-agree R low high bound r r' j k b s m y p.1 d₃.0 q.1 (omega (arith, c, shorter)))
      (read_at-agree R low high bound r r' j k b s m z p.2 d₃.1 q.1 (omega (arith, c, shorter)))))

  pub read-agree : (low high bound : ℕ) → bound ≤ low → bound ≤ high → (depth n : ℕ) → Agree bound (read l low depth n) (read l high depth n)
  unfolding read
  read-agree low high bound j k zero n ts c = refl
  read-agree low high bound j k (suc depth) n ts c =
      let t = in-place l tails f n (l.rules n) refl in
      read_at-agree (Derives l depth) low high bound (read l low depth) (read l high depth) j k (derives-begun l tails f depth) (read-sound l low depth) (read-agree low high bound j k depth)
      (l.rules n) t.4 t.3 ts c

  -- A fault is at a token that no script of that depth has there; and no script at all, where it is not one of nesting.
  pub none-goes_on : ((limit : ℕ) → AllApart l limit) → (limit depth start : ℕ) (front : List A) (c : Fault A) → length (front ++ c.1) < limit
      → read l limit depth start (front ++ c.1) ≡ Err c → NoneGoesOn l depth start front c.1 × (c.0 ≡ false → (any : ℕ) → NoneGoesOn l any start front c.1)
  none-goes_on s limit depth start front c few e = (
    by depth c.1 e (λ bound w n. fault-is l tails f bound (s bound) depth start front c w n),
    λ k any. by any c.1 e (λ bound w n. fault-is_ever l tails f bound (s bound) depth start front c.1 w (n ∙ ap (λ j. Err (j, c.1)) k) any),
  )
    where
      front_few : (bound : ℕ) → length (front ++ c.1) < bound → length front < bound
      front_few bound w = omega (arith, w, length-append front c.1)

      by : (any : ℕ) (left : List A) → read l limit depth start (front ++ c.1) ≡ Err c
          → ((bound : ℕ) → length front < bound → read l bound depth start (front ++ c.1) ≡ Err c → NoneWithin l bound any start front left) → NoneGoesOn l any start front left
      by any [] e n = n limit (front_few limit few) e
      by any (t ∷ u) e n = λ more tree d.
          let size = suc (limit + length (front ++ t ∷ more)) in
          let moved : read l size depth start (front ++ c.1) ≡ Err c =
          sym (read-agree limit size limit (omega arith) (omega arith) depth start (front ++ c.1) few) ∙ e in
          n size (front_few size (omega (arith, few))) moved more tree (omega arith) d

  pub one-tree : ((limit : ℕ) → AllApart l limit) → (depth n : ℕ) (ts : List A) (a b : Tree A) → Derives l depth n ts [] a → Derives l depth n ts [] b → a ≡ b
  one-tree s depth n ts a b x y = one_tree l tails f (suc (length ts)) (s (suc (length ts))) depth n ts a b (omega arith) x y

  -- The place of a fault is exact.
  pub exact-place : (e : Examples) → Opens l e → ((limit : ℕ) → AllApart l limit) → (limit depth start : ℕ) → start < e.size → (ts : List A) (c : Fault A)
      → length ts < limit → read l limit depth start ts ≡ Err c
      → (front : List A) × (ts ≡ front ++ c.1) × Viable l start front × NoneGoesOn l depth start front c.1 × (c.0 ≡ false → (any : ℕ) → NoneGoesOn l any start front c.1)
  exact-place e o s limit depth start small ts c few d =
      let k = fault-viable l tails f e o limit depth start small ts c d in
      let size : length ts ≡ length (k.0 ++ c.1) = ap (λ n. length n) k.1 in
      let e' : read l limit depth start (k.0 ++ c.1) ≡ Err c = ap (read l limit depth start) (sym k.1) ∙ d in
      let n = none-goes_on s limit depth start k.0 c (omega (arith, size, few)) e' in
      (k.0, k.1, k.2, n.0, n.1)
