-- Reading looks no further than the first token behind what it has read: a fault stays where it is, whatever stands behind its token.
use Rattle.std.proofs.Common.{inl, inr, true, false, Bool, ◌≡◌, ℕ, zero, suc, ◌+◌, ◌≤◌, ◌<◌, List, [], ◌∷◌, ◌++◌, length, Ok, Err, refl, ap, sym, subst, ◌∙◌, arith}
use Rattle.std.proofs.lemmas.List.{append_assoc, length-append, append_cancel_right}
use Rattle.std.proofs.lemmas.Bool.Decides.{leb_tells}
use Rattle.std.specs.Prelude.{if◌then◌else◌, ◌||◌, nat_le}
use Rattle.grammar.specs.Kinds.{among}
use Rattle.grammar.specs.Grammar.{Tree, tip, leaf, pair, node, Grammar, empty, token, call, line, both, either, fork, many, named, prefer, starting, on, Language, starts}
use Rattle.grammar.specs.Reading.{Fault, Answer, ◌>>=◌, firsts, further, later, furthest, perhaps, choose, token_at, refused, many_at, read_at, read}
use Rattle.grammar.specs.Tests.{InPlace, NotBoth, Apart}
use Rattle.grammar.proofs.Laws.{bind_ok, bind_err, same_ok, same_err, chosen, branch, branch_not, token-ok, token-err, fork_ok, fork_err, rows, second, turn}

-- What is read is a front, and only it and the token behind it were looked at.
pub record Tame (A : Type 0) (t : A) (u v : List A) (rd : List A → Answer A) : Type 0 where
  pub front_ok : (ts : List A) (p : Tree A × List A) → rd ts ≡ Ok p → (f : List A) × (ts ≡ f ++ p.1)
  pub front_err : (ts : List A) (c : Fault A) → rd ts ≡ Err c → (f : List A) × (ts ≡ f ++ c.1)
  pub same_ok : (front back : List A) (a : Tree A) → rd (front ++ t ∷ u) ≡ Ok (a, back ++ t ∷ u) → rd (front ++ t ∷ v) ≡ Ok (a, back ++ t ∷ v)
  pub same_err : (front back : List A) (k : Bool) → rd (front ++ t ∷ u) ≡ Err (k, back ++ t ∷ u) → rd (front ++ t ∷ v) ≡ Err (k, back ++ t ∷ v)

-- Of two ends of one list the longer ends with the shorter.
pub ends : {A : Type 0} (w₁ w₂ e f ts : List A) → ts ≡ w₁ ++ e → ts ≡ w₂ ++ f → length e ≤ length f → (w : List A) × (f ≡ w ++ e)
ends w₁ [] e f ts p q short = (w₁, sym q ∙ p)
ends [] (x ∷ w₂) e f ts p q short = absurd (
    let long : length e ≡ length ((x ∷ w₂) ++ f) = ap (λ l. length l) (sym p ∙ q) in
    omega (arith, long, length-append (x ∷ w₂) f, short))
ends (y ∷ w₁) (x ∷ w₂) e f [] p q short = absurd (cc (p))
ends (y ∷ w₁) (x ∷ w₂) e f (z ∷ ts) p q short =
    let p' : ts ≡ w₁ ++ e = cc (p) in
    let q' : ts ≡ w₂ ++ f = cc (q) in
    ends w₁ w₂ e f ts p' q' short

pub further-first : {A : Type 0} (e f : List A) → length e ≤ length f → further e f ≡ e
further-first e f h = elim (leb_tells (length e) (length f)) [ inl k ↦ choose (nat_le (length e) (length f)) k.0 | inr k ↦ absurd (omega (arith, h, k.1)) ]
  where
    choose : (b : Bool) → b ≡ true → (if b then e else f) ≡ e
    choose b k = rw k refl

pub further-second : {A : Type 0} (e f : List A) → length f < length e → further e f ≡ f
further-second e f h = elim (leb_tells (length e) (length f)) [ inl k ↦ absurd (omega (arith, h, k.1)) | inr k ↦ choose (nat_le (length e) (length f)) k.0 ]
  where
    choose : (b : Bool) → b ≡ false → (if b then e else f) ≡ f
    choose b k = rw k refl

pub furthest-second : {A : Type 0} (r s : Answer A) (p : Tree A × List A) → s ≡ Ok p → ((q : Tree A × List A) → r ≡ Ok q → ⊥) → furthest r s ≡ Ok p
furthest-second (Ok q) s p e n = absurd (n q refl)
furthest-second (Err f) s p e n = ap (λ s. furthest (Err f) s) e

module _ {A : Type 0} (l : Language A) (t : A) (u v : List A) where
  abbrev pub IsTame : (List A → Answer A) → Type 0
  IsTame rd = Tame A t u v rd

  pub done-tame : (w : Tree A) → IsTame (λ ts. Ok (w, ts))
  done-tame w = record {
    front_ok = λ ts p e. ([], ap (λ q. q.1) (same_ok (w, ts) p e));
    front_err = λ ts c e. absurd (cc (e));
    same_ok = λ front back a e.
        let q = same_ok (w, front ++ t ∷ u) (a, back ++ t ∷ u) e in
        let f : front ≡ back = append_cancel_right front back (t ∷ u) (ap (λ q. q.1) q) in
        let b : w ≡ a = ap (λ q. q.0) q in
        rw (f, b) refl;
    same_err = λ front back k e. absurd (cc (e));
  }

  pub bind-tame : (rd : List A → Answer A) (f : Tree A → List A → Answer A) → IsTame rd → ((a : Tree A) → IsTame (f a))
      → IsTame (λ ts. rd ts >>= (λ y. f y.0 y.1))
  bind-tame rd f first after = record {
    front_ok = λ ts p e.
        let b = bind_ok (rd ts) (λ y. f y.0 y.1) p e in
        let m = first.front_ok ts b.0 b.1 in
        let k = (after (b.0).0).front_ok (b.0).1 p b.2 in
        (m.0 ++ k.0, rows m.0 k.0 ts (b.0).1 p.1 m.1 k.1);
    front_err = λ ts c e. elim (bind_err (rd ts) (λ y. f y.0 y.1) c e) [
      | inl h ↦ first.front_err ts c h
      | inr b ↦ let m = first.front_ok ts b.0 b.1 in
          let k = (after (b.0).0).front_err (b.0).1 c b.2 in
          (m.0 ++ k.0, rows m.0 k.0 ts (b.0).1 c.1 m.1 k.1)
    ];
    same_ok = λ front back a e.
        let b = bind_ok (rd (front ++ t ∷ u)) (λ y. f y.0 y.1) (a, back ++ t ∷ u) e in
        let k = (after (b.0).0).front_ok (b.0).1 (a, back ++ t ∷ u) b.2 in
        let q : (b.0).1 ≡ (k.0 ++ back) ++ t ∷ u = k.1 ∙ sym (append_assoc k.0 back (t ∷ u)) in
        ap (λ r. r >>= (λ y. f y.0 y.1)) (first.same_ok front (k.0 ++ back) (b.0).0 (b.1 ∙ ap (λ m. Ok ((b.0).0, m)) q))
        ∙ (after (b.0).0).same_ok (k.0 ++ back) back a (ap (f (b.0).0) (sym q) ∙ b.2);
    same_err = λ front back j e. elim (bind_err (rd (front ++ t ∷ u)) (λ y. f y.0 y.1) (j, back ++ t ∷ u) e) [
      | inl h ↦ ap (λ r. r >>= (λ y. f y.0 y.1)) (first.same_err front back j h)
      | inr b ↦ let k = (after (b.0).0).front_err (b.0).1 (j, back ++ t ∷ u) b.2 in
          let q : (b.0).1 ≡ (k.0 ++ back) ++ t ∷ u = k.1 ∙ sym (append_assoc k.0 back (t ∷ u)) in
          ap (λ r. r >>= (λ y. f y.0 y.1)) (first.same_ok front (k.0 ++ back) (b.0).0 (b.1 ∙ ap (λ m. Ok ((b.0).0, m)) q))
          ∙ (after (b.0).0).same_err (k.0 ++ back) back j (ap (f (b.0).0) (sym q) ∙ b.2)
    ];
  }

  pub starts-same : (test : ℕ → Bool) (front : List A) → starts l test (front ++ t ∷ u) ≡ starts l test (front ++ t ∷ v)
  starts-same test [] = refl
  starts-same test (x ∷ front) = refl

  pub branch-tame : (test : ℕ → Bool) (a b : List A → Answer A) → IsTame a → IsTame b → IsTame (λ ts. if starts l test ts then a ts else b ts)
  branch-tame test a b m k = record {
    front_ok = λ ts p e. elim (chosen (starts l test ts) (a ts) (b ts) (Ok p) e) [ inl h ↦ m.front_ok ts p h.1 | inr h ↦ k.front_ok ts p h.1 ];
    front_err = λ ts c e. elim (chosen (starts l test ts) (a ts) (b ts) (Err c) e) [ inl h ↦ m.front_err ts c h.1 | inr h ↦ k.front_err ts c h.1 ];
    same_ok = λ front back w e. elim (chosen (starts l test (front ++ t ∷ u)) (a (front ++ t ∷ u)) (b (front ++ t ∷ u)) (Ok (w, back ++ t ∷ u)) e) [
      | inl h ↦ branch _ _ _ (sym (starts-same test front) ∙ h.0) ∙ m.same_ok front back w h.1
      | inr h ↦ branch_not _ _ _ (sym (starts-same test front) ∙ h.0) ∙ k.same_ok front back w h.1
    ];
    same_err = λ front back j e. elim (chosen (starts l test (front ++ t ∷ u)) (a (front ++ t ∷ u)) (b (front ++ t ∷ u)) (Err (j, back ++ t ∷ u)) e) [
      | inl h ↦ branch _ _ _ (sym (starts-same test front) ∙ h.0) ∙ m.same_err front back j h.1
      | inr h ↦ branch_not _ _ _ (sym (starts-same test front) ∙ h.0) ∙ k.same_err front back j h.1
    ];
  }

  -- a fault whose kind the next token tells
  pub fault-tame : (test : ℕ → Bool) → IsTame (λ ts. Err (starts l test ts, ts))
  fault-tame test = record {
    front_ok = λ ts p e. absurd (cc (e));
    front_err = λ ts c e. ([], ap (λ q. q.1) (same_err (starts l test ts, ts) c e));
    same_ok = λ front back a e. absurd (cc (e));
    same_err = λ front back k e.
        let q = same_err (starts l test (front ++ t ∷ u), front ++ t ∷ u) (k, back ++ t ∷ u) e in
        let f : front ≡ back = append_cancel_right front back (t ∷ u) (ap (λ q. q.1) q) in
        let w : starts l test (front ++ t ∷ v) ≡ k = sym (starts-same test front) ∙ ap (λ q. q.0) q in
        ap (λ b. Err (b, front ++ t ∷ v)) w ∙ ap (λ f. Err (k, f ++ t ∷ v)) f;
  }

  pub wrong-tame : IsTame (λ ts. Err (false, ts))
  wrong-tame = record {
    front_ok = λ ts p e. absurd (cc (e));
    front_err = λ ts c e. ([], ap (λ q. q.1) (same_err (false, ts) c e));
    same_ok = λ front back a e. absurd (cc (e));
    same_err = λ front back k e.
        let q = same_err (false, front ++ t ∷ u) (k, back ++ t ∷ u) e in
        let f : front ≡ back = append_cancel_right front back (t ∷ u) (ap (λ q. q.1) q) in
        ap (λ b. Err (b, front ++ t ∷ v)) (ap (λ q. q.0) q) ∙ ap (λ f. Err (k, f ++ t ∷ v)) f;
  }

  pub token-again : (kinds : List ℕ) (s : A) (ts : List A) → among kinds (l.kind s) ≡ true → token_at l kinds (s ∷ ts) ≡ Ok (leaf s, ts)
  token-again kinds s ts e = branch _ _ _ e

  pub token-same : (kinds : List ℕ) (front : List A) (k : Bool) → token_at l kinds (front ++ t ∷ u) ≡ Err (k, front ++ t ∷ u)
      → token_at l kinds (front ++ t ∷ v) ≡ Err (k, front ++ t ∷ v)
  token-same kinds [] k e = elim (chosen (among kinds (l.kind t)) (Ok (leaf t, u)) (Err (false, t ∷ u)) (Err (k, t ∷ u)) e) [
    | inl h ↦ absurd (cc (h.1))
    | inr h ↦ branch_not _ _ _ h.0 ∙ ap (λ b. Err (b, t ∷ v)) (ap (λ q. q.0) (same_err (false, t ∷ u) (k, t ∷ u) h.1))
  ]
  token-same kinds (x ∷ front) k e =
      elim (chosen (among kinds (l.kind x)) (Ok (leaf x, front ++ t ∷ u)) (Err (false, x ∷ (front ++ t ∷ u))) (Err (k, x ∷ (front ++ t ∷ u))) e) [
        | inl h ↦ absurd (cc (h.1))
        | inr h ↦ branch_not _ _ _ h.0 ∙ ap (λ b. Err (b, x ∷ (front ++ t ∷ v))) (ap (λ q. q.0) (same_err (false, x ∷ (front ++ t ∷ u)) (k, x ∷ (front ++ t ∷ u)) h.1))
      ]

  pub token-tame : (kinds : List ℕ) → IsTame (token_at l kinds)
  token-tame kinds = record {
    front_ok = λ ts p e. let k = token-ok l kinds ts p e in (k.0 ∷ [], k.1);
    front_err = λ ts c e. ([], ap (λ q. q.1) (token-err l kinds ts c e));
    same_ok = λ front back a e.
        let k = token-ok l kinds (front ++ t ∷ u) (a, back ++ t ∷ u) e in
        let f : front ≡ k.0 ∷ back = append_cancel_right front (k.0 ∷ back) (t ∷ u) k.1 in
        ap (λ f. token_at l kinds (f ++ t ∷ v)) f ∙ token-again kinds k.0 (back ++ t ∷ v) k.2 ∙ ap (λ w. Ok (w, back ++ t ∷ v)) (sym k.3);
    same_err = λ front back k e.
        let f : front ≡ back = append_cancel_right front back (t ∷ u) (ap (λ q. q.1) (token-err l kinds (front ++ t ∷ u) (k, back ++ t ∷ u) e)) in
        token-same kinds front k (e ∙ ap (λ f. Err (k, f ++ t ∷ u)) (sym f)) ∙ ap (λ f. Err (k, f ++ t ∷ v)) f;
  }

  pub fork-same : (a b : List A → Answer A) → IsTame a → IsTame b → (front back : List A) (k : Bool)
      → furthest (a (front ++ t ∷ u)) (b (front ++ t ∷ u)) ≡ Err (k, back ++ t ∷ u) → furthest (a (front ++ t ∷ v)) (b (front ++ t ∷ v)) ≡ Err (k, back ++ t ∷ v)
  fork-same a b m n front back k e =
      let f = fork_err (a (front ++ t ∷ u)) (b (front ++ t ∷ u)) (k, back ++ t ∷ u) e in
      let w₁ = m.front_err (front ++ t ∷ u) f.0 f.2 in
      let w₂ = n.front_err (front ++ t ∷ u) f.1 f.3 in
      let kinds : ((f.0).0 || (f.1).0) ≡ k = ap (λ q. q.0) f.4 in
      let place : further (f.0).1 (f.1).1 ≡ back ++ t ∷ u = ap (λ q. q.1) f.4 in
      elim (leb_tells (length (f.0).1) (length (f.1).1)) [
        | inl h ↦
            let is : (f.0).1 ≡ back ++ t ∷ u = sym (further-first (f.0).1 (f.1).1 h.1) ∙ place in
            let w = ends w₁.0 w₂.0 (f.0).1 (f.1).1 (front ++ t ∷ u) w₁.1 w₂.1 h.1 in
            let other : (f.1).1 ≡ (w.0 ++ back) ++ t ∷ u = w.1 ∙ ap (λ l. w.0 ++ l) is ∙ sym (append_assoc w.0 back (t ∷ u)) in
            both_fault ((f.0).0, back ++ t ∷ v) ((f.1).0, (w.0 ++ back) ++ t ∷ v) (m.same_err front back (f.0).0 (f.2 ∙ ap (λ l. Err ((f.0).0, l)) is))
            (n.same_err front (w.0 ++ back) (f.1).0 (f.3 ∙ ap (λ l. Err ((f.1).0, l)) other))
            ∙ ap (λ q. Err (q, further (back ++ t ∷ v) ((w.0 ++ back) ++ t ∷ v))) kinds
            ∙ ap (λ l. Err (k, l)) (further-first (back ++ t ∷ v) ((w.0 ++ back) ++ t ∷ v)
            (omega (arith, length-append back (t ∷ v), length-append (w.0 ++ back) (t ∷ v), length-append w.0 back)))
        | inr h ↦
            let is : (f.1).1 ≡ back ++ t ∷ u = sym (further-second (f.0).1 (f.1).1 h.1) ∙ place in
            let le : length (f.1).1 ≤ length (f.0).1 = omega (arith, h.1) in
            let w = ends w₂.0 w₁.0 (f.1).1 (f.0).1 (front ++ t ∷ u) w₂.1 w₁.1 le in
            let other : (f.0).1 ≡ (w.0 ++ back) ++ t ∷ u = w.1 ∙ ap (λ l. w.0 ++ l) is ∙ sym (append_assoc w.0 back (t ∷ u)) in
            let size : length (f.0).1 ≡ length w.0 + length (f.1).1 = ap (λ l. length l) w.1 ∙ length-append w.0 (f.1).1 in
            both_fault ((f.0).0, (w.0 ++ back) ++ t ∷ v) ((f.1).0, back ++ t ∷ v) (m.same_err front (w.0 ++ back) (f.0).0 (f.2 ∙ ap (λ l. Err ((f.0).0, l)) other))
            (n.same_err front back (f.1).0 (f.3 ∙ ap (λ l. Err ((f.1).0, l)) is))
            ∙ ap (λ q. Err (q, further ((w.0 ++ back) ++ t ∷ v) (back ++ t ∷ v))) kinds
            ∙ ap (λ l. Err (k, l)) (further-second ((w.0 ++ back) ++ t ∷ v) (back ++ t ∷ v)
            (omega (arith, h.1, size, length-append back (t ∷ v), length-append (w.0 ++ back) (t ∷ v), length-append w.0 back)))
      ]
    where
      both_fault : (x y : Fault A) → a (front ++ t ∷ v) ≡ Err x → b (front ++ t ∷ v) ≡ Err y → furthest (a (front ++ t ∷ v)) (b (front ++ t ∷ v)) ≡ Err (later x y)
      both_fault x y ex ey = rw (ex, ey) refl

  pub fork-tame : (a b : List A → Answer A) → NotBoth a b → IsTame a → IsTame b → IsTame (λ ts. furthest (a ts) (b ts))
  fork-tame a b n m k = record {
    front_ok = λ ts p e. elim (fork_ok (a ts) (b ts) p e) [ inl h ↦ m.front_ok ts p h | inr h ↦ k.front_ok ts p h.0 ];
    front_err = λ ts c e.
        let f = fork_err (a ts) (b ts) c e in
        let place : further (f.0).1 (f.1).1 ≡ c.1 = ap (λ q. q.1) f.4 in
        elim (leb_tells (length (f.0).1) (length (f.1).1)) [
          | inl h ↦ let w = m.front_err ts f.0 f.2 in (w.0, w.1 ∙ ap (λ l. w.0 ++ l) (sym (further-first (f.0).1 (f.1).1 h.1) ∙ place))
          | inr h ↦ let w = k.front_err ts f.1 f.3 in (w.0, w.1 ∙ ap (λ l. w.0 ++ l) (sym (further-second (f.0).1 (f.1).1 h.1) ∙ place))
        ];
    same_ok = λ front back w e. elim (fork_ok (a (front ++ t ∷ u)) (b (front ++ t ∷ u)) (w, back ++ t ∷ u) e) [
      | inl h ↦ ap (λ r. furthest r (b (front ++ t ∷ v))) (m.same_ok front back w h)
      | inr h ↦ let read : b (front ++ t ∷ v) ≡ Ok (w, back ++ t ∷ v) = k.same_ok front back w h.0 in
          furthest-second _ _ _ read (λ q f. n (front ++ t ∷ v) q (w, back ++ t ∷ v) f read)
    ];
    same_err = fork-same a b m k;
  }

  pub perhaps-tame : (b : Bool) (rd : List A → Answer A) → IsTame rd → IsTame (perhaps b rd)
  perhaps-tame true rd m = m
  perhaps-tame false rd m = done-tame tip

  pub choose-tame : (b : Bool) (rd rd' : List A → Answer A) → IsTame rd → IsTame rd' → IsTame (choose b rd rd')
  choose-tame true rd rd' m n = m
  choose-tame false rd rd' m n = n

  pub many-tame : (test : ℕ → Bool) (more : Tree A → Bool) (rd : List A → Answer A) → IsTame rd → (n : ℕ) → IsTame (many_at l test more rd n)
  unfolding many_at
  many-tame test more rd m zero = wrong-tame
  many-tame test more rd m (suc n) =
      branch-tame test (λ ts. rd ts >>= turn l test more rd n) (λ ts. Ok (tip, ts))
      (bind-tame rd (λ x ts. turn l test more rd n (x, ts)) m
      (λ x. bind-tame (perhaps (more x) (many_at l test more rd n)) (λ y ts. Ok (pair x y, ts))
      (perhaps-tame (more x) (many_at l test more rd n) (many-tame test more rd m n)) (λ y. done-tame (pair x y))))
      (done-tame tip)

  pub refused-tame : (stop : List ℕ) (rd : List A → Answer A) → IsTame rd → IsTame (λ ts. refused l stop (rd ts))
  refused-tame stop rd m = bind-tame rd (λ a ts. if starts l (among stop) ts then Err (false, ts) else Ok (a, ts)) m
      (λ a. branch-tame (among stop) (λ ts. Err (false, ts)) (λ ts. Ok (a, ts)) wrong-tame (done-tame a))

  pub second-tame : (rd : List A → Answer A) (f : Tree A → List A → Answer A) → IsTame rd → ((a : Tree A) → IsTame (f a)) → IsTame (λ ts. rd ts >>= second l f)
  second-tame rd f m k = bind-tame rd (λ a ts. second l f (a, ts)) m (λ a. bind-tame (f a) (λ b ts. Ok (pair a b, ts)) (k a) (λ b. done-tame (pair a b)))

  pub read_at-tame : (limit : ℕ) (r : ℕ → List A → Answer A) → ((n : ℕ) → IsTame (r n)) → ((n : ℕ) → InPlace l.rules (l.rules n)) → ((n : ℕ) → Apart l limit r (l.rules n))
      → (x : Grammar A) → InPlace l.rules x → Apart l limit r x → IsTame (read_at l limit r x)
  unfolding read_at Apart InPlace
  read_at-tame limit r m i d empty p s = done-tame tip
  read_at-tame limit r m i d (token kinds) p s = token-tame kinds
  read_at-tame limit r m i d (call name) p s = m name
  read_at-tame limit r m i d (line name x) p s =
      read_at-tame limit r m i d x (subst (InPlace l.rules) (sym p) (i name)) (subst (Apart l limit r) (sym p) (d name))
  read_at-tame limit r m i d (both x y) p s =
      second-tame (read_at l limit r x) (λ _. read_at l limit r y) (read_at-tame limit r m i d x p.0 s.0) (λ _. read_at-tame limit r m i d y p.1 s.1)
  read_at-tame limit r m i d (either x y) p s =
      branch-tame (among (firsts l.heads x)) (read_at l limit r x) (read_at l limit r y) (read_at-tame limit r m i d x p.0 s.0) (read_at-tame limit r m i d y p.1 s.1)
  read_at-tame limit r m i d (fork stop x y) p s =
      fork-tame (λ ts. refused l stop (read_at l limit r x ts)) (read_at l limit r y) s.2
      (refused-tame stop (read_at l limit r x) (read_at-tame limit r m i d x p.0 s.0)) (read_at-tame limit r m i d y p.1 s.1)
  read_at-tame limit r m i d (many more x) p s =
      many-tame (among (firsts l.heads x)) more (read_at l limit r x) (read_at-tame limit r m i d x p s) limit
  read_at-tame limit r m i d (named name x) p s =
      bind-tame (read_at l limit r x) (λ a ts. Ok (node name a, ts)) (read_at-tame limit r m i d x p s) (λ a. done-tame (node name a))
  read_at-tame limit r m i d (prefer kinds x) p s =
      branch-tame (among kinds) (read_at l limit r x) (λ ts. Ok (tip, ts)) (read_at-tame limit r m i d x p s) (done-tame tip)
  read_at-tame limit r m i d (starting test x) p s =
      branch-tame test (read_at l limit r x) (λ ts. Err (false, ts)) (read_at-tame limit r m i d x p s) wrong-tame
  read_at-tame limit r m i d (on test x y z) p s =
      second-tame (read_at l limit r x) (λ a. choose (test a) (read_at l limit r y) (read_at l limit r z)) (read_at-tame limit r m i d x p.0 s.0)
      (λ a. choose-tame (test a) (read_at l limit r y) (read_at l limit r z) (read_at-tame limit r m i d y p.1 s.1) (read_at-tame limit r m i d z p.2 s.2))

  pub read-tame : (limit : ℕ) → ((n : ℕ) → InPlace l.rules (l.rules n)) → ((depth n : ℕ) → Apart l limit (read l limit depth) (l.rules n))
      → (depth n : ℕ) → IsTame (read l limit depth n)
  unfolding read
  read-tame limit i s zero n = fault-tame (among (l.heads n))
  read-tame limit i s (suc depth) n =
      read_at-tame limit (read l limit depth) (read-tame limit i s depth) i (s depth) (l.rules n) (i n) (s depth n)
