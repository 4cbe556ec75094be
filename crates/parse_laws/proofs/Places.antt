-- Where what is read ends, and where a fault is: at a token of the text.
use Rattle.std.proofs.Common.{inl, inr, true, false, Bool, ◌⊎◌, ◌≡◌, ℕ, zero, suc, ◌+◌, ◌≤◌, ◌<◌, List, [], ◌∷◌, ◌++◌, length, Ok, Err, refl, ap, sym, subst, ◌∙◌, arith}
use Rattle.std.proofs.lemmas.Bool.Decides.{leb_tells}
use Rattle.std.specs.Prelude.{if◌then◌else◌, ◌==◌, nat_lt}
use Rattle.grammar.specs.Kinds.{among, apart}
use Rattle.grammar.specs.Grammar.{Tree, tip, leaf, pair, Grammar, empty, token, call, line, both, either, fork, many, named, prefer, starting, on, starts}
use Rattle.grammar.specs.Reading.{firsts, further}
use Rattle.grammar.specs.Tests.{InPlace}
use Rattle.grammar.proofs.Laws.{rows}
use Rattle.grammar.proofs.Sets.{and_both, not_true, apart-tells}
use Rattle.grammar.proofs.Local.{ends, further-first, further-second}
use Rattle.grammar.proofs.Free.{free}
use Rattle.js_token.specs.declared.token.Token.{Token}
use Rattle.js_token.specs.Lists.{AscendFrom}
use Rattle.js_grammar.specs.Script.{script, script_language}
use Rattle.js_grammar.proofs.Ends.{rules-free}
use Rattle.js_parse.specs.declared.fault.Fault.{Fault}
use Rattle.js_parse.specs.declared.fault.Fault.TheVariants as fault
use Rattle.js_parse.specs.Input.{place_at, later}
use Rattle.parse_laws.specs.Kinds.{token_kind}
use Rattle.parse_laws.proofs.Guided.{Was, Goes, done, called, wrong, too_far, first_of, forked, fault_in, opens_next, taking, many_of, guided, rule_at, many-continues, guided-continues}
use Rattle.parse_laws.proofs.Walk.{language, language-fits, ahead, rule}
use Rattle.parse_laws.proofs.Scripts.{end_kinds}

-- ---- ends of a list

-- A token says that the text ends.
abbrev pub EndsIn : List Token → Type 0
EndsIn [] = ⊥
EndsIn (t ∷ ts) = (among end_kinds (token_kind t) ≡ true) ⊎ EndsIn ts

-- a part of the list, up to its end
abbrev pub Within : List Token → List Token → Type 0
Within ts left = (f : List Token) × (ts ≡ f ++ left) × EndsIn left

pub within-self : (ts : List Token) → EndsIn ts → Within ts ts
within-self ts e = ([], refl, e)

pub within-more : (ts mid left : List Token) → Within ts mid → Within mid left → Within ts left
within-more ts mid left a b = (a.0 ++ b.0, rows a.0 b.0 ts mid left a.1 b.1, b.2)

abbrev pub Ascends : List Token → Type 0
Ascends ts = (low : ℕ) × AscendFrom low ts

pub ascends-behind : (f ts left : List Token) → ts ≡ f ++ left → Ascends ts → Ascends left
ascends-behind f ts left e a = by f a.0 (subst (λ ts. AscendFrom a.0 ts) e a.1)
  where
    by : (f : List Token) (low : ℕ) → AscendFrom low (f ++ left) → Ascends left
    by [] low a = (low, a)
    by (t ∷ f) low a = by f (t.place + 1) a.1

pub place-low : (low : ℕ) (ts : List Token) → AscendFrom low ts → EndsIn ts → low ≤ place_at ts
place-low low [] a e = absurd e
place-low low (t ∷ ts) a e = a.0

pub place-behind : (f left : List Token) (low : ℕ) → AscendFrom low (f ++ left) → EndsIn left → low ≤ place_at left
place-behind [] left low a e = place-low low left a e
place-behind (t ∷ f) left low a e = let k = place-behind f left (t.place + 1) a.1 e in let l = a.0 in omega (arith, k, l)

-- a proper end stands further
pub place-further : (t : Token) (f ts left : List Token) → Ascends ts → ts ≡ (t ∷ f) ++ left → EndsIn left → place_at ts < place_at left
place-further t f ts left a e i =
    let up : AscendFrom a.0 (t ∷ (f ++ left)) = subst (λ ts. AscendFrom a.0 ts) e a.1 in
    let k = place-behind f left (t.place + 1) up.1 i in
    let same : place_at ts ≡ t.place = ap (λ ts. place_at ts) e in
    omega (arith, k, same)

pub within-place : (ts left : List Token) → Ascends ts → Within ts left → place_at ts ≤ place_at left
within-place ts left a w = by w.0 w.1
  where
    by : (f : List Token) → ts ≡ f ++ left → place_at ts ≤ place_at left
    by [] e = let same : place_at ts ≡ place_at left = ap (λ ts. place_at ts) e in omega (arith, same)
    by (t ∷ f) e = let less = place-further t f ts left a e w.2 in omega (arith, less)

-- of two ends of a list the shorter stands further
pub ends-order : (ts a b : List Token) → Ascends ts → Within ts a → Within ts b → length a ≤ length b → (a ≡ b) ⊎ (place_at b < place_at a)
ends-order ts a b up v w few = let k = ends v.0 w.0 a b ts v.1 w.1 few in by k.0 k.1
  where
    by : (f : List Token) → b ≡ f ++ a → (a ≡ b) ⊎ (place_at b < place_at a)
    by [] e = inl (sym e)
    by (t ∷ f) e = inr (place-further t f b a (ascends-behind w.0 ts b w.1 up) e v.2)

pub ends-same : (ts a b : List Token) → Ascends ts → Within ts a → Within ts b → place_at a ≡ place_at b → a ≡ b
ends-same ts a b up v w e = elim (leb_tells (length a) (length b)) [
  | inl h ↦ elim (ends-order ts a b up v w h.1) [ inl k ↦ k | inr k ↦ absurd (omega (arith, k, e)) ]
  | inr h ↦ elim (ends-order ts b a up w v (omega (arith, h.1))) [ inl k ↦ sym k | inr k ↦ absurd (omega (arith, k, e)) ]
]

pub further-second_place : (ts a b : List Token) → Ascends ts → Within ts a → Within ts b → place_at a ≤ place_at b → further a b ≡ b
further-second_place ts a b up v w le = elim (leb_tells (length a) (length b)) [
  | inl h ↦ elim (ends-order ts a b up v w h.1) [ inl k ↦ further-first a b h.1 ∙ k | inr k ↦ absurd (omega (arith, k, le)) ]
  | inr h ↦ further-second a b h.1
]

pub further-first_place : (ts a b : List Token) → Ascends ts → Within ts a → Within ts b → place_at b ≤ place_at a → further a b ≡ a
further-first_place ts a b up v w le = elim (leb_tells (length a) (length b)) [
  | inl h ↦ further-first a b h.1
  | inr h ↦ elim (ends-order ts b a up w v (omega (arith, h.1))) [ inl k ↦ further-second a b h.1 ∙ k | inr k ↦ absurd (omega (arith, k, le)) ]
]

-- ---- the fault at an end

abbrev pub fault_at : Bool → Bool → List Token → Fault
fault_at true sure left = fault.Deep (place_at left)
fault_at false sure left = fault.Token (place_at left) sure

-- What is read ends within the list, and a fault is at an end of it.
abbrev pub Stands : List Token → Was Token → Type 0
Stands ts (Ok q) = Within ts q.1
Stands ts (Err e) = (deep sure : Bool) × (left : List Token) × (e ≡ fault_at deep sure left) × Within ts left

pub stands-more : (ts mid : List Token) → Within ts mid → (w : Was Token) → Stands mid w → Stands ts w
stands-more ts mid v (Ok q) s = within-more ts mid q.1 v s
stands-more ts mid v (Err e) s = (s.0, s.1, s.2, s.3, within-more ts mid s.2 v s.4)

pub stands-then : (ts : List Token) (w : Was Token) (k : Goes Token (Tree Token × List Token)) → Stands ts w → ((a : Tree Token) (m : List Token) → Within ts m → Stands ts (k a m)) → Stands ts (called w k)
stands-then ts (Ok q) k s h = h q.0 q.1 s
stands-then ts (Err e) k s h = s

pub stands-if : (b : Bool) (ts : List Token) (x y : Was Token) → Stands ts x → Stands ts y → Stands ts (if b then x else y)
stands-if true ts x y v w = v
stands-if false ts x y v w = w

abbrev pub FaultStands : List Token → Fault → Type 0
FaultStands ts e = (deep sure : Bool) × (left : List Token) × (e ≡ fault_at deep sure left) × Within ts left

pub later-stands : (ts left : List Token) (e : Fault) → Within ts left → FaultStands ts e → FaultStands ts (later (place_at left) e)
later-stands ts left e w s = subst (λ e. FaultStands ts (later (place_at left) e)) (sym s.3) (by s.0 s.1)
  where
    by : (d s₁ : Bool) → FaultStands ts (later (place_at left) (fault_at d s₁ s.2))
    by true s₁ = pick (nat_lt (place_at s.2) (place_at left))
      where
        pick : (b : Bool) → FaultStands ts (if b then fault.Token (place_at left) true else fault.Deep (place_at s.2))
        pick true = (false, true, left, refl, w)
        pick false = (true, false, s.2, refl, s.4)
    by false s₁ = pick (nat_lt (place_at left) (place_at s.2))
      where
        pick : (b : Bool) → FaultStands ts (if b then fault.Token (place_at s.2) true else fault.Token (place_at left) true)
        pick true = (false, true, s.2, refl, s.4)
        pick false = (false, true, left, refl, w)

pub fault_in-stands : (ts : List Token) (y : Was Token) → Stands ts y → FaultStands ts (fault_in y)
fault_in-stands ts (Ok q) s = (false, false, q.1, refl, s)
fault_in-stands ts (Err e) s = s

pub first-stands : (ts : List Token) (x y : Was Token) → Stands ts x → Stands ts y → Stands ts (first_of x y)
first-stands ts (Ok q) y v w = v
first-stands ts (Err e) y v w = subst (λ e. Stands ts (first_of (Err e) y)) (sym v.3) (by v.0 v.1)
  where
    by : (d s₁ : Bool) → Stands ts (first_of (Err (fault_at d s₁ v.2)) y)
    by true s₁ = (true, s₁, v.2, refl, v.4)
    by false true = (false, true, v.2, refl, v.4)
    by false false = later-stands ts v.2 (fault_in y) v.4 (fault_in-stands ts y w)

pub forked-stands : (ts : List Token) (c a : Bool) (x y : Was Token) → Stands ts x → Stands ts y → Stands ts (forked c a x y)
forked-stands ts true true x y v w = first-stands ts y x w v
forked-stands ts true false x y v w = first-stands ts x y v w
forked-stands ts false true x y v w = w
forked-stands ts false false x y v w = v

-- ---- what is read of parts that the end doesn't stand in

pub behind-other : (kinds : List ℕ) (t : Token) (ts : List Token) → apart kinds end_kinds ≡ true → among kinds (token_kind t) ≡ true → EndsIn (t ∷ ts) → EndsIn ts
behind-other kinds t ts v k e = elim e [ inl h ↦ absurd (apart-tells kinds end_kinds (token_kind t) v k h) | inr h ↦ h ]

pub taking-stands : (kinds : List ℕ) (ts : List Token) → apart kinds end_kinds ≡ true → EndsIn ts → Stands ts (taking language kinds ts done)
taking-stands kinds [] v e = absurd e
taking-stands kinds (t ∷ ts) v e = by (among kinds (token_kind t)) refl
  where
    by : (b : Bool) → among kinds (token_kind t) ≡ b → Stands (t ∷ ts) (if b then done (leaf t) ts else Err (wrong (t ∷ ts)))
    by true k = (t ∷ [], refl, behind-other kinds t ts v k e)
    by false k = (false, false, t ∷ ts, refl, within-self (t ∷ ts) e)

abbrev pub AllStand : (List Token → Goes Token (Tree Token × List Token) → Was Token) → Type 0
AllStand g = (ts : List Token) → EndsIn ts → Stands ts (g ts done)

pub then-stands : (x : Grammar Token) (r : ℕ → List Token → Was Token) (ts : List Token) (k : Goes Token (Tree Token × List Token)) → Stands ts (guided language ahead r x ts done)
    → ((a : Tree Token) (m : List Token) → Within ts m → Stands ts (k a m)) → Stands ts (guided language ahead r x ts k)
then-stands x r ts k s h = subst (Stands ts) (sym (guided-continues language ahead r (Tree Token × List Token) x ts k)) (stands-then ts (guided language ahead r x ts done) k s h)

pub each-free : (n : ℕ) → (n == script) ≡ false → free end_kinds script (language.rules n) ≡ true
unfolding script_language
each-free n o = rules-free n o

module _ (r : ℕ → List Token → Was Token) (h : (n : ℕ) → (n == script) ≡ false → (ts : List Token) → EndsIn ts → Stands ts (r n ts)) where
  -- a part of a part
  pub next-stands : (x : Grammar Token) → AllStand (guided language ahead r x) → (ts m : List Token) → Within ts m → (f : Tree Token → Tree Token)
      → Stands ts (guided language ahead r x m (λ b l. done (f b) l))
  next-stands x s ts m w f = stands-more ts m w _ (then-stands x r m (λ b l. done (f b) l) (s m w.2) (λ b l v. v))

  pub many-stand : (test : ℕ → Bool) (more : Tree Token → Bool) (x : Grammar Token) → AllStand (guided language ahead r x) → (n : ℕ)
      → AllStand (many_of language test more (guided language ahead r x) n)
  unfolding many_of
  many-stand test more x s zero ts e = within-self ts e
  many-stand test more x s (suc n) ts e =
      stands-if (starts language test ts) ts _ (done tip ts)
      (then-stands x r ts _ (s ts e) (λ a m w. stands-if (more a) ts _ (done (pair a tip) m)
      (stands-more ts m w _ (subst (Stands m) (sym (many-continues language (Tree Token × List Token) test more (guided language ahead r x) (guided language ahead r x)
      (guided-continues language ahead r (Tree Token × List Token) x) (guided-continues language ahead r (Tree Token × List Token) x) n m (λ b l. done (pair a b) l)))
      (stands-then m (many_of language test more (guided language ahead r x) n m done) (λ b l. done (pair a b) l) (many-stand test more x s n m w.2) (λ b l v. v))))
      w))
      (within-self ts e)

  pub guided-stands : (x : Grammar Token) → InPlace language.rules x → free end_kinds script x ≡ true → AllStand (guided language ahead r x)
  unfolding guided free InPlace
  guided-stands empty i v ts e = within-self ts e
  guided-stands (token kinds) i v ts e = taking-stands kinds ts v e
  guided-stands (call name) i v ts e = stands-then ts (r name ts) done (h name (not_true (name == script) v) ts e) (λ a m w. w)
  guided-stands (line name x) i v ts e =
      guided-stands x (subst (InPlace language.rules) (sym i) (language-fits name).1) (subst (λ y. free end_kinds script y ≡ true) (sym i) (each-free name (not_true (name == script) v))) ts e
  guided-stands (both x y) i v ts e =
      let v₁ = and_both (free end_kinds script x) (free end_kinds script y) v in
      then-stands x r ts _ (guided-stands x i.0 v₁.0 ts e) (λ a m w. next-stands y (guided-stands y i.1 v₁.1) ts m w (λ b. pair a b))
  guided-stands (either x y) i v ts e =
      let v₁ = and_both (free end_kinds script x) (free end_kinds script y) v in
      stands-if (starts language (among (firsts language.heads x)) ts) ts _ _ (guided-stands x i.0 v₁.0 ts e) (guided-stands y i.1 v₁.1 ts e)
  guided-stands (fork stop x y) i v ts e =
      let v₁ = and_both (free end_kinds script x) (free end_kinds script y) v in
      let w = guided language ahead r x ts done in
      let u = guided language ahead r y ts done in
      stands-if (starts language (among (firsts language.heads x)) ts) ts _ _
      (stands-then ts (forked (opens_next ts) (ahead ts) w u) done (forked-stands ts (opens_next ts) (ahead ts) w u (guided-stands x i.0 v₁.0 ts e) (guided-stands y i.1 v₁.1 ts e)) (λ a m w. w))
      (guided-stands x i.0 v₁.0 ts e)
  guided-stands (many more x) i v ts e = many-stand (among (firsts language.heads x)) more x (guided-stands x i v) (length ts) ts e
  guided-stands (named name x) i v ts e = then-stands x r ts _ (guided-stands x i v ts e) (λ a m w. w)
  guided-stands (prefer kinds x) i v ts e = stands-if (starts language (among kinds) ts) ts _ (done tip ts) (guided-stands x i v ts e) (within-self ts e)
  guided-stands (starting test x) i v ts e = stands-if (starts language test ts) ts _ (Err (wrong ts)) (guided-stands x i v ts e) (false, false, ts, refl, within-self ts e)
  guided-stands (on test x y z) i v ts e =
      let v₁ = and_both (free end_kinds script x) _ v in
      let v₂ = and_both (free end_kinds script y) (free end_kinds script z) v₁.1 in
      then-stands x r ts _ (guided-stands x i.0 v₁.0 ts e) (λ a m w. stands-if (test a) ts _ _ (next-stands y (guided-stands y i.1 v₂.0) ts m w (λ b. pair a b))
      (next-stands z (guided-stands z i.2 v₂.1) ts m w (λ b. pair a b)))

pub rule-stands : (depth n : ℕ) → (n == script) ≡ false → (ts : List Token) → EndsIn ts → Stands ts (rule depth n ts)
unfolding rule_at
rule-stands zero n o ts e = by (starts language (among (language.heads n)) ts)
  where
    by : (b : Bool) → Stands ts (Err (too_far b ts))
    by true = (true, false, ts, refl, within-self ts e)
    by false = (false, false, ts, refl, within-self ts e)
rule-stands (suc depth) n o ts e = guided-stands (rule depth) (rule-stands depth) (language.rules n) (language-fits n).1 (each-free n o) ts e

-- ---- numbers of places

-- It ends, or has its fault, no earlier.
abbrev pub fault_place : Fault → ℕ
fault_place (fault.Token at sure) = at
fault_place (fault.Deep at) = at
fault_place fault.Memory = 0

abbrev pub Past : ℕ → Was Token → Type 0
Past p (Ok q) = p ≤ place_at q.1
Past p (Err e) = p ≤ fault_place e

pub stands-past : (ts : List Token) (w : Was Token) → Ascends ts → Stands ts w → Past (place_at ts) w
stands-past ts (Ok q) up s = within-place ts q.1 up s
stands-past ts (Err e) up s = subst (λ e. place_at ts ≤ fault_place e) (sym s.3) (by s.0)
  where
    by : (d : Bool) → place_at ts ≤ fault_place (fault_at d s.1 s.2)
    by true = within-place ts s.2 up s.4
    by false = within-place ts s.2 up s.4

pub past-more : (p q : ℕ) (w : Was Token) → p ≤ q → Past q w → Past p w
past-more p q (Ok r) le s = omega (arith, le, s)
past-more p q (Err e) le s = omega (arith, le, s)
