-- A reader by a grammar that goes on with what it read, and at a fork goes by what stands ahead. A fault is told as the parser tells it.
use Rattle.std.proofs.Common.{inl, inr, true, false, Bool, ◌⊎◌, ◌≡◌, ℕ, zero, suc, List, [], ◌∷◌, length, refl, ap, sym, ◌∙◌}
use Rattle.std.specs.Prelude.{if◌then◌else◌, Result, Ok, Err}
use Rattle.grammar.specs.Kinds.{among}
use Rattle.grammar.specs.Grammar.{Tree, tip, leaf, pair, node, Grammar, empty, token, call, line, both, either, fork, many, named, prefer, starting, on, Language, starts}
use Rattle.grammar.specs.Reading.{firsts}
use Rattle.js_token.specs.declared.token.Token.{Token}
use Rattle.js_parse.specs.declared.fault.Fault.{Fault}
use Rattle.js_parse.specs.declared.fault.Fault.TheVariants as fault
use Rattle.js_parse.specs.declared.symbol.Symbol.TheVariants as s
use Rattle.js_parse.specs.Symbols.{same}
use Rattle.js_parse.specs.Ready.{symbol_of}
use Rattle.js_parse.specs.Input.{place_at, later}

-- what is told, or the fault
abbrev pub Told : Type 0 → Type 0
Told C = Result C Fault

abbrev pub Was : Type 0 → Type 0
Was A = Told (Tree A × List A)

-- what goes on behind a tree
abbrev pub Goes : Type 0 → Type 0 → Type 0
Goes A C = Tree A → List A → Told C

abbrev pub done : {A : Type 0} → Goes A (Tree A × List A)
done tree rest = Ok (tree, rest)

abbrev pub called : {A C : Type 0} → Was A → Goes A C → Told C
called (Err e) k = Err e
called (Ok p) k = k p.0 p.1

-- no rule reads the next token
abbrev pub wrong : List Token → Fault
wrong ts = fault.Token (place_at ts) false

-- the next token begins a level too deep, or begins none
abbrev pub too_far : Bool → List Token → Fault
too_far begins ts = if begins then fault.Deep (place_at ts) else wrong ts

-- ---- two readings

abbrev pub fault_in : Was Token → Fault
fault_in (Ok p) = wrong p.1
fault_in (Err e) = e

abbrev pub first_of : Was Token → Was Token → Was Token
first_of (Ok p) other = Ok p
first_of (Err (fault.Token a false)) other = Err (later a (fault_in other))
first_of (Err (fault.Token a true)) other = Err (fault.Token a true)
first_of (Err (fault.Deep a)) other = Err (fault.Deep a)
first_of (Err fault.Memory) other = Err fault.Memory

-- by whether a parenthesis comes next, and whether an arrow comes
abbrev pub forked : Bool → Bool → Was Token → Was Token → Was Token
forked true true x y = first_of y x
forked true false x y = first_of x y
forked false true x y = y
forked false false x y = x

abbrev pub opens_next : List Token → Bool
opens_next ts = same (symbol_of ts) s.OpenParen

module _ (l : Language Token) where
  abbrev pub taking : {C : Type 0} → List ℕ → List Token → Goes Token C → Told C
  taking kinds [] k = Err (wrong [])
  taking kinds (t ∷ ts) k = if among kinds (l.kind t) then k (leaf t) ts else Err (wrong (t ∷ ts))

  -- at most n of them
  unfoldable pub many_of : {C : Type 0} → (ℕ → Bool) → (Tree Token → Bool) → (List Token → Goes Token C → Told C) → ℕ → List Token → Goes Token C → Told C
  many_of test more read zero ts k = k tip ts
  many_of test more read (suc n) ts k = if starts l test ts
      then read ts (λ a rest. if more a then many_of test more read n rest (λ b end. k (pair a b) end) else k (pair a tip) rest)
      else k tip ts

  -- a right side, where `r` reads rules, and `ahead` tells which part of a fork comes
  module _ (ahead : List Token → Bool) (r : ℕ → List Token → Was Token) where
    unfoldable pub guided : {C : Type 0} → Grammar Token → List Token → Goes Token C → Told C
    guided empty ts k = k tip ts
    guided (token kinds) ts k = taking kinds ts k
    guided (call name) ts k = called (r name ts) k
    guided (line name x) ts k = guided x ts k
    guided (both x y) ts k = guided x ts (λ a mid. guided y mid (λ b rest. k (pair a b) rest))
    guided (either x y) ts k = if starts l (among (firsts l.heads x)) ts then guided x ts k else guided y ts k
    guided (fork stop x y) ts k =
        if starts l (among (firsts l.heads x)) ts then called (forked (opens_next ts) (ahead ts) (guided x ts done) (guided y ts done)) k else guided x ts k
    guided (many more x) ts k = many_of (among (firsts l.heads x)) more (guided x) (length ts) ts k
    guided (named name x) ts k = guided x ts (λ a rest. k (node name a) rest)
    guided (prefer kinds x) ts k = if starts l (among kinds) ts then guided x ts k else k tip ts
    guided (starting test x) ts k = if starts l test ts then guided x ts k else Err (wrong ts)
    guided (on test x y z) ts k =
        guided x ts (λ a mid. if test a then guided y mid (λ b rest. k (pair a b) rest) else guided z mid (λ b rest. k (pair a b) rest))

  -- a rule, where its calls nest fewer than so many deep
  unfoldable pub rule_at : (List Token → Bool) → ℕ → ℕ → List Token → Was Token
  rule_at ahead zero name ts = Err (too_far (starts l (among (l.heads name)) ts) ts)
  rule_at ahead (suc depth) name ts = guided ahead (rule_at ahead depth) (l.rules name) ts done

pub called-done : {A C : Type 0} (w : Was A) (k : Goes A C) → called w k ≡ called (called w done) k
called-done (Err e) k = refl
called-done (Ok p) k = refl

pub if-called : {A C : Type 0} (b : Bool) (x y : Told C) (v w : Was A) (k : Goes A C) → x ≡ called v k → y ≡ called w k
    → (if b then x else y) ≡ called (if b then v else w) k
if-called true x y v w k e f = e
if-called false x y v w k e f = f

pub then-same : {A C : Type 0} (v : Was A) (f : Goes A C) (g : Goes A (Tree A × List A)) (k : Goes A C) → ((a : Tree A) (rest : List A) → f a rest ≡ called (g a rest) k)
    → called v f ≡ called (called v g) k
then-same (Err e) f g k h = refl
then-same (Ok p) f g k h = h p.0 p.1

-- what was read first
pub called_ok : {A C : Type 0} (v : Was A) (f : Goes A C) (c : C) → called v f ≡ Ok c → (q : Tree A × List A) × (v ≡ Ok q) × (f q.0 q.1 ≡ Ok c)
called_ok (Err d) f c e = absurd (cc (e))
called_ok (Ok q) f c e = (q, refl, e)

pub ok_same : {A : Type 0} (x y : A) → ◌≡◌ {A = Told A} (Ok x) (Ok y) → x ≡ y
ok_same x y e = cc (e)

pub was : {C : Type 0} (b : Bool) (x y : Told C) (c : C) → (if b then x else y) ≡ Ok c → ((b ≡ true) × (x ≡ Ok c)) ⊎ ((b ≡ false) × (y ≡ Ok c))
was true x y c e = inl (refl, e)
was false x y c e = inr (refl, e)

-- What goes on goes on with what was read.
abbrev pub Continues : {A : Type 0} → (C : Type 0) → (List A → Goes A C → Told C) → (List A → Goes A (Tree A × List A) → Was A) → Type 0
Continues {A} C g h = (ts : List A) (k : Goes A C) → g ts k ≡ called (h ts done) k

pub goes-on : {A C : Type 0} (g : List A → Goes A C → Told C) (h : List A → Goes A (Tree A × List A) → Was A) → Continues C g h → Continues (Tree A × List A) h h
    → (ts : List A) (f : Goes A C) (f' : Goes A (Tree A × List A)) (k : Goes A C) → ((a : Tree A) (rest : List A) → f a rest ≡ called (f' a rest) k)
    → g ts f ≡ called (h ts f') k
goes-on {A} {C} g h c d ts f f' k e = c ts f ∙ then-same (h ts done) f f' k e ∙ sym (ap (λ w. called w k) (d ts f'))

module _ (l : Language Token) where
  pub many-continues : (C : Type 0) (test : ℕ → Bool) (more : Tree Token → Bool) (g : List Token → Goes Token C → Told C) (h : List Token → Goes Token (Tree Token × List Token) → Was Token)
      → Continues C g h → Continues (Tree Token × List Token) h h → (n : ℕ) → Continues C (many_of l test more g n) (many_of l test more h n)
  unfolding many_of
  many-continues C test more g h c d zero ts k = refl
  many-continues C test more g h c d (suc n) ts k =
      if-called (starts l test ts) _ _ _ _ k (
      goes-on g h c d ts _ _ k (λ a rest. if-called (more a) _ _ _ _ k
      (goes-on (many_of l test more g n) (many_of l test more h n) (many-continues C test more g h c d n) (many-continues (Tree Token × List Token) test more h h d d n) rest
      (λ b end. k (pair a b) end) (λ b end. done (pair a b) end) k (λ b end. refl)) refl)
      ) refl

  module _ (ahead : List Token → Bool) (r : ℕ → List Token → Was Token) where
    pub guided-continues : (C : Type 0) (x : Grammar Token) → Continues C (guided l ahead r x) (guided l ahead r x)
    unfolding guided
    guided-continues C empty ts k = refl
    guided-continues C (token kinds) [] k = refl
    guided-continues C (token kinds) (t ∷ ts) k = if-called (among kinds (l.kind t)) _ _ _ _ k refl refl
    guided-continues C (call name) ts k = called-done (r name ts) k
    guided-continues C (line name x) ts k = guided-continues C x ts k
    guided-continues C (both x y) ts k =
        goes-on (guided l ahead r x) (guided l ahead r x) (guided-continues C x) (guided-continues (Tree Token × List Token) x) ts _ _ k
        (λ a mid. goes-on (guided l ahead r y) (guided l ahead r y) (guided-continues C y) (guided-continues (Tree Token × List Token) y) mid
        (λ b rest. k (pair a b) rest) (λ b rest. done (pair a b) rest) k (λ b rest. refl))
    guided-continues C (either x y) ts k = if-called (starts l (among (firsts l.heads x)) ts) _ _ _ _ k (guided-continues C x ts k) (guided-continues C y ts k)
    guided-continues C (fork stop x y) ts k =
        if-called (starts l (among (firsts l.heads x)) ts) _ _ _ _ k (called-done (forked (opens_next ts) (ahead ts) (guided l ahead r x ts done) (guided l ahead r y ts done)) k) (guided-continues C x ts k)
    guided-continues C (many more x) ts k =
        many-continues C (among (firsts l.heads x)) more (guided l ahead r x) (guided l ahead r x) (guided-continues C x) (guided-continues (Tree Token × List Token) x) (length ts) ts k
    guided-continues C (named name x) ts k =
        goes-on (guided l ahead r x) (guided l ahead r x) (guided-continues C x) (guided-continues (Tree Token × List Token) x) ts
        (λ a rest. k (node name a) rest) (λ a rest. done (node name a) rest) k (λ a rest. refl)
    guided-continues C (prefer kinds x) ts k = if-called (starts l (among kinds) ts) _ _ _ _ k (guided-continues C x ts k) refl
    guided-continues C (starting test x) ts k = if-called (starts l test ts) _ _ _ (Err (wrong ts)) k (guided-continues C x ts k) refl
    guided-continues C (on test x y z) ts k =
        goes-on (guided l ahead r x) (guided l ahead r x) (guided-continues C x) (guided-continues (Tree Token × List Token) x) ts _ _ k
        (λ a mid. if-called (test a) _ _ _ _ k
        (goes-on (guided l ahead r y) (guided l ahead r y) (guided-continues C y) (guided-continues (Tree Token × List Token) y) mid
        (λ b rest. k (pair a b) rest) (λ b rest. done (pair a b) rest) k (λ b rest. refl))
        (goes-on (guided l ahead r z) (guided l ahead r z) (guided-continues C z) (guided-continues (Tree Token × List Token) z) mid
        (λ b rest. k (pair a b) rest) (λ b rest. done (pair a b) rest) k (λ b rest. refl)))
