-- Reading by a grammar from the front, the next token telling what to do. A fault is told by what is left there.
use Rattle.std.specs.Prelude.{◌||◌, Bool, true, false, ℕ, zero, suc, List, [], ◌∷◌, ◌++◌, length, Result, Ok, Err, if◌then◌else◌, nat_le}
use Rattle.grammar.specs.Kinds.{among, kept}
use Rattle.grammar.specs.Grammar.{Tree, tip, leaf, pair, node, Grammar, empty, token, call, line, both, either, fork, many, named, prefer, starting, on, Language, starts}

-- whether it is one of nesting, and what is left from its token on
abbrev pub Fault : Type 0 → Type 0
Fault A = Bool × List A

abbrev pub Answer : Type 0 → Type 0
Answer A = Result (Tree A × List A) (Fault A)

infixl 10 ◌>>=◌
abbrev pub ◌>>=◌ : {A : Type 0} → Answer A → (Tree A × List A → Answer A) → Answer A
(Ok x) >>= f = f x
(Err e) >>= f = Err e

-- may it be empty? Rules are never.
unfoldable pub nullable : {A : Type 0} → Grammar A → Bool
nullable empty = true
nullable (token kinds) = false
nullable (call name) = false
nullable (line name x) = false
nullable (both x y) = if nullable x then nullable y else false
nullable (either x y) = nullable x || nullable y
nullable (fork stop x y) = nullable x || nullable y
nullable (many more x) = true
nullable (named name x) = nullable x
nullable (prefer kinds x) = true
nullable (starting test x) = nullable x
nullable (on test x y z) = nullable x

-- The kinds that it may begin with; `heads` tells them of rules.
unfoldable pub firsts : {A : Type 0} → (ℕ → List ℕ) → Grammar A → List ℕ
firsts heads empty = []
firsts heads (token kinds) = kinds
firsts heads (call name) = heads name
firsts heads (line name x) = heads name
firsts heads (both x y) = firsts heads x ++ (if nullable x then firsts heads y else [])
firsts heads (either x y) = firsts heads x ++ firsts heads y
firsts heads (fork stop x y) = firsts heads x ++ firsts heads y
firsts heads (many more x) = firsts heads x
firsts heads (named name x) = firsts heads x
firsts heads (prefer kinds x) = firsts heads x
firsts heads (starting test x) = kept test (firsts heads x)
firsts heads (on test x y z) = firsts heads x ++ (if nullable x then firsts heads y ++ firsts heads z else [])

abbrev pub further : {A : Type 0} → List A → List A → List A
further e f = if nat_le (length e) (length f) then e else f

-- the later place of two; a fault of nesting where either is
abbrev pub later : {A : Type 0} → Fault A → Fault A → Fault A
later e f = (e.0 || f.0, further e.1 f.1)

-- the one that is read, or the later fault of two
abbrev pub furthest : {A : Type 0} → Answer A → Answer A → Answer A
furthest (Ok x) other = Ok x
furthest (Err e) (Ok y) = Ok y
furthest (Err e) (Err f) = Err (later e f)

-- it where asked for, else nothing
abbrev pub perhaps : {A : Type 0} → Bool → (List A → Answer A) → List A → Answer A
perhaps b read ts = if b then read ts else Ok (tip, ts)

-- the one where the test passes, else the other
abbrev pub choose : {A : Type 0} → Bool → (List A → Answer A) → (List A → Answer A) → List A → Answer A
choose b read other ts = if b then read ts else other ts

module _ {A : Type 0} (l : Language A) where
  abbrev pub token_at : List ℕ → List A → Answer A
  token_at kinds [] = Err (false, [])
  token_at kinds (t ∷ ts) = if among kinds (l.kind t) then Ok (leaf t, ts) else Err (false, t ∷ ts)

  -- what may not stand behind
  abbrev pub refused : List ℕ → Answer A → Answer A
  refused stop r = r >>= (λ y. if starts l (among stop) y.1 then Err (false, y.1) else Ok (y.0, y.1))

  -- at most n of them
  unfoldable pub many_at : (ℕ → Bool) → (Tree A → Bool) → (List A → Answer A) → ℕ → List A → Answer A
  many_at test more read zero ts = Err (false, ts)
  many_at test more read (suc n) ts = if starts l test ts
      then (read ts >>= (λ x. perhaps (more x.0) (many_at test more read n) x.1 >>= (λ y. Ok (pair x.0 y.0, y.1))))
      else Ok (tip, ts)

  -- a right side, where `read` reads rules; there are at most `limit` of `many`
  unfoldable pub read_at : ℕ → (ℕ → List A → Answer A) → Grammar A → List A → Answer A
  read_at limit read empty ts = Ok (tip, ts)
  read_at limit read (token kinds) ts = token_at kinds ts
  read_at limit read (call name) ts = read name ts
  read_at limit read (line name x) ts = read_at limit read x ts
  read_at limit read (both x y) ts = read_at limit read x ts >>= λ p. read_at limit read y p.1 >>= λ q. Ok (pair p.0 q.0, q.1)
  read_at limit read (either x y) ts = if starts l (among (firsts l.heads x)) ts then read_at limit read x ts else read_at limit read y ts
  read_at limit read (fork stop x y) ts = furthest (refused stop (read_at limit read x ts)) (read_at limit read y ts)
  read_at limit read (many more x) ts = many_at (among (firsts l.heads x)) more (read_at limit read x) limit ts
  read_at limit read (named name x) ts = read_at limit read x ts >>= λ p. Ok (node name p.0, p.1)
  read_at limit read (prefer kinds x) ts = perhaps (starts l (among kinds) ts) (read_at limit read x) ts
  read_at limit read (starting test x) ts = if starts l test ts then read_at limit read x ts else Err (false, ts)
  read_at limit read (on test x y z) ts =
      read_at limit read x ts >>= λ p. choose (test p.0) (read_at limit read y) (read_at limit read z) p.1 >>= λ q. Ok (pair p.0 q.0, q.1)

  -- A rule, where its calls nest fewer than so many deep. Nesting too deep is a fault at the token that would begin it.
  unfoldable pub read : ℕ → ℕ → ℕ → List A → Answer A
  read limit zero name ts = Err (starts l (among (l.heads name)) ts, ts)
  read limit (suc depth) name ts = read_at limit (read limit depth) (l.rules name) ts
