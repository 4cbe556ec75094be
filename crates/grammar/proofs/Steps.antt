-- Steps of code that reads by a grammar, one for each form of a right side.
use Rattle.std.proofs.Common.{true, false, Bool, ◌≡◌, ◌^◌, ℕ, zero, suc, ◌<◌, List, [], ◌∷◌, length, Ok, Err, refl, ap, sym, ◌∙◌, arith}
use Rattle.std.specs.Prelude.{if◌then◌else◌, ◌||◌, nat_le}
use Rattle.grammar.specs.Kinds.{among}
use Rattle.grammar.specs.Grammar.{Tree, tip, leaf, pair, node, Grammar, token, call, line, both, either, fork, many, named, prefer, starting, on, empty, Language, starts}
use Rattle.grammar.specs.Reading.{Answer, ◌>>=◌, firsts, further, furthest, perhaps, choose, token_at, refused, many_at, read, read_at}
use Rattle.grammar.specs.Steps.{reads, ReadTo, FaultAt}
use Rattle.grammar.proofs.Laws.{branch, branch_not, second, turn}

-- the less of two
unfoldable pub least : ℕ → ℕ → ℕ
least a b = if nat_le a b then a else b

pub further-length : {A : Type 0} (e f : List A) → length (further e f) ≡ least (length e) (length f)
unfolding least
further-length e f = by (nat_le (length e) (length f))
  where
    by : (b : Bool) → length (if b then e else f) ≡ (if b then length e else length f)
    by true = refl
    by false = refl

module _ {A : Type 0} (l : Language A) where
  -- nothing
  pub empty_read : (depth : ℕ) (tokens : List A) → ReadTo l depth empty tokens tokens tip
  unfolding reads ReadTo read_at
  empty_read depth tokens = refl

  -- a token
  pub token_read : (depth : ℕ) (kinds : List ℕ) (t : A) (tokens rest : List A) → tokens ≡ t ∷ rest → among kinds (l.kind t) ≡ true
      → ReadTo l depth (token kinds) tokens rest (leaf t)
  unfolding reads ReadTo read_at
  token_read depth kinds t tokens rest e f = ap (token_at l kinds) e ∙ branch _ _ _ f

  pub token_end : (depth : ℕ) (kinds : List ℕ) (tokens : List A) → length tokens ≡ 0 → FaultAt l depth (token kinds) tokens false 0
  unfolding reads FaultAt read_at
  token_end depth kinds [] e = ([], refl, refl)
  token_end depth kinds (t ∷ tokens) e = absurd (omega (arith, e))

  pub token_fault : (depth : ℕ) (kinds : List ℕ) (t : A) (tokens rest : List A) → tokens ≡ t ∷ rest → among kinds (l.kind t) ≡ false
      → FaultAt l depth (token kinds) tokens false (length tokens)
  unfolding reads FaultAt read_at
  token_fault depth kinds t tokens rest e f = (t ∷ rest, ap (token_at l kinds) e ∙ branch_not _ _ _ f, ap (λ m. length m) e)

  -- one behind the other
  pub both_read : (depth : ℕ) (x y : Grammar A) (tokens mid rest : List A) (a b : Tree A) → ReadTo l depth x tokens mid a → ReadTo l depth y mid rest b
      → ReadTo l depth (both x y) tokens rest (pair a b)
  unfolding reads ReadTo read_at
  both_read depth x y tokens mid rest a b p q =
      ap (λ v. v >>= second l (λ _. read_at l (2 ^ 64) (read l (2 ^ 64) depth) y)) p ∙ ap (λ v. v >>= λ q. Ok (pair a q.0, q.1)) q

  pub both_first : (depth : ℕ) (x y : Grammar A) (tokens : List A) (deep : Bool) (left : ℕ) → FaultAt l depth x tokens deep left → FaultAt l depth (both x y) tokens deep left
  unfolding reads FaultAt read_at
  both_first depth x y tokens deep left p = (p.0, ap (λ v. v >>= second l (λ _. read_at l (2 ^ 64) (read l (2 ^ 64) depth) y)) p.1, p.2)

  pub both_second : (depth : ℕ) (x y : Grammar A) (tokens mid : List A) (a : Tree A) (deep : Bool) (left : ℕ) → ReadTo l depth x tokens mid a → FaultAt l depth y mid deep left
      → FaultAt l depth (both x y) tokens deep left
  unfolding reads ReadTo FaultAt read_at
  both_second depth x y tokens mid a deep left p q = (
    q.0,
    ap (λ v. v >>= second l (λ _. read_at l (2 ^ 64) (read l (2 ^ 64) depth) y)) p ∙ ap (λ v. v >>= λ q. Ok (pair a q.0, q.1)) q.1,
    q.2,
  )

  -- a node
  pub named_read : (depth name : ℕ) (x : Grammar A) (tokens rest : List A) (a : Tree A) → ReadTo l depth x tokens rest a → ReadTo l depth (named name x) tokens rest (node name a)
  unfolding reads ReadTo read_at
  named_read depth name x tokens rest a p = ap (λ v. v >>= λ p. Ok (node name p.0, p.1)) p

  pub named_fault : (depth name : ℕ) (x : Grammar A) (tokens : List A) (deep : Bool) (left : ℕ) → FaultAt l depth x tokens deep left → FaultAt l depth (named name x) tokens deep left
  unfolding reads FaultAt read_at
  named_fault depth name x tokens deep left p = (p.0, ap (λ v. v >>= λ p. Ok (node name p.0, p.1)) p.1, p.2)

  -- a rule in its place
  pub line_read : (depth name : ℕ) (x : Grammar A) (tokens rest : List A) (a : Tree A) → ReadTo l depth x tokens rest a → ReadTo l depth (line name x) tokens rest a
  unfolding reads ReadTo read_at
  line_read depth name x tokens rest a p = p

  pub line_fault : (depth name : ℕ) (x : Grammar A) (tokens : List A) (deep : Bool) (left : ℕ) → FaultAt l depth x tokens deep left → FaultAt l depth (line name x) tokens deep left
  unfolding reads FaultAt read_at
  line_fault depth name x tokens deep left p = p

  -- a rule one deeper
  pub call_read : (depth name : ℕ) (tokens rest : List A) (a : Tree A) → ReadTo l depth (l.rules name) tokens rest a → ReadTo l (suc depth) (call name) tokens rest a
  unfolding reads ReadTo read_at read
  call_read depth name tokens rest a p = p

  pub call_fault : (depth name : ℕ) (tokens : List A) (deep : Bool) (left : ℕ) → FaultAt l depth (l.rules name) tokens deep left
      → FaultAt l (suc depth) (call name) tokens deep left
  unfolding reads FaultAt read_at read
  call_fault depth name tokens deep left p = p

  -- No level is left: a fault of nesting at the rule's first token, another one where that does not come.
  pub call_deep : (name : ℕ) (tokens : List A) (deep : Bool) → starts l (among (l.heads name)) tokens ≡ deep → FaultAt l 0 (call name) tokens deep (length tokens)
  unfolding reads FaultAt read_at read
  call_deep name tokens deep s = (tokens, ap (λ k. Err (k, tokens)) s, refl)

  -- by the next token
  pub either_read_first : (depth : ℕ) (x y : Grammar A) (tokens rest : List A) (a : Tree A) → starts l (among (firsts l.heads x)) tokens ≡ true
      → ReadTo l depth x tokens rest a → ReadTo l depth (either x y) tokens rest a
  unfolding reads ReadTo read_at
  either_read_first depth x y tokens rest a s p = branch _ _ _ s ∙ p

  pub either_read_second : (depth : ℕ) (x y : Grammar A) (tokens rest : List A) (a : Tree A) → starts l (among (firsts l.heads x)) tokens ≡ false
      → ReadTo l depth y tokens rest a → ReadTo l depth (either x y) tokens rest a
  unfolding reads ReadTo read_at
  either_read_second depth x y tokens rest a s p = branch_not _ _ _ s ∙ p

  pub either_fault_first : (depth : ℕ) (x y : Grammar A) (tokens : List A) (deep : Bool) (left : ℕ) → starts l (among (firsts l.heads x)) tokens ≡ true
      → FaultAt l depth x tokens deep left → FaultAt l depth (either x y) tokens deep left
  unfolding reads FaultAt read_at
  either_fault_first depth x y tokens deep left s p = (p.0, branch _ _ _ s ∙ p.1, p.2)

  pub either_fault_second : (depth : ℕ) (x y : Grammar A) (tokens : List A) (deep : Bool) (left : ℕ) → starts l (among (firsts l.heads x)) tokens ≡ false
      → FaultAt l depth y tokens deep left → FaultAt l depth (either x y) tokens deep left
  unfolding reads FaultAt read_at
  either_fault_second depth x y tokens deep left s p = (p.0, branch_not _ _ _ s ∙ p.1, p.2)

  -- `optional`, where nothing of it comes
  pub optional_none : (depth : ℕ) (x : Grammar A) (tokens : List A) → starts l (among (firsts l.heads x)) tokens ≡ false → ReadTo l depth (either x empty) tokens tokens tip
  unfolding reads ReadTo read_at
  optional_none depth x tokens s = branch_not _ _ _ s

  -- wherever one of the kinds comes next
  pub prefer_read : (depth : ℕ) (kinds : List ℕ) (x : Grammar A) (tokens rest : List A) (a : Tree A) → starts l (among kinds) tokens ≡ true
      → ReadTo l depth x tokens rest a → ReadTo l depth (prefer kinds x) tokens rest a
  unfolding reads ReadTo read_at
  prefer_read depth kinds x tokens rest a s p = branch _ _ _ s ∙ p

  pub prefer_none : (depth : ℕ) (kinds : List ℕ) (x : Grammar A) (tokens : List A) → starts l (among kinds) tokens ≡ false → ReadTo l depth (prefer kinds x) tokens tokens tip
  unfolding reads ReadTo read_at
  prefer_none depth kinds x tokens s = branch_not _ _ _ s

  pub prefer_fault : (depth : ℕ) (kinds : List ℕ) (x : Grammar A) (tokens : List A) (deep : Bool) (left : ℕ) → starts l (among kinds) tokens ≡ true
      → FaultAt l depth x tokens deep left → FaultAt l depth (prefer kinds x) tokens deep left
  unfolding reads FaultAt read_at
  prefer_fault depth kinds x tokens deep left s p = (p.0, branch _ _ _ s ∙ p.1, p.2)

  -- where the first token passes
  pub starting_read : (depth : ℕ) (test : ℕ → Bool) (x : Grammar A) (tokens rest : List A) (a : Tree A) → starts l test tokens ≡ true
      → ReadTo l depth x tokens rest a → ReadTo l depth (starting test x) tokens rest a
  unfolding reads ReadTo read_at
  starting_read depth test x tokens rest a s p = branch _ _ _ s ∙ p

  pub starting_fault : (depth : ℕ) (test : ℕ → Bool) (x : Grammar A) (tokens : List A) (deep : Bool) (left : ℕ) → starts l test tokens ≡ true
      → FaultAt l depth x tokens deep left → FaultAt l depth (starting test x) tokens deep left
  unfolding reads FaultAt read_at
  starting_fault depth test x tokens deep left s p = (p.0, branch _ _ _ s ∙ p.1, p.2)

  pub starting_refused : (depth : ℕ) (test : ℕ → Bool) (x : Grammar A) (tokens : List A) → starts l test tokens ≡ false
      → FaultAt l depth (starting test x) tokens false (length tokens)
  unfolding reads FaultAt read_at
  starting_refused depth test x tokens s = (tokens, branch_not _ _ _ s, refl)

  -- by the tree just read
  abbrev pub on_next : ℕ → (Tree A → Bool) → (y z : Grammar A) → Tree A → List A → Answer A
  on_next depth test y z a = choose (test a) (read_at l (2 ^ 64) (read l (2 ^ 64) depth) y) (read_at l (2 ^ 64) (read l (2 ^ 64) depth) z)

  pub on_read : (depth : ℕ) (test : Tree A → Bool) (x y z : Grammar A) (tokens mid rest : List A) (a b : Tree A) → ReadTo l depth x tokens mid a → test a ≡ true
      → ReadTo l depth y mid rest b → ReadTo l depth (on test x y z) tokens rest (pair a b)
  unfolding reads ReadTo read_at
  on_read depth test x y z tokens mid rest a b p s q =
      ap (λ v. v >>= second l (on_next depth test y z)) p ∙ ap (λ v. v >>= λ q. Ok (pair a q.0, q.1)) (branch (test a) _ _ s ∙ q)

  pub on_other : (depth : ℕ) (test : Tree A → Bool) (x y z : Grammar A) (tokens mid rest : List A) (a b : Tree A) → ReadTo l depth x tokens mid a → test a ≡ false
      → ReadTo l depth z mid rest b → ReadTo l depth (on test x y z) tokens rest (pair a b)
  unfolding reads ReadTo read_at
  on_other depth test x y z tokens mid rest a b p s q =
      ap (λ v. v >>= second l (on_next depth test y z)) p ∙ ap (λ v. v >>= λ q. Ok (pair a q.0, q.1)) (branch_not (test a) _ _ s ∙ q)

  pub on_first : (depth : ℕ) (test : Tree A → Bool) (x y z : Grammar A) (tokens : List A) (deep : Bool) (left : ℕ) → FaultAt l depth x tokens deep left
      → FaultAt l depth (on test x y z) tokens deep left
  unfolding reads FaultAt read_at
  on_first depth test x y z tokens deep left p = (p.0, ap (λ v. v >>= second l (on_next depth test y z)) p.1, p.2)

  pub on_second : (depth : ℕ) (test : Tree A → Bool) (x y z : Grammar A) (tokens mid : List A) (a : Tree A) (deep : Bool) (left : ℕ) → ReadTo l depth x tokens mid a
      → test a ≡ true → FaultAt l depth y mid deep left → FaultAt l depth (on test x y z) tokens deep left
  unfolding reads ReadTo FaultAt read_at
  on_second depth test x y z tokens mid a deep left p s q = (
    q.0,
    ap (λ v. v >>= second l (on_next depth test y z)) p ∙ ap (λ v. v >>= λ q. Ok (pair a q.0, q.1)) (branch (test a) _ _ s ∙ q.1),
    q.2,
  )

  pub on_third : (depth : ℕ) (test : Tree A → Bool) (x y z : Grammar A) (tokens mid : List A) (a : Tree A) (deep : Bool) (left : ℕ) → ReadTo l depth x tokens mid a
      → test a ≡ false → FaultAt l depth z mid deep left → FaultAt l depth (on test x y z) tokens deep left
  unfolding reads ReadTo FaultAt read_at
  on_third depth test x y z tokens mid a deep left p s q = (
    q.0,
    ap (λ v. v >>= second l (on_next depth test y z)) p ∙ ap (λ v. v >>= λ q. Ok (pair a q.0, q.1)) (branch_not (test a) _ _ s ∙ q.1),
    q.2,
  )

  -- the next token of a list
  pub starts_with : (test : ℕ → Bool) (tokens rest : List A) (t : A) → tokens ≡ t ∷ rest → test (l.kind t) ≡ true → starts l test tokens ≡ true
  starts_with test tokens rest t e a = rw e a

  pub starts_not : (test : ℕ → Bool) (tokens rest : List A) (t : A) → tokens ≡ t ∷ rest → test (l.kind t) ≡ false → starts l test tokens ≡ false
  starts_not test tokens rest t e a = rw e a

  pub starts_empty : (test : ℕ → Bool) (tokens : List A) → length tokens ≡ 0 → starts l test tokens ≡ false
  starts_empty test [] e = refl
  starts_empty test (t ∷ tokens) e = absurd (omega (arith, e))

  -- two that begin alike
  pub fork_first : (depth : ℕ) (stop : List ℕ) (x y : Grammar A) (tokens rest : List A) (a : Tree A) → ReadTo l depth x tokens rest a → starts l (among stop) rest ≡ false
      → ReadTo l depth (fork stop x y) tokens rest a
  unfolding reads ReadTo read_at
  fork_first depth stop x y tokens rest a p s =
      ap (λ v. furthest (refused l stop v) (read_at l (2 ^ 64) (read l (2 ^ 64) depth) y tokens)) p
      ∙ ap (λ v. furthest v (read_at l (2 ^ 64) (read l (2 ^ 64) depth) y tokens)) (branch_not (starts l (among stop) rest) (Err (false, rest)) (Ok (a, rest)) s)

  pub fork_second : (depth : ℕ) (stop : List ℕ) (x y : Grammar A) (tokens rest : List A) (b : Tree A) (deep : Bool) (left : ℕ) → FaultAt l depth x tokens deep left
      → ReadTo l depth y tokens rest b → ReadTo l depth (fork stop x y) tokens rest b
  unfolding reads ReadTo FaultAt read_at
  fork_second depth stop x y tokens rest b deep left p q =
      ap (λ v. furthest (refused l stop v) (read_at l (2 ^ 64) (read l (2 ^ 64) depth) y tokens)) p.1 ∙ ap (λ v. furthest (Err (deep, p.0)) v) q

  pub fork_second_only : (depth : ℕ) (stop : List ℕ) (x y : Grammar A) (tokens mid rest : List A) (a b : Tree A) → ReadTo l depth x tokens mid a
      → starts l (among stop) mid ≡ true → ReadTo l depth y tokens rest b → ReadTo l depth (fork stop x y) tokens rest b
  unfolding reads ReadTo read_at
  fork_second_only depth stop x y tokens mid rest a b p s q =
      ap (λ v. furthest (refused l stop v) (read_at l (2 ^ 64) (read l (2 ^ 64) depth) y tokens)) p
      ∙ ap (λ v. furthest v (read_at l (2 ^ 64) (read l (2 ^ 64) depth) y tokens)) (branch (starts l (among stop) mid) (Err (false, mid)) (Ok (a, mid)) s)
      ∙ ap (λ v. furthest (Err (false, mid)) v) q

  -- A fork's fault is the later one of its two.
  pub fork_fault : (depth : ℕ) (stop : List ℕ) (x y : Grammar A) (tokens : List A) (j k : Bool) (a b : ℕ) → FaultAt l depth x tokens j a → FaultAt l depth y tokens k b
      → FaultAt l depth (fork stop x y) tokens (j || k) (least a b)
  unfolding reads FaultAt read_at
  fork_fault depth stop x y tokens j k a b p q = (
    further p.0 q.0,
    ap (λ v. furthest (refused l stop v) (read_at l (2 ^ 64) (read l (2 ^ 64) depth) y tokens)) p.1 ∙ ap (λ v. furthest (Err (j, p.0)) v) q.1,
    ap (λ n. least n b) p.2 ∙ ap (λ n. least (length p.0) n) q.2 ∙ sym (further-length p.0 q.0),
  )

  -- What is refused faults behind what was read.
  pub fork_refused : (depth : ℕ) (stop : List ℕ) (x y : Grammar A) (tokens rest : List A) (a : Tree A) (k : Bool) (b : ℕ) → ReadTo l depth x tokens rest a
      → starts l (among stop) rest ≡ true → FaultAt l depth y tokens k b → FaultAt l depth (fork stop x y) tokens k (least (length rest) b)
  unfolding reads ReadTo FaultAt read_at
  fork_refused depth stop x y tokens rest a k b p s q = (
    further rest q.0,
    ap (λ v. furthest (refused l stop v) (read_at l (2 ^ 64) (read l (2 ^ 64) depth) y tokens)) p
        ∙ ap (λ v. furthest v (read_at l (2 ^ 64) (read l (2 ^ 64) depth) y tokens)) (branch (starts l (among stop) rest) (Err (false, rest)) (Ok (a, rest)) s)
        ∙ ap (λ v. furthest (Err (false, rest)) v) q.1,
    ap (λ n. least (length rest) n) q.2 ∙ sym (further-length rest q.0),
  )

  -- lists

  unfoldable pub members : ℕ → (Tree A → Bool) → Grammar A → ℕ → List A → Answer A
  members depth more x n tokens = many_at l (among (firsts l.heads x)) more (reads l depth x) n tokens

  -- What the rest of a list gives, the whole list gives, with what was read before it.
  unfoldable pub Goes : Answer A → Answer A → (Tree A → Tree A) → Type 0
  Goes whole part into = ((tree : Tree A) (rest : List A) → part ≡ Ok (tree, rest) → whole ≡ Ok (into tree, rest)) × ((c : Bool × List A) → part ≡ Err c → whole ≡ Err c)

  -- a loop that has come to `rest`, where `into` puts what was read in front of what comes
  abbrev pub Left : ℕ → (Tree A → Bool) → Grammar A → List A → List A → (Tree A → Tree A) → Type 0
  Left depth more x tokens rest into = (n : ℕ) × (length rest < n) × Goes (reads l depth (many more x) tokens) (members depth more x n rest) into

  -- the step of a list by one member
  pub member_step : (depth : ℕ) (more : Tree A → Bool) (x : Grammar A) (n : ℕ) (tokens mid : List A) (a : Tree A) → starts l (among (firsts l.heads x)) tokens ≡ true
      → ReadTo l depth x tokens mid a → members depth more x (suc n) tokens ≡ (perhaps (more a) (members depth more x n) mid >>= λ y. Ok (pair a y.0, y.1))
  unfolding members ReadTo many_at
  member_step depth more x n tokens mid a s p = branch _ _ _ s ∙ ap (λ v. v >>= turn l (among (firsts l.heads x)) more (reads l depth x) n) p

  -- before the first member
  pub loop_start : (depth : ℕ) (more : Tree A → Bool) (x : Grammar A) (tokens : List A) → length tokens < 2 ^ 64 → Left depth more x tokens tokens (λ b. b)
  unfolding reads read_at members Goes
  loop_start depth more x tokens s = (2 ^ 64, s, (λ tree rest e. e, λ c e. e))

  -- one member more
  pub loop_turn : (depth : ℕ) (more : Tree A → Bool) (x : Grammar A) (tokens rest mid : List A) (into : Tree A → Tree A) (a : Tree A) → Left depth more x tokens rest into
      → starts l (among (firsts l.heads x)) rest ≡ true → ReadTo l depth x rest mid a → more a ≡ true → length mid < length rest
      → Left depth more x tokens mid (λ b. into (pair a b))
  unfolding Goes
  loop_turn depth more x tokens rest mid into a k s p m less = go k.0 k.1 k.2
    where
      go : (n : ℕ) → length rest < n → Goes (reads l depth (many more x) tokens) (members depth more x n rest) into → Left depth more x tokens mid (λ b. into (pair a b))
      go zero few g = absurd (omega (arith, few))
      go (suc n) few g =
          let step : members depth more x (suc n) rest ≡ (members depth more x n mid >>= λ y. Ok (pair a y.0, y.1)) =
          member_step depth more x n rest mid a s p ∙ ap (λ v. v >>= λ y. Ok (pair a y.0, y.1)) (branch (more a) (members depth more x n mid) (Ok (tip, mid)) m) in (
            n,
            omega (arith, few, less),
            (
              λ tree end e. g.0 (pair a tree) end (step ∙ ap (λ v. v >>= (λ y. Ok (pair a y.0, y.1))) e),
              λ c e. g.1 c (step ∙ ap (λ v. v >>= (λ y. Ok (pair a y.0, y.1))) e),
            ),
          )

  -- the end of the list
  pub loop_end : (depth : ℕ) (more : Tree A → Bool) (x : Grammar A) (tokens rest : List A) (into : Tree A → Tree A) → Left depth more x tokens rest into
      → starts l (among (firsts l.heads x)) rest ≡ false → ReadTo l depth (many more x) tokens rest (into tip)
  unfolding members Goes ReadTo many_at
  loop_end depth more x tokens rest into k s = go k.0 k.1 k.2
    where
      go : (n : ℕ) → length rest < n → Goes (reads l depth (many more x) tokens) (members depth more x n rest) into → ReadTo l depth (many more x) tokens rest (into tip)
      go zero few g = absurd (omega (arith, few))
      go (suc n) few g = g.0 tip rest (branch_not _ _ _ s)

  -- a member behind which comes no further one
  pub loop_last : (depth : ℕ) (more : Tree A → Bool) (x : Grammar A) (tokens rest mid : List A) (into : Tree A → Tree A) (a : Tree A) → Left depth more x tokens rest into
      → starts l (among (firsts l.heads x)) rest ≡ true → ReadTo l depth x rest mid a → more a ≡ false → ReadTo l depth (many more x) tokens mid (into (pair a tip))
  unfolding Goes ReadTo
  loop_last depth more x tokens rest mid into a k s p m = go k.0 k.1 k.2
    where
      go : (n : ℕ) → length rest < n → Goes (reads l depth (many more x) tokens) (members depth more x n rest) into
          → ReadTo l depth (many more x) tokens mid (into (pair a tip))
      go zero few g = absurd (omega (arith, few))
      go (suc n) few g =
          g.0 (pair a tip) mid (member_step depth more x n rest mid a s p ∙ ap (λ v. v >>= λ y. Ok (pair a y.0, y.1)) (branch_not (more a) (members depth more x n mid) (Ok (tip, mid)) m))

  pub loop_fault : (depth : ℕ) (more : Tree A → Bool) (x : Grammar A) (tokens rest : List A) (into : Tree A → Tree A) (deep : Bool) (left : ℕ)
      → Left depth more x tokens rest into → starts l (among (firsts l.heads x)) rest ≡ true → FaultAt l depth x rest deep left
      → FaultAt l depth (many more x) tokens deep left
  unfolding members Goes FaultAt many_at
  loop_fault depth more x tokens rest into deep left k s p = go k.0 k.1 k.2
    where
      go : (n : ℕ) → length rest < n → Goes (reads l depth (many more x) tokens) (members depth more x n rest) into → FaultAt l depth (many more x) tokens deep left
      go zero few g = absurd (omega (arith, few))
      go (suc n) few g = (p.0, g.1 (deep, p.0) (branch _ _ _ s ∙ ap (λ v. v >>= turn l (among (firsts l.heads x)) more (reads l depth x) n) p.1), p.2)
