-- The lists in both readings of a parenthesis, member by member.
use Rattle.std.proofs.Common.{inl, inr, true, false, Bool, ◌≡◌, ℕ, zero, suc, ◌≤◌, List, [], ◌∷◌, ◌++◌, length, Err, refl, ap, sym, subst, ◌∙◌, arith, codes}
use Rattle.std.proofs.lemmas.List.{length-append, append-nil}
use Rattle.std.specs.Prelude.{if◌then◌else◌}
use Rattle.grammar.specs.Kinds.{among, apart, covers}
use Rattle.grammar.specs.Grammar.{Tree, tip, leaf, pair, token, both, many, starts}
use Rattle.grammar.specs.Reading.{firsts, nullable}
use Rattle.grammar.proofs.Sets.{off-apart, at-covered, is_or_not}
use Rattle.js_token.specs.declared.token.Token.{Token}
use Rattle.js_grammar.specs.Kinds.{kinds, mark}
use Rattle.js_grammar.specs.Script.{Rule, optional, has_member, listed}
use Rattle.parse_laws.specs.Kinds.{token_kind}
use Rattle.parse_laws.proofs.Guided.{Was, Goes, done, called, wrong, many_of, guided, guided-continues, many-continues, taking}
use Rattle.parse_laws.proofs.Sound.{vacant, read-front}
use Rattle.parse_laws.proofs.Walk.{language, ahead, rule, goes-so, each-takes}
use Rattle.parse_laws.proofs.Begun.{chosen-true, chosen-false, tables}
use Rattle.parse_laws.proofs.Loops.{member-came}
use Rattle.parse_laws.proofs.Scripts.{end_kinds}
use Rattle.parse_laws.proofs.Places.{EndsIn, Within, within-self, Stands, stands-more, stands-if, many-stand, guided-stands, rule-stands, stands-past, behind-other}
use Rattle.parse_laws.proofs.Covered.{Read, Placed, onward}
use Rattle.parse_laws.proofs.Lockstep.{Fine, fine-behind, Lock, Open, follow_kinds, open-then, stands-onward}

abbrev pub comma_kinds : List ℕ
comma_kinds = kinds (mark (codes ",") ∷ [])

pub comma-no_end : apart comma_kinds end_kinds ≡ true
unfolding apart tables
comma-no_end = refl

-- what closes a list, and its tree
abbrev pub shut_by : List ℕ → (Tree Token → Tree Token) → List Token → Was Token
shut_by close f m = taking language close m (λ c q. done (f c) q)

pub shut-lock : (close : List ℕ) (f g : Tree Token → Tree Token) (m : List Token) → Lock (shut_by close f m) (shut_by close g m)
shut-lock close f g [] = inr (inr (inl (_, refl, refl)))
shut-lock close f g (t ∷ m) = by (among close (token_kind t))
  where
    by : (b : Bool) → Lock (if b then done (f (leaf t)) m else Err (wrong (t ∷ m))) (if b then done (g (leaf t)) m else Err (wrong (t ∷ m)))
    by true = inr (inr (inr (f (leaf t), g (leaf t), m, refl, refl)))
    by false = inr (inr (inl (wrong (t ∷ m), refl, refl)))

pub shut-none : (close : List ℕ) (f : Tree Token → Tree Token) (m : List Token) → starts language (among close) m ≡ false → shut_by close f m ≡ Err (wrong m)
shut-none close f [] o = refl
shut-none close f (t ∷ m) o = chosen-false (among close (token_kind t)) _ _ o

pub shut-stands : (close : List ℕ) (f : Tree Token → Tree Token) (m : List Token) → apart close end_kinds ≡ true → EndsIn m → Stands m (shut_by close f m)
shut-stands close f [] v e = absurd e
shut-stands close f (t ∷ m) v e = by (among close (token_kind t)) refl
  where
    by : (b : Bool) → among close (token_kind t) ≡ b → Stands (t ∷ m) (if b then done (f (leaf t)) m else Err (wrong (t ∷ m)))
    by true k = (t ∷ [], refl, behind-other close t m v k e)
    by false k = (false, false, t ∷ m, refl, within-self (t ∷ m) e)

pub within-short : (ts m : List Token) → Within ts m → length m ≤ length ts
within-short ts m w = let e : length ts ≡ length (w.0 ++ m) = ap (λ l. length l) w.1 in omega (arith, e, length-append w.0 m)

module _ (depth : ℕ) where
  abbrev pub reads : Rule → List Token → Was Token
  reads x ts = guided language ahead (rule depth) x ts done

  abbrev pub comma_then : Rule → Rule
  comma_then x = both (token comma_kinds) (optional x)

  -- members behind a first, up to what closes the list
  abbrev pub members : Rule → List ℕ → (Tree Token → Tree Token → Tree Token) → ℕ → List Token → Was Token
  members x close f n m = many_of language (among (firsts language.heads (comma_then x))) has_member (guided language ahead (rule depth) (comma_then x)) n m (λ d r. shut_by close (f d) r)

  -- Each member takes a token.
  pub member-goes : (x : Rule) → vacant x ≡ false → (c : Tree Token) (m : List Token) (k h : Goes Token Read)
      → guided language ahead (rule depth) x m (λ o r. if has_member (pair c o) then k o r else h o r) ≡ guided language ahead (rule depth) x m k
  member-goes x v c m k h = goes-so depth x m _ k (λ o r e.
      let f = read-front language ahead depth each-takes x v m r o e in
      chosen-true (has_member (pair c o)) (k o r) (h o r) (member-came c o f.0 f.3))

  abbrev pub next_of : Rule → List ℕ → (Tree Token → Tree Token → Tree Token) → ℕ → Token → Goes Token Read
  next_of x close f n t o r = if has_member (pair (leaf t) o) then members x close (λ d. f (pair (pair (leaf t) o) d)) n r else shut_by close (f (pair (pair (leaf t) o) tip)) r

  abbrev pub first_of : Rule → List ℕ → (Tree Token → Tree Token → Tree Token) → Goes Token Read
  first_of x close f o r = if has_member (pair tip o) then members x close (λ d. f (pair o d)) (length r) r else shut_by close (f tip) r

  -- What is behind a comma.
  pub members-comma : (x : Rule) (close : List ℕ) (f : Tree Token → Tree Token → Tree Token) (n : ℕ) (t : Token) (m : List Token) → among comma_kinds (token_kind t) ≡ true
      → members x close f (suc n) (t ∷ m) ≡ guided language ahead (rule depth) (optional x) m
      (λ o r. if has_member (pair (leaf t) o) then members x close (λ d. f (pair (pair (leaf t) o) d)) n r else shut_by close (f (pair (pair (leaf t) o) tip)) r)
  unfolding many_of guided firsts nullable
  members-comma x close f n t m e =
      chosen-true (among (comma_kinds ++ []) (token_kind t)) _ _ (ap (λ ks. among ks (token_kind t)) (append-nil comma_kinds) ∙ e)
      ∙ chosen-true (among comma_kinds (token_kind t)) _ _ e

  pub members-end : (x : Rule) (close : List ℕ) (f : Tree Token → Tree Token → Tree Token) (n : ℕ) (m : List Token) → starts language (among comma_kinds) m ≡ false
      → members x close f n m ≡ shut_by close (f tip) m
  unfolding many_of firsts nullable
  members-end x close f zero m e = refl
  members-end x close f (suc n) m e = chosen-false (starts language (among (comma_kinds ++ [])) m) _ _ (ap (λ ks. starts language (among ks) m) (append-nil comma_kinds) ∙ e)

  pub members-stand : (x : Rule) (close : List ℕ) → Placed (comma_then x) → apart close end_kinds ≡ true → (f : Tree Token → Tree Token → Tree Token) (n : ℕ) (m : List Token) → EndsIn m
      → Stands m (members x close f n m)
  members-stand x close p v f n m e =
      let g = guided language ahead (rule depth) (comma_then x) in
      let con = guided-continues language ahead (rule depth) Read (comma_then x) in
      let test = among (firsts language.heads (comma_then x)) in
      subst (Stands m) (sym (many-continues language Read test has_member g g con con n m (λ d r. shut_by close (f d) r)))
      (onward m m (within-self m e) (many_of language test has_member g n m done) (λ d r. shut_by close (f d) r)
      (many-stand (rule depth) (rule-stands depth) test has_member (comma_then x) (guided-stands (rule depth) (rule-stands depth) (comma_then x) p.0 p.1) n m e)
      (λ d r w. stands-more m r w (shut_by close (f d) r) (shut-stands close (f d) r v w.2)))

  abbrev pub wholly : Rule → List ℕ → (Tree Token → Tree Token → Tree Token) → List Token → Was Token
  wholly x close f m = guided language ahead (rule depth) (listed x) m (λ a r. shut_by close (f a) r)

  pub listed-turn : (x : Rule) (close : List ℕ) → vacant x ≡ false → nullable x ≡ false → (f : Tree Token → Tree Token → Tree Token) (m : List Token) → wholly x close f m
      ≡ guided language ahead (rule depth) (optional x) m (λ o r. if has_member (pair tip o) then members x close (λ d. f (pair o d)) (length r) r else shut_by close (f tip) r)
  unfolding guided firsts nullable
  listed-turn x close t v f m =
      ap (λ b. if starts language (among (firsts language.heads x ++ (if b then firsts language.heads (many has_member (comma_then x)) else []))) m
      then guided language ahead (rule depth) x m (λ a r. members x close (λ d. f (pair a d)) (length r) r) else shut_by close (f tip) m) v
      ∙ ap (λ ks. if starts language (among ks) m then guided language ahead (rule depth) x m (λ a r. members x close (λ d. f (pair a d)) (length r) r) else shut_by close (f tip) m)
      (append-nil (firsts language.heads x))
      ∙ if-first (starts language (among (firsts language.heads x)) m) _ _ (shut_by close (f tip) m)
      (sym (member-goes x t tip m (λ o r. members x close (λ d. f (pair o d)) (length r) r) (λ o r. shut_by close (f tip) r)))
    where
      if-first : (b : Bool) (u v w : Was Token) → u ≡ v → (if b then u else w) ≡ (if b then v else w)
      if-first b u v w e = ap (λ u. if b then u else w) e

  -- A list whose members are read one way, and another way.
  pub record Paired (x y : Rule) (close : List ℕ) : Type 0 where
    pub x-takes : vacant x ≡ false
    pub y-takes : vacant y ≡ false
    pub x-placed : Placed x
    pub y-placed : Placed y
    pub x-more : Placed (comma_then x)
    pub y-more : Placed (comma_then y)
    pub no-end : apart close end_kinds ≡ true
    pub x-closes : apart (firsts language.heads x) close ≡ true
    pub commas : apart close comma_kinds ≡ true
    pub follows-comma : covers follow_kinds comma_kinds ≡ true
    pub follows-close : covers follow_kinds close ≡ true
    pub both-begin : covers (firsts language.heads x) (firsts language.heads y) ≡ true
    pub opened : (m : List Token) → Fine m → starts language (among (firsts language.heads y)) m ≡ true → Open (reads x m) (reads y m)

  module _ (x y : Rule) (close : List ℕ) (p : Paired x y close) where
    -- one more member, or what closes
    pub turn-lock : (m : List Token) → Fine m → (kx ky : Goes Token Read) (hx hy : Goes Token Read) (f g : Tree Token → Tree Token)
        → ((k : Goes Token Read) → guided language ahead (rule depth) x m hx ≡ guided language ahead (rule depth) x m kx)
        → ((k : Goes Token Read) → guided language ahead (rule depth) y m hy ≡ guided language ahead (rule depth) y m ky)
        → (hx tip m ≡ shut_by close f m) → (hy tip m ≡ shut_by close g m)
        → ((a : Tree Token) (l : List Token) → EndsIn l → Stands l (kx a l)) → ((a : Tree Token) (l : List Token) → EndsIn l → Stands l (ky a l))
        → ((a : Tree Token) (l : List Token) → starts language (among follow_kinds) l ≡ false → kx a l ≡ Err (wrong l))
        → ((a : Tree Token) (l : List Token) → starts language (among follow_kinds) l ≡ false → ky a l ≡ Err (wrong l))
        → ((a b : Tree Token) (l : List Token) → Within m l → Lock (kx a l) (ky b l))
        → Lock (guided language ahead (rule depth) (optional x) m hx) (guided language ahead (rule depth) (optional y) m hy)
    unfolding guided
    turn-lock m f kx ky hx hy fx fy ex ey tx ty sx sy dx dy s = elim (is_or_not (starts language (among (firsts language.heads y)) m)) [
      | inl h ↦
          let begun = at-covered language (firsts language.heads x) (firsts language.heads y) m p.both-begin h in
          let one : guided language ahead (rule depth) (optional x) m hx ≡ called (reads x m) kx =
          chosen-true (starts language (among (firsts language.heads x)) m) _ _ begun ∙ ex kx ∙ guided-continues language ahead (rule depth) Read x m kx in
          let two : guided language ahead (rule depth) (optional y) m hy ≡ called (reads y m) ky =
          chosen-true (starts language (among (firsts language.heads y)) m) _ _ h ∙ ey ky ∙ guided-continues language ahead (rule depth) Read y m ky in
          subst (λ u. Lock u (guided language ahead (rule depth) (optional y) m hy)) (sym one) (subst (λ u. Lock (called (reads x m) kx) u) (sym two)
          (open-then m (reads x m) (reads y m) kx ky (guided-stands (rule depth) (rule-stands depth) x p.x-placed.0 p.x-placed.1 m f.1)
          (guided-stands (rule depth) (rule-stands depth) y p.y-placed.0 p.y-placed.1 m f.1)
          (stands-onward depth m kx f.0 (λ l a e. sx a l e)) (stands-onward depth m ky f.0 (λ l a e. sy a l e)) (p.opened m f h) dx dy s))
      | inr h ↦
          let two : guided language ahead (rule depth) (optional y) m hy ≡ shut_by close fy m = chosen-false (starts language (among (firsts language.heads y)) m) _ _ h ∙ ty in
          subst (λ u. Lock (guided language ahead (rule depth) (optional x) m hx) u) (sym two) (elim (is_or_not (starts language (among close) m)) [
            | inl c ↦
                let off = off-apart language (firsts language.heads x) close m p.x-closes c in
                let one : guided language ahead (rule depth) (optional x) m hx ≡ shut_by close fx m = chosen-false (starts language (among (firsts language.heads x)) m) _ _ off ∙ tx in
                subst (λ u. Lock u (shut_by close fy m)) (sym one) (shut-lock close fx fy m)
            | inr c ↦ inr (inl (
              m,
              shut-none close fy m c,
              stands-past m _ f.0 (stands-if (starts language (among (firsts language.heads x)) m) m _ _
                  (subst (Stands m) (sym (ex kx ∙ guided-continues language ahead (rule depth) Read x m kx))
                  (onward m m (within-self m f.1) (reads x m) kx (guided-stands (rule depth) (rule-stands depth) x p.x-placed.0 p.x-placed.1 m f.1) (λ a l w. stands-more m l w (kx a l) (sx a l w.2))))
                  (subst (Stands m) (sym tx) (shut-stands close fx m p.no-end f.1))),
            ))
          ])
    ]

    pub members-dead : (z : Rule) (f : Tree Token → Tree Token → Tree Token) (n : ℕ) (l : List Token) → starts language (among follow_kinds) l ≡ false → members z close f n l ≡ Err (wrong l)
    members-dead z f n l o =
        members-end z close f n l (Rattle.grammar.proofs.Sets.off-covered language follow_kinds comma_kinds l p.follows-comma o)
        ∙ shut-none close (f tip) l (Rattle.grammar.proofs.Sets.off-covered language follow_kinds close l p.follows-close o)

    pub members-lock : (n k : ℕ) (m : List Token) (f g : Tree Token → Tree Token → Tree Token) → Fine m → length m ≤ n → length m ≤ k → Lock (members x close f n m) (members y close g k m)
    members-lock zero k [] f g w a b = absurd w.1
    members-lock zero k (t ∷ m) f g w a b = absurd (omega (arith, a))
    members-lock (suc n) zero [] f g w a b = absurd w.1
    members-lock (suc n) zero (t ∷ m) f g w a b = absurd (omega (arith, b))
    members-lock (suc n) (suc k) [] f g w a b = absurd w.1
    members-lock (suc n) (suc k) (t ∷ m) f g w a b = elim (is_or_not (among comma_kinds (token_kind t))) [
      | inl c ↦
          let v : Fine m = fine-behind (t ∷ m) m w (t ∷ [], refl, behind-other comma_kinds t m comma-no_end c w.1) in
          subst (λ u. Lock u (members y close g (suc k) (t ∷ m))) (sym (members-comma x close f n t m c)) (subst (λ u. Lock (guided language ahead (rule depth) (optional x) m (next_of x close f n t)) u) (sym (members-comma y close g k t m c))
          (turn-lock m v (λ o r. members x close (λ d. f (pair (pair (leaf t) o) d)) n r) (λ o r. members y close (λ d. g (pair (pair (leaf t) o) d)) k r) (next_of x close f n t) (next_of y close g k t)
          (f (pair (pair (leaf t) tip) tip)) (g (pair (pair (leaf t) tip) tip))
          (λ _. member-goes x p.x-takes (leaf t) m (λ o r. members x close (λ d. f (pair (pair (leaf t) o) d)) n r) (λ o r. shut_by close (f (pair (pair (leaf t) o) tip)) r))
          (λ _. member-goes y p.y-takes (leaf t) m (λ o r. members y close (λ d. g (pair (pair (leaf t) o) d)) k r) (λ o r. shut_by close (g (pair (pair (leaf t) o) tip)) r)) refl refl
          (λ o l e. members-stand x close p.x-more p.no-end (λ d. f (pair (pair (leaf t) o) d)) n l e) (λ o l e. members-stand y close p.y-more p.no-end (λ d. g (pair (pair (leaf t) o) d)) k l e)
          (λ o l e. members-dead x (λ d. f (pair (pair (leaf t) o) d)) n l e) (λ o l e. members-dead y (λ d. g (pair (pair (leaf t) o) d)) k l e)
          (λ c d l u. let s = within-short m l u in members-lock n k l (λ b. f (pair (pair (leaf t) c) b)) (λ b. g (pair (pair (leaf t) d) b)) (fine-behind m l v u) (omega (arith, a, s)) (omega (arith, b, s)))))
      | inr c ↦
          subst (λ u. Lock u (members y close g (suc k) (t ∷ m))) (sym (members-end x close f (suc n) (t ∷ m) c)) (subst (λ u. Lock (shut_by close (f tip) (t ∷ m)) u) (sym (members-end y close g (suc k) (t ∷ m) c))
          (shut-lock close (f tip) (g tip) (t ∷ m)))
    ]

    -- a list up to what closes it
    pub listed-lock : nullable x ≡ false → nullable y ≡ false → (f g : Tree Token → Tree Token → Tree Token) (m : List Token) → Fine m → Lock (wholly x close f m) (wholly y close g m)
    listed-lock n k f g m v =
        subst (λ u. Lock u (wholly y close g m)) (sym (listed-turn x close p.x-takes n f m)) (subst (λ u. Lock (guided language ahead (rule depth) (optional x) m (first_of x close f)) u) (sym (listed-turn y close p.y-takes k g m))
        (turn-lock m v (λ o r. members x close (λ d. f (pair o d)) (length r) r) (λ o r. members y close (λ d. g (pair o d)) (length r) r) (first_of x close f) (first_of y close g) (f tip) (g tip)
        (λ _. member-goes x p.x-takes tip m (λ o r. members x close (λ d. f (pair o d)) (length r) r) (λ o r. shut_by close (f tip) r))
        (λ _. member-goes y p.y-takes tip m (λ o r. members y close (λ d. g (pair o d)) (length r) r) (λ o r. shut_by close (g tip) r)) refl refl
        (λ o l e. members-stand x close p.x-more p.no-end (λ d. f (pair o d)) (length l) l e) (λ o l e. members-stand y close p.y-more p.no-end (λ d. g (pair o d)) (length l) l e)
        (λ o l e. members-dead x (λ d. f (pair o d)) (length l) l e) (λ o l e. members-dead y (λ d. g (pair o d)) (length l) l e)
        (λ c d l u. members-lock (length l) (length l) l (λ b. f (pair c b)) (λ b. g (pair d b)) (fine-behind m l v u) (omega arith) (omega arith))))
