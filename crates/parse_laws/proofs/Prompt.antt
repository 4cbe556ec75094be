-- What begins as a rule does is read past its first token, two levels deep.
use Rattle.std.proofs.Common.{inl, inr, true, false, Bool, ◌⊎◌, ◌≡◌, ℕ, zero, suc, ◌+◌, ◌≤◌, List, [], ◌∷◌, ◌++◌, Ok, Err, refl, ap, sym, subst, ◌∙◌, arith}
use Rattle.std.proofs.lemmas.Bool.{ltb-true, ltb-false, ne_eqb}
use Rattle.std.proofs.lemmas.List.{append-nil}
use Rattle.std.specs.Prelude.{if◌then◌else◌, ◌==◌, nat_lt}
use Rattle.grammar.specs.Kinds.{among, covers, kept, and, not}
use Rattle.grammar.specs.Grammar.{Tree, leaf, pair, node, Grammar, empty, token, call, line, both, either, fork, many, named, prefer, starting, on, starts, entry}
use Rattle.grammar.specs.Reading.{firsts, nullable}
use Rattle.grammar.specs.Tests.{InPlace}
use Rattle.grammar.proofs.Sets.{and_both, not_true, at-covered, is_or_not, kept-among}
use Rattle.grammar.proofs.Free.{free}
use Rattle.js_token.specs.declared.token.Token.{Token}
use Rattle.js_grammar.specs.Script.{script, rules, heads, parameters, identifier, arrow_tail, pattern_rule, primary_rule, member_rule, left_rule, unary_rule, mul_rule, add_rule, shift_rule, rel_rule, equal_rule, bit_and_rule, bit_xor_rule, bit_or_rule, and_rule, or_rule, short_rule, cond_rule, assign_rule, expr_rule, arrow_rule, prefixed_rule, new_rule, group_rule, index_rule, computed_rule, array_rule, arguments_rule, template_rule, object_rule, function_rule, declared_rule, parameters_rule, no_parameters_rule, one_parameter_rule, stmt_rule, item_rule, block_rule, for_rule, script_rule}
use Rattle.js_parse.specs.declared.fault.Fault.{Fault}
use Rattle.js_parse.specs.declared.fault.Fault.TheVariants as fault
use Rattle.js_parse.specs.declared.symbol.Symbol.{Symbol}
use Rattle.js_parse.specs.declared.symbol.Symbol.TheVariants as s
use Rattle.js_parse.specs.Symbols.{of_kind, is_name, same}
use Rattle.js_parse.specs.Input.{place_at, later}
use Rattle.parse_laws.specs.Kinds.{token_kind, numbered}
use Rattle.parse_laws.proofs.Guided.{Was, Goes, done, called, wrong, first_of, forked, fault_in, opens_next, guided, rule_at, guided-continues}
use Rattle.parse_laws.proofs.Walk.{language, language-fits, ahead, rule}
use Rattle.parse_laws.proofs.Begun.{tables}
use Rattle.parse_laws.proofs.Ahead.{ahead-other, opens-agree}
use Rattle.parse_laws.proofs.Scripts.{end_kinds}
use Rattle.parse_laws.proofs.Places.{EndsIn, within-self, Ascends, ascends-behind, place-low, Stands, stands-past, stands-if, guided-stands, rule-stands, each-free, behind-other, Past, fault_place, fault_at}
use Rattle.parse_laws.proofs.Covered.{Read, onward-by}
use Rattle.parse_laws.proofs.Lockstep.{Fine, past-then}
use Rattle.parse_laws.proofs.Assigning.{among-skips}
use Rattle.parse_laws.proofs.Hanging.{Forks, each-forks}
use Rattle.parse_laws.proofs.Faults.{called-done_is}
use Rattle.js_token.specs.Lists.{AscendFrom}

-- ---- places of the later fault

pub later-past : (p a : ℕ) (e : Fault) → p ≤ a → (e ≡ fault.Memory → ⊥) → p ≤ fault_place (later a e)
later-past p a (fault.Token b s) le n = by (nat_lt a b) refl
  where
    by : (c : Bool) → nat_lt a b ≡ c → p ≤ fault_place (if c then fault.Token b true else fault.Token a true)
    by true c = let less = ltb-true a b c in omega (arith, less, le)
    by false c = le
later-past p a (fault.Deep b) le n = by (nat_lt b a) refl
  where
    by : (c : Bool) → nat_lt b a ≡ c → p ≤ fault_place (if c then fault.Token a true else fault.Deep b)
    by true c = le
    by false c = let less = ltb-false b a c in omega (arith, less, le)
later-past p a fault.Memory le n = absurd (n refl)

-- It tells no want of memory.
abbrev pub Told-so : Was Token → Type 0
Told-so w = fault_in w ≡ fault.Memory → ⊥

pub stands-told : (ts : List Token) (w : Was Token) → Stands ts w → Told-so w
stands-told ts (Ok q) s e = cc (e)
stands-told ts (Err f) s e = by s.0 (sym s.3 ∙ e)
  where
    by : (d : Bool) → fault_at d s.1 s.2 ≡ fault.Memory → ⊥
    by true e = cc (e)
    by false e = cc (e)

pub first-past : (p : ℕ) (x y : Was Token) → Past p x → Told-so y → Past p (first_of x y)
first-past p (Ok q) y le n = le
first-past p (Err (fault.Token a false)) y le n = later-past p a (fault_in y) le n
first-past p (Err (fault.Token a true)) y le n = le
first-past p (Err (fault.Deep a)) y le n = le
first-past p (Err fault.Memory) y le n = le

-- ---- which rules begin with a token

-- It begins with a token, or with one of the rules that do.
unfoldable pub headed : (ℕ → Bool) → Grammar Token → Bool
headed ready empty = false
headed ready (token kinds) = true
headed ready (call name) = ready name
headed ready (line name x) = and (covers (firsts language.heads x) (language.heads name)) (headed ready x)
headed ready (both x y) = and (not (nullable x)) (headed ready x)
headed ready (either x y) = and (headed ready x) (headed ready y)
headed ready (fork stop x y) = and (covers (firsts language.heads x) (firsts language.heads y)) (and (headed ready x) (headed ready y))
headed ready (many more x) = false
headed ready (named name x) = headed ready x
headed ready (prefer kinds x) = false
headed ready (starting test x) = headed ready x
headed ready (on test x y z) = and (not (nullable x)) (headed ready x)

abbrev pub none : ℕ → Bool
none n = false

abbrev pub prompt : ℕ → Bool
prompt = among (1 ∷ 2 ∷ 3 ∷ 5 ∷ 6 ∷ 7 ∷ 8 ∷ 9 ∷ 10 ∷ 11 ∷ 12 ∷ 13 ∷ 17 ∷ 18 ∷ 19 ∷ 20 ∷ 24 ∷ 25 ∷ 26 ∷ [])

-- Each rule begins so, with each of its heads.
unfoldable pub AllHeaded : ℕ → List (Grammar Token) → List (List ℕ) → Type 0
AllHeaded n [] [] = Unit {0}
AllHeaded n [] (h ∷ hs) = ⊥
AllHeaded n (x ∷ xs) [] = ⊥
AllHeaded n (x ∷ xs) (h ∷ hs) = (and (if prompt n then headed none x else true) (and (covers (firsts language.heads x) h) (headed prompt x)) ≡ true) × AllHeaded (suc n) xs hs

unfoldable pub others : {A : Type 0} → List A → List A
others [] = []
others (x ∷ xs) = xs

pub rules-headed : AllHeaded 1 (others rules) (others heads)
unfolding AllHeaded others headed tables covers rules pattern_rule primary_rule member_rule left_rule unary_rule mul_rule add_rule shift_rule rel_rule equal_rule bit_and_rule bit_xor_rule bit_or_rule and_rule or_rule short_rule cond_rule assign_rule expr_rule arrow_rule prefixed_rule new_rule group_rule index_rule computed_rule array_rule arguments_rule template_rule object_rule function_rule declared_rule parameters_rule no_parameters_rule one_parameter_rule stmt_rule item_rule block_rule for_rule script_rule
rules-headed = (refl, (refl, (refl, (refl, (refl, (refl, (refl, (refl, (refl, (refl, (refl, (refl, (refl, (refl, (refl, (refl, (refl, (refl, (refl, (refl, (refl, (refl, (refl, (refl, (refl, (refl, (refl, (refl, (refl, (refl, (refl, (refl, (refl, (refl, (refl, (refl, (refl, (refl, (refl, (refl, (refl, (refl, (refl, (refl, (refl, (refl, (refl, (refl, (refl, (refl, (refl, (refl, (refl, (refl, (refl, (refl, (refl, tt)))))))))))))))))))))))))))))))))))))))))))))))))))))))))

pub headed-at : (xs : List (Grammar Token)) (hs : List (List ℕ)) (k n : ℕ) → AllHeaded k xs hs
    → and (if prompt (k + n) then headed none (entry (token []) xs n) else true) (and (covers (firsts language.heads (entry (token []) xs n)) (entry [] hs n)) (headed prompt (entry (token []) xs n))) ≡ true
unfolding AllHeaded entry headed firsts covers
headed-at [] [] k n a = by (prompt (k + n))
  where
    by : (b : Bool) → and (if b then true else true) true ≡ true
    by true = refl
    by false = refl
headed-at [] (h ∷ hs) k n a = absurd a
headed-at (x ∷ xs) [] k n a = absurd a
headed-at (x ∷ xs) (h ∷ hs) k zero a = let e : k + 0 ≡ k = omega arith in rw e (a.0)
headed-at (x ∷ xs) (h ∷ hs) k (suc n) a = let e : k + suc n ≡ suc k + n = omega arith in rw e (headed-at xs hs (suc k) n a.1)

pub if-told : (b c : Bool) → b ≡ true → (if b then c else true) ≡ true → c ≡ true
if-told true c h e = e
if-told false c h e = absurd (cc (h))

-- Each of the rules but that of scripts.
abbrev pub Begins : ℕ → Type 0
Begins n = (prompt n ≡ true → headed none (language.rules n) ≡ true)
    × ((ts : List Token) → starts language (among (language.heads n)) ts ≡ true → starts language (among (firsts language.heads (language.rules n))) ts ≡ true) × (headed prompt (language.rules n) ≡ true)

pub others-at : (n : ℕ) → (entry (token []) (others rules) n ≡ language.rules (suc n)) × (entry [] (others heads) n ≡ language.heads (suc n))
unfolding others entry rules heads
others-at n = (refl, refl)

pub begins : (n : ℕ) → (n == script) ≡ false → Begins n
begins zero o = absurd (cc (o))
begins (suc n) o =
    let e : 1 + n ≡ suc n = omega arith in
    let q = others-at n in
    let k = headed-at (others rules) (others heads) 1 n rules-headed in
    let a = and_both (if prompt (1 + n) then headed none (entry (token []) (others rules) n) else true) _ k in
    let b = and_both (covers (firsts language.heads (entry (token []) (others rules) n)) (entry [] (others heads) n)) (headed prompt (entry (token []) (others rules) n)) a.1 in
    let c : covers (firsts language.heads (language.rules (suc n))) (language.heads (suc n)) ≡ true =
    subst (λ x. covers (firsts language.heads x) (language.heads (suc n)) ≡ true) q.0 (subst (λ h. covers (firsts language.heads (entry (token []) (others rules) n)) h ≡ true) q.1 b.0) in (
      λ p. subst (λ x. headed none x ≡ true) q.0 (if-told (prompt (1 + n)) (headed none (entry (token []) (others rules) n)) (ap prompt e ∙ p) a.0),
      λ ts h. at-covered language (firsts language.heads (language.rules (suc n))) (language.heads (suc n)) ts c h,
      subst (λ x. headed prompt x ≡ true) q.0 b.1,
    )

-- ---- past the first token

pub at-either : (xs ys : List ℕ) (ts : List Token) → starts language (among (xs ++ ys)) ts ≡ true → starts language (among xs) ts ≡ false → starts language (among ys) ts ≡ true
at-either xs ys [] e o = e
at-either xs ys (t ∷ ts) e o = sym (among-skips xs ys (token_kind t) o) ∙ e

pub at-first : (b : Bool) (xs ys : List ℕ) (ts : List Token) → b ≡ false → starts language (among (xs ++ (if b then ys else []))) ts ≡ true → starts language (among xs) ts ≡ true
at-first true xs ys ts b e = absurd (cc (b))
at-first false xs ys ts b e = ap (λ ks. starts language (among ks) ts) (sym (append-nil xs)) ∙ e

pub at-kept : (test : ℕ → Bool) (xs : List ℕ) (ts : List Token) → starts language (among (kept test xs)) ts ≡ true → (starts language (among xs) ts ≡ true) × (starts language test ts ≡ true)
at-kept test xs [] e = absurd (cc (e))
at-kept test xs (t ∷ ts) e = kept-among test xs (token_kind t) e

pub second-heads : (b : Bool) (symbol : Symbol) (broken : Bool) → (is_name symbol ≡ true) ⊎ (same symbol s.OpenParen ≡ true)
    → among (firsts language.heads (both (either parameters identifier) (arrow_tail b))) (numbered symbol broken) ≡ true
unfolding tables same
second-heads b s.OpenParen true e = refl
second-heads b s.OpenParen false e = refl
second-heads b s.Name true e = refl
second-heads b s.Name false e = refl
second-heads b s.Of true e = refl
second-heads b s.Of false e = refl
second-heads b s.Get true e = refl
second-heads b s.Get false e = refl
second-heads b s.Set true e = refl
second-heads b s.Set false e = refl
second-heads b _ _ e = absurd (elim e [ inl h ↦ cc (h) | inr h ↦ cc (h) ])

pub ahead-begins : (b : Bool) (ts : List Token) → EndsIn ts → ahead ts ≡ true → starts language (among (firsts language.heads (both (either parameters identifier) (arrow_tail b)))) ts ≡ true
unfolding token_kind
ahead-begins b [] i a = absurd i
ahead-begins b (t ∷ ts) i a = elim (is_or_not (is_name (of_kind t.kind))) [
  | inl n ↦ second-heads b (of_kind t.kind) t.broken (inl n)
  | inr n ↦ elim (is_or_not (same (of_kind t.kind) s.OpenParen)) [
    | inl o ↦ second-heads b (of_kind t.kind) t.broken (inr o)
    | inr o ↦ absurd (let off = ahead-other t ts (opens-agree t ∙ o) n in cc (off, a))
  ]
]

pub stands-apart : (w : Was Token) (k : Goes Token Read) (p : ℕ) (ts : List Token) → Ascends ts → Stands ts w → ((m : List Token) (a : Tree Token) → EndsIn m → Stands m (k a m)) → Past p w → Past p (called w k)
stands-apart w k p ts up s h le = past-then ts p w k s (λ a l w. stands-past l (k a l) (ascends-behind w.0 ts l w.1 up) (h l a w.2)) le

pub past-if : (b : Bool) (p : ℕ) (x y : Was Token) → b ≡ true → Past p x → Past p (if b then x else y)
past-if true p x y e le = le
past-if false p x y e le = absurd (cc (e))

pub past-off : (b : Bool) (p : ℕ) (x y : Was Token) → b ≡ false → Past p y → Past p (if b then x else y)
past-off true p x y e le = absurd (cc (e))
past-off false p x y e le = le

pub forked-past : (p : ℕ) (c a : Bool) (x y : Was Token) → Told-so x → Told-so y → Past p x → (a ≡ true → Past p y) → Past p (forked c a x y)
forked-past p true true x y n m le h = first-past p y x (h refl) n
forked-past p true false x y n m le h = first-past p x y le m
forked-past p false true x y n m le h = h refl
forked-past p false false x y n m le h = le

module _ (depth : ℕ) (ready : ℕ → Bool)
    (h : (n : ℕ) → ready n ≡ true → (ts : List Token) → Fine ts → starts language (among (language.heads n)) ts ≡ true → Past (suc (place_at ts)) (rule depth n ts)) where
  abbrev pub g : Grammar Token → List Token → Was Token
  g x ts = guided language ahead (rule depth) x ts done

  abbrev pub all-stand : (x : Grammar Token) → InPlace language.rules x → free end_kinds script x ≡ true → (ts : List Token) → EndsIn ts → Stands ts (g x ts)
  all-stand x i f ts e = guided-stands (rule depth) (rule-stands depth) x i f ts e

  pub further-on : (x : Grammar Token) (ts : List Token) (k : Goes Token Read) (p : ℕ) → Fine ts → Stands ts (g x ts) → ((m : List Token) (a : Tree Token) → EndsIn m → Stands m (k a m)) → Past p (g x ts)
      → Past p (guided language ahead (rule depth) x ts k)
  further-on x ts k p f s o le = subst (Past p) (sym (guided-continues language ahead (rule depth) Read x ts k)) (stands-apart (g x ts) k p ts f.0 s o le)

  pub part-on : (y : Grammar Token) → InPlace language.rules y → free end_kinds script y ≡ true → (f : Tree Token → Tree Token) (m : List Token) → EndsIn m → Stands m (guided language ahead (rule depth) y m (λ b r. done (f b) r))
  part-on y i v f m e = onward-by depth y i v m m (within-self m e) _ (λ b r w. w)

  pub guided-past : (x : Grammar Token) → InPlace language.rules x → free end_kinds script x ≡ true → Forks x → headed ready x ≡ true → (ts : List Token) → Fine ts
      → starts language (among (firsts language.heads x)) ts ≡ true → Past (suc (place_at ts)) (g x ts)
  unfolding guided firsts InPlace free Forks headed token_kind
  guided-past empty i v k w ts f b = absurd (cc (w))
  guided-past (token kinds) i v k w [] f b = absurd (cc (b))
  guided-past (token kinds) i v k w (t ∷ ts) f b =
      let behind : EndsIn ts = behind-other kinds t ts v b f.1 in
      let low : AscendFrom (t.place + 1) ts = (f.0).1.1 in
      let n = place-low (t.place + 1) ts low behind in
      past-if (among kinds (token_kind t)) (suc t.place) (done (leaf t) ts) (Err (wrong (t ∷ ts))) b (omega (arith, n))
  guided-past (call name) i v k w ts f b = subst (Past (suc (place_at ts))) (sym (called-done_is (rule depth name ts))) (h name w ts f b)
  guided-past (line name x) i v k w ts f b =
      let w₁ = and_both (covers (firsts language.heads x) (language.heads name)) (headed ready x) w in
      guided-past x (subst (InPlace language.rules) (sym i) (language-fits name).1) (subst (λ y. free end_kinds script y ≡ true) (sym i) (each-free name (not_true (name == script) v)))
      (subst Forks (sym i) (each-forks name)) w₁.1 ts f (at-covered language (firsts language.heads x) (language.heads name) ts w₁.0 b)
  guided-past (both x y) i v k w ts f b =
      let v₁ = and_both (free end_kinds script x) (free end_kinds script y) v in
      let w₁ = and_both (not (nullable x)) (headed ready x) w in
      further-on x ts (λ a mid. guided language ahead (rule depth) y mid (λ b rest. done (pair a b) rest)) (suc (place_at ts)) f (all-stand x i.0 v₁.0 ts f.1)
      (λ m a e. part-on y i.1 v₁.1 (λ b. pair a b) m e)
      (guided-past x i.0 v₁.0 k.0 w₁.1 ts f (at-first (nullable x) (firsts language.heads x) (firsts language.heads y) ts (not_true (nullable x) w₁.0) b))
  guided-past (either x y) i v k w ts f b =
      let v₁ = and_both (free end_kinds script x) (free end_kinds script y) v in
      let w₁ = and_both (headed ready x) (headed ready y) w in
      elim (is_or_not (starts language (among (firsts language.heads x)) ts)) [
        | inl e ↦ past-if (starts language (among (firsts language.heads x)) ts) (suc (place_at ts)) (g x ts) (g y ts) e (guided-past x i.0 v₁.0 k.0 w₁.0 ts f e)
        | inr e ↦ past-off (starts language (among (firsts language.heads x)) ts) (suc (place_at ts)) (g x ts) (g y ts) e
            (guided-past y i.1 v₁.1 k.1 w₁.1 ts f (at-either (firsts language.heads x) (firsts language.heads y) ts b e))
      ]
  guided-past (fork stop x y) i v k w ts f b =
      let v₁ = and_both (free end_kinds script x) (free end_kinds script y) v in
      let w₁ = and_both (covers (firsts language.heads x) (firsts language.heads y)) (and (headed ready x) (headed ready y)) w in
      let w₂ = and_both (headed ready x) (headed ready y) w₁.1 in
      let e : starts language (among (firsts language.heads x)) ts ≡ true = elim (is_or_not (starts language (among (firsts language.heads x)) ts)) [
        | inl e ↦ e
        | inr e ↦ at-covered language (firsts language.heads x) (firsts language.heads y) ts w₁.0 (at-either (firsts language.heads x) (firsts language.heads y) ts b e)
      ] in
      let sx = all-stand x i.0 v₁.0 ts f.1 in
      let sy = all-stand y i.1 v₁.1 ts f.1 in
      past-if (starts language (among (firsts language.heads x)) ts) (suc (place_at ts)) (called (forked (opens_next ts) (ahead ts) (g x ts) (g y ts)) done) (g x ts) e
      (subst (Past (suc (place_at ts))) (sym (called-done_is (forked (opens_next ts) (ahead ts) (g x ts) (g y ts))))
      (forked-past (suc (place_at ts)) (opens_next ts) (ahead ts) (g x ts) (g y ts) (stands-told ts (g x ts) sx) (stands-told ts (g y ts) sy) (guided-past x i.0 v₁.0 k.1 w₂.0 ts f e)
      (λ a. guided-past y i.1 v₁.1 k.2 w₂.1 ts f (subst (λ y. starts language (among (firsts language.heads y)) ts ≡ true) (sym (k.0).2) (ahead-begins (k.0).0 ts f.1 a)))))
  guided-past (many more x) i v k w ts f b = absurd (cc (w))
  guided-past (named name x) i v k w ts f b =
      further-on x ts (λ a rest. done (node name a) rest) (suc (place_at ts)) f (all-stand x i v ts f.1) (λ m a e. within-self m e) (guided-past x i v k w ts f b)
  guided-past (prefer kinds x) i v k w ts f b = absurd (cc (w))
  guided-past (starting test x) i v k w ts f b =
      let q = at-kept test (firsts language.heads x) ts b in
      past-if (starts language test ts) (suc (place_at ts)) (g x ts) (Err (wrong ts)) q.1 (guided-past x i v k w ts f q.0)
  guided-past (on test x y z) i v k w ts f b =
      let v₁ = and_both (free end_kinds script x) _ v in
      let v₂ = and_both (free end_kinds script y) (free end_kinds script z) v₁.1 in
      let w₁ = and_both (not (nullable x)) (headed ready x) w in
      further-on x ts (λ a mid. if test a then guided language ahead (rule depth) y mid (λ b rest. done (pair a b) rest) else guided language ahead (rule depth) z mid (λ b rest. done (pair a b) rest))
      (suc (place_at ts)) f (all-stand x i.0 v₁.0 ts f.1)
      (λ m a e. stands-if (test a) m _ _ (part-on y i.1 v₂.0 (λ b. pair a b) m e) (part-on z i.2 v₂.1 (λ b. pair a b) m e))
      (guided-past x i.0 v₁.0 k.0 w₁.1 ts f (at-first (nullable x) (firsts language.heads x) (firsts language.heads y ++ firsts language.heads z) ts (not_true (nullable x) w₁.0) b))

pub not-script : (n : ℕ) → (suc n == script) ≡ false
not-script n = ne_eqb (suc n) 0 (λ e. omega (arith, e))

pub prompt-past : (depth n : ℕ) → prompt n ≡ true → (ts : List Token) → Fine ts → starts language (among (language.heads n)) ts ≡ true → Past (suc (place_at ts)) (rule (suc depth) n ts)
unfolding rule_at among
prompt-past depth zero p ts f b = absurd (cc (p))
prompt-past depth (suc n) p ts f b =
    let k = begins (suc n) (not-script n) in
    guided-past depth none (λ n e. absurd (cc (e))) (language.rules (suc n)) (language-fits (suc n)).1 (each-free (suc n) (not-script n)) (each-forks (suc n)) (k.0 p) ts f (k.1 ts b)

-- Two levels are enough for the first token of each rule.
pub rule-past : (depth n : ℕ) → (n == script) ≡ false → (ts : List Token) → Fine ts → starts language (among (language.heads n)) ts ≡ true → Past (suc (place_at ts)) (rule (suc (suc depth)) n ts)
unfolding rule_at
rule-past depth n o ts f b =
    let k = begins n o in
    guided-past (suc depth) prompt (prompt-past depth) (language.rules n) (language-fits n).1 (each-free n o) (each-forks n) k.2 ts f (k.1 ts b)
