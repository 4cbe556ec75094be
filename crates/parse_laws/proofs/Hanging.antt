-- Which parts may end before an arrow, and what forks: those of an expression and an arrow alone.
use Rattle.std.proofs.Common.{inl, inr, true, false, Bool, ◌≡◌, ℕ, zero, suc, ◌+◌, List, [], ◌∷◌, ◌++◌, Ok, Err, refl, ap, sym, subst, ◌∙◌, arith}
use Rattle.std.specs.Prelude.{if◌then◌else◌, ◌||◌}
use Rattle.grammar.specs.Kinds.{among, apart, and}
use Rattle.grammar.specs.Grammar.{leaf, Grammar, empty, token, call, line, both, either, fork, many, named, prefer, starting, on, starts, entry}
use Rattle.grammar.specs.Reading.{firsts, nullable}
use Rattle.grammar.specs.Tests.{InPlace}
use Rattle.grammar.proofs.Sets.{and_both, is_or_not}
use Rattle.grammar.proofs.Free.{free}
use Rattle.js_token.specs.declared.token.Token.{Token}
use Rattle.js_grammar.specs.Script.{rules, arrow_kinds, form, parameters, identifier, arrow_tail, pattern_rule, primary_rule, member_rule, left_rule, unary_rule, mul_rule, add_rule, shift_rule, rel_rule, equal_rule, bit_and_rule, bit_xor_rule, bit_or_rule, and_rule, or_rule, short_rule, cond_rule, assign_rule, expr_rule, arrow_rule, prefixed_rule, new_rule, group_rule, index_rule, computed_rule, array_rule, arguments_rule, template_rule, object_rule, function_rule, declared_rule, parameters_rule, no_parameters_rule, one_parameter_rule, stmt_rule, item_rule, block_rule, for_rule, script_rule}
use Rattle.js_parse.specs.declared.symbol.Symbol.TheVariants as s
use Rattle.js_parse.specs.Symbols.{of_kind, is_name, same}
use Rattle.js_parse.specs.Input.{place_at}
use Rattle.parse_laws.specs.Kinds.{token_kind}
use Rattle.parse_laws.proofs.Guided.{done, wrong, opens_next, guided}
use Rattle.parse_laws.proofs.Walk.{language, ahead, rule}
use Rattle.parse_laws.proofs.Begun.{not-begun, tables}
use Rattle.parse_laws.proofs.Ahead.{ahead-name, ahead-other, arrow-starts, opens-agree}
use Rattle.parse_laws.proofs.Symbols.{is-open_paren}
use Rattle.parse_laws.proofs.Places.{EndsIn, within-self, Past, Stands, stands-past, guided-stands, rule-stands}
use Rattle.parse_laws.proofs.Covered.{Read, Placed, behind-quiet, behind-stands, behind, cond-name}
use Rattle.parse_laws.proofs.Lockstep.{Fine}
use Rattle.parse_laws.proofs.Operands.{fine-name, named-arrow}
use Rattle.parse_laws.proofs.Merged.{Forked, first, second, tail, tail-stands, tail-off, quiet-arrow, paren-forked}

-- ---- which parts may end before an arrow

abbrev pub hanging : ℕ → Bool
hanging = among (15 ∷ 16 ∷ 17 ∷ 18 ∷ 42 ∷ 43 ∷ 44 ∷ 53 ∷ 54 ∷ 55 ∷ [])

unfoldable pub hangs : Grammar Token → Bool
hangs empty = false
hangs (token kinds) = false
hangs (call name) = hanging name
hangs (line name x) = hangs x
hangs (both x y) = (if nullable y then hangs x else false) || hangs y
hangs (either x y) = hangs x || hangs y
hangs (fork stop x y) = true
hangs (many more x) = hangs x
hangs (named name x) = hangs x
hangs (prefer kinds x) = hangs x
hangs (starting test x) = hangs x
hangs (on test x y z) = hangs x || (hangs y || hangs z)

abbrev pub if-hangs : Bool → List ℕ → Bool
if-hangs b xs = if b then apart xs arrow_kinds else true

-- Behind those no arrow goes on.
unfoldable pub still : Grammar Token → Bool
still empty = true
still (token kinds) = true
still (call name) = true
still (line name x) = true
still (both x y) = and (if-hangs (hangs x) (firsts language.heads y)) (and (still x) (still y))
still (either x y) = and (still x) (still y)
still (fork stop x y) = and (still x) (still y)
still (many more x) = and (if-hangs (hangs x) (firsts language.heads x)) (still x)
still (named name x) = still x
still (prefer kinds x) = still x
still (starting test x) = still x
still (on test x y z) = and (if-hangs (hangs x) (firsts language.heads y ++ firsts language.heads z)) (and (still x) (and (still y) (still z)))

unfoldable pub AllStill : ℕ → List (Grammar Token) → Type 0
AllStill n [] = Unit {0}
AllStill n (x ∷ xs) = (and (if hangs x then hanging n else true) (still x) ≡ true) × AllStill (suc n) xs

pub still-at : (xs : List (Grammar Token)) (k n : ℕ) → AllStill k xs → and (if hangs (entry (token []) xs n) then hanging (k + n) else true) (still (entry (token []) xs n)) ≡ true
unfolding AllStill entry hangs still
still-at [] k n a = refl
still-at (x ∷ xs) k zero a = let e : k + 0 ≡ k = omega arith in rw e (a.0)
still-at (x ∷ xs) k (suc n) a = let e : k + suc n ≡ suc k + n = omega arith in rw e (still-at xs (suc k) n a.1)

pub rules-still : AllStill 0 rules
unfolding AllStill hangs still tables apart rules pattern_rule primary_rule member_rule left_rule unary_rule mul_rule add_rule shift_rule rel_rule equal_rule bit_and_rule bit_xor_rule bit_or_rule and_rule or_rule short_rule cond_rule assign_rule expr_rule arrow_rule prefixed_rule new_rule group_rule index_rule computed_rule array_rule arguments_rule template_rule object_rule function_rule declared_rule parameters_rule no_parameters_rule one_parameter_rule stmt_rule item_rule block_rule for_rule script_rule
rules-still = (refl, (refl, (refl, (refl, (refl, (refl, (refl, (refl, (refl, (refl, (refl, (refl, (refl, (refl, (refl, (refl, (refl, (refl, (refl, (refl, (refl, (refl, (refl, (refl, (refl, (refl, (refl, (refl, (refl, (refl, (refl, (refl, (refl, (refl, (refl, (refl, (refl, (refl, (refl, (refl, (refl, (refl, (refl, (refl, (refl, (refl, (refl, (refl, (refl, (refl, (refl, (refl, (refl, (refl, (refl, (refl, (refl, (refl, tt))))))))))))))))))))))))))))))))))))))))))))))))))))))))))

pub each-still : (n : ℕ) → (hangs (language.rules n) ≡ true → hanging n ≡ true) × (still (language.rules n) ≡ true)
each-still n =
    let k = and_both (if hangs (language.rules n) then hanging (0 + n) else true) (still (language.rules n)) (still-at rules 0 n rules-still) in
    let e : 0 + n ≡ n = omega arith in
    (λ h. ap hanging (sym e) ∙ by (hangs (language.rules n)) (hanging (0 + n)) h k.0, k.1)
  where
    by : (b c : Bool) → b ≡ true → (if b then c else true) ≡ true → c ≡ true
    by true c h e = e
    by false c h e = absurd (cc (h))

-- ---- each fork is that of expressions and arrows

unfoldable pub Forks : Grammar Token → Type 0
Forks empty = Unit {0}
Forks (token kinds) = Unit {0}
Forks (call name) = Unit {0}
Forks (line name x) = Unit {0}
Forks (both x y) = Forks x × Forks y
Forks (either x y) = Forks x × Forks y
Forks (fork stop x y) = ((b : Bool) × (x ≡ line (form b 42) (cond_rule b)) × (y ≡ both (either parameters identifier) (arrow_tail b))) × Forks x × Forks y
Forks (many more x) = Forks x
Forks (named name x) = Forks x
Forks (prefer kinds x) = Forks x
Forks (starting test x) = Forks x
Forks (on test x y z) = Forks x × Forks y × Forks z

unfoldable pub AllForks : List (Grammar Token) → Type 0
AllForks [] = Unit {0}
AllForks (x ∷ xs) = Forks x × AllForks xs

pub forks-at : (xs : List (Grammar Token)) (n : ℕ) → AllForks xs → Forks (entry (token []) xs n)
unfolding AllForks entry Forks
forks-at [] n a = tt
forks-at (x ∷ xs) zero a = a.0
forks-at (x ∷ xs) (suc n) a = forks-at xs n a.1

pub rules-fork : AllForks rules
unfolding AllForks Forks rules pattern_rule primary_rule member_rule left_rule unary_rule mul_rule add_rule shift_rule rel_rule equal_rule bit_and_rule bit_xor_rule bit_or_rule and_rule or_rule short_rule cond_rule assign_rule expr_rule arrow_rule prefixed_rule new_rule group_rule index_rule computed_rule array_rule arguments_rule template_rule object_rule function_rule declared_rule parameters_rule no_parameters_rule one_parameter_rule stmt_rule item_rule block_rule for_rule script_rule
rules-fork = (search, (search, (search, (search, (search, (search, (search, (search, (search, (search, (search, (search, (search, (search, (search, (search, (search, (search, (search, (search, (search, (search, (search, (search, (search, (search, (search, (search, (search, (search, (search, (search, (search, (search, (search, (search, (search, (search, (search, (search, (search, (search, (search, (((true, refl, refl), tt, ((tt, tt), tt)), (search, (search, (search, (search, (search, (search, (search, (search, (search, (search, (((false, refl, refl), tt, ((tt, tt), tt)), (search, (search, (search, tt))))))))))))))))))))))))))))))))))))))))))))))))))))))))))

pub each-forks : (n : ℕ) → Forks (language.rules n)
each-forks n = forks-at rules n rules-fork

-- ---- each fork

pub placed-cond : (b : Bool) → Placed (line (form b 42) (cond_rule b))
unfolding InPlace rules entry free tables apart
placed-cond true = (refl, refl)
placed-cond false = (refl, refl)

module _ (depth : ℕ) (b : Bool) where
  -- where no parenthesis begins it
  pub plain-forked : (t : Token) (m : List Token) → Fine (t ∷ m) → opens_next (t ∷ m) ≡ false
      → (ahead (t ∷ m) ≡ true → (p : Read) × (first depth b (t ∷ m) ≡ Ok p) × Past (place_at p.1) (second depth b (t ∷ m)))
      × (ahead (t ∷ m) ≡ false → (l : List Token) × (second depth b (t ∷ m) ≡ Err (wrong l)) × Past (place_at l) (first depth b (t ∷ m)))
  unfolding InPlace tables token_kind same guided
  plain-forked t m f o = elim (is_or_not (is_name (of_kind t.kind))) [
    | inl n ↦
        let v = fine-name depth t m f n in
        let x = cond-name depth b (of_kind t.kind) t.broken t m n refl refl in
        let y = named-arrow depth b t m n in
        let is : ahead (t ∷ m) ≡ starts language (among arrow_kinds) m = ahead-name t m n ∙ arrow-starts m in (
          λ a. (
            _,
            x ∙ behind-quiet depth b (leaf t) m (quiet-arrow depth b m (sym is ∙ a)),
            subst (λ w. Past (place_at m) w) (sym y) (stands-past m (tail depth b (leaf t) m) v.0 (tail-stands depth b m m (leaf t) (within-self m v.1))),
          ),
          λ a. (
            m,
            y ∙ tail-off depth b m (leaf t) (sym is ∙ a),
            subst (λ w. Past (place_at m) w) (sym x) (stands-past m (behind depth b (leaf t) m) v.0 (behind-stands depth b m m (leaf t) (within-self m v.1))),
          ),
        )
    | inr n ↦ (
      λ a. absurd (let off = ahead-other t m (opens-agree t ∙ o) n in cc (off, a)),
      λ a. (t ∷ m, second-none n, stands-past (t ∷ m) (first depth b (t ∷ m)) f.0 (first-stands (t ∷ m) f.1)),
    )
  ]
    where
      first-stands : (ts : List Token) → EndsIn ts → Stands ts (first depth b ts)
      first-stands ts e = guided-stands (rule depth) (rule-stands depth) (line (form b 42) (cond_rule b)) (placed-cond b).0 (placed-cond b).1 ts e

      none-off : (symbol : Rattle.js_parse.specs.declared.symbol.Symbol.Symbol) (broken : Bool) → is_name symbol ≡ false → same symbol s.OpenParen ≡ false
          → among (firsts language.heads (both (either parameters identifier) (arrow_tail b))) (Rattle.parse_laws.specs.Kinds.numbered symbol broken) ≡ false
      none-off s.OpenParen broken n o = absurd (cc (o))
      none-off s.Name broken n o = absurd (cc (n))
      none-off s.Of broken n o = absurd (cc (n))
      none-off s.Get broken n o = absurd (cc (n))
      none-off s.Set broken n o = absurd (cc (n))
      none-off _ true n o = refl
      none-off _ false n o = refl

      placed-second : (b : Bool) → InPlace language.rules (both (either parameters identifier) (arrow_tail b))
      placed-second true = search
      placed-second false = search

      second-none : is_name (of_kind t.kind) ≡ false → second depth b (t ∷ m) ≡ Err (wrong (t ∷ m))
      second-none n = not-begun depth (both (either parameters identifier) (arrow_tail b)) (placed-second b) refl (t ∷ m) done (none-off (of_kind t.kind) t.broken n o)

  pub each-forked : (ts : List Token) → Fine ts → Forked ts (first depth b ts) (second depth b ts)
  each-forked [] f = absurd f.1
  each-forked (t ∷ m) f = elim (is_or_not (opens_next (t ∷ m))) [
    | inl o ↦ paren-forked depth b t m f (is-open_paren (of_kind t.kind) o)
    | inr o ↦
        let k = plain-forked t m f o in
        elim (is_or_not (ahead (t ∷ m))) [
          | inl a ↦ let d = k.0 a in inr (inr (inr (d.0, d.1, a, d.2)))
          | inr a ↦ inr (inl (k.1 a))
        ]
  ]

  pub no-paren : (ts : List Token) → Fine ts → opens_next ts ≡ false
      → (ahead ts ≡ true → (p : Read) × (first depth b ts ≡ Ok p) × Past (place_at p.1) (second depth b ts))
      × (ahead ts ≡ false → (l : List Token) × (second depth b ts ≡ Err (wrong l)) × Past (place_at l) (first depth b ts))
  no-paren [] f o = absurd f.1
  no-paren (t ∷ m) f o = plain-forked t m f o
