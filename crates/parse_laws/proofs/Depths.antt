-- The brackets of both readings at each depth.
use Rattle.std.proofs.Common.{inl, inr, true, false, Bool, ◌≡◌, ℕ, zero, suc, List, ◌∷◌, length, Err, refl, ap, sym, subst, ◌∙◌, arith}
use Rattle.std.proofs.lemmas.List.{append-nil}
use Rattle.std.specs.Prelude.{if◌then◌else◌}
use Rattle.grammar.specs.Kinds.{among}
use Rattle.grammar.specs.Grammar.{Tree, tip, leaf, pair, node, line, starts}
use Rattle.grammar.specs.Reading.{firsts, nullable}
use Rattle.js_token.specs.declared.token.Token.{Token}
use Rattle.js_grammar.specs.Script.{rules, always, parameter, pattern_rule, array_rule, object_rule, element, property, pattern_member, is_parameter, has_parameter, parameter_list, parameters_rule, group_rule, expr_rule, assign_rule}
use Rattle.js_parse.specs.declared.fault.Fault.TheVariants as fault
use Rattle.js_parse.specs.declared.symbol.Symbol.{Symbol}
use Rattle.js_parse.specs.declared.symbol.Symbol.TheVariants as s
use Rattle.js_parse.specs.Symbols.{of_kind, same}
use Rattle.parse_laws.specs.Kinds.{token_kind, numbered}
use Rattle.parse_laws.proofs.Guided.{Was, Goes, done, too_far, guided, rule_at, guided-continues}
use Rattle.parse_laws.proofs.Walk.{language, ahead, rule, at_kind}
use Rattle.parse_laws.proofs.Begun.{kind-at, chosen-true, chosen-false, tables}
use Rattle.parse_laws.proofs.Places.{EndsIn, within-self, Stands, stands-more, stands-if}
use Rattle.parse_laws.proofs.Covered.{Read, onward-by}
use Rattle.parse_laws.proofs.Lockstep.{Fine, fine-behind, Lock}
use Rattle.parse_laws.proofs.Operands.{Locks}
use Rattle.parse_laws.proofs.Lists.{shut_by, shut-stands, wholly, listed-lock}
use Rattle.parse_laws.proofs.Readings.{fine-next, shut_bracket, shut_brace, shut_paren, elements-paired, properties-paired}
use Rattle.parse_laws.proofs.Headings.{one_x, more_x, comma_x, placed-one, placed-more, placed-comma, commas, params, shut-end, loop-stands, commas-dead, params-dead, param-turn, params-lock}

-- ---- where nothing nests

pub deep-at : (n : ℕ) (symbol : Symbol) (t : Token) (m : List Token) → of_kind t.kind ≡ symbol → ((b : Bool) → among (language.heads n) (numbered symbol b) ≡ true)
    → rule 0 n (t ∷ m) ≡ Err (fault.Deep t.place)
unfolding rule_at token_kind
deep-at n symbol t m e h = ap (λ b. Err (too_far b (t ∷ m))) (ap (λ symbol. among (language.heads n) (numbered symbol t.broken)) e ∙ h t.broken)

pub both-deep : (n k : ℕ) (symbol : Symbol) (t : Token) (m : List Token) → of_kind t.kind ≡ symbol → ((b : Bool) → among (language.heads n) (numbered symbol b) ≡ true)
    → ((b : Bool) → among (language.heads k) (numbered symbol b) ≡ true) → Lock (rule 0 n (t ∷ m)) (rule 0 k (t ∷ m))
both-deep n k symbol t m e h i = inr (inr (inl (fault.Deep t.place, deep-at n symbol t m e h, deep-at k symbol t m e i)))

pub brace-heads : (b : Bool) → (among (language.heads 9) (numbered s.OpenBrace b) ≡ true) × (among (language.heads 20) (numbered s.OpenBrace b) ≡ true)
unfolding tables
brace-heads true = (refl, refl)
brace-heads false = (refl, refl)

pub bracket-heads : (b : Bool) → (among (language.heads 8) (numbered s.OpenBracket b) ≡ true) × (among (language.heads 20) (numbered s.OpenBracket b) ≡ true)
unfolding tables
bracket-heads true = (refl, refl)
bracket-heads false = (refl, refl)

pub paren-heads : (b : Bool) → (among (language.heads 5) (numbered s.OpenParen b) ≡ true) × (among (language.heads 19) (numbered s.OpenParen b) ≡ true)
unfolding tables
paren-heads true = (refl, refl)
paren-heads false = (refl, refl)

-- ---- one deeper

abbrev pub wrapped : Token → Tree Token → Tree Token → Tree Token
wrapped t a c = pair (leaf t) (pair a c)

module _ (depth : ℕ) where
  pub object-form : (broken : Bool) (t : Token) (m : List Token) → of_kind t.kind ≡ s.OpenBrace → t.broken ≡ broken
      → (rule (suc depth) 9 (t ∷ m) ≡ wholly depth property shut_brace (wrapped t) m) × (rule (suc depth) 20 (t ∷ m) ≡ wholly depth pattern_member shut_brace (wrapped t) m)
  unfolding rule_at rules at_kind tables guided object_rule pattern_rule
  object-form true t m e f = (kind-at depth s.OpenBrace true object_rule t m done e f, kind-at depth s.OpenBrace true pattern_rule t m done e f)
  object-form false t m e f = (kind-at depth s.OpenBrace false object_rule t m done e f, kind-at depth s.OpenBrace false pattern_rule t m done e f)

  pub array-form : (broken : Bool) (t : Token) (m : List Token) → of_kind t.kind ≡ s.OpenBracket → t.broken ≡ broken
      → (rule (suc depth) 8 (t ∷ m) ≡ wholly depth element shut_bracket (wrapped t) m) × (rule (suc depth) 20 (t ∷ m) ≡ wholly depth parameter shut_bracket (wrapped t) m)
  unfolding rule_at rules at_kind tables guided array_rule pattern_rule
  array-form true t m e f = (kind-at depth s.OpenBracket true array_rule t m done e f, kind-at depth s.OpenBracket true pattern_rule t m done e f)
  array-form false t m e f = (kind-at depth s.OpenBracket false array_rule t m done e f, kind-at depth s.OpenBracket false pattern_rule t m done e f)

  abbrev pub grouped : Token → Tree Token → Tree Token → Tree Token → Tree Token
  grouped t v d c = pair (leaf t) (pair (node 44 (pair v d)) c)

  abbrev pub headed : Token → Tree Token → Tree Token → Tree Token → Tree Token
  headed t o d c = pair (leaf t) (pair (pair o d) c)

  abbrev pub group_k : Token → Goes Token Read
  group_k t v r = commas depth (grouped t v) (length r) r

  abbrev pub head_k : Token → Goes Token Read
  head_k t o r = if is_parameter o then params depth (headed t o) (length r) r else shut_by shut_paren (headed t o tip) r

  pub group-form : (broken : Bool) (t : Token) (m : List Token) → of_kind t.kind ≡ s.OpenParen → t.broken ≡ broken
      → (rule (suc depth) 5 (t ∷ m) ≡ guided language ahead (rule depth) (line 43 (assign_rule true)) m (group_k t))
      × (rule (suc depth) 19 (t ∷ m) ≡ guided language ahead (rule depth) parameter_list m (λ a r. shut_by shut_paren (wrapped t a) r))
  unfolding rule_at rules at_kind tables guided group_rule expr_rule parameters_rule
  group-form true t m e f = (kind-at depth s.OpenParen true group_rule t m done e f, kind-at depth s.OpenParen true parameters_rule t m done e f)
  group-form false t m e f = (kind-at depth s.OpenParen false group_rule t m done e f, kind-at depth s.OpenParen false parameters_rule t m done e f)

  abbrev pub heading : Token → List Token → Was Token
  heading t m = guided language ahead (rule depth) parameter_list m (λ a r. shut_by shut_paren (wrapped t a) r)

  pub heading-form : (t : Token) (m : List Token) → heading t m
      ≡ (if starts language (among (firsts language.heads one_x)) m then guided language ahead (rule depth) one_x m (head_k t) else shut_by shut_paren (wrapped t tip) m)
  unfolding guided firsts nullable
  heading-form t m = ap (λ ks. if starts language (among ks) m then guided language ahead (rule depth) one_x m (head_k t) else shut_by shut_paren (wrapped t tip) m) (append-nil (firsts language.heads one_x))

  pub heading-stands : (t : Token) (m : List Token) → EndsIn m → Stands m (heading t m)
  heading-stands t m e = subst (Stands m) (sym (heading-form t m)) (stands-if (starts language (among (firsts language.heads one_x)) m) m _ _
      (onward-by depth one_x placed-one.0 placed-one.1 m m (within-self m e) (head_k t) (λ o r w. stands-if (is_parameter o) m _ _
      (stands-more m r w _ (loop-stands depth more_x has_parameter placed-more (headed t o) (length r) r w.2)) (stands-more m r w _ (shut-stands shut_paren (headed t o tip) r (shut-end depth) w.2))))
      (shut-stands shut_paren (wrapped t tip) m (shut-end depth) e))

  module _ (l : Locks depth) where
    pub parens-lock : (t : Token) (m : List Token) → Fine (t ∷ m) → of_kind t.kind ≡ s.OpenParen → Lock (rule (suc depth) 5 (t ∷ m)) (rule (suc depth) 19 (t ∷ m))
    unfolding same guided
    parens-lock t m f e =
        let g = group-form t.broken t m e refl in
        let v = fine-next t m f (ap (λ symbol. same symbol s.End) e) in
        subst (λ u. Lock u (rule (suc depth) 19 (t ∷ m))) (sym g.0) (subst (λ u. Lock (guided language ahead (rule depth) (line 43 (assign_rule true)) m (group_k t)) u) (sym g.1)
        (param-turn depth l m v (group_k t) (λ o r. params depth (headed t o) (length r) r) (head_k t) (wrapped t tip) (heading t m) (heading-stands t m v.1)
        (λ b. heading-form t m ∙ chosen-true (starts language (among (firsts language.heads one_x)) m) _ _ b) (λ b. heading-form t m ∙ chosen-false (starts language (among (firsts language.heads one_x)) m) _ _ b)
        (guided-continues language ahead (rule depth) Read parameter m (λ o r. params depth (headed t o) (length r) r))
        (λ o r e. loop-stands depth comma_x always placed-comma (grouped t o) (length r) r e) (λ o r e. loop-stands depth more_x has_parameter placed-more (headed t o) (length r) r e)
        (λ o r e. commas-dead depth (grouped t o) (length r) r e) (λ o r e. params-dead depth (headed t o) (length r) r e)
        (λ a b r u. params-lock depth l (length r) (length r) r (grouped t a) (headed t b) (fine-behind m r v u) (omega arith) (omega arith))))

    pub locks-up : Locks (suc depth)
    unfolding same tables
    locks-up = (
      λ t m f e.
          let g = object-form t.broken t m e refl in
          subst (λ u. Lock u (rule (suc depth) 20 (t ∷ m))) (sym g.0) (subst (λ u. Lock (wholly depth property shut_brace (wrapped t) m) u) (sym g.1)
          (listed-lock depth property pattern_member shut_brace (properties-paired depth l) refl refl (wrapped t) (wrapped t) m (fine-next t m f (ap (λ symbol. same symbol s.End) e)))),
      λ t m f e.
          let g = array-form t.broken t m e refl in
          subst (λ u. Lock u (rule (suc depth) 20 (t ∷ m))) (sym g.0) (subst (λ u. Lock (wholly depth element shut_bracket (wrapped t) m) u) (sym g.1)
          (listed-lock depth element parameter shut_bracket (elements-paired depth l) refl refl (wrapped t) (wrapped t) m (fine-next t m f (ap (λ symbol. same symbol s.End) e)))),
    )

pub locks : (depth : ℕ) → Locks depth
locks zero = (λ t m f e. both-deep 9 20 s.OpenBrace t m e (λ b. (brace-heads b).0) (λ b. (brace-heads b).1), λ t m f e. both-deep 8 20 s.OpenBracket t m e (λ b. (bracket-heads b).0) (λ b. (bracket-heads b).1))
locks (suc depth) = locks-up depth (locks depth)

-- The parenthesis of both readings.
pub parens : (depth : ℕ) (t : Token) (m : List Token) → Fine (t ∷ m) → of_kind t.kind ≡ s.OpenParen → Lock (rule depth 5 (t ∷ m)) (rule depth 19 (t ∷ m))
parens zero t m f e = both-deep 5 19 s.OpenParen t m e (λ b. (paren-heads b).0) (λ b. (paren-heads b).1)
parens (suc depth) t m f e = parens-lock depth (locks depth) t m f e
