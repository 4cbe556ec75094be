-- Templates.
use Rattle.std.proofs.Common.{true, false, Bool, ◌≡◌, ℕ, zero, suc, ◌≤◌, List, [], ◌∷◌, ◌++◌, length, refl, ap, sym, ◌∙◌, arith}
use Rattle.std.specs.Prelude.{if◌then◌else◌, Err}
use Rattle.grammar.specs.Kinds.{among, apart}
use Rattle.grammar.specs.Reading.{firsts, nullable}
use Rattle.grammar.specs.Grammar.{Tree, tip, leaf, pair, both, token}
use Rattle.std.proofs.lemmas.List.{append-nil}
use Rattle.grammar.proofs.Sets.{apart-tells}
use Rattle.js_token.specs.declared.token.Token.{Token}
use Rattle.js_tree.specs.Nodes.{Nodes}
use Rattle.js_tree.specs.declared.node.NodeId.{NodeId}
use Rattle.js_tree.specs.declared.node.Node.TheVariants as made
use Rattle.js_grammar.specs.Kinds.{template_head, template_middle, template_tail, kinds}
use Rattle.js_grammar.specs.Script.{expr, expr_rule, template_rule, Rule, any, always}
use Rattle.js_parse.specs.declared.symbol.Symbol.TheVariants as s
use Rattle.js_parse.specs.Symbols.{of_kind}
use Rattle.js_parse.specs.Input.{seen, Parser, Input, and_then, symbol, text as text_next, text_of, place, next, add, pure, refuse, take_text, sees, ◌>>=◌}
use Rattle.js_parse.specs.Grammar as g
use Rattle.js_parse.specs.Nesting.{part_at}
use Rattle.parse_laws.specs.Kinds.{token_kind}
use Rattle.parse_laws.specs.Trees as mk
use Rattle.parse_laws.specs.Trees.{Parts, parts_at, place_in, symbol_in, first_token, first, second, under, Build}
use Rattle.parse_laws.proofs.Guided.{guided, many_of, taking, Told, wrong}
use Rattle.parse_laws.proofs.Sound.{vacant, read-front, read-shorter}
use Rattle.parse_laws.proofs.Walk.{language, ahead, rule, told, built, step+, each-takes, at_kind, none-at_end}
use Rattle.parse_laws.proofs.Begun.{refusals, kind-at, tables}
use Rattle.parse_laws.proofs.Steps.{assoc}
use Rattle.parse_laws.proofs.Symbols.{only-template_tail, only-template_middle}
use Rattle.parse_laws.proofs.Parted.{Parted}
use Rattle.parse_laws.proofs.Arrows.{expression-sim, expr-takes}

module _ (depth : ℕ) (h : Parted depth) where
  abbrev pub heads_ : List ℕ
  heads_ = kinds (template_head ∷ [])

  abbrev pub middles : List ℕ
  middles = kinds (template_middle ∷ [])

  abbrev pub tails_ : List ℕ
  tails_ = kinds (template_tail ∷ [])

  abbrev pub Pieces : Type 0
  Pieces = List (List ℕ) × List NodeId

  -- behind a value: the last stretch, or another and what follows
  abbrev pub middle_by : ℕ → List (List ℕ) → List NodeId → Bool → Parser Pieces
  middle_by n texts values middle = if middle then (take_text >>= λ text. g.template_from (part_at depth) n (texts ++ text ∷ []) values) else refuse

  abbrev pub last_by : ℕ → List (List ℕ) → List NodeId → Bool → Parser Pieces
  last_by n texts values last = if last then (take_text >>= λ text. pure (texts ++ text ∷ [], values)) else (seen s.TemplateMiddle >>= middle_by n texts values)

  abbrev pub stretch_x : Rule
  stretch_x = both (token middles) (expr true)

  abbrev pub ended : (Pieces → Parser NodeId) → List (List ℕ) → List NodeId → Nodes → Tree Token → List Token → Told (NodeId × Input)
  ended f texts values ns d m = taking language tails_ m (λ u rest. let w = mk.stretches (parts_at depth) texts values d u ns in told (f w.0 (rest, w.1)))

  abbrev pub Reads-stretches : (Pieces → Parser NodeId) → ℕ → ℕ → Type 0
  Reads-stretches f n m = (texts : List (List ℕ)) (values : List NodeId) (ts : List Token) (ns : Nodes) → length ts ≤ n → length ts ≤ m
      → told (and_then (last_by m texts values (sees s.TemplateTail (ts, ns)) (ts, ns)) f)
      ≡ many_of language (among (firsts language.heads stretch_x)) always (guided language ahead (rule depth) stretch_x) n ts (ended f texts values ns)

  pub stretches-parted : apart tails_ middles ≡ true
  unfolding tables apart
  stretches-parted = refl

  pub no-stretch : (f : Pieces → Parser NodeId) (m : ℕ) (texts : List (List ℕ)) (values : List NodeId) (ns : Nodes)
      → told (and_then (last_by m texts values (sees s.TemplateTail ([], ns)) ([], ns)) f) ≡ Err (wrong [])
  unfolding sees symbol refusals
  no-stretch f m texts values ns = ap (λ v. told (and_then (last_by m texts values v ([], ns)) f)) only-template_tail.no_end
      ∙ ap (λ v. told (and_then (middle_by m texts values v ([], ns)) f)) only-template_middle.no_end

  pub stretches-loop : (f : Pieces → Parser NodeId) (n m : ℕ) → Reads-stretches f n m
  unfolding g.template_from mk.stretches many_of guided firsts nullable sees symbol text_next next token_kind first_token refusals
  stretches-loop f zero m texts values [] ns few less = no-stretch f m texts values ns
  stretches-loop f zero m texts values (t ∷ ts) ns few less = absurd (omega (arith, few))
  stretches-loop f (suc n) m texts values [] ns few less = no-stretch f m texts values ns
  stretches-loop f (suc n) zero texts values (t ∷ ts) ns few less = absurd (omega (arith, less))
  stretches-loop f (suc n) (suc j) texts values (t ∷ ts) ns few less =
      ap (λ v. told (and_then (last_by (suc j) texts values v (t ∷ ts, ns)) f)) (only-template_tail.agrees (of_kind t.kind) t.broken)
      ∙ by (stretches-loop f n j) (among tails_ (token_kind t)) (among middles (token_kind t)) refl refl
      ∙ ap (λ g. if among g (token_kind t) then (if among middles (token_kind t) then guided language ahead (rule depth) (expr_rule true) ts (λ e m.
      many_of language (among (middles ++ [])) always (guided language ahead (rule depth) stretch_x) n m (λ d end. ended f texts values ns (pair (pair (leaf t) e) d) end)) else Err (wrong (t ∷ ts)))
      else ended f texts values ns tip (t ∷ ts)) (sym (append-nil middles))
    where
      by : Reads-stretches f n j → (v x : Bool) → among tails_ (token_kind t) ≡ v → among middles (token_kind t) ≡ x
          → told (and_then (last_by (suc j) texts values v (t ∷ ts, ns)) f)
          ≡ (if x then (if x then guided language ahead (rule depth) (expr_rule true) ts (λ e m.
          many_of language (among (middles ++ [])) always (guided language ahead (rule depth) stretch_x) n m (λ d end. ended f texts values ns (pair (pair (leaf t) e) d) end)) else Err (wrong (t ∷ ts)))
          else (if v then told (f (texts ++ text_of t.kind ∷ [], values) (ts, ns)) else Err (wrong (t ∷ ts))))
      by ih true true p q = absurd (apart-tells tails_ middles (token_kind t) stretches-parted p q)
      by ih true false p q = refl
      by ih false false p q = ap (λ v. told (and_then (middle_by (suc j) texts values v (t ∷ ts, ns)) f)) (only-template_middle.agrees (of_kind t.kind) t.broken ∙ q)
      by ih false true p q = ap (λ v. told (and_then (middle_by (suc j) texts values v (t ∷ ts, ns)) f)) (only-template_middle.agrees (of_kind t.kind) t.broken ∙ q)
          ∙ assoc (g.expression (part_at depth) true (ts, ns)) _ f ∙ step+ (expression-sim depth h true) ts ns _ _ (λ e m w.
          let k = read-shorter language ahead depth each-takes (expr_rule true) ts m e w in
          ih _ _ m _ (omega (arith, few, k)) (omega (arith, less, k)))

  pub template-step : (t : Token) (ts : List Token) (ns : Nodes) → told (g.template (part_at depth) (t ∷ ts, ns))
      ≡ guided language ahead (rule depth) (both (expr true) (both (any stretch_x) (token tails_))) ts (λ b rest. built (mk.template (parts_at depth)) ns (pair (leaf t) b) rest)
  unfolding g.template g.template_parts g.template_from mk.template place next text_next add guided first_token vacant refusals
  template-step t [] ns = sym (none-at_end depth (both (expr true) (both (any stretch_x) (token tails_)))
      (ap (λ b. if b then vacant (both (any stretch_x) (token tails_)) else false) (expr-takes depth h true)) (λ b rest. built (mk.template (parts_at depth)) ns (pair (leaf t) b) rest))
  template-step t (u ∷ ts) ns = assoc (g.expression (part_at depth) true (u ∷ ts, ns)) _ _ ∙ step+ (expression-sim depth h true) (u ∷ ts) ns _ _ (λ e m w.
      let f = read-front language ahead depth each-takes (expr_rule true) (expr-takes depth h true) (u ∷ ts) m e w in
      let size : suc (length ts) ≡ suc (length (f.1)) = ap (λ l. length l) (f.2) in
      let short = f.4 in
      stretches-loop (λ pieces. add (made.Template pieces.0 pieces.1) t.place) (length m) (length ts) _ _ m _ (omega arith) (omega (arith, size, short)))

  pub kinded : (t : Token) (ts : List Token) (ns : Nodes) (b : Bool) → of_kind t.kind ≡ s.TemplateHead → t.broken ≡ b
      → guided language ahead (rule depth) (both (expr true) (both (any stretch_x) (token tails_))) ts (λ c rest. built (mk.template (parts_at depth)) ns (pair (leaf t) c) rest)
      ≡ guided language ahead (rule depth) template_rule (t ∷ ts) (built (mk.template (parts_at depth)) ns)
  unfolding at_kind tables template_rule
  kinded t ts ns false e f = sym (kind-at depth s.TemplateHead false template_rule t ts (built (mk.template (parts_at depth)) ns) e f)
  kinded t ts ns true e f = sym (kind-at depth s.TemplateHead true template_rule t ts (built (mk.template (parts_at depth)) ns) e f)

  pub template-at : (t : Token) (ts : List Token) (ns : Nodes) → of_kind t.kind ≡ s.TemplateHead
      → told (g.template (part_at depth) (t ∷ ts, ns)) ≡ guided language ahead (rule depth) template_rule (t ∷ ts) (built (mk.template (parts_at depth)) ns)
  unfolding template_rule
  template-at t ts ns e = template-step t ts ns ∙ kinded t ts ns t.broken e refl
