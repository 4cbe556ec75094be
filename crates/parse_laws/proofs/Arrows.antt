-- Arrows, and expressions with commas.
use Rattle.std.proofs.Common.{true, false, Bool, ◌≡◌, ℕ, zero, suc, List, [], ◌∷◌, length, refl, ap, sym, subst, ◌∙◌, codes}
use Rattle.std.specs.Prelude.{Ok, Err, if◌then◌else◌}
use Rattle.grammar.specs.Kinds.{among}
use Rattle.grammar.specs.Reading.{firsts}
use Rattle.grammar.specs.Grammar.{Tree, tip, pair, node, both, either, token, line, starts, entry}
use Rattle.js_token.specs.declared.token.Token.{Token}
use Rattle.js_tree.specs.Nodes.{Nodes}
use Rattle.js_tree.specs.declared.node.NodeId.{NodeId}
use Rattle.js_tree.specs.declared.node.Node.TheVariants as made
use Rattle.js_grammar.specs.Kinds.{kinds, mark}
use Rattle.js_grammar.specs.Script.{Rule, heads, any, always, form, identifier, parameters, arrow_tail, cond_rule, assign_rule, expr_rule, short_rule, or_rule, and_rule, bit_or_rule, bit_xor_rule, bit_and_rule, equal_rule, rel_rule, shift_rule, add_rule, mul_rule, unary_rule, left_rule, primary_rule}
use Rattle.js_parse.specs.declared.symbol.Symbol.{Symbol}
use Rattle.js_parse.specs.declared.symbol.Symbol.TheVariants as s
use Rattle.js_parse.specs.declared.part.Part.TheVariants as parts
use Rattle.js_parse.specs.declared.fault.Fault.TheVariants as fault
use Rattle.js_parse.specs.Symbols.{of_kind, is_name, same}
use Rattle.js_parse.specs.Input.{Parser, Input, and_then, symbol, place, place_at, add, pure, sees, refusal, or_later, is_arrow_ahead, is_arrow_next, ◌>>=◌, fork as fork_of}
use Rattle.js_parse.specs.Grammar as g
use Rattle.js_parse.specs.Grammar.{function_of, one_parameter}
use Rattle.js_parse.specs.Nesting.{part_at}
use Rattle.parse_laws.specs.Trees as mk
use Rattle.parse_laws.specs.Trees.{Parts, parts_at, place_in, place_of_first, symbol_in, symbol_of_first, first_token, first, second, under, Build}
use Rattle.parse_laws.specs.Kinds.{token_kind, numbered}
use Rattle.parse_laws.proofs.Guided.{guided, many_of, guided-continues, called, Was, Goes, done, Told, forked, first_of}
use Rattle.parse_laws.proofs.Sound.{vacant}
use Rattle.parse_laws.proofs.Walk.{language, ahead, rule, told, built, Sim, step, step+, eat-or, on-true, on-false, at-first}
use Rattle.parse_laws.proofs.Begun.{tables}
use Rattle.parse_laws.proofs.Steps.{step-same, step-same+, sees-starts, pair-front}
use Rattle.parse_laws.proofs.Symbols.{only-comma, only-open_paren, is-open_paren}
use Rattle.parse_laws.proofs.Parted.{Parted}
use Rattle.parse_laws.proofs.Bindings.{bind_name-sim}
use Rattle.parse_laws.proofs.Assigning

-- The parser tells what is told of the two readings.
pub later-same : (x y : Was Token) (b c : Tree Token → Build NodeId) (ns ms : Nodes) → or_later (called x (built b ns)) (called y (built c ms)) ≡ called (first_of x y) (built b ns)
unfolding refusal place
later-same (Ok p) y b c ns ms = refl
later-same (Err (fault.Token a false)) (Ok q) b c ns ms = refl
later-same (Err (fault.Token a false)) (Err e) b c ns ms = refl
later-same (Err (fault.Token a true)) y b c ns ms = refl
later-same (Err (fault.Deep a)) y b c ns ms = refl
later-same (Err fault.Memory) y b c ns ms = refl

module _ (depth : ℕ) (h : Parted depth) (allow_in : Bool) where
  pub cond-takes : vacant (cond_rule allow_in) ≡ false
  unfolding cond_rule short_rule or_rule and_rule bit_or_rule bit_xor_rule bit_and_rule equal_rule rel_rule shift_rule add_rule mul_rule unary_rule left_rule primary_rule vacant
  cond-takes = refl

  pub cond-sim : Sim depth (g.unparenthesized (part_at depth) allow_in) (cond_rule allow_in) (λ tree. mk.conditional_at (parts_at depth) (place_in tree) tree)
  unfolding g.unparenthesized place
  cond-sim = record { holds = λ ts ns. (Assigning.operand_first-sim depth h allow_in (place_at ts)).holds ts ns ∙ at-first depth (mk.conditional_at (parts_at depth)) (cond_rule allow_in) cond-takes ts ns }

  pub cond-node : (ts rest : List Token) (a : Tree Token) → guided language ahead (rule depth) (cond_rule allow_in) ts done ≡ Ok (a, rest) → (c : Tree Token) × (a ≡ node (form allow_in 42) c)
  unfolding cond_rule
  cond-node ts rest a e = let k = Assigning.named-is depth (form allow_in 42) _ ts rest a e in (k.0, k.2)

  pub name-takes : vacant identifier ≡ false
  unfolding vacant
  name-takes = refl

  pub call-takes : vacant parameters ≡ false
  unfolding vacant
  call-takes = refl

  abbrev pub assigned : Nodes → Goes Token (NodeId × Input)
  assigned ns a rest = built (mk.assign (parts_at depth)) ns (node (form allow_in 43) a) rest

  abbrev pub arrow_x : Rule
  arrow_x = both (either parameters identifier) (arrow_tail allow_in)

  pub assign-cond : (ts : List Token) (ns : Nodes) → told (g.unparenthesized (part_at depth) allow_in (ts, ns)) ≡ guided language ahead (rule depth) (cond_rule allow_in) ts (assigned ns)
  unfolding mk.assign
  assign-cond ts ns = step-same+ cond-sim ts ns _ (λ a rest e. let k = cond-node ts rest a e in
      subst (λ a. built (λ tree. mk.conditional_at (parts_at depth) (place_in tree) tree) ns a rest ≡ assigned ns a rest) (sym k.1) refl)

  -- ---- arrows

  abbrev pub named_arrow : ℕ → Tree Token → Build NodeId
  named_arrow at tree ns = mk.after (mk.bind_name (first tree) ns) (λ bound ns. mk.after ((parts_at depth).node_of (parts.ArrowBody true) (second tree) ns) (λ body.
      mk.added (made.Arrow (function_of (one_parameter bound) body)) at))

  abbrev pub listed_arrow : ℕ → Tree Token → Build NodeId
  listed_arrow at tree ns = mk.after ((parts_at depth).parameters_of parts.Parameters (first tree) ns) (λ list ns. mk.after ((parts_at depth).node_of (parts.ArrowBody true) (second tree) ns) (λ body.
      mk.added (made.Arrow (function_of list body)) at))

  abbrev pub ended : NodeId × Nodes → List Token → Told (NodeId × Input)
  ended w rest = Ok (w.0, (rest, w.1))

  pub name-arrow : (symbol : Symbol) (tree : Tree Token) → is_name symbol ≡ true → named_arrow (place_in tree) tree ≡ mk.arrow_by (parts_at depth) symbol tree
  name-arrow s.OpenParen tree e = absurd (cc (e))
  name-arrow _ tree e = refl

  pub assign-name : (t : Token) (ts : List Token) (ns : Nodes) → is_name (of_kind t.kind) ≡ true → starts language (among (firsts {A = Token} language.heads parameters)) (t ∷ ts) ≡ false
      → told (g.arrow_of_name (part_at depth) allow_in (t ∷ ts, ns)) ≡ guided language ahead (rule depth) arrow_x (t ∷ ts) (assigned ns)
  unfolding g.arrow_of_name guided mk.assign place first_token add mk.bind_name
  assign-name t ts ns e o =
      step+ (bind_name-sim depth) (t ∷ ts) ns _ (λ a m. guided language ahead (rule depth) (arrow_tail allow_in) m (λ b rest. assigned ns (pair a b) rest)) (λ a m w.
      step (h.arrow_part allow_in) m _ _ _ (λ b rest.
      let k = pair-front depth identifier name-takes t ts m a b w in
      ap (λ at. ended (named_arrow at (pair a b) ns) rest) (sym k.1)
      ∙ ap (λ f. ended (f ns) rest) (name-arrow (symbol_in (pair a b)) (pair a b) (ap (λ s. is_name s) k.0 ∙ e))))
      ∙ on-false _ o refl

  pub assign-list : (t : Token) (ts : List Token) (ns : Nodes) → of_kind t.kind ≡ s.OpenParen → starts language (among (firsts {A = Token} language.heads parameters)) (t ∷ ts) ≡ true
      → told (g.arrow_of_list (part_at depth) allow_in (t ∷ ts, ns)) ≡ guided language ahead (rule depth) arrow_x (t ∷ ts) (assigned ns)
  unfolding g.arrow_of_list guided mk.assign place first_token add
  assign-list t ts ns e o =
      step+ h.parameters_part (t ∷ ts) ns _ (λ a m. guided language ahead (rule depth) (arrow_tail allow_in) m (λ b rest. assigned ns (pair a b) rest)) (λ a m w.
      step (h.arrow_part allow_in) m _ _ _ (λ b rest.
      let k = pair-front depth parameters call-takes t ts m a b w in
      ap (λ at. ended (listed_arrow at (pair a b) ns) rest) (sym k.1)
      ∙ ap (λ s. ended (mk.arrow_by (parts_at depth) s (pair a b) ns) rest) (sym (k.0 ∙ e))))
      ∙ on-true _ o refl

  -- ---- Assign

  pub arrow-tells : (ts : List Token) → starts language (among (firsts {A = Token} language.heads parameters)) ts ≡ sees s.OpenParen (ts, [])
  unfolding firsts entry heads
  arrow-tells ts = sym (sees-starts only-open_paren ts [])

  abbrev pub chosen : Bool → Bool → Bool → Bool → Parser NodeId
  chosen paren far name near i = if paren then (if far then g.arrow_first (part_at depth) allow_in i else g.group_first (part_at depth) allow_in i)
      else (if name then (if near then g.arrow_of_name (part_at depth) allow_in i else g.unparenthesized (part_at depth) allow_in i) else g.unparenthesized (part_at depth) allow_in i)

  abbrev pub begins : List Token → Bool
  begins ts = starts language (among (language.heads (form allow_in 42))) ts

  pub paren-begins : (symbol : Symbol) (broken : Bool) → same symbol s.OpenParen ≡ true → among (language.heads (form allow_in 42)) (numbered symbol broken) ≡ true
  unfolding same tables cond_rule
  paren-begins symbol broken e = by allow_in symbol broken e
    where
      by : (b : Bool) (symbol : Symbol) (broken : Bool) → same symbol s.OpenParen ≡ true → among (language.heads (form b 42)) (numbered symbol broken) ≡ true
      by true s.OpenParen true e = refl
      by true s.OpenParen false e = refl
      by false s.OpenParen true e = refl
      by false s.OpenParen false e = refl
      by _ _ _ e = absurd (cc (e))

  pub name-begins : (symbol : Symbol) (broken : Bool) → is_name symbol ≡ true → among (language.heads (form allow_in 42)) (numbered symbol broken) ≡ true
  unfolding tables cond_rule
  name-begins symbol broken e = by allow_in symbol broken e
    where
      by : (b : Bool) (symbol : Symbol) (broken : Bool) → is_name symbol ≡ true → among (language.heads (form b 42)) (numbered symbol broken) ≡ true
      by true s.Name true e = refl
      by true s.Name false e = refl
      by true s.Of true e = refl
      by true s.Of false e = refl
      by true s.Get true e = refl
      by true s.Get false e = refl
      by true s.Set true e = refl
      by true s.Set false e = refl
      by false s.Name true e = refl
      by false s.Name false e = refl
      by false s.Of true e = refl
      by false s.Of false e = refl
      by false s.Get true e = refl
      by false s.Get false e = refl
      by false s.Set true e = refl
      by false s.Set false e = refl
      by _ _ _ e = absurd (cc (e))

  abbrev pub cond_of : List Token → Was Token
  cond_of ts = guided language ahead (rule depth) (cond_rule allow_in) ts done

  abbrev pub arrow_of : List Token → Was Token
  arrow_of ts = guided language ahead (rule depth) arrow_x ts done

  pub cond-then : (ts : List Token) (ns : Nodes) → told (g.unparenthesized (part_at depth) allow_in (ts, ns)) ≡ called (cond_of ts) (assigned ns)
  cond-then ts ns = assign-cond ts ns ∙ guided-continues language ahead (rule depth) (NodeId × Input) (cond_rule allow_in) ts (assigned ns)

  pub list-then : (t : Token) (ts : List Token) (ns : Nodes) → same (of_kind t.kind) s.OpenParen ≡ true → told (g.arrow_of_list (part_at depth) allow_in (t ∷ ts, ns)) ≡ called (arrow_of (t ∷ ts)) (assigned ns)
  unfolding sees symbol
  list-then t ts ns e = assign-list t ts ns (is-open_paren (of_kind t.kind) e) (arrow-tells (t ∷ ts) ∙ e)
      ∙ guided-continues language ahead (rule depth) (NodeId × Input) arrow_x (t ∷ ts) (assigned ns)

  abbrev pub both_so : Bool → Bool → Bool → List Token → Nodes → Told (NodeId × Input)
  both_so b paren comes ts ns = if b then called (forked paren comes (cond_of ts) (arrow_of ts)) (assigned ns) else guided language ahead (rule depth) (cond_rule allow_in) ts (assigned ns)

  pub assign-by : (ts : List Token) (ns : Nodes) (b paren far name near : Bool) → begins ts ≡ b → sees s.OpenParen (ts, []) ≡ paren → is_name (symbol (ts, [])) ≡ name
      → told (chosen paren far name near (ts, ns)) ≡ both_so b paren (if paren then far else (if name then near else false)) ts ns
  unfolding g.arrow_first g.group_first fork_of sees symbol same token_kind mk.assign
  assign-by [] ns true paren far name near d e f = absurd (cc (d))
  assign-by [] ns false true far name near d e f = absurd (cc (e))
  assign-by [] ns false false far true near d e f = absurd (cc (f))
  assign-by [] ns false false far false near d e f = assign-cond [] ns
  assign-by (t ∷ ts) ns false true far name near d e f = absurd (let on = paren-begins (of_kind t.kind) t.broken e in cc (on, d))
  assign-by (t ∷ ts) ns false false far true near d e f = absurd (let on = name-begins (of_kind t.kind) t.broken f in cc (on, d))
  assign-by (t ∷ ts) ns false false far false near d e f = assign-cond (t ∷ ts) ns
  assign-by (t ∷ ts) ns true true true name near d e f =
      ap (λ o. or_later o (g.unparenthesized (part_at depth) allow_in (t ∷ ts, []))) (list-then t ts ns e) ∙ ap (λ o. or_later (called (arrow_of (t ∷ ts)) (assigned ns)) o) (cond-then (t ∷ ts) [])
      ∙ later-same (arrow_of (t ∷ ts)) (cond_of (t ∷ ts)) (λ a. mk.assign (parts_at depth) (node (form allow_in 43) a)) (λ a. mk.assign (parts_at depth) (node (form allow_in 43) a)) ns []
  assign-by (t ∷ ts) ns true true false name near d e f =
      ap (λ o. or_later o (g.arrow_of_list (part_at depth) allow_in (t ∷ ts, []))) (cond-then (t ∷ ts) ns) ∙ ap (λ o. or_later (called (cond_of (t ∷ ts)) (assigned ns)) o) (list-then t ts [] e)
      ∙ later-same (cond_of (t ∷ ts)) (arrow_of (t ∷ ts)) (λ a. mk.assign (parts_at depth) (node (form allow_in 43) a)) (λ a. mk.assign (parts_at depth) (node (form allow_in 43) a)) ns []
  assign-by (t ∷ ts) ns true false far false near d e f = cond-then (t ∷ ts) ns
  assign-by (t ∷ ts) ns true false far true false d e f = cond-then (t ∷ ts) ns
  assign-by (t ∷ ts) ns true false far true true d e f =
      assign-name t ts ns f (arrow-tells (t ∷ ts) ∙ e) ∙ guided-continues language ahead (rule depth) (NodeId × Input) arrow_x (t ∷ ts) (assigned ns)

  pub assign-sim : Sim depth (g.assign (part_at depth) allow_in) (assign_rule allow_in) (mk.assign (parts_at depth))
  unfolding g.assign g.parenthesized g.named assign_rule guided firsts ahead sees symbol is_arrow_ahead is_arrow_next
  assign-sim = record {
    holds = λ ts ns.
        assign-by ts ns (begins ts) (sees s.OpenParen (ts, [])) (is_arrow_ahead (ts, [])) (is_name (symbol (ts, []))) (is_arrow_next (ts, [])) refl refl refl;
  }

  -- ---- commas

  abbrev pub comma_x : Rule
  comma_x = both (token (kinds (mark (codes ",") ∷ []))) (line (form allow_in 43) (assign_rule allow_in))

  abbrev pub another : (NodeId → Parser NodeId) → ℕ → NodeId → Bool → Parser NodeId
  another loop at left more = if more then (g.assign (part_at depth) allow_in >>= λ next. add (made.Seq left next) at >>= loop) else pure left

  pub sequence-loop : (at n : ℕ) (ts : List Token) (ns : Nodes) (left : NodeId) → told (g.sequence_from (part_at depth) allow_in at n left (ts, ns))
      ≡ many_of language (among (firsts language.heads comma_x)) always (guided language ahead (rule depth) comma_x) n ts (built (mk.sequence (parts_at depth) at left) ns)
  unfolding g.sequence_from many_of mk.sequence add guided
  sequence-loop at zero ts ns left = refl
  sequence-loop at (suc n) ts ns left =
      eat-or depth only-comma ts ns (another (g.sequence_from (part_at depth) allow_in at n) at left) (line (form allow_in 43) (assign_rule allow_in))
      (λ a rest. many_of language (among (firsts language.heads comma_x)) always (guided language ahead (rule depth) comma_x) n rest
      (λ d end. built (mk.sequence (parts_at depth) at left) ns (pair a d) end)) (built (mk.sequence (parts_at depth) at left) ns tip ts)
      (λ t rest e m. step assign-sim rest ns _ _ (λ a mid. sequence-loop at n mid _ _)) refl

  pub sequence-sim : (at : ℕ) (left : NodeId) → Sim depth (g.sequence (part_at depth) allow_in at left) (any comma_x) (mk.sequence (parts_at depth) at left)
  unfolding g.sequence guided
  sequence-sim at left = record { holds = λ ts ns. sequence-loop at (length ts) ts ns left }

  pub expr-takes : vacant (expr_rule allow_in) ≡ false
  unfolding expr_rule assign_rule cond_rule short_rule or_rule and_rule bit_or_rule bit_xor_rule bit_and_rule equal_rule rel_rule shift_rule add_rule mul_rule unary_rule left_rule primary_rule vacant
  expr-takes = refl

  pub assign-takes : vacant (assign_rule allow_in) ≡ false
  unfolding assign_rule cond_rule short_rule or_rule and_rule bit_or_rule bit_xor_rule bit_and_rule equal_rule rel_rule shift_rule add_rule mul_rule unary_rule left_rule primary_rule vacant
  assign-takes = refl

  abbrev pub expression_at : ℕ → Tree Token → Build NodeId
  expression_at at tree ns = mk.after (mk.assign (parts_at depth) (first (under tree)) ns) (λ left. mk.sequence (parts_at depth) at left (second (under tree)))

  pub expression-placed : (at : ℕ) (ts : List Token) (ns : Nodes) → told (and_then (g.assign (part_at depth) allow_in (ts, ns)) (g.sequence (part_at depth) allow_in at))
      ≡ guided language ahead (rule depth) (expr_rule allow_in) ts (built (expression_at at) ns)
  unfolding expr_rule guided
  expression-placed at ts ns = step assign-sim ts ns _ _ (λ a m. step-same (sequence-sim at _) m _ _ (λ d rest. refl))

  pub expression-sim : Sim depth (g.expression (part_at depth) allow_in) (expr_rule allow_in) (mk.expression (parts_at depth))
  unfolding g.expression mk.expression place
  expression-sim = record { holds = λ ts ns. expression-placed (place_at ts) ts ns ∙ at-first depth expression_at (expr_rule allow_in) expr-takes ts ns }
