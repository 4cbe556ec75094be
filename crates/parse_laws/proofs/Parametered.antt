-- Lists of parameters.
use Rattle.std.proofs.Common.{true, false, Bool, ◌≡◌, ℕ, zero, suc, ◌≤◌, List, [], ◌∷◌, ◌++◌, length, refl, ap, sym, subst, ◌∙◌, codes, arith}
use Rattle.std.specs.Prelude.{Some, None, if◌then◌else◌, Ok, Err}
use Rattle.grammar.specs.Kinds.{among, apart}
use Rattle.grammar.specs.Reading.{firsts, nullable}
use Rattle.grammar.specs.Tests.{InPlace}
use Rattle.grammar.specs.Grammar.{Tree, tip, leaf, pair, node, both, either, token, many, entry, Spells, Derives}
use Rattle.std.proofs.lemmas.List.{append-nil}
use Rattle.grammar.proofs.Sets.{apart-tells, among-left}
use Rattle.js_token.specs.declared.token.Token.{Token}
use Rattle.js_tree.specs.Nodes.{Nodes}
use Rattle.js_grammar.specs.Kinds.{kinds, mark, names}
use Rattle.js_grammar.specs.Script.{has_parameter, is_parameter, rest_parameter, parameter_list, Rule, rules, optional, identifier, parameter, parameters_rule}
use Rattle.js_parse.specs.declared.symbol.Symbol.TheVariants as s
use Rattle.js_parse.specs.declared.part.Parameters.{Parameters}
use Rattle.js_tree.specs.declared.node.BindElement.{BindElement}
use Rattle.js_parse.specs.Symbols.{of_kind}
use Rattle.js_parse.specs.Input.{◌<$>◌, eat, Parser, Input, and_then, symbol, next, pure, expect, sees, after, ◌>>=◌, ◌>>◌}
use Rattle.js_parse.specs.Grammar as g
use Rattle.js_parse.specs.Nesting.{part_at}
use Rattle.parse_laws.specs.Kinds.{token_kind}
use Rattle.parse_laws.specs.Trees as mk
use Rattle.parse_laws.specs.Trees.{Parts, parts_at, place_in, symbol_in, first_token, first, second, under, Build}
use Rattle.parse_laws.proofs.Guided.{guided, many_of, taking, Goes, done, Told, wrong}
use Rattle.parse_laws.proofs.Sound.{vacant, read-front, guided-finds, rule-finds}
use Rattle.parse_laws.proofs.Walk.{language, ahead, rule, told, built, Sim, step+, step-expect, eat-or, each-takes, none-at_end}
use Rattle.parse_laws.proofs.Begun.{refusals, not-begun, tables}
use Rattle.parse_laws.proofs.Steps.{step-same, assoc}
use Rattle.parse_laws.proofs.Symbols.{only-comma, only-ellipsis, only-open_paren, only-close_paren}
use Rattle.parse_laws.proofs.Loops.{none-first}
use Rattle.parse_laws.proofs.Parted.{Parted}
use Rattle.parse_laws.proofs.Bindings.{bind_name-sim, element-sim}

module _ (depth : ℕ) (h : Parted depth) where
  abbrev pub one_x : Rule
  one_x = either rest_parameter parameter

  abbrev pub shut : List ℕ
  shut = kinds (mark (codes ")") ∷ [])

  abbrev pub dots : List ℕ
  dots = kinds (mark (codes "...") ∷ [])

  abbrev pub comma_x : Rule
  comma_x = both (token (kinds (mark (codes ",") ∷ []))) (optional one_x)

  abbrev pub closed : (Tree Token → Build Parameters) → Nodes → Goes Token (Parameters × Input)
  closed c ns tree mid = taking language shut mid (λ end rest. built c ns tree rest)

  abbrev pub more_of : {C : Type 0} → ℕ → List Token → Goes Token C → Told C
  more_of n ts k = many_of language (among (firsts language.heads comma_x)) has_parameter (guided language ahead (rule depth) comma_x) n ts k

  abbrev pub plain : List BindElement → Parameters
  plain found = record { list = found; rest = None }

  abbrev pub behind_comma : ℕ → List BindElement → Bool → Parser Parameters
  behind_comma m found more = if more then g.parameters_from (part_at depth) m found else pure (plain found)

  abbrev pub Reads-parameters : ℕ → ℕ → Type 0
  Reads-parameters n m = (ts : List Token) (ns : Nodes) (found : List BindElement) → length ts ≤ n → length ts ≤ m
      → told (and_then (g.comma_or s.CloseParen (ts, ns)) (behind_comma m found)) ≡ more_of n ts (closed (mk.parameters_behind (parts_at depth) found) ns)

  abbrev pub spread_of : ℕ → List BindElement → Bool → Parser Parameters
  spread_of m found spread = if spread then (λ bound. record { list = found; rest = Some bound }) <$> g.rest_parameter (part_at depth)
      else (g.bind_element (part_at depth) >>= λ x. g.comma_or s.CloseParen >>= behind_comma m (found ++ x ∷ []))

  abbrev pub turn_of : ℕ → List BindElement → Bool → Parser Parameters
  turn_of m found done_ = if done_ then pure (plain found) else (eat s.Ellipsis >>= spread_of m found)

  pub pair-shape : (ts rest : List Token) (o : Tree Token) → guided language ahead (rule depth) parameter ts done ≡ Ok (o, rest) → (a b : Tree Token) × (o ≡ pair a b)
  unfolding Spells
  pair-shape ts rest o e = let k = guided-finds language ahead (rule depth) (Derives language depth) (rule-finds language ahead depth) parameter ts (o, rest) e in (k.1, k.2, k.5)

  pub parameters-parted : (apart shut (firsts language.heads one_x) ≡ true)
  unfolding tables apart
  parameters-parted = refl

  pub dots-first : (t : Token) → among dots (token_kind t) ≡ true → among (firsts language.heads one_x) (token_kind t) ≡ true
  unfolding firsts nullable
  dots-first t e = among-left (dots ++ []) (firsts language.heads parameter) (token_kind t) (ap (λ f. among f (token_kind t)) (append-nil dots) ∙ e)

  abbrev pub rest_shut : List BindElement → Nodes → Token → Token → List Token → Told (Parameters × Input)
  rest_shut found ns t u mid = closed (mk.rest_of (parts_at depth) found) ns (node 58 (pair (leaf t) (leaf u))) mid

  pub leaf-shape : (ts rest : List Token) (a : Tree Token) → guided language ahead (rule depth) identifier ts done ≡ Ok (a, rest) → (u : Token) × (a ≡ leaf u)
  unfolding Spells
  leaf-shape ts rest a e = let k = guided-finds language ahead (rule depth) (Derives language depth) (rule-finds language ahead depth) identifier ts (a, rest) e in (k.0, k.3)

  pub shut-rest : (found : List BindElement) (t u : Token) (mid : List Token) (ns : Nodes)
      → told (and_then (and_then (expect s.CloseParen (mid, (mk.bind_name (leaf u) ns).1)) (λ _. pure (mk.bind_name (leaf u) ns).0)) (λ bound. pure (record { list = found; rest = Some bound }))) ≡ rest_shut found ns t u mid
  shut-rest found t u mid ns = assoc (expect s.CloseParen (mid, (mk.bind_name (leaf u) ns).1)) _ _ ∙ step-expect only-close_paren mid _ _ _ (λ v rest. refl)

  pub rest-closed : (found : List BindElement) (t : Token) (ts : List Token) (ns : Nodes) (k : Goes Token (Parameters × Input))
      → ((u : Token) (mid : List Token) → rest_shut found ns t u mid ≡ k (node 58 (pair (leaf t) (leaf u))) mid)
      → told (and_then (g.rest_parameter (part_at depth) (ts, ns)) (λ bound. pure (record { list = found; rest = Some bound })))
      ≡ taking language (kinds names) ts (λ u mid. k (node 58 (pair (leaf t) u)) mid)
  unfolding g.rest_parameter guided
  rest-closed found t ts ns k o = assoc (g.bind_name (ts, ns)) _ _ ∙ step+ (bind_name-sim depth) ts ns _ (λ a mid. k (node 58 (pair (leaf t) a)) mid) (λ a mid e.
      let w = leaf-shape ts mid a e in
      subst (λ a. told (and_then (and_then (expect s.CloseParen (mid, (mk.bind_name a ns).1)) (λ _. pure (mk.bind_name a ns).0)) (λ bound. pure (record { list = found; rest = Some bound }))) ≡ k (node 58 (pair (leaf t) a)) mid)
      (sym w.1) (shut-rest found t w.0 mid ns ∙ o w.0 mid))

  -- a parameter that comes
  pub came : (m : ℕ) (found : List BindElement) (t : Token) (ts : List Token) (ns : Nodes) (k : Goes Token (Parameters × Input))
      → ((u : Token) (mid : List Token) → rest_shut found ns t u mid ≡ k (node 58 (pair (leaf t) (leaf u))) mid)
      → ((o : Tree Token) (mid : List Token) → guided language ahead (rule depth) parameter (t ∷ ts) done ≡ Ok (o, mid)
      → (let w = mk.bind_element (parts_at depth) o ns in told (and_then (g.comma_or s.CloseParen (mid, w.1)) (behind_comma m (found ++ w.0 ∷ [])))) ≡ k o mid)
      → told (and_then (eat s.Ellipsis (t ∷ ts, ns)) (spread_of m found)) ≡ guided language ahead (rule depth) one_x (t ∷ ts) k
  unfolding sees symbol after next token_kind guided firsts nullable
  came m found t ts ns k o p = ap (λ v. told (spread_of m found v (if v then (ts, ns) else (t ∷ ts, ns)))) (only-ellipsis.agrees (of_kind t.kind) t.broken)
      ∙ by (among dots (token_kind t)) ∙ ap (λ f. if among f (token_kind t) then (if among dots (token_kind t) then taking language (kinds names) ts (λ u mid. k (node 58 (pair (leaf t) u)) mid) else Err (wrong (t ∷ ts)))
      else guided language ahead (rule depth) parameter (t ∷ ts) k) (sym (append-nil dots))
    where
      by : (v : Bool) → told (spread_of m found v (if v then (ts, ns) else (t ∷ ts, ns)))
          ≡ (if v then (if v then taking language (kinds names) ts (λ u mid. k (node 58 (pair (leaf t) u)) mid) else Err (wrong (t ∷ ts))) else guided language ahead (rule depth) parameter (t ∷ ts) k)
      by true = rest-closed found t ts ns k o
      by false = step+ (element-sim depth h) (t ∷ ts) ns _ _ p

  pub one-placed : InPlace language.rules one_x
  unfolding InPlace rules entry
  one-placed = ((tt, tt), ((tt, tt), ((tt, tt), tt)))

  pub one-full : (nullable one_x ≡ false) × (vacant parameter ≡ false)
  unfolding nullable vacant
  one-full = (refl, refl)

  abbrev pub next_k : ℕ → Tree Token → List BindElement → Nodes → Goes Token (Parameters × Input)
  next_k n c found ns o mid = if has_parameter (pair c o) then more_of n mid (λ d end. closed (mk.parameters_behind (parts_at depth) found) ns (pair (pair c o) d) end)
      else closed (mk.parameters_behind (parts_at depth) found) ns (pair (pair c o) tip) mid

  pub next-rest : (n : ℕ) (c : Tree Token) (found : List BindElement) (ns : Nodes) (t u : Token) (mid : List Token) → rest_shut found ns t u mid ≡ next_k n c found ns (node 58 (pair (leaf t) (leaf u))) mid
  unfolding mk.parameters_behind first_token
  next-rest n c found ns t u mid = refl

  pub next-parameter : (n m : ℕ) → Reads-parameters n m → (c : Tree Token) (found : List BindElement) (ns : Nodes) (t : Token) (ts : List Token) → length ts ≤ n → length ts ≤ m
      → (o : Tree Token) (mid : List Token) → guided language ahead (rule depth) parameter (t ∷ ts) done ≡ Ok (o, mid)
      → (let w = mk.bind_element (parts_at depth) o ns in told (and_then (g.comma_or s.CloseParen (mid, w.1)) (behind_comma m (found ++ w.0 ∷ [])))) ≡ next_k n c found ns o mid
  unfolding mk.parameters_behind first_token
  next-parameter n m ih c found ns t ts few less o mid e =
      let f = read-front language ahead depth each-takes parameter one-full.1 (t ∷ ts) mid o e in
      let size : suc (length ts) ≡ suc (length (f.1)) = ap (λ l. length l) (f.2) in
      let short = f.4 in
      let q = pair-shape (t ∷ ts) mid o e in
      subst (λ o. (let w = mk.bind_element (parts_at depth) o ns in told (and_then (g.comma_or s.CloseParen (mid, w.1)) (behind_comma m (found ++ w.0 ∷ [])))) ≡ next_k n c found ns o mid) (sym q.2)
      (let front : first_token (pair q.0 q.1) ≡ Some f.0 = ap (λ o. first_token o) (sym q.2) ∙ f.3 in
      rw front (ih mid _ _ (omega (arith, few, size, short)) (omega (arith, less, size, short))))

  pub parameters-next : (n m : ℕ) → Reads-parameters n m → (c : Tree Token) (ts : List Token) (ns : Nodes) (found : List BindElement) → length ts ≤ suc n → length ts ≤ suc m
      → told (g.parameters_from (part_at depth) (suc m) found (ts, ns)) ≡ guided language ahead (rule depth) (optional one_x) ts (next_k n c found ns)
  unfolding g.parameters_from guided sees symbol after next mk.parameters_behind first_token token_kind
  parameters-next n m ih c [] ns found few less =
      ap (λ v. told (turn_of m found v (if v then ([], ns) else ([], ns)))) only-close_paren.no_end ∙ ap (λ v. told (spread_of m found v (if v then ([], ns) else ([], ns)))) only-ellipsis.no_end
      ∙ none-first (g.bind_element (part_at depth) ([], ns)) _ ((element-sim depth h).holds [] ns ∙ none-at_end depth parameter one-full.1 (built (mk.bind_element (parts_at depth)) ns))
  parameters-next n m ih c (t ∷ ts) ns found few less =
      ap (λ v. told (turn_of m found v (if v then (ts, ns) else (t ∷ ts, ns)))) (only-close_paren.agrees (of_kind t.kind) t.broken)
      ∙ by (among shut (token_kind t)) (among (firsts language.heads one_x) (token_kind t)) refl refl
    where
      by : (w z : Bool) → among shut (token_kind t) ≡ w → among (firsts language.heads one_x) (token_kind t) ≡ z
          → told (turn_of m found w (if w then (ts, ns) else (t ∷ ts, ns)))
          ≡ (if z then guided language ahead (rule depth) one_x (t ∷ ts) (next_k n c found ns) else (if w then Ok (plain found, (ts, ns)) else Err (wrong (t ∷ ts))))
      by true true p q = absurd (apart-tells shut (firsts language.heads one_x) (token_kind t) parameters-parted p q)
      by true false p q = refl
      by false true p q = came m found t ts ns (next_k n c found ns) (next-rest n c found ns t) (next-parameter n m ih c found ns t ts (omega (arith, few)) (omega (arith, less)))
      by false false p q = came m found t ts ns (next_k n c found ns) (next-rest n c found ns t) (next-parameter n m ih c found ns t ts (omega (arith, few)) (omega (arith, less)))
          ∙ not-begun depth one_x one-placed one-full.0 (t ∷ ts) (next_k n c found ns) q

  abbrev pub member_behind : ℕ → List BindElement → Bool → Parser Parameters
  member_behind m found more i = and_then ((if more then pure true else (expect s.CloseParen >> pure false)) i) (behind_comma m found)

  pub no-more : (m : ℕ) (ts : List Token) (ns : Nodes) (found : List BindElement) → told (member_behind m found false (ts, ns)) ≡ closed (mk.parameters_behind (parts_at depth) found) ns tip ts
  unfolding mk.parameters_behind
  no-more m ts ns found = assoc (expect s.CloseParen (ts, ns)) (λ _. pure false) (behind_comma m found) ∙ step-expect only-close_paren ts ns _ _ (λ t rest. refl)

  pub parameters-loop : (n m : ℕ) → Reads-parameters n m
  unfolding g.comma_or many_of sees symbol after next
  parameters-loop zero m [] ns found few less =
      ap (λ v. told (member_behind m found v (if v then ([], ns) else ([], ns)))) only-comma.no_end ∙ no-more m [] ns found
  parameters-loop zero m (t ∷ ts) ns found few less = absurd (omega (arith, few))
  parameters-loop (suc n) zero [] ns found few less =
      ap (λ v. told (member_behind zero found v (if v then ([], ns) else ([], ns)))) only-comma.no_end ∙ no-more zero [] ns found
  parameters-loop (suc n) zero (t ∷ ts) ns found few less = absurd (omega (arith, less))
  parameters-loop (suc n) (suc m) ts ns found few less =
      eat-or depth only-comma ts ns (member_behind (suc m) found) (optional one_x)
      (λ a rest. if has_parameter a then more_of n rest (λ d end. closed (mk.parameters_behind (parts_at depth) found) ns (pair a d) end) else closed (mk.parameters_behind (parts_at depth) found) ns (pair a tip) rest)
      (closed (mk.parameters_behind (parts_at depth) found) ns tip ts)
      (λ t rest e w. let size : length ts ≡ suc (length rest) = ap (λ l. length l) e in
      parameters-next n m (parameters-loop n m) (leaf t) rest ns found (omega (arith, few, size)) (omega (arith, less, size)))
      (no-more (suc m) ts ns found)

  -- ---- the list

  abbrev pub list_k : Nodes → Goes Token (Parameters × Input)
  list_k ns o mid = if is_parameter o then more_of (length mid) mid (λ d end. closed (mk.parameter_list (parts_at depth)) ns (pair o d) end) else closed (mk.parameter_list (parts_at depth)) ns (pair o tip) mid

  pub list-rest : (ns : Nodes) (t u : Token) (mid : List Token) → rest_shut [] ns t u mid ≡ list_k ns (node 58 (pair (leaf t) (leaf u))) mid
  unfolding mk.parameter_list first_token
  list-rest ns t u mid = refl

  pub list-parameter : (m : ℕ) (ns : Nodes) (t : Token) (ts : List Token) → length ts ≤ m
      → (o : Tree Token) (mid : List Token) → guided language ahead (rule depth) parameter (t ∷ ts) done ≡ Ok (o, mid)
      → (let w = mk.bind_element (parts_at depth) o ns in told (and_then (g.comma_or s.CloseParen (mid, w.1)) (behind_comma m (w.0 ∷ [])))) ≡ list_k ns o mid
  unfolding mk.parameter_list first_token
  list-parameter m ns t ts less o mid e =
      let f = read-front language ahead depth each-takes parameter one-full.1 (t ∷ ts) mid o e in
      let size : suc (length ts) ≡ suc (length (f.1)) = ap (λ l. length l) (f.2) in
      let short = f.4 in
      let q = pair-shape (t ∷ ts) mid o e in
      subst (λ o. (let w = mk.bind_element (parts_at depth) o ns in told (and_then (g.comma_or s.CloseParen (mid, w.1)) (behind_comma m (w.0 ∷ [])))) ≡ list_k ns o mid) (sym q.2)
      (let front : first_token (pair q.0 q.1) ≡ Some f.0 = ap (λ o. first_token o) (sym q.2) ∙ f.3 in
      rw front (parameters-loop (length mid) m mid _ _ (omega arith) (omega (arith, less, size, short))))

  pub list-holds : (ts : List Token) (ns : Nodes) → told (g.parameter_list (part_at depth) (ts, ns)) ≡ guided language ahead (rule depth) (both parameter_list (token shut)) ts (built (λ tree. mk.parameter_list (parts_at depth) (first tree)) ns)
  unfolding g.parameter_list g.parameters_from guided sees symbol after next mk.parameter_list first_token token_kind firsts refusals
  list-holds [] ns = refl
  list-holds (t ∷ ts) ns =
      ap (λ v. told (turn_of (length ts) [] v (if v then (ts, ns) else (t ∷ ts, ns)))) (only-close_paren.agrees (of_kind t.kind) t.broken)
      ∙ by (among shut (token_kind t)) (among (firsts language.heads one_x) (token_kind t)) refl refl
      ∙ ap (λ f. if among f (token_kind t) then guided language ahead (rule depth) one_x (t ∷ ts) (list_k ns) else (if among shut (token_kind t) then Ok (plain [], (ts, ns)) else Err (wrong (t ∷ ts))))
      (sym (ap (λ v. firsts language.heads one_x ++ (if v then firsts language.heads (many has_parameter comma_x) ++ [] else [])) one-full.0 ∙ append-nil (firsts language.heads one_x)))
    where
      by : (w z : Bool) → among shut (token_kind t) ≡ w → among (firsts language.heads one_x) (token_kind t) ≡ z
          → told (turn_of (length ts) [] w (if w then (ts, ns) else (t ∷ ts, ns)))
          ≡ (if z then guided language ahead (rule depth) one_x (t ∷ ts) (list_k ns) else (if w then Ok (plain [], (ts, ns)) else Err (wrong (t ∷ ts))))
      by true true p q = absurd (apart-tells shut (firsts language.heads one_x) (token_kind t) parameters-parted p q)
      by true false p q = refl
      by false true p q = came (length ts) [] t ts ns (list_k ns) (list-rest ns t) (list-parameter (length ts) ns t ts (omega arith))
      by false false p q = came (length ts) [] t ts ns (list_k ns) (list-rest ns t) (list-parameter (length ts) ns t ts (omega arith))
          ∙ not-begun depth one_x one-placed one-full.0 (t ∷ ts) (list_k ns) q

  pub list-sim : Sim depth (g.parameter_list (part_at depth)) (both parameter_list (token shut)) (λ tree. mk.parameter_list (parts_at depth) (first tree))
  list-sim = record { holds = list-holds }

  pub parameters-sim : Sim depth (g.parameters (part_at depth)) parameters_rule (mk.parameters (parts_at depth))
  unfolding g.parameters parameters_rule mk.parameters guided
  parameters-sim = record { holds = λ ts ns. step-expect only-open_paren ts ns _ _ (λ t m. step-same list-sim m ns _ (λ a rest. refl)) }
