-- What is a script is parsed.
use Rattle.std.proofs.Common.{inl, inr, true, false, Bool, ◌≡◌, ℕ, zero, suc, ◌≤◌, List, [], ◌∷◌, ◌++◌, length, refl, ap, sym, subst, ◌∙◌, arith}
use Rattle.std.specs.Prelude.{Ok, Err, if◌then◌else◌}
use Rattle.grammar.specs.Kinds.{among}
use Rattle.grammar.specs.Grammar.{Tree, leaf, pair, starts, entry}
use Rattle.grammar.specs.Reading.{firsts, read}
use Rattle.grammar.proofs.Sets.{apart-tells, false_by}
use Rattle.grammar.proofs.Complete.{read-complete}
use Rattle.js_token.specs.declared.token.Token.{Token}
use Rattle.js_tree.specs.Nodes.{Nodes}
use Rattle.js_tree.specs.declared.node.NodeId.{NodeId}
use Rattle.js_tree.specs.declared.node.Node.TheVariants as made
use Rattle.js_grammar.specs.Kinds.{kinds, end}
use Rattle.js_grammar.specs.Script.{item, always, nesting, script, script_language, script_rule, rules}
use Rattle.js_grammar.specs.Scripts.{IsScript}
use Rattle.js_grammar.proofs.Tables.{tails}
use Rattle.js_grammar.proofs.Passes.{script-fits, script-apart}
use Rattle.js_parse.specs.declared.symbol.Symbol.TheVariants as s
use Rattle.js_parse.specs.Symbols.{same, of_kind}
use Rattle.js_parse.specs.Input.{Parser, Outcome, Input, and_then, add, place, place_at, sees, symbol}
use Rattle.js_parse.specs.Statements as st
use Rattle.js_parse.specs.Nesting.{part_at}
use Rattle.js_parse.specs.Parsing.{parsed, shown}
use Rattle.parse_laws.specs.Kinds.{token_kind}
use Rattle.parse_laws.specs.Trees as mk
use Rattle.parse_laws.specs.Trees.{parts_at, nodes_of, place_in, place_of_first, first_token}
use Rattle.parse_laws.proofs.Guided.{guided, Was, done, called, taking, many_of, rule_at, ok_same, called_ok, was, many-continues, guided-continues}
use Rattle.parse_laws.proofs.Sound.{vacant, read-front}
use Rattle.parse_laws.proofs.Walk.{language, ahead, rule, told, built, each-takes}
use Rattle.parse_laws.proofs.Symbols.{end-agrees}
use Rattle.parse_laws.proofs.Nested.{parted}
use Rattle.parse_laws.proofs.Stated
use Rattle.parse_laws.proofs.Kindred.{derived-same, read-alike}
use Rattle.parse_laws.proofs.Followed.{read-follows}

abbrev pub end_kinds : List ℕ
end_kinds = kinds (end ∷ [])

pub told-ok : {A : Type 0} (o : Outcome A) (v : A × Input) → told o ≡ Ok v → o ≡ Ok v
told-ok o v e = e

module _ (depth : ℕ) where
  abbrev pub listed : List NodeId → Tree Token → Nodes → List NodeId × Nodes
  listed found items ns = mk.all_behind (mk.item (parts_at depth)) found items ns

  abbrev pub turn_of : ℕ → List NodeId → Bool → Parser (List NodeId)
  turn_of n found ended = if ended then (λ i. Ok (found, i)) else (λ i. and_then (st.item (part_at depth) i) (λ x. st.items_from (part_at depth) s.End n (found ++ x ∷ [])))

  pub item-read : (ts : List Token) (ns : Nodes) (p : Tree Token × List Token) → guided language ahead (rule depth) item ts done ≡ Ok p
      → st.item (part_at depth) (ts, ns) ≡ Ok ((mk.item (parts_at depth) p.0 ns).0, (p.1, (mk.item (parts_at depth) p.0 ns).1))
  item-read ts ns p e = told-ok (st.item (part_at depth) (ts, ns)) _
      ((Stated.item-line depth (parted depth)).holds ts ns ∙ guided-continues language ahead (rule depth) (NodeId × Input) item ts (built (mk.item (parts_at depth)) ns)
      ∙ ap (λ w. called w (built (mk.item (parts_at depth)) ns)) e)

  -- items up to the end
  pub items-read : (n m : ℕ) (ts : List Token) (ns : Nodes) (found : List NodeId) (items : Tree Token) (t : Token) (rest : List Token) → length ts ≤ m
      → many_of language (among (firsts language.heads item)) always (guided language ahead (rule depth) item) n ts done ≡ Ok (items, t ∷ rest)
      → same (of_kind t.kind) s.End ≡ true
      → st.items_from (part_at depth) s.End m found (ts, ns) ≡ Ok ((listed found items ns).0, (t ∷ rest, (listed found items ns).1))
  unfolding many_of st.items_from mk.all_behind sees symbol token_kind
  items-read n zero [] ns found items t rest few e o = absurd (none n e)
    where
      none : (n : ℕ) → many_of language (among (firsts language.heads item)) always (guided language ahead (rule depth) item) n [] done ≡ Ok (items, t ∷ rest) → ⊥
      none zero e = let l : [] ≡ t ∷ rest = ap (λ q. q.1) (ok_same _ _ e) in cc (l)
      none (suc n) e = let l : [] ≡ t ∷ rest = ap (λ q. q.1) (ok_same _ _ e) in cc (l)
  items-read n zero (u ∷ us) ns found items t rest few e o = absurd (omega (arith, few))
  items-read zero (suc m) ts ns found items t rest few e o =
      let q = ok_same _ _ e in
      subst (λ (q : Tree Token × List Token). st.items_from (part_at depth) s.End (suc m) found (ts, ns) ≡ Ok ((listed found q.0 ns).0, (q.1, (listed found q.0 ns).1))) q
      (ended ts (ap (λ q. q.1) q))
    where
      ended : (ts : List Token) → ts ≡ t ∷ rest → turn_of m found (same (Rattle.js_parse.specs.Ready.symbol_of ts) s.End) (ts, ns) ≡ Ok (found, (ts, ns))
      ended ts q = let on : same (Rattle.js_parse.specs.Ready.symbol_of ts) s.End ≡ true = ap (λ ts. same (Rattle.js_parse.specs.Ready.symbol_of ts) s.End) q ∙ o in rw on refl
  items-read (suc n) (suc m) ts ns found items t rest few e o = elim (was (starts language (among (firsts language.heads item)) ts) _ _ (items, t ∷ rest) e) [
    | inl h ↦
        let g = guided language ahead (rule depth) item in
        let con = guided-continues language ahead (rule depth) (Tree Token × List Token) item in
        let k = called_ok (g ts done) _ (items, t ∷ rest) (sym (con ts _) ∙ h.1) in
        let f = called_ok (many_of language (among (firsts language.heads item)) always g n (k.0).1 done) _ (items, t ∷ rest)
        (sym (many-continues language (Tree Token × List Token) (among (firsts language.heads item)) always g g con con n (k.0).1 _) ∙ k.2) in
        let q = ok_same _ _ f.2 in
        let left : (f.0).1 ≡ t ∷ rest = ap (λ q. q.1) q in
        let front = read-front language ahead depth each-takes item (Stated.line-takes depth (parted depth)) ts (k.0).1 (k.0).0 k.1 in
        let size : length ts ≡ suc (length (front.1)) = ap (λ l. length l) (front.2) in
        let short = front.4 in
        let made = mk.item (parts_at depth) (k.0).0 ns in
        let one : st.item (part_at depth) (ts, ns) ≡ Ok (made.0, ((k.0).1, made.1)) = item-read ts ns k.0 k.1 in
        let others = items-read n m (k.0).1 made.1 (found ++ made.0 ∷ []) (f.0).0 t rest (omega (arith, few, size, short)) (f.1 ∙ ap (λ l. Ok ((f.0).0, l)) left) o in
        let off : same (Rattle.js_parse.specs.Ready.symbol_of ts) s.End ≡ false = not-end ts h.0 in
        ap (λ b. turn_of m found b (ts, ns)) off
        ∙ ap (λ v. and_then v (λ x. st.items_from (part_at depth) s.End m (found ++ x ∷ []))) one
        ∙ others ∙ ap (λ a. Ok ((listed found a ns).0, (t ∷ rest, (listed found a ns).1))) (ap (λ q. q.0) q)
    | inr h ↦
        let q = ok_same _ _ h.1 in
        let on : same (Rattle.js_parse.specs.Ready.symbol_of ts) s.End ≡ true = ap (λ q. same (Rattle.js_parse.specs.Ready.symbol_of q.1) s.End) q ∙ o in
        ap (λ b. turn_of m found b (ts, ns)) on
        ∙ ap (λ q. Ok ((listed found q.0 ns).0, (q.1, (listed found q.0 ns).1))) q
  ]
    where
      not-end : (ts : List Token) → starts language (among (firsts language.heads item)) ts ≡ true → same (Rattle.js_parse.specs.Ready.symbol_of ts) s.End ≡ false
      not-end [] e = absurd (cc (e))
      not-end (u ∷ us) e = end-agrees (of_kind u.kind) u.broken
          ∙ false_by (among end_kinds (token_kind u)) (λ a. apart-tells end_kinds (firsts language.heads item) (token_kind u) (Stated.items-parted depth (parted depth)).1 a e)

pub end-taken : (ts : List Token) (f : Tree Token → Tree Token) (p : Tree Token × List Token) → taking language end_kinds ts (λ c rest. Ok (f c, rest)) ≡ Ok p
    → (t : Token) × (ts ≡ t ∷ p.1) × (same (of_kind t.kind) s.End ≡ true) × (p.0 ≡ f (leaf t))
unfolding token_kind
end-taken [] f p e = absurd (cc (e))
end-taken (t ∷ ts) f p e = elim (was (among end_kinds (token_kind t)) _ _ p e) [
  | inl h ↦ let q = ok_same _ _ h.1 in (t, ap (λ q. t ∷ q.1) q, end-agrees (of_kind t.kind) t.broken ∙ h.0, sym (ap (λ q. q.0) q))
  | inr h ↦ absurd (let wrong = h.1 in cc (wrong))
]

-- the place of the first token of the script
pub script-place : (depth : ℕ) (ts rest : List Token) (a : Tree Token) → guided language ahead (rule depth) script_rule ts done ≡ Ok (a, rest) → place_in a ≡ place_at ts
unfolding script_rule vacant
script-place depth ts rest a e =
    let f = read-front language ahead depth each-takes script_rule refl ts rest a e in
    ap (λ o. place_of_first o) f.3 ∙ ap (λ ts. place_at ts) (sym f.2)

pub script-read : (depth : ℕ) (tokens : List Token) (tree : Tree Token) → guided language ahead (rule depth) script_rule tokens done ≡ Ok (tree, [])
    → shown (st.script (part_at depth) (tokens, [])) ≡ Ok (nodes_of depth tree)
unfolding script_rule guided st.script st.items place add nodes_of mk.script
script-read depth tokens tree e =
    let g = guided language ahead (rule depth) item in
    let con = guided-continues language ahead (rule depth) (Tree Token × List Token) item in
    let k = called_ok (many_of language (among (firsts language.heads item)) always g (length tokens) tokens done) _ (tree, [])
    (sym (many-continues language (Tree Token × List Token) (among (firsts language.heads item)) always g g con con (length tokens) tokens _) ∙ e) in
    let t = end-taken (k.0).1 (λ c. pair (k.0).0 c) (tree, []) k.2 in
    let items : st.items_from (part_at depth) s.End (length tokens) [] (tokens, []) ≡ Ok ((listed depth [] (k.0).0 []).0, (t.0 ∷ [], (listed depth [] (k.0).0 []).1)) =
    items-read depth (length tokens) (length tokens) tokens [] [] (k.0).0 t.0 [] (omega arith) (k.1 ∙ ap (λ l. Ok ((k.0).0, l)) t.1) t.2 in
    let at : place_at tokens ≡ place_in (pair (k.0).0 (leaf t.0)) = sym (script-place depth tokens [] tree e) ∙ ap (λ t. place_in t) t.3 in
    ap (λ o. shown (and_then o (λ found. add (made.Script found) (place_at tokens)))) items
    ∙ ap (λ at. Ok ((listed depth [] (k.0).0 []).1 ++ (made.Script (listed depth [] (k.0).0 []).0, at) ∷ [])) at
    ∙ ap (λ tree. Ok (nodes_of depth tree)) (sym t.3)

-- What is a script is parsed, and its nodes are those of its derivation.
pub script-parsed : (tokens : List Token) (tree : Tree Token) → IsScript tokens tree → parsed tokens ≡ Ok (nodes_of nesting tree)
unfolding parsed IsScript rule_at rules entry
script-parsed tokens tree d =
    let limit = suc (length tokens) in
    let one : read script_language limit (suc nesting) script tokens ≡ Ok (tree, []) =
    read-complete script_language (entry [] tails) script-fits limit (script-apart limit) (suc nesting) script tokens [] tree d refl (omega arith) in
    let two : read language limit (suc nesting) script tokens ≡ Ok (tree, []) =
    sym (read-alike limit (suc nesting) script tokens (derived-same (suc nesting) script tokens tree d)) ∙ one in
    script-read nesting tokens tree (uncalled (rule (suc nesting) script tokens) (tree, []) (read-follows limit (suc nesting) script tokens (tree, []) two))
  where
    uncalled : (w : Was Token) (p : Tree Token × List Token) → called w done ≡ Ok p → w ≡ Ok p
    uncalled (Err d) p e = absurd (cc (e))
    uncalled (Ok q) p e = e
