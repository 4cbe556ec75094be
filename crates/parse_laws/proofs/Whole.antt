-- Whole scripts.
use Rattle.std.proofs.Common.{inl, true, false, Bool, ◌≡◌, ℕ, zero, suc, List, [], ◌∷◌, ◌++◌, length, refl, ap, sym, ◌∙◌}
use Rattle.std.specs.Prelude.{Ok, Err, if◌then◌else◌}
use Rattle.grammar.specs.Grammar.{Tree, tip, pair, Derives, Spells, Chain}
use Rattle.js_token.specs.declared.token.Token.{Token}
use Rattle.js_tree.specs.Nodes.{Nodes}
use Rattle.js_tree.specs.declared.node.NodeId.{NodeId}
use Rattle.js_tree.specs.declared.node.Node.TheVariants as made
use Rattle.js_grammar.specs.Script.{item, always, nesting}
use Rattle.js_parse.specs.declared.symbol.Symbol.TheVariants as s
use Rattle.js_parse.specs.Symbols.{same}
use Rattle.js_parse.specs.Ready.{symbol_of}
use Rattle.js_parse.specs.Input.{Parser, Outcome, Input, and_then, add, place, place_at, sees, symbol}
use Rattle.js_parse.specs.Statements as st
use Rattle.js_parse.specs.Nesting.{part_at}
use Rattle.js_parse.specs.Parsing.{parsed, shown}
use Rattle.parse_laws.specs.Agreement.{language, script_nodes, AreItems}
use Rattle.parse_laws.specs.Trees as mk
use Rattle.parse_laws.specs.Trees.{parts_at, Build}
use Rattle.parse_laws.proofs.Guided.{guided, Was, done, called, ok_same, guided-continues, Told}
use Rattle.parse_laws.proofs.Sound.{guided-finds, rule-finds}
use Rattle.parse_laws.proofs.Walk.{ahead, rule, told, built}
use Rattle.parse_laws.proofs.Nested.{parted}
use Rattle.parse_laws.proofs.Stated

pub is-end : (symbol : Rattle.js_parse.specs.declared.symbol.Symbol.Symbol) → same symbol s.End ≡ true → symbol ≡ s.End
unfolding same
is-end s.End e = refl
is-end _ e = absurd (cc (e))

pub ok_first : {A B : Type 0} (o : Outcome A) (f : A → Parser B) (v : B × Input) → and_then o f ≡ Ok v → (p : A × Input) × (o ≡ Ok p) × (f p.0 p.1 ≡ Ok v)
ok_first (Ok p) f v e = (p, refl, e)
ok_first (Err c) f v e = absurd (cc (e))

pub told-read : {A : Type 0} (w : Was Token) (b : Tree Token → Build A) (ns : Nodes) (p : A × Input) → ◌≡◌ {A = Told (A × Input)} (Ok p) (called w (built b ns))
    → (q : Tree Token × List Token) × (w ≡ Ok q) × (p ≡ ((b q.0 ns).0, (q.1, (b q.0 ns).1)))
told-read (Err d) b ns p e = absurd (cc (e))
told-read (Ok q) b ns p e = (q, refl, ok_same _ _ e)

module _ (depth : ℕ) where
  abbrev pub Items : List Token → List Token → Tree Token → Type 0
  Items ts rest a = Chain (Spells language (Derives language depth) item) always a ts rest

  abbrev pub Found : List NodeId → Nodes → List Token → (List NodeId × Input) → Type 0
  Found found ns ts v = (items : Tree Token) × (rest : List Token) × Items ts rest items × (symbol_of rest ≡ s.End)
      × (v ≡ ((mk.all_behind (mk.item (parts_at depth)) found items ns).0, (rest, (mk.all_behind (mk.item (parts_at depth)) found items ns).1)))

  pub item-found : (ts : List Token) (ns : Nodes) (p : NodeId × Input) → st.item (part_at depth) (ts, ns) ≡ Ok p
      → (a : Tree Token) × (mid : List Token) × Spells language (Derives language depth) item ts mid a × (p ≡ ((mk.item (parts_at depth) a ns).0, (mid, (mk.item (parts_at depth) a ns).1)))
  item-found ts ns p e =
      let sim = (Stated.item-line depth (parted depth)).holds ts ns in
      let k = told-read (guided language ahead (rule depth) item ts done) (mk.item (parts_at depth)) ns p
      (ap (λ o. told o) (sym e) ∙ sim ∙ guided-continues language ahead (rule depth) (NodeId × Input) item ts (built (mk.item (parts_at depth)) ns)) in
      ((k.0).0, (k.0).1, guided-finds language ahead (rule depth) (Derives language depth) (rule-finds language ahead depth) item ts k.0 k.1, k.2)

  abbrev pub turn_of : ℕ → List NodeId → Bool → Parser (List NodeId)
  turn_of n found ended = if ended then (λ i. Ok (found, i)) else (λ i. and_then (st.item (part_at depth) i) (λ x. st.items_from (part_at depth) s.End n (found ++ x ∷ [])))

  pub items-found : (n : ℕ) (found : List NodeId) (ts : List Token) (ns : Nodes) (v : List NodeId × Input) → st.items_from (part_at depth) s.End n found (ts, ns) ≡ Ok v → Found found ns ts v
  unfolding st.items_from Chain mk.all_behind sees symbol
  items-found zero found ts ns v e = absurd (cc (e))
  items-found (suc n) found ts ns v e = by (λ found ts ns v e. items-found n found ts ns v e) (same (symbol_of ts) s.End) refl e
    where
      by : ((found : List NodeId) (ts : List Token) (ns : Nodes) (v : List NodeId × Input) → st.items_from (part_at depth) s.End n found (ts, ns) ≡ Ok v → Found found ns ts v)
          → (b : Bool) → same (symbol_of ts) s.End ≡ b
          → turn_of n found b (ts, ns) ≡ Ok v → Found found ns ts v
      by ih true q e = let w : (found, (ts, ns)) ≡ v = cc (e) in (tip, ts, refl, is-end (symbol_of ts) q, sym w)
      by ih false q e =
          let k = ok_first (st.item (part_at depth) (ts, ns)) (λ x. st.items_from (part_at depth) s.End n (found ++ x ∷ [])) v e in
          let a = item-found ts ns k.0 k.1 in
          let f : st.items_from (part_at depth) s.End n (found ++ (mk.item (parts_at depth) a.0 ns).0 ∷ []) (a.1, (mk.item (parts_at depth) a.0 ns).1) ≡ Ok v =
          ap (λ p. st.items_from (part_at depth) s.End n (found ++ p.0 ∷ []) p.1) (sym a.3) ∙ k.2 in
          let r = ih _ _ _ v f in
          (pair a.0 r.0, r.1, (a.1, a.2, inl (refl, r.2)), r.3, r.4)

pub script-found : (tokens : List Token) (nodes : Nodes) → parsed tokens ≡ Ok nodes
    → (items : Tree Token) × (rest : List Token) × AreItems tokens rest items × (symbol_of rest ≡ s.End) × (nodes ≡ script_nodes (place_at tokens) items)
unfolding parsed st.script st.items place add script_nodes Spells
script-found tokens nodes e = by (st.items_from (part_at nesting) s.End (length tokens) [] (tokens, [])) refl e
  where
    by : (o : Outcome (List NodeId)) → st.items_from (part_at nesting) s.End (length tokens) [] (tokens, []) ≡ o
        → shown (and_then o (λ found. add (made.Script found) (place_at tokens))) ≡ Ok nodes
        → (items : Tree Token) × (rest : List Token) × AreItems tokens rest items × (symbol_of rest ≡ s.End) × (nodes ≡ script_nodes (place_at tokens) items)
    by (Err c) q e = absurd (cc (e))
    by (Ok v) q e =
        let k = items-found nesting (length tokens) [] tokens [] v q in
        let w : (v.1).1 ++ (made.Script v.0, place_at tokens) ∷ [] ≡ nodes = cc (e) in
        (k.0, k.1, k.2, k.3, sym w ∙ ap (λ v. (v.1).1 ++ (made.Script v.0, place_at tokens) ∷ []) k.4)
