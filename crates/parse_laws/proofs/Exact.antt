-- The place of a script's fault is exact.
use Rattle.std.proofs.lemmas.List.{append_assoc, append_cancel_right}
use Rattle.std.proofs.lemmas.Bool.Decides.{leb_tells}
use Rattle.std.proofs.Common.{inl, inr, true, false, Bool, ◌≡◌, ℕ, zero, suc, ◌≤◌, ◌<◌, List, [], ◌∷◌, ◌++◌, length, refl, ap, sym, subst, ◌∙◌, arith}
use Rattle.std.specs.Prelude.{Ok, Err, if◌then◌else◌}
use Rattle.grammar.specs.Kinds.{among, apart}
use Rattle.grammar.specs.Grammar.{Tree, tip, leaf, pair, starts, entry, Viable, Derives, Spells}
use Rattle.grammar.specs.Reading.{Answer, ◌>>=◌, firsts, nullable, token_at, many_at, read_at, read}
use Rattle.grammar.specs.Tests.{InPlace}
use Rattle.grammar.proofs.Sets.{off-apart, is_or_not, begun-surely}
use Rattle.grammar.proofs.Complete.{spells-begun, derives-begun}
use Rattle.grammar.proofs.Limits.{exact-place}
use Rattle.js_token.specs.declared.token.Token.{Token}
use Rattle.js_token.specs.declared.token.TokenKind.TheVariants as kind
use Rattle.js_tree.specs.Nodes.{Nodes}
use Rattle.js_tree.specs.declared.node.NodeId.{NodeId}
use Rattle.js_tree.specs.declared.node.Node.TheVariants as made
use Rattle.js_grammar.specs.Script.{item, always, any, nesting, script, script_language, script_rule, rules, arrow_kinds}
use Rattle.js_grammar.proofs.Tables.{tails, examples}
use Rattle.js_grammar.proofs.Passes.{script-fits, script-opens, script-apart}
use Rattle.js_parse.specs.declared.fault.Fault.{Fault}
use Rattle.js_parse.specs.declared.fault.Fault.TheVariants as fault
use Rattle.js_parse.specs.declared.fault.ParseFault.{ParseFault}
use Rattle.js_parse.specs.declared.symbol.Symbol.TheVariants as s
use Rattle.js_parse.specs.Symbols.{same, of_kind}
use Rattle.js_parse.specs.Ready.{symbol_of}
use Rattle.js_parse.specs.Input.{Parser, Outcome, Input, and_then, add, place, place_at, sees, symbol}
use Rattle.js_parse.specs.Statements as st
use Rattle.js_parse.specs.Nesting.{part_at}
use Rattle.js_parse.specs.Parsing.{parsed, shown, fault_shown}
use Rattle.parse_laws.specs.Kinds.{token_kind}
use Rattle.parse_laws.specs.Agreement.{FaultIs}
use Rattle.parse_laws.specs.Trees as mk
use Rattle.parse_laws.specs.Trees.{parts_at}
use Rattle.parse_laws.proofs.Guided.{Was, Goes, done, called, wrong, many_of, guided, guided-continues, many-continues, taking, called_ok}
use Rattle.parse_laws.proofs.Sound.{guided-finds, rule-finds}
use Rattle.parse_laws.proofs.Walk.{language, language-fits, ahead, rule, built}
use Rattle.parse_laws.proofs.Begun.{chosen-true, chosen-false, not-begun, tables}
use Rattle.parse_laws.proofs.Ahead.{follows}
use Rattle.parse_laws.proofs.Symbols.{end-agrees}
use Rattle.parse_laws.proofs.Nested.{parted}
use Rattle.parse_laws.proofs.Stated
use Rattle.parse_laws.proofs.Followed.{stops}
use Rattle.parse_laws.proofs.Scripts.{end_kinds, end-taken}
use Rattle.parse_laws.proofs.Kindred.{read-alike}
use Rattle.grammar.proofs.Local.{ends}
use Rattle.grammar.proofs.Laws.{plus}
use Rattle.grammar.proofs.Free.{free}
use Rattle.parse_laws.proofs.Whole.{is-end}
use Rattle.parse_laws.proofs.Texts.{EndsSo, text-same, ends as is_ended, no-end, last-one, wholly, is-derived}
use Rattle.parse_laws.proofs.Places.{EndsIn, Within, Ascends, ends-order, Stands, fault_at, Past, fault_place, guided-stands, rule-stands}
use Rattle.parse_laws.proofs.Covered.{Read, Placed}
use Rattle.parse_laws.proofs.Lockstep.{Fine}
use Rattle.parse_laws.proofs.Agreed.{Agrees, not-both, err-same, fault-placed as fault-placed_at}
use Rattle.parse_laws.proofs.Deeply.{guided-grown, many-grown, rule-grown}
use Rattle.parse_laws.proofs.Hanging.{Forks, hangs, still}
use Rattle.parse_laws.proofs.Faults.{guided-agrees, many-agrees, rule-agrees}

module _ (depth : ℕ) where
  abbrev pub item_test : ℕ → Bool
  item_test = among (firsts language.heads item)

  abbrev pub items : ℕ → List Token → (Tree Token → Tree Token → Tree Token) → Was Token
  items n ts f = many_of language item_test always (guided language ahead (rule depth) item) n ts (λ d r. taking language end_kinds r (λ c q. done (f d c) q))

  pub item-placed : Placed item
  unfolding InPlace rules entry Rattle.grammar.proofs.Free.free
  item-placed = (refl, refl)

  abbrev pub turn_of : ℕ → List NodeId → Bool → Parser (List NodeId)
  turn_of n found ended = if ended then (λ i. Ok (found, i)) else (λ i. and_then (st.item (part_at depth) i) (λ x. st.items_from (part_at depth) s.End n (found ++ x ∷ [])))

  pub item-shorter : (ts : List Token) (p : Read) → guided language ahead (rule depth) item ts done ≡ Ok p → length p.1 < length ts
  unfolding nullable
  item-shorter ts p e = (begun-surely language (firsts language.heads item) (nullable item) ts p.1 refl
      (spells-begun language follows language-fits (Derives language depth) (derives-begun language follows language-fits depth) item item-placed.0 ts p.1 p.0
      (guided-finds language ahead (rule depth) (Derives language depth) (rule-finds language ahead depth) item ts p e))).1

  -- A fault of the parser among the items is one of the guided reader.
  pub items-told : (n : ℕ) (ts : List Token) (ns : Nodes) (found : List NodeId) (f : Tree Token → Tree Token → Tree Token) (e : Fault) → EndsIn ts → length ts ≤ n
      → st.items_from (part_at depth) s.End n found (ts, ns) ≡ Err e → items n ts f ≡ Err e
  unfolding many_of st.items_from sees symbol nullable token_kind
  items-told zero [] ns found f e i few q = absurd i
  items-told zero (t ∷ ts) ns found f e i few q = absurd (omega (arith, few))
  items-told (suc n) ts ns found f e i few q = by (λ m ns found f i few q. items-told n m ns found f e i few q) (same (symbol_of ts) s.End) refl q
    where
      g : List Token → Goes Token Read → Was Token
      g = guided language ahead (rule depth) item

      con : (us : List Token) (k : Goes Token Read) → g us k ≡ called (g us done) k
      con us k = guided-continues language ahead (rule depth) Read item us k

      close : (Tree Token → Tree Token → Tree Token) → Goes Token Read
      close f d r = taking language end_kinds r (λ c q. done (f d c) q)

      next : (Tree Token → Tree Token → Tree Token) → Goes Token Read
      next f a rest = many_of language item_test always g n rest (λ b end. close f (pair a b) end)

      sim : st.item (part_at depth) (ts, ns) ≡ called (g ts done) (built (mk.item (parts_at depth)) ns)
      sim = (Stated.item-line depth (parted depth)).holds ts ns ∙ guided-continues language ahead (rule depth) (NodeId × Input) item ts (built (mk.item (parts_at depth)) ns)

      Known : Type 0
      Known = (m : List Token) (ns : Nodes) (found : List NodeId) (f : Tree Token → Tree Token → Tree Token) → EndsIn m → length m ≤ n
          → st.items_from (part_at depth) s.End n found (m, ns) ≡ Err e → items n m f ≡ Err e

      begun : Known → (w : Was Token) → g ts done ≡ w
          → and_then (called w (built (mk.item (parts_at depth)) ns)) (λ x. st.items_from (part_at depth) s.End n (found ++ x ∷ [])) ≡ Err e → called w (next f) ≡ Err e
      begun ih (Err d) o q = let k : d ≡ e = cc (q) in ap (λ d. Err d) k
      begun ih (Ok p) o q =
          let w : Within ts p.1 = subst (Stands ts) o (guided-stands (rule depth) (rule-stands depth) item item-placed.0 item-placed.1 ts i) in
          let shorter = item-shorter ts p o in
          ih p.1 _ _ (λ b c. f (pair p.0 b) c) w.2 (omega (arith, few, shorter)) q

      none-ends : (ts : List Token) → same (symbol_of ts) s.End ≡ false → starts language (among end_kinds) ts ≡ false
      none-ends [] o = refl
      none-ends (t ∷ ts) o = sym (end-agrees (of_kind t.kind) t.broken) ∙ o

      closes-not : (ts : List Token) → starts language (among end_kinds) ts ≡ false → close f tip ts ≡ Err (wrong ts)
      closes-not [] o = refl
      closes-not (t ∷ ts) o = chosen-false (among end_kinds (token_kind t)) _ _ o

      by : Known → (b : Bool) → same (symbol_of ts) s.End ≡ b → turn_of n found b (ts, ns) ≡ Err e
          → (if starts language item_test ts then g ts (next f) else close f tip ts) ≡ Err e
      by ih true o q = absurd (cc (q))
      by ih false o q = elim (is_or_not (starts language item_test ts)) [
        | inl h ↦ chosen-true (starts language item_test ts) _ _ h ∙ con ts (next f)
            ∙ begun ih (g ts done) refl (ap (λ v. and_then v (λ x. st.items_from (part_at depth) s.End n (found ++ x ∷ []))) (sym sim) ∙ q)
        | inr h ↦
            let first : st.item (part_at depth) (ts, ns) ≡ Err (wrong ts) =
            (Stated.item-line depth (parted depth)).holds ts ns ∙ not-begun depth item item-placed.0 refl ts (built (mk.item (parts_at depth)) ns) h in
            let fault_is : ◌≡◌ {A = Outcome (List NodeId)} (Err (wrong ts)) (Err e) = sym (ap (λ v. and_then v (λ x. st.items_from (part_at depth) s.End n (found ++ x ∷ []))) first) ∙ q in
            let same_fault : wrong ts ≡ e = cc (fault_is) in
            chosen-false (starts language item_test ts) _ _ h ∙ closes-not ts (none-ends ts o) ∙ ap (λ e. Err e) same_fault
      ]

  -- ---- by the reader of the grammar

  module _ (limit : ℕ) where
    abbrev pub r : ℕ → List Token → Answer Token
    r = read language limit depth

    pub item-agrees : (ts : List Token) → Fine ts → length ts < limit → Agrees (hangs item) ts (guided language ahead (rule depth) item ts done) (read_at language limit r item ts)
    unfolding InPlace rules entry Rattle.grammar.specs.Tests.decided Rattle.grammar.specs.Pairs.told stops Rattle.grammar.proofs.Free.free still Forks
    item-agrees ts f small = guided-agrees limit depth (rule-agrees limit depth) item refl refl refl refl refl refl tt ts f small

    pub items-off : (m : List Token) → starts language (among arrow_kinds) m ≡ true → starts language item_test m ≡ false
    unfolding tables apart
    items-off m a = off-apart language (firsts language.heads item) arrow_kinds m refl a

    pub items-agree : (ts : List Token) → Fine ts → length ts < limit
        → Agrees (hangs item) ts (many_of language item_test always (guided language ahead (rule depth) item) (length ts) ts done) (many_at language item_test always (read_at language limit r item) limit ts)
    items-agree ts f small = many-agrees limit depth (rule-agrees limit depth) item_test always item item-agrees (hangs item) (λ e. e) (λ e m a. items-off m a) item-shorter (length ts) limit ts f small (omega arith) small

    pub closes : (f : Tree Token → Tree Token → Tree Token) (d : Tree Token) (m : List Token) (e : Fault) → taking language end_kinds m (λ c q. done (f d c) q) ≡ Err e
        → (e ≡ wrong m) × (token_at language end_kinds m ≡ Err (false, m))
    closes f d [] e q = (let k : wrong [] ≡ e = cc (q) in sym k, refl)
    closes f d (t ∷ m) e q = by (among end_kinds (language.kind t)) q
      where
        answer_of : Bool → Answer Token
        answer_of b = if b then Ok (leaf t, m) else Err (false, t ∷ m)

        by : (b : Bool) → (if b then done (f d (leaf t)) m else Err (wrong (t ∷ m))) ≡ Err e → (e ≡ wrong (t ∷ m)) × (answer_of b ≡ Err (false, t ∷ m))
        by true q = absurd (cc (q))
        by false q = (let k : wrong (t ∷ m) ≡ e = cc (q) in sym k, refl)

    abbrev pub Found : List Token → Fault → Type 0
    Found ts e = (d s : Bool) × (left : List Token) × (read language limit (suc depth) script ts ≡ Err (d, left)) × (e ≡ fault_at d s left) × Within ts left

    -- The fault of a script is that of the grammar's reader.
    pub script-faulted : (ts : List Token) (f : Tree Token → Tree Token → Tree Token) (e : Fault) → Fine ts → length ts < limit → items (length ts) ts f ≡ Err e → Found ts e
    unfolding read read_at rules entry script_rule
    script-faulted ts f e v small q = elim (items-agree ts v small) [
      | inl k ↦
          let c = closes f (k.0).0 (k.0).1 e (sym (ap (λ w. called w close) k.1) ∙ whole) in
          (false, false, (k.0).1, ap (λ w. w >>= after) k.2 ∙ ap (λ w. w >>= λ q. Ok (pair (k.0).0 q.0, q.1)) c.1, c.0, k.3)
      | inr g ↦ elim g [
        | inl k ↦
            let c = closes f (k.1).0 (k.1).1 e (sym (ap (λ w. called w close) k.2) ∙ whole) in
            (false, false, (k.1).1, ap (λ w. w >>= after) k.3, c.0, k.4)
        | inr k ↦
            let same : fault_at k.0 k.1 k.2 ≡ e = let p : ◌≡◌ {A = Was Token} (Err (fault_at k.0 k.1 k.2)) (Err e) = sym (ap (λ w. called w close) k.3) ∙ whole in cc (p) in
            (k.0, k.1, k.2, ap (λ w. w >>= after) k.4, sym same, k.5)
      ]
    ]
      where
        g : List Token → Goes Token Read → Was Token
        g = guided language ahead (rule depth) item

        con : (us : List Token) (k : Goes Token Read) → g us k ≡ called (g us done) k
        con us k = guided-continues language ahead (rule depth) Read item us k

        close : Goes Token Read
        close d r = taking language end_kinds r (λ c q. done (f d c) q)

        after : Read → Answer Token
        after p = token_at language end_kinds p.1 >>= λ q. Ok (pair p.0 q.0, q.1)

        whole : called (many_of language item_test always g (length ts) ts done) close ≡ Err e
        whole = sym (many-continues language Read item_test always g g con con (length ts) ts close) ∙ q

-- ---- texts

pub ends-in : (front : List Token) (t : Token) → t.kind ≡ kind.End → EndsIn (front ++ t ∷ [])
ends-in [] t e = inl (is_ended t e)
ends-in (u ∷ front) t e = inr (ends-in front t e)

-- ---- where parts may nest deeper

abbrev pub told : Tree Token → Tree Token → Tree Token
told a b = pair a b

abbrev pub listed : ℕ → List Token → Was Token
listed depth ts = many_of language (item_test depth) always (guided language ahead (rule depth) item) (length ts) ts done

pub item-free : free end_kinds script item ≡ true
unfolding free
item-free = refl

pub by-parts : (depth : ℕ) (ts : List Token) → items depth (length ts) ts told ≡ called (listed depth ts) (λ d r. taking language end_kinds r (λ c q. done (told d c) q))
by-parts depth ts = many-continues language Read (item_test depth) always g g con con (length ts) ts (λ d r. taking language end_kinds r (λ c q. done (told d c) q))
  where
    g : List Token → Goes Token Read → Was Token
    g = guided language ahead (rule depth) item

    con : (us : List Token) (k : Goes Token Read) → g us k ≡ called (g us done) k
    con us k = guided-continues language ahead (rule depth) Read item us k

-- A level too deep was among the items.
pub deep-among : (depth : ℕ) (ts : List Token) (a : ℕ) → items depth (length ts) ts told ≡ Err (fault.Deep a) → listed depth ts ≡ Err (fault.Deep a)
deep-among depth ts a e = by (listed depth ts) refl (sym (by-parts depth ts) ∙ e)
  where
    by : (w : Was Token) → listed depth ts ≡ w → called w (λ d r. taking language end_kinds r (λ c q. done (told d c) q)) ≡ Err (fault.Deep a) → listed depth ts ≡ Err (fault.Deep a)
    by (Err f) q e = q ∙ e
    by (Ok p) q e = absurd (let k = (closes depth 0 told p.0 p.1 (fault.Deep a) e).0 in cc (k))

-- Two levels more are enough for its token.
pub deeper-past : (depth : ℕ) (ts : List Token) (a : ℕ) → Fine ts → items depth (length ts) ts told ≡ Err (fault.Deep a) → Past (suc a) (listed (plus 2 depth) ts)
unfolding InPlace rules entry free Forks
deeper-past depth ts a f e =
    let low = deep-among depth ts a e in
    elim (many-grown depth (plus 2 depth) (rule-grown depth) (item_test depth) always item (item-placed depth).0 item-free (guided-grown depth (plus 2 depth) (rule-grown depth) item refl refl tt) (length ts) ts f) [
      | inl k ↦ not-both (fault.Deep a) k.0 (listed depth ts) low k.1
      | inr k ↦ elim k [
        | inl k ↦ absurd (let q = err-same (fault.Deep a) (fault.Token k.0 k.1) (listed depth ts) low k.2 in cc (q))
        | inr k ↦
            let q : fault.Deep a ≡ fault.Deep k.0 = err-same (fault.Deep a) (fault.Deep k.0) (listed depth ts) low k.1 in
            let same : a ≡ k.0 = ap (λ e. fault_place e) q in
            subst (λ n. Past (suc n) (listed (plus 2 depth) ts)) (sym same) k.2
      ]
    ]

pub fault-past : (depth : ℕ) (ts : List Token) (p : ℕ) (e : Fault) → Past p (listed depth ts) → items depth (length ts) ts told ≡ Err e → p ≤ fault_place e
fault-past depth ts p e past q = by (listed depth ts) past (sym (by-parts depth ts) ∙ q)
  where
    by : (w : Was Token) → Past p w → called w (λ d r. taking language end_kinds r (λ c q. done (told d c) q)) ≡ Err e → p ≤ fault_place e
    by (Err f) past q = let same : f ≡ e = cc (q) in subst (λ e. p ≤ fault_place e) same past
    by (Ok r) past q = subst (λ e. p ≤ fault_place e) (sym (closes depth 0 told r.0 r.1 e q).0) past

-- a script of the whole, where its items are read
pub whole-derived : (depth : ℕ) (tokens : List Token) (p : Read) → EndsSo tokens → items depth (length tokens) tokens told ≡ Ok p → (tree : Tree Token) × Derives script_language (suc depth) script tokens [] tree
unfolding guided token_kind
whole-derived depth tokens p w e =
    let k = called_ok (listed depth tokens) _ p (sym (by-parts depth tokens) ∙ e) in
    let d : Spells language (Derives language depth) (any item) tokens (k.0).1 (k.0).0 =
    guided-finds language ahead (rule depth) (Derives language depth) (rule-finds language ahead depth) (any item) tokens k.0 k.1 in
    let t = end-taken (k.0).1 (λ c. told (k.0).0 c) p k.2 in
    let f = no-end depth tokens (k.0).1 (k.0).0 d in
    let ended : symbol_of (k.0).1 ≡ s.End = ap (λ l. symbol_of l) t.1 ∙ is-end (of_kind (t.0).kind) t.2 in
    let last = last-one w.0 f.0 (k.0).1 w.1 (sym w.2 ∙ f.1) w.3 f.2 ended w.4 in
    let tree = pair (k.0).0 (leaf w.1) in
    (tree, is-derived (suc depth) tokens tree (text-same tokens w) (wholly depth tokens (k.0).0 w.1 (k.0).1 d last w.4))

-- Some script goes on with the token at which the fault of nesting is.
pub token-viable : (tokens front rest left more_front : List Token) (t : Token) → Ascends tokens → tokens ≡ front ++ t ∷ rest → Within tokens (t ∷ rest) → tokens ≡ more_front ++ left → Within tokens left
    → place_at (t ∷ rest) < place_at left → Viable script_language script more_front → Viable script_language script (front ++ t ∷ [])
unfolding Viable
token-viable tokens front rest left more_front t up e w i v less g =
    let shorter : length left ≤ length (t ∷ rest) = elim (leb_tells (length left) (length (t ∷ rest))) [
      | inl h ↦ h.1
      | inr h ↦ elim (ends-order tokens (t ∷ rest) left up w v (omega (arith, h.1))) [
        | inl k ↦ absurd (let same : place_at (t ∷ rest) ≡ place_at left = ap (λ l. place_at l) k in omega (arith, same, less))
        | inr k ↦ absurd (omega (arith, k, less))
      ]
    ] in
    let k = ends more_front front left (t ∷ rest) tokens i e shorter in
    by k.0 k.1
  where
    by : (f : List Token) → t ∷ rest ≡ f ++ left → Viable script_language script (front ++ t ∷ [])
    by [] q = absurd (let same : place_at (t ∷ rest) ≡ place_at left = ap (λ l. place_at l) q in omega (arith, same, less))
    by (u ∷ f) q =
        let first : t ≡ u = cc (q) in
        let whole : more_front ++ left ≡ (front ++ u ∷ f) ++ left = sym i ∙ e ∙ ap (λ l. front ++ l) q ∙ sym (append_assoc front (u ∷ f) left) in
        let same : more_front ≡ front ++ u ∷ f = append_cancel_right more_front (front ++ u ∷ f) left whole in
        let moved : more_front ++ g.1 ≡ (front ++ t ∷ []) ++ (f ++ g.1) =
        ap (λ l. l ++ g.1) same ∙ append_assoc front (u ∷ f) g.1 ∙ ap (λ u. front ++ u ∷ (f ++ g.1)) (sym first) ∙ sym (append_assoc front (t ∷ []) (f ++ g.1)) in
        (g.0, f ++ g.1, g.2, subst (λ l. Derives script_language g.0 script l [] g.2) moved g.3)

pub deep-viable : (tokens front rest : List Token) (t : Token) → EndsSo tokens → Fine tokens → tokens ≡ front ++ t ∷ rest → Within tokens (t ∷ rest)
    → items nesting (length tokens) tokens told ≡ Err (fault.Deep t.place) → Viable script_language script (front ++ t ∷ [])
unfolding Viable
deep-viable tokens front rest t w f e i q = by (items (plus 2 nesting) (length tokens) tokens told) refl
  where
    past : Past (suc t.place) (listed (plus 2 nesting) tokens)
    past = deeper-past nesting tokens t.place f q

    by : (v : Was Token) → items (plus 2 nesting) (length tokens) tokens told ≡ v → Viable script_language script (front ++ t ∷ [])
    by (Ok p) o =
        let k = whole-derived (plus 2 nesting) tokens p w o in
        let moved : tokens ≡ (front ++ t ∷ []) ++ rest = e ∙ sym (append_assoc front (t ∷ []) rest) in
        (suc (plus 2 nesting), rest, k.0, subst (λ l. Derives script_language (suc (plus 2 nesting)) script l [] k.0) moved k.1)
    by (Err c) o =
        let limit = suc (length tokens) in
        let k = script-faulted (plus 2 nesting) limit tokens told c f (omega arith) o in
        let one : read script_language limit (suc (plus 2 nesting)) script tokens ≡ Err (k.0, k.2) =
        read-alike limit (suc (plus 2 nesting)) script tokens (text-same tokens w) ∙ k.3 in
        let x = exact-place script_language (entry [] tails) script-fits examples script-opens script-apart limit (suc (plus 2 nesting)) script (omega arith) tokens (k.0, k.2) (omega arith) one in
        let far : suc t.place ≤ fault_place c = fault-past (plus 2 nesting) tokens (suc t.place) c past o in
        let at : fault_place c ≡ place_at k.2 = ap (λ e. fault_place e) k.4 ∙ fault-placed_at k.0 k.1 k.2 in
        token-viable tokens front rest k.2 x.0 t f.0 e i x.1 k.5 (omega (arith, far, at)) x.2

pub fault-placed : (tokens left : List Token) (d s : Bool) → EndsSo tokens → Fine tokens → Within tokens left → items nesting (length tokens) tokens told ≡ Err (fault_at d s left)
    → read script_language (suc (length tokens)) (suc nesting) script tokens ≡ Err (d, left) → FaultIs tokens (fault_shown (fault_at d s left))
fault-placed tokens [] d s v f w q e = absurd w.2
fault-placed tokens (t ∷ rest) true s v f w q e =
    let x = exact-place script_language (entry [] tails) script-fits examples script-opens script-apart (suc (length tokens)) (suc nesting) script (omega arith) tokens (true, t ∷ rest) (omega arith) e in
    (x.0, t, rest, x.1, refl, x.2, (x.3, deep-viable tokens x.0 rest t v f x.1 w q))
fault-placed tokens (t ∷ rest) false s v f w q e =
    let x = exact-place script_language (entry [] tails) script-fits examples script-opens script-apart (suc (length tokens)) (suc nesting) script (omega arith) tokens (false, t ∷ rest) (omega arith) e in
    (x.0, t, rest, x.1, refl, x.2, x.4 refl)

-- The place of the fault of a text's tokens is exact.
pub text-faults : (tokens : List Token) (f : ParseFault) → EndsSo tokens → Ascends tokens → parsed tokens ≡ Err f → FaultIs tokens f
unfolding parsed st.script st.items place add
text-faults tokens f w up e = by (st.items_from (part_at nesting) s.End (length tokens) [] (tokens, [])) refl e
  where
    fine : Fine tokens
    fine = (up, subst EndsIn (sym w.2) (ends-in w.0 w.1 w.4))

    by : (o : Outcome (List NodeId)) → st.items_from (part_at nesting) s.End (length tokens) [] (tokens, []) ≡ o
        → shown (and_then o (λ found. add (made.Script found) (place_at tokens))) ≡ Err f → FaultIs tokens f
    by (Ok v) q e = absurd (cc (e))
    by (Err c) q e =
        let among_items = items-told nesting (length tokens) tokens [] [] told c fine.1 (omega arith) q in
        let k = script-faulted nesting (suc (length tokens)) tokens told c fine (omega arith) among_items in
        let one : read script_language (suc (length tokens)) (suc nesting) script tokens ≡ Err (k.0, k.2) =
        read-alike (suc (length tokens)) (suc nesting) script tokens (text-same tokens w) ∙ k.3 in
        let same : fault_shown (fault_at k.0 k.1 k.2) ≡ f = let p : fault_shown c ≡ f = cc (e) in ap (λ c. fault_shown c) (sym k.4) ∙ p in
        subst (FaultIs tokens) same (fault-placed tokens k.2 k.0 k.1 w fine k.5 (among_items ∙ ap (λ c. Err c) k.4) one)
