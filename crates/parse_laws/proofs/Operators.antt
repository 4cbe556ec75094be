-- Operators between operands.
use Rattle.std.proofs.Common.{inl, inr, true, false, Bool, ◌⊎◌, ◌≡◌, ℕ, zero, suc, List, [], ◌∷◌, length, refl, ap, sym, subst, ◌∙◌, codes}
use Rattle.std.specs.Prelude.{if◌then◌else◌, Ok}
use Rattle.grammar.specs.Kinds.{among, apart}
use Rattle.grammar.proofs.Sets.{off-apart}
use Rattle.grammar.specs.Reading.{firsts}
use Rattle.grammar.specs.Grammar.{Tree, tip, leaf, pair, node, both, token, named, line, starts}
use Rattle.js_token.specs.declared.token.Token.{Token}
use Rattle.js_tree.specs.Nodes.{Nodes}
use Rattle.js_tree.specs.declared.node.NodeId.{NodeId}
use Rattle.js_grammar.specs.Kinds.{kinds, mark}
use Rattle.js_grammar.specs.Script.{Rule, any, always, reaches, form, unary_rule, mul_rule, add_rule, shift_rule, rel_rule, equal_rule, bit_and_rule, bit_xor_rule, bit_or_rule, and_rule, or_rule, short_rule, left_rule, primary_rule}
use Rattle.js_parse.specs.declared.symbol.Symbol.TheVariants as s
use Rattle.js_parse.specs.Input.{Parser, Input, and_then, place, place_at, sees}
use Rattle.js_parse.specs.Grammar as g
use Rattle.js_parse.specs.Nesting.{part_at}
use Rattle.parse_laws.specs.Trees as mk
use Rattle.parse_laws.specs.Trees.{first_token, Parts, parts_at, place_in, symbol_in, first, second, under, Build}
use Rattle.parse_laws.proofs.Guided.{guided, many_of, Goes, done, called_ok, ok_same, guided-continues, Told}
use Rattle.parse_laws.proofs.Sound.{vacant}
use Rattle.parse_laws.proofs.Walk.{language, ahead, rule, told, built, Sim, step, step+, at-first}
use Rattle.parse_laws.proofs.Begun.{tables}
use Rattle.parse_laws.proofs.Steps.{step-same, step-same+, sees-starts, tip-took, assoc}
use Rattle.parse_laws.proofs.Loops.{Level, chain-sim}
use Rattle.parse_laws.proofs.Levels.{level-1, level-2, level-3, level-4, level-5, level-6, level-7, level-8, level-9, level-10, level-11}
use Rattle.parse_laws.proofs.Symbols.{only-coalesce}
use Rattle.parse_laws.proofs.Parted.{Parted}
use Rattle.parse_laws.proofs.Expressions.{unary-sim, unary-takes}

module _ (depth : ℕ) (h : Parted depth) (allow_in : Bool) where
  -- an operand and the operators behind it, up to a level
  abbrev pub operated : ℕ → ℕ → Parser NodeId
  operated n at i = and_then (g.unary (part_at depth) i) (λ u. g.operations (part_at depth) allow_in n at u.0)

  abbrev pub Operated : ℕ → Rule → Type 0
  Operated n x = (at : ℕ) → Sim depth (operated n at) x (mk.operand_at (parts_at depth) n at)

  pub operand-sim : (n : ℕ) {x : Rule} (name : ℕ) → vacant x ≡ false → Operated n x
      → Sim depth (g.operand (part_at depth) allow_in n) (line name x) (λ t. mk.operand_at (parts_at depth) n (place_in t) t)
  unfolding g.operand guided place
  operand-sim n {x} name v prev = record { holds = λ ts ns. (prev (place_at ts)).holds ts ns ∙ at-first depth (mk.operand_at (parts_at depth) n) x v ts ns }

  pub level-up : (n : ℕ) {x : Rule} {kinds : List ℕ} (name below : ℕ) → vacant x ≡ false → Level (suc n) allow_in kinds → Operated n x
      → Operated (suc n) (named name (both (line below x) (any (both (token kinds) (line below x)))))
  unfolding g.operations guided mk.operand_at g.operand
  level-up n {x} name below v known prev at = record {
    holds = λ ts ns.
        sym (assoc (g.unary (part_at depth) (ts, ns)) (λ u. g.operations (part_at depth) allow_in n at u.0) _)
        ∙ step (prev at) ts ns _ _ (λ a mid. step-same (chain-sim depth (operand-sim n below v prev) at known _) mid _ _ (λ m rest. refl));
  }

  pub operated-0 : Operated 0 unary_rule
  unfolding g.operations mk.operand_at mk.unary
  operated-0 at = record { holds = λ ts ns. step (unary-sim depth h) ts ns _ _ (λ a rest. refl) }

  pub operated-1 : Operated 1 mul_rule
  unfolding mul_rule
  operated-1 = level-up 0 31 30 (unary-takes depth h) (level-1 allow_in) operated-0

  pub takes-1 : vacant mul_rule ≡ false
  unfolding mul_rule unary_rule left_rule primary_rule vacant
  takes-1 = refl

  pub takes-2 : vacant add_rule ≡ false
  unfolding add_rule mul_rule unary_rule left_rule primary_rule vacant
  takes-2 = refl

  pub operated-2 : Operated 2 add_rule
  unfolding add_rule
  operated-2 = level-up 1 32 31 takes-1 (level-2 allow_in) operated-1

  pub takes-3 : vacant shift_rule ≡ false
  unfolding shift_rule add_rule mul_rule unary_rule left_rule primary_rule vacant
  takes-3 = refl

  pub operated-3 : Operated 3 shift_rule
  unfolding shift_rule
  operated-3 = level-up 2 33 32 takes-2 (level-3 allow_in) operated-2

  pub takes-4 : vacant (rel_rule allow_in) ≡ false
  unfolding rel_rule shift_rule add_rule mul_rule unary_rule left_rule primary_rule vacant
  takes-4 = refl

  pub operated-4 : Operated 4 (rel_rule allow_in)
  unfolding rel_rule
  operated-4 = level-up 3 (form allow_in 34) 33 takes-3 (level-4 allow_in) operated-3

  pub takes-5 : vacant (equal_rule allow_in) ≡ false
  unfolding equal_rule rel_rule shift_rule add_rule mul_rule unary_rule left_rule primary_rule vacant
  takes-5 = refl

  pub operated-5 : Operated 5 (equal_rule allow_in)
  unfolding equal_rule
  operated-5 = level-up 4 (form allow_in 35) (form allow_in 34) takes-4 (level-5 allow_in) operated-4

  pub takes-6 : vacant (bit_and_rule allow_in) ≡ false
  unfolding bit_and_rule equal_rule rel_rule shift_rule add_rule mul_rule unary_rule left_rule primary_rule vacant
  takes-6 = refl

  pub operated-6 : Operated 6 (bit_and_rule allow_in)
  unfolding bit_and_rule
  operated-6 = level-up 5 (form allow_in 36) (form allow_in 35) takes-5 (level-6 allow_in) operated-5

  pub takes-7 : vacant (bit_xor_rule allow_in) ≡ false
  unfolding bit_xor_rule bit_and_rule equal_rule rel_rule shift_rule add_rule mul_rule unary_rule left_rule primary_rule vacant
  takes-7 = refl

  pub operated-7 : Operated 7 (bit_xor_rule allow_in)
  unfolding bit_xor_rule
  operated-7 = level-up 6 (form allow_in 37) (form allow_in 36) takes-6 (level-7 allow_in) operated-6

  pub takes-8 : vacant (bit_or_rule allow_in) ≡ false
  unfolding bit_or_rule bit_xor_rule bit_and_rule equal_rule rel_rule shift_rule add_rule mul_rule unary_rule left_rule primary_rule vacant
  takes-8 = refl

  pub operated-8 : Operated 8 (bit_or_rule allow_in)
  unfolding bit_or_rule
  operated-8 = level-up 7 (form allow_in 38) (form allow_in 37) takes-7 (level-8 allow_in) operated-7

  pub takes-9 : vacant (and_rule allow_in) ≡ false
  unfolding and_rule bit_or_rule bit_xor_rule bit_and_rule equal_rule rel_rule shift_rule add_rule mul_rule unary_rule left_rule primary_rule vacant
  takes-9 = refl

  pub operated-9 : Operated 9 (and_rule allow_in)
  unfolding and_rule
  operated-9 = level-up 8 (form allow_in 39) (form allow_in 38) takes-8 (level-9 allow_in) operated-8

  pub takes-10 : vacant (or_rule allow_in) ≡ false
  unfolding or_rule and_rule bit_or_rule bit_xor_rule bit_and_rule equal_rule rel_rule shift_rule add_rule mul_rule unary_rule left_rule primary_rule vacant
  takes-10 = refl

  pub operated-10 : Operated 10 (or_rule allow_in)
  unfolding or_rule
  operated-10 = level-up 9 (form allow_in 40) (form allow_in 39) takes-9 (level-10 allow_in) operated-9

  -- ---- "??", or "&&" and "||"

  pub operand-8 : Sim depth (g.operand (part_at depth) allow_in 8) (line (form allow_in 38) (bit_or_rule allow_in)) (mk.operand (parts_at depth) 8)
  unfolding mk.operand
  operand-8 = operand-sim 8 (form allow_in 38) takes-8 operated-8

  -- a rule with a name has a node of that name
  pub named-node : (name : ℕ) (x : Rule) (ts rest : List Token) (a : Tree Token) → guided language ahead (rule depth) (named name x) ts done ≡ Ok (a, rest)
      → (c : Tree Token) × (a ≡ node name c)
  unfolding guided
  named-node name x ts rest a e =
      let k = called_ok (guided language ahead (rule depth) x ts done) _ (a, rest) (sym (guided-continues language ahead (rule depth) (Tree Token × List Token) x ts _) ∙ e) in
      ((k.0).0, sym (ap (λ q. q.0) (ok_same _ _ k.2)))

  pub bits-named : (ts rest : List Token) (a : Tree Token) → guided language ahead (rule depth) (bit_or_rule allow_in) ts done ≡ Ok (a, rest) → (c : Tree Token) × (a ≡ node (form allow_in 38) c)
  unfolding bit_or_rule
  bits-named ts rest a e = named-node (form allow_in 38) _ ts rest a e

  -- none of it comes
  pub none-comes : {C : Type 0} (x : Rule) (n : ℕ) (ts : List Token) (k : Goes Token C) → starts language (among (firsts language.heads x)) ts ≡ false
      → many_of language (among (firsts language.heads x)) always (guided language ahead (rule depth) x) n ts k ≡ k tip ts
  unfolding many_of
  none-comes x zero ts k e = refl
  none-comes x (suc n) ts k e = rw e refl

  abbrev pub coalesce_x : Rule
  coalesce_x = both (token (kinds (mark (codes "??") ∷ []))) (line (form allow_in 38) (bit_or_rule allow_in))

  abbrev pub and_x : Rule
  and_x = both (token (kinds (mark (codes "&&") ∷ []))) (line (form allow_in 38) (bit_or_rule allow_in))

  abbrev pub or_x : Rule
  or_x = both (token (kinds (mark (codes "||") ∷ []))) (line (form allow_in 39) (and_rule allow_in))

  -- the tree of `||`
  abbrev pub or_node : Tree Token → Tree Token → Tree Token → Tree Token
  or_node a c d = node (form allow_in 40) (pair (node (form allow_in 39) (pair a c)) d)

  abbrev pub short_nodes : List ℕ
  short_nodes = 38 ∷ 49 ∷ []

  pub reached : (i : Bool) (c : Tree Token) → reaches short_nodes (node (form i 40) (pair (node (form i 39) (pair (node (form i 38) c) tip)) tip)) ≡ true
  unfolding reaches among
  reached true c = refl
  reached false c = refl

  pub unreached : (i : Bool) (a c d : Tree Token) → (reaches short_nodes (node (form i 40) (pair (node (form i 39) (pair a c)) d)) ≡ false) ⊎ ((c ≡ tip) × (d ≡ tip))
  unfolding reaches among
  unreached true a tip tip = inr (refl, refl)
  unreached false a tip tip = inr (refl, refl)
  unreached true a (leaf t) tip = inl refl
  unreached true a (pair b c) tip = inl refl
  unreached true a (node n b) tip = inl refl
  unreached false a (leaf t) tip = inl refl
  unreached false a (pair b c) tip = inl refl
  unreached false a (node n b) tip = inl refl
  unreached true a c (leaf t) = inl refl
  unreached true a c (pair b d) = inl refl
  unreached true a c (node n b) = inl refl
  unreached false a c (leaf t) = inl refl
  unreached false a c (pair b d) = inl refl
  unreached false a c (node n b) = inl refl

  abbrev pub short_end : ℕ → Nodes → Tree Token → List Token → Told (NodeId × Input)
  short_end at ns o m = if reaches short_nodes o
      then guided language ahead (rule depth) (any coalesce_x) m (λ d rest. built (mk.short_at (parts_at depth) at) ns (node (form allow_in 41) (pair o d)) rest)
      else built (mk.short_at (parts_at depth) at) ns (node (form allow_in 41) (pair o tip)) m

  abbrev pub behind_bits : ℕ → Nodes → Tree Token → List Token → Told (NodeId × Input)
  behind_bits at ns a mid = guided language ahead (rule depth) (any and_x) mid (λ c m. guided language ahead (rule depth) (any or_x) m (λ d end. short_end at ns (or_node a c d) end))

  abbrev pub short_choice : ℕ → NodeId → Bool → Parser NodeId
  short_choice at left coalescing = if coalescing then g.chain (g.operand (part_at depth) allow_in 8) 11 allow_in at left
      else (λ i. and_then (g.chain (g.operand (part_at depth) allow_in 8) 9 allow_in at left i) (λ both. g.chain (g.operand (part_at depth) allow_in 9) 10 allow_in at both))

  pub operand-9 : Sim depth (g.operand (part_at depth) allow_in 9) (line (form allow_in 39) (and_rule allow_in)) (mk.operand (parts_at depth) 9)
  unfolding mk.operand
  operand-9 = operand-sim 9 (form allow_in 39) takes-9 operated-9

  pub no-and : (mid : List Token) → starts language (among (kinds (mark (codes "??") ∷ []))) mid ≡ true → starts language (among (firsts language.heads and_x)) mid ≡ false
  unfolding tables apart
  no-and mid e = off-apart language (firsts language.heads and_x) (kinds (mark (codes "??") ∷ [])) mid refl e

  pub no-or : (mid : List Token) → starts language (among (kinds (mark (codes "??") ∷ []))) mid ≡ true → starts language (among (firsts language.heads or_x)) mid ≡ false
  unfolding tables apart
  no-or mid e = off-apart language (firsts language.heads or_x) (kinds (mark (codes "??") ∷ [])) mid refl e

  pub no-coalesce : (mid : List Token) → starts language (among (kinds (mark (codes "??") ∷ []))) mid ≡ false → starts language (among (firsts language.heads coalesce_x)) mid ≡ false
  unfolding tables apart
  no-coalesce mid e = e

  pub if-both : {A : Type 0} (b : Bool) (x y : A) → x ≡ y → y ≡ (if b then x else y)
  if-both true x y e = sym e
  if-both false x y e = refl

  -- one level up
  pub one-up : (n name at : ℕ) (a c : Tree Token) (ns : Nodes) → mk.operand_at (parts_at depth) (suc n) at (node name (pair a c)) ns
      ≡ mk.after (mk.operand_at (parts_at depth) n at a ns) (λ left. mk.chain (mk.operand (parts_at depth) n) at left c)
  unfolding mk.operand_at mk.operand
  one-up n name at a c ns = refl

  pub two-up : (at : ℕ) (a c d : Tree Token) (ns : Nodes) → mk.operand_at (parts_at depth) 10 at (or_node a c d) ns
      ≡ mk.after (mk.after (mk.operand_at (parts_at depth) 8 at a ns) (λ left. mk.chain (mk.operand (parts_at depth) 8) at left c)) (λ left. mk.chain (mk.operand (parts_at depth) 9) at left d)
  two-up at a c d ns = one-up 9 (form allow_in 40) at (node (form allow_in 39) (pair a c)) d ns
      ∙ ap (λ w. mk.after w (λ left. mk.chain (mk.operand (parts_at depth) 9) at left d)) (one-up 8 (form allow_in 39) at a c ns)

  pub tips-up : (at : ℕ) (a : Tree Token) (ns : Nodes) → mk.operand_at (parts_at depth) 10 at (or_node a tip tip) ns ≡ mk.operand_at (parts_at depth) 8 at a ns
  unfolding mk.chain
  tips-up at a ns = two-up at a tip tip ns

  -- what is built of it
  pub short-built : (at : ℕ) (a c d e : Tree Token) (ns : Nodes) → mk.short_at (parts_at depth) at (node (form allow_in 41) (pair (or_node a c d) e)) ns
      ≡ mk.after (mk.operand_at (parts_at depth) 10 at (or_node a c d) ns) (λ left. mk.chain (mk.operand (parts_at depth) 8) at left e)
  unfolding mk.short_at
  short-built at a c d e ns = refl

  abbrev pub ended : {A : Type 0} → A × Nodes → List Token → Told (A × Input)
  ended w rest = Ok (w.0, (rest, w.1))

  pub coalesced : (at : ℕ) (ns : Nodes) (c : Tree Token) (mid : List Token) → starts language (among (kinds (mark (codes "??") ∷ []))) mid ≡ true
      → told (let w = mk.operand_at (parts_at depth) 8 at (node (form allow_in 38) c) ns in short_choice at w.0 true (mid, w.1)) ≡ behind_bits at ns (node (form allow_in 38) c) mid
  unfolding guided
  coalesced at ns c mid e =
      step-same (chain-sim depth operand-8 at (level-11 allow_in) _) mid _ _ (λ d rest.
      ap (λ w. ended (mk.after w (λ left. mk.chain (mk.operand (parts_at depth) 8) at left d)) rest) (sym (tips-up at (node (form allow_in 38) c) ns))
      ∙ ap (λ w. ended w rest) (sym (short-built at (node (form allow_in 38) c) tip tip d ns)))
      ∙ ap (λ b. if b then guided language ahead (rule depth) (any coalesce_x) mid
      (λ d rest. built (mk.short_at (parts_at depth) at) ns (node (form allow_in 41) (pair (or_node (node (form allow_in 38) c) tip tip) d)) rest)
      else built (mk.short_at (parts_at depth) at) ns (node (form allow_in 41) (pair (or_node (node (form allow_in 38) c) tip tip) tip)) mid) (sym (reached allow_in c))
      ∙ sym (none-comes or_x (length mid) mid _ (no-or mid e)) ∙ sym (none-comes and_x (length mid) mid _ (no-and mid e))

  pub short-tip : (at : ℕ) (a c d : Tree Token) (ns : Nodes) (end : List Token)
      → built (mk.short_at (parts_at depth) at) ns (node (form allow_in 41) (pair (or_node a c d) tip)) end ≡ ended (mk.operand_at (parts_at depth) 10 at (or_node a c d) ns) end
  unfolding mk.chain
  short-tip at a c d ns end = ap (λ w. ended w end) (short-built at a c d tip ns)

  pub short-last : (at : ℕ) (ns : Nodes) (a c d : Tree Token) (mid m end : List Token) → starts language (among (kinds (mark (codes "??") ∷ []))) mid ≡ false
      → guided language ahead (rule depth) (any and_x) mid done ≡ Ok (c, m) → guided language ahead (rule depth) (any or_x) m done ≡ Ok (d, end)
      → ended (mk.operand_at (parts_at depth) 10 at (or_node a c d) ns) end ≡ short_end at ns (or_node a c d) end
  unfolding guided
  short-last at ns a c d mid m end e p q = elim (unreached allow_in a c d) [
    | inl k ↦ rw k (sym (short-tip at a c d ns end))
    | inr k ↦
        let one : guided language ahead (rule depth) (any and_x) mid done ≡ Ok (tip, m) = p ∙ ap (λ (c : Tree Token). Ok (c, m)) k.0 in
        let two : guided language ahead (rule depth) (any or_x) m done ≡ Ok (tip, end) = q ∙ ap (λ (d : Tree Token). Ok (d, end)) k.1 in
        let same : mid ≡ end = tip-took depth always and_x mid m one ∙ tip-took depth always or_x m end two in
        let off : starts language (among (kinds (mark (codes "??") ∷ []))) end ≡ false = ap (λ ts. starts language (among (kinds (mark (codes "??") ∷ []))) ts) (sym same) ∙ e in
        sym (short-tip at a c d ns end) ∙ if-both (reaches short_nodes (or_node a c d)) _ _ (none-comes coalesce_x (length end) end _ (no-coalesce end off))
  ]

  pub joined : (at : ℕ) (ns : Nodes) (a : Tree Token) (mid : List Token) → starts language (among (kinds (mark (codes "??") ∷ []))) mid ≡ false
      → told (let w = mk.operand_at (parts_at depth) 8 at a ns in short_choice at w.0 false (mid, w.1)) ≡ behind_bits at ns a mid
  joined at ns a mid e = step+ (chain-sim depth operand-8 at (level-9 allow_in) _) mid _ _ _ (λ c m p.
      step-same+ (chain-sim depth operand-9 at (level-10 allow_in) _) m _ _ (λ d end q. ap (λ w. ended w end) (sym (two-up at a c d ns)) ∙ short-last at ns a c d mid m end e p q))

  -- Or | BitOr ("??" BitOr)+
  abbrev pub shorted : ℕ → Parser NodeId
  shorted at i = and_then (g.unary (part_at depth) i) (λ u. g.short (part_at depth) allow_in at u.0)

  pub short-chosen : (at : ℕ) (ns : Nodes) (c : Tree Token) (mid : List Token)
      → told (let w = mk.operand_at (parts_at depth) 8 at (node (form allow_in 38) c) ns in short_choice at w.0 (sees s.Coalesce (mid, w.1)) (mid, w.1)) ≡ behind_bits at ns (node (form allow_in 38) c) mid
  short-chosen at ns c mid = by (starts language (among (kinds (mark (codes "??") ∷ []))) mid) refl
    where
      by : (b : Bool) → starts language (among (kinds (mark (codes "??") ∷ []))) mid ≡ b
          → told (let w = mk.operand_at (parts_at depth) 8 at (node (form allow_in 38) c) ns in short_choice at w.0 (sees s.Coalesce (mid, w.1)) (mid, w.1)) ≡ behind_bits at ns (node (form allow_in 38) c) mid
      by true e = ap (λ b. told (let w = mk.operand_at (parts_at depth) 8 at (node (form allow_in 38) c) ns in short_choice at w.0 b (mid, w.1))) (sees-starts only-coalesce mid _ ∙ e)
          ∙ coalesced at ns c mid e
      by false e = ap (λ b. told (let w = mk.operand_at (parts_at depth) 8 at (node (form allow_in 38) c) ns in short_choice at w.0 b (mid, w.1))) (sees-starts only-coalesce mid _ ∙ e)
          ∙ joined at ns (node (form allow_in 38) c) mid e

  pub shorted-sim : (at : ℕ) → Sim depth (shorted at) (short_rule allow_in) (mk.short_at (parts_at depth) at)
  unfolding g.short short_rule or_rule and_rule guided
  shorted-sim at = record {
    holds = λ ts ns.
        sym (assoc (g.unary (part_at depth) (ts, ns)) (λ u. g.operations (part_at depth) allow_in 8 at u.0) _)
        ∙ step+ (operated-8 at) ts ns _ _ (λ a mid e.
        let k = bits-node ts mid a e in
        subst (λ a. told (let w = mk.operand_at (parts_at depth) 8 at a ns in short_choice at w.0 (sees s.Coalesce (mid, w.1)) (mid, w.1)) ≡ behind_bits at ns a mid)
        (sym k.1) (short-chosen at ns k.0 mid));
  }
    where
      bits-node : (ts rest : List Token) (a : Tree Token) → guided language ahead (rule depth) (bit_or_rule allow_in) ts done ≡ Ok (a, rest) → (c : Tree Token) × (a ≡ node (form allow_in 38) c)
      bits-node ts rest a e = bits-named ts rest a e
