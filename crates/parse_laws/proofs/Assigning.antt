-- Assignments and expressions.
use Rattle.std.proofs.Common.{inl, inr, true, false, Bool, ◌⊎◌, ◌≡◌, ℕ, zero, suc, List, [], ◌∷◌, ◌++◌, refl, ap, sym, subst, ◌∙◌, codes}
use Rattle.std.specs.Prelude.{Option, Some, None, if◌then◌else◌, ◌==◌, is_some, Ok, Err}
use Rattle.grammar.specs.Kinds.{among}
use Rattle.grammar.specs.Reading.{firsts, nullable}
use Rattle.grammar.specs.Grammar.{Tree, tip, leaf, pair, node, both, either, call, empty, token, named, line, starts, entry, Derives, Spells}
use Rattle.std.proofs.lemmas.List.{append-nil}
use Rattle.grammar.proofs.Sets.{test_was, among-left}
use Rattle.js_token.specs.declared.token.Token.{Token}
use Rattle.js_tree.specs.Nodes.{Nodes}
use Rattle.js_tree.specs.declared.node.NodeId.{NodeId}
use Rattle.js_tree.specs.declared.node.Node.TheVariants as made
use Rattle.js_tree.specs.declared.node.BinaryOperator.{BinaryOperator}
use Rattle.js_grammar.specs.Kinds.{kinds, mark}
use Rattle.js_grammar.specs.Script.{Rule, rules, heads, optional, reaches, form, unary_rule, mul_rule, add_rule, shift_rule, rel_rule, equal_rule, bit_and_rule, bit_xor_rule, bit_or_rule, and_rule, or_rule, short_rule, cond_rule, left_rule, primary_rule, prefixed_rule, right, branches, prefix_operators}
use Rattle.js_parse.specs.declared.symbol.Symbol.{Symbol}
use Rattle.js_parse.specs.declared.symbol.Symbol.TheVariants as s
use Rattle.js_parse.specs.declared.part.Part.TheVariants as parts
use Rattle.js_parse.specs.Symbols.{of_kind}
use Rattle.js_parse.specs.Operators.{is_prefix, assign_operator}
use Rattle.js_parse.specs.Input.{Parser, Input, and_then, symbol, next, add, pure, expect, ◌>>=◌, ◌>>◌}
use Rattle.js_parse.specs.Grammar as g
use Rattle.js_parse.specs.Nesting.{part_at}
use Rattle.parse_laws.specs.Kinds.{numbered, token_kind}
use Rattle.parse_laws.specs.Trees as mk
use Rattle.parse_laws.specs.Trees.{Parts, parts_at, place_in, symbol_in, symbol_of_first, first_token, first, second, under, Build}
use Rattle.parse_laws.proofs.Guided.{guided, Goes, done, called, called_ok, ok_same, guided-continues, was, wrong}
use Rattle.parse_laws.proofs.Sound.{vacant, rule-finds, read-front}
use Rattle.parse_laws.proofs.Walk.{on-true, language, ahead, rule, told, built, Sim, step, step+, step-at, step-expect, eat-step+, each-takes}
use Rattle.parse_laws.proofs.Begun.{tables}
use Rattle.parse_laws.proofs.Symbols.{only-question, only-colon, is-question}
use Rattle.parse_laws.proofs.Parted.{Parted}
use Rattle.parse_laws.proofs.Expressions
use Rattle.parse_laws.proofs.Behind
use Rattle.parse_laws.proofs.Behind.{left_node, assign_kinds}

pub prefix-agrees : (symbol : Symbol) (broken : Bool) → is_prefix symbol ≡ among (kinds prefix_operators) (numbered symbol broken)
unfolding tables
prefix-agrees s.Not false = refl
prefix-agrees s.Not true = refl
prefix-agrees _ false = refl
prefix-agrees _ true = refl

pub assign-agrees : (symbol : Symbol) (broken : Bool) → is_some (assign_operator symbol) ≡ among assign_kinds (numbered symbol broken)
unfolding tables
assign-agrees s.Assign false = refl
assign-agrees s.Assign true = refl
assign-agrees _ false = refl
assign-agrees _ true = refl

module _ (depth : ℕ) where
  abbrev pub Trees : Type 0
  Trees = Tree Token × List Token

  pub named-is : (name : ℕ) (x : Rule) (ts rest : List Token) (a : Tree Token) → guided language ahead (rule depth) (named name x) ts done ≡ Ok (a, rest)
      → (c : Tree Token) × (guided language ahead (rule depth) x ts done ≡ Ok (c, rest)) × (a ≡ node name c)
  unfolding guided
  named-is name x ts rest a e =
      let k = called_ok (guided language ahead (rule depth) x ts done) (λ a rest. done (node name a) rest) (a, rest) (sym (guided-continues language ahead (rule depth) Trees x ts (λ a rest. done (node name a) rest)) ∙ e) in
      let same = ok_same _ _ k.2 in
      ((k.0).0, k.1 ∙ ap (λ (r : List Token). Ok ((k.0).0, r)) (ap (λ q. q.1) same), sym (ap (λ q. q.0) same))

  pub unary-node : (ts rest : List Token) (a : Tree Token) → guided language ahead (rule depth) unary_rule ts done ≡ Ok (a, rest) → (c : Tree Token)
      × (guided language ahead (rule depth) (either (call 12) (both (line 29 left_rule) (optional (token Expressions.postfix_kinds_of)))) ts done ≡ Ok (c, rest)) × (a ≡ node 30 c)
  unfolding unary_rule
  unary-node ts rest a e = named-is 30 _ ts rest a e

  pub left-node : (ts rest : List Token) (a : Tree Token) → guided language ahead (rule depth) left_rule ts done ≡ Ok (a, rest) → (c : Tree Token) × (a ≡ node 29 c)
  unfolding left_rule
  left-node ts rest a e = let k = named-is 29 _ ts rest a e in (k.0, k.2)

  pub alone-left : (l p : Tree Token) (c : Tree Token) → l ≡ node 29 c → ((p ≡ tip) ⊎ ((t : Token) × (p ≡ leaf t))) → reaches left_node (node 30 (pair l p)) ≡ mk.absent p
  unfolding reaches among first_token
  alone-left l p c e f = elim f [
    | inl h ↦ subst (λ p. reaches left_node (node 30 (pair l p)) ≡ mk.absent p) (sym h) (ap (λ l. reaches left_node (node 30 (pair l tip))) e)
    | inr h ↦ subst (λ p. reaches left_node (node 30 (pair l p)) ≡ mk.absent p) (sym h.1) refl
  ]

  pub left-solid : vacant left_rule ≡ false
  unfolding left_rule primary_rule vacant
  left-solid = refl

  -- behind a Left: nothing, or an operator
  pub postfix-shape : (ts : List Token) (f : Tree Token → Tree Token) (q : Trees) → guided language ahead (rule depth) (optional (token Expressions.postfix_kinds_of)) ts (λ p rest. done (f p) rest) ≡ Ok q
      → (p : Tree Token) × (q.0 ≡ f p) × ((p ≡ tip) ⊎ ((t : Token) × (p ≡ leaf t)))
  unfolding guided
  postfix-shape [] f q e = (tip, ap (λ q. q.0) (sym (ok_same _ _ e)), inl refl)
  postfix-shape (t ∷ ts) f q e = elim (was (among (firsts {A = Token} language.heads (token Expressions.postfix_kinds_of)) (token_kind t))
      (if among Expressions.postfix_kinds_of (token_kind t) then Ok (f (leaf t), ts) else Err (wrong (t ∷ ts))) (Ok (f tip, t ∷ ts)) q e) [
        | inl h ↦ elim (was (among Expressions.postfix_kinds_of (token_kind t)) (Ok (f (leaf t), ts)) (Err (wrong (t ∷ ts))) q h.1) [
          | inl k ↦ (leaf t, ap (λ q. q.0) (sym (ok_same _ _ k.1)), inr (t, refl))
          | inr k ↦ absurd (cc (k.1))
        ]
        | inr h ↦ (tip, ap (λ q. q.0) (sym (ok_same _ _ h.1)), inl refl)
      ]

  pub prefix-reaches : (ts rest : List Token) (c : Tree Token) → rule depth 12 ts ≡ Ok (c, rest) → reaches left_node (node 30 c) ≡ false
  unfolding Derives Spells rules entry prefixed_rule unary_rule reaches among
  prefix-reaches ts rest c e = by depth (rule-finds language ahead depth 12 ts (c, rest) e)
    where
      by : (d : ℕ) → Derives language d 12 ts rest c → reaches left_node (node 30 c) ≡ false
      by zero x = absurd x
      by (suc d) x =
          let u = x.4 in
          subst (λ c. reaches left_node (node 30 c) ≡ false) (sym (x.5)) (subst (λ b. reaches left_node (node 30 (pair x.1 b)) ≡ false) (sym (u.2)) refl)

  pub starts-prefix : (t : Token) (ts : List Token) → starts language (among (firsts {A = Token} language.heads (call 12))) (t ∷ ts) ≡ is_prefix (of_kind t.kind)
  unfolding token_kind firsts entry heads
  starts-prefix t ts = sym (prefix-agrees (of_kind t.kind) t.broken)

  pub unary-cases : (ts rest : List Token) (c : Tree Token) → guided language ahead (rule depth) (either (call 12) (both (line 29 left_rule) (optional (token Expressions.postfix_kinds_of)))) ts done ≡ Ok (c, rest)
      → ((is_prefix (symbol_in c) ≡ true) × (reaches left_node (node 30 c) ≡ false)) ⊎ ((is_prefix (symbol_in c) ≡ false) × (reaches left_node (node 30 c) ≡ Expressions.alone_by false c))
  unfolding guided first_token vacant
  unary-cases ts rest c e = elim (was (starts language (among (firsts {A = Token} language.heads (call 12))) ts) (called (rule depth 12 ts) done)
      (guided language ahead (rule depth) left_rule ts (λ l mid. guided language ahead (rule depth) (optional (token Expressions.postfix_kinds_of)) mid (λ p rest. done (pair l p) rest))) (c, rest) e) [
        | inl h ↦
            let f = read-front language ahead depth each-takes (call 12) refl ts rest c h.1 in
            let k = called_ok (rule depth 12 ts) done (c, rest) h.1 in
            inl (
              ap (λ o. is_prefix (symbol_of_first o)) f.3 ∙ sym (starts-prefix f.0 f.1) ∙ ap (λ ts. starts language (among (firsts {A = Token} language.heads (call 12))) ts) (sym f.2) ∙ h.0,
              prefix-reaches ts rest c (k.1 ∙ k.2),
            )
        | inr h ↦
            let k = called_ok (guided language ahead (rule depth) left_rule ts done) (λ l mid. guided language ahead (rule depth) (optional (token Expressions.postfix_kinds_of)) mid (λ p rest. done (pair l p) rest))
            (c, rest) (sym (guided-continues language ahead (rule depth) Trees left_rule ts _) ∙ h.1) in
            let f = read-front language ahead depth each-takes left_rule left-solid ts (k.0).1 (k.0).0 k.1 in
            let p = postfix-shape (k.0).1 (λ p. pair (k.0).0 p) (c, rest) k.2 in
            let n = left-node ts (k.0).1 (k.0).0 k.1 in
            let front : first_token (pair (k.0).0 p.0) ≡ Some f.0 = ap (λ o. mk.one_of o (first_token p.0)) f.3 in
            inr (
              ap (λ c. is_prefix (symbol_in c)) p.1 ∙ ap (λ o. is_prefix (symbol_of_first o)) front ∙ sym (starts-prefix f.0 f.1)
                  ∙ ap (λ ts. starts language (among (firsts {A = Token} language.heads (call 12))) ts) (sym f.2) ∙ h.0,
              ap (λ c. reaches left_node (node 30 c)) p.1 ∙ alone-left (k.0).0 p.0 n.0 n.1 p.2 ∙ ap (λ c. Expressions.alone_by false c) (sym p.1),
            )
      ]

  -- an operand is a Left alone as its tree says
  pub unary-alone : (ts rest : List Token) (a : Tree Token) → guided language ahead (rule depth) unary_rule ts done ≡ Ok (a, rest)
      → reaches left_node a ≡ Expressions.alone_by (is_prefix (symbol_in a)) (under a)
  unfolding first_token
  unary-alone ts rest a e =
      let k = unary-node ts rest a e in
      subst (λ a. reaches left_node a ≡ Expressions.alone_by (is_prefix (symbol_in a)) (under a)) (sym k.2) (by ts k.0 k.1)
    where
      by : (ts : List Token) (c : Tree Token) → guided language ahead (rule depth) (either (call 12) (both (line 29 left_rule) (optional (token Expressions.postfix_kinds_of)))) ts done ≡ Ok (c, rest)
          → reaches left_node (node 30 c) ≡ Expressions.alone_by (is_prefix (symbol_of_first (first_token c))) c
      by ts c e = elim (unary-cases ts rest c e) [
        | inl h ↦ h.1 ∙ sym (ap (λ b. Expressions.alone_by b c) h.0)
        | inr h ↦ h.1 ∙ sym (ap (λ b. Expressions.alone_by b c) h.0)
      ]

pub among-skips : (xs ys : List ℕ) (t : ℕ) → among xs t ≡ false → among (xs ++ ys) t ≡ among ys t
unfolding among
among-skips [] ys t e = refl
among-skips (x ∷ xs) ys t e = elim (test_was (x == t) true (among xs t) false e) [
  | inl h ↦ absurd (cc (h.1))
  | inr h ↦ rw (h.0) (among-skips xs ys t h.1)
]

pub thrice : {A : Type 0} (a b c : Bool) (x y z w : A) → a ≡ true → b ≡ true → c ≡ true → x ≡ (if a then (if b then (if c then x else y) else z) else w)
thrice true true true x y z w e f g = refl
thrice false b c x y z w e f g = absurd (cc (e))
thrice true false c x y z w e f g = absurd (cc (f))
thrice true true false x y z w e f g = absurd (cc (g))

pub either-same : {A : Type 0} (b both_ first_ : Bool) (x y z : A) → both_ ≡ b → first_ ≡ false → (if b then y else z) ≡ (if both_ then (if first_ then x else y) else z)
either-same true true false x y z e f = refl
either-same false false false x y z e f = refl
either-same true false first_ x y z e f = absurd (cc (e))
either-same false true first_ x y z e f = absurd (cc (e))
either-same b both_ true x y z e f = absurd (cc (f))

module _ (depth : ℕ) (h : Parted depth) (allow_in : Bool) where
  abbrev pub assigned_x : Rule
  assigned_x = both (token assign_kinds) (right allow_in)

  abbrev pub branches_x : Rule
  branches_x = branches allow_in

  abbrev pub cond_end : ℕ → Nodes → Goes Token (NodeId × Input)
  cond_end at ns sh r = if reaches left_node sh
      then guided language ahead (rule depth) (optional (either assigned_x branches_x)) r (λ b e. built (mk.conditional_at (parts_at depth) at) ns (node (form allow_in 42) (pair sh b)) e)
      else guided language ahead (rule depth) (optional branches_x) r (λ b e. built (mk.conditional_at (parts_at depth) at) ns (node (form allow_in 42) (pair sh b)) e)

  abbrev pub asked : ℕ → NodeId → Bool → Parser NodeId
  asked at test given = if given then (g.node_of (part_at depth) (parts.Right allow_in) >>= λ then_part. expect s.Colon >> (g.node_of (part_at depth) (parts.Right allow_in) >>= λ else_part.
      add (made.Cond test then_part else_part) at)) else pure test

  pub conditional-step : (at : ℕ) (ns : Nodes) (sh : Tree Token) (r : List Token)
      → told (let w = mk.short_at (parts_at depth) at sh ns in g.conditional (part_at depth) allow_in at w.0 (r, w.1))
      ≡ guided language ahead (rule depth) (optional branches_x) r (λ b e. built (mk.conditional_at (parts_at depth) at) ns (node (form allow_in 42) (pair sh b)) e)
  unfolding g.conditional guided mk.conditional_at first_token add
  conditional-step at ns sh r =
      let w = mk.short_at (parts_at depth) at sh ns in
      eat-step+ depth only-question r w.1 (asked at w.0) (both (right allow_in) (both (token (kinds (mark (codes ":") ∷ []))) (right allow_in))) empty
      (λ b e. built (mk.conditional_at (parts_at depth) at) ns (node (form allow_in 42) (pair sh b)) e)
      (λ t rest m. question t rest (is-question (of_kind t.kind) m)) refl
    where
      question : (t : Token) (rest : List Token) → of_kind t.kind ≡ s.Question → told (let w = mk.short_at (parts_at depth) at sh ns in asked at w.0 true (rest, w.1))
          ≡ guided language ahead (rule depth) (both (right allow_in) (both (token (kinds (mark (codes ":") ∷ []))) (right allow_in))) rest
          (λ b e. built (mk.conditional_at (parts_at depth) at) ns (node (form allow_in 42) (pair sh (pair (leaf t) b))) e)
      question t rest e = step (h.right_part allow_in) rest _ _ _ (λ a m. step-expect only-colon m _ _ _ (λ u n. step (h.right_part allow_in) n _ _ _ (λ b o.
          ap (λ q. let w = mk.assigned (parts_at depth) (assign_operator q) at (mk.short_at (parts_at depth) at sh ns).0 (pair (leaf t) (pair a (pair (leaf u) b))) (mk.short_at (parts_at depth) at sh ns).1 in
          Ok (w.0, (o, w.1))) (sym e))))

  -- Where no operator of an assignment comes, the branches alone may.
  pub either-skips : (r : List Token) (k : Goes Token (NodeId × Input)) → starts language (among assign_kinds) r ≡ false
      → guided language ahead (rule depth) (optional branches_x) r k ≡ guided language ahead (rule depth) (optional (either assigned_x branches_x)) r k
  unfolding guided firsts nullable
  either-skips [] k e = refl
  either-skips (t ∷ r) k e =
      let one : among (assign_kinds ++ []) (token_kind t) ≡ false = ap (λ f. among f (token_kind t)) (append-nil assign_kinds) ∙ e in
      let two = among-skips (assign_kinds ++ []) (firsts language.heads branches_x) (token_kind t) one in
      either-same _ _ _ _ (guided language ahead (rule depth) branches_x (t ∷ r) k) (k tip (t ∷ r)) two one

  pub cond-chosen : (at : ℕ) (ns : Nodes) (sh : Tree Token) (r : List Token) → (reaches left_node sh ≡ true → starts language (among assign_kinds) r ≡ false)
      → told (let w = mk.short_at (parts_at depth) at sh ns in g.conditional (part_at depth) allow_in at w.0 (r, w.1)) ≡ cond_end at ns sh r
  cond-chosen at ns sh r o = conditional-step at ns sh r ∙ by (reaches left_node sh) refl
    where
      k : Goes Token (NodeId × Input)
      k b e = built (mk.conditional_at (parts_at depth) at) ns (node (form allow_in 42) (pair sh b)) e

      by : (b : Bool) → reaches left_node sh ≡ b → guided language ahead (rule depth) (optional branches_x) r k
          ≡ (if b then guided language ahead (rule depth) (optional (either assigned_x branches_x)) r k else guided language ahead (rule depth) (optional branches_x) r k)
      by true e = either-skips r k (o e)
      by false e = refl

  abbrev pub assign_in : List Token → Option (Option BinaryOperator)
  assign_in ts = assign_operator (symbol (ts, []))

  pub assign-starts : (ts : List Token) → is_some (assign_in ts) ≡ starts language (among assign_kinds) ts
  unfolding symbol token_kind
  assign-starts [] = refl
  assign-starts (t ∷ ts) = assign-agrees (of_kind t.kind) t.broken

  pub begun : (at : ℕ) (ns : Nodes) (a : Tree Token) (t : Token) (m : List Token) → starts language (among assign_kinds) (t ∷ m) ≡ true
      → guided language ahead (rule depth) (right allow_in) m (λ v rest. built (mk.conditional_at (parts_at depth) at) ns (node (form allow_in 42) (pair (Behind.short_tower depth h allow_in a) (pair (leaf t) v))) rest)
      ≡ guided language ahead (rule depth) (optional (either assigned_x branches_x)) (t ∷ m) (λ b e. built (mk.conditional_at (parts_at depth) at) ns (node (form allow_in 42) (pair (Behind.short_tower depth h allow_in a) b)) e)
  unfolding guided firsts nullable
  begun at ns a t m begins =
      let one : among (assign_kinds ++ []) (token_kind t) ≡ true = ap (λ f. among f (token_kind t)) (append-nil assign_kinds) ∙ begins in
      let two = among-left (assign_kinds ++ []) (firsts language.heads branches_x) (token_kind t) one in
      thrice _ _ _ _ (Err (wrong (t ∷ m))) (guided language ahead (rule depth) branches_x (t ∷ m) k) (k tip (t ∷ m)) two one begins
    where
      k : Goes Token (NodeId × Input)
      k b e = built (mk.conditional_at (parts_at depth) at) ns (node (form allow_in 42) (pair (Behind.short_tower depth h allow_in a) b)) e

  pub reached-first : (at : ℕ) (ns : Nodes) (a : Tree Token) (m : List Token) → reaches left_node a ≡ true
      → guided language ahead (rule depth) (optional (either assigned_x branches_x)) m (λ b e. built (mk.conditional_at (parts_at depth) at) ns (node (form allow_in 42) (pair (Behind.short_tower depth h allow_in a) b)) e)
      ≡ cond_end at ns (Behind.short_tower depth h allow_in a) m
  reached-first at ns a m q =
      on-true (guided language ahead (rule depth) (optional branches_x) m (λ b e. built (mk.conditional_at (parts_at depth) at) ns (node (form allow_in 42) (pair (Behind.short_tower depth h allow_in a) b)) e))
      (Behind.short-reaches depth h allow_in a ∙ q) refl

  -- "Op Assign" behind a Left
  pub assigned-step : (at : ℕ) (ns : Nodes) (a : Tree Token) (m : List Token) (o : Option BinaryOperator) → assign_in m ≡ Some o → reaches left_node a ≡ true
      → told (let w = mk.unary (parts_at depth) a ns in g.behind_operand (part_at depth) allow_in at w.0 (Some o) (m, w.1)) ≡ Behind.rest-short depth h allow_in (NodeId × Input) a m (cond_end at ns)
  unfolding g.behind_operand symbol next mk.conditional_at first_token add guided
  assigned-step at ns a [] o e q = absurd (cc (e))
  assigned-step at ns a (t ∷ m) o e q =
      let begins : starts language (among assign_kinds) (t ∷ m) ≡ true = sym (assign-starts (t ∷ m)) ∙ ap (λ o. is_some o) e in
      step (h.right_part allow_in) m _ _ _ (λ v rest.
      ap (λ w. let u = mk.after w (λ left. mk.assigned (parts_at depth) (Some o) at left (pair (leaf t) v)) in Ok (u.0, (rest, u.1))) (sym (Behind.short-built depth h allow_in at a ns))
      ∙ ap (λ p. let u = mk.after (mk.short_at (parts_at depth) at (Behind.short_tower depth h allow_in a) ns) (λ left. mk.assigned (parts_at depth) p at left (pair (leaf t) v)) in Ok (u.0, (rest, u.1))) (sym e))
      ∙ begun at ns a t m begins ∙ reached-first at ns a (t ∷ m) q ∙ sym (Behind.short-stops depth h allow_in (NodeId × Input) a (t ∷ m) (cond_end at ns) (Behind.assign-stops (t ∷ m) begins))

  pub no-assign : (at : ℕ) (ns : Nodes) (a : Tree Token) (m : List Token) → (reaches left_node a ≡ true → starts language (among assign_kinds) m ≡ false)
      → told (let w = mk.unary (parts_at depth) a ns in g.behind_operand (part_at depth) allow_in at w.0 None (m, w.1)) ≡ Behind.rest-short depth h allow_in (NodeId × Input) a m (cond_end at ns)
  unfolding g.behind_operand
  no-assign at ns a m o =
      step-at _ (Behind.rest-short depth h allow_in (Tree Token × List Token) a m done) (mk.short_at (parts_at depth) at) ns _ (cond_end at ns)
      (Behind.short-reads depth h allow_in at a ns m ∙ Behind.short-continues depth h allow_in (NodeId × Input) a m _)
      (λ sh r e. cond-chosen at ns sh r (λ q. let k = Behind.short-alone depth h allow_in a sh m r e q in ap (λ ts. starts language (among assign_kinds) ts) k.0 ∙ o k.1))
      ∙ sym (Behind.short-continues depth h allow_in (NodeId × Input) a m (cond_end at ns))

  -- what follows an operand
  pub operand-behind : (at : ℕ) (ns : Nodes) (a : Tree Token) (m : List Token) (b : Bool) → reaches left_node a ≡ b
      → told (let w = mk.unary (parts_at depth) a ns in g.behind_operand (part_at depth) allow_in at w.0 (if b then assign_in m else None) (m, w.1))
      ≡ Behind.rest-short depth h allow_in (NodeId × Input) a m (cond_end at ns)
  operand-behind at ns a m b q = by b (if b then assign_in m else None) q refl
    where
      by : (b : Bool) (o : Option (Option BinaryOperator)) → reaches left_node a ≡ b → (if b then assign_in m else None) ≡ o
          → told (let w = mk.unary (parts_at depth) a ns in g.behind_operand (part_at depth) allow_in at w.0 (if b then assign_in m else None) (m, w.1))
          ≡ Behind.rest-short depth h allow_in (NodeId × Input) a m (cond_end at ns)
      by true (Some o) q e =
          ap (λ o. told (let w = mk.unary (parts_at depth) a ns in g.behind_operand (part_at depth) allow_in at w.0 o (m, w.1))) e ∙ assigned-step at ns a m o e q
      by true None q e =
          ap (λ o. told (let w = mk.unary (parts_at depth) a ns in g.behind_operand (part_at depth) allow_in at w.0 o (m, w.1))) e ∙ no-assign at ns a m (λ _. sym (assign-starts m) ∙ ap (λ o. is_some o) e)
      by false o q e = no-assign at ns a m (λ r. absurd (cc (q, r)))

  -- an expression that begins with an operand
  abbrev pub operand_first : ℕ → Parser NodeId
  operand_first at i = and_then (g.unary (part_at depth) i) (λ u i. g.behind_operand (part_at depth) allow_in at u.0 (if u.1 then assign_operator (symbol i) else None) i)

  pub operand_first-sim : (at : ℕ) → Sim depth (operand_first at) (cond_rule allow_in) (mk.conditional_at (parts_at depth) at)
  unfolding cond_rule short_rule or_rule and_rule bit_or_rule bit_xor_rule bit_and_rule equal_rule rel_rule shift_rule add_rule mul_rule guided mk.unary symbol
  operand_first-sim at = record {
    holds = λ ts ns. step+ (Expressions.unary-sim depth h) ts ns _
        (λ a m. Behind.rest-short depth h allow_in (NodeId × Input) a m (cond_end at ns)) (λ a m e. operand-behind at ns a m (Expressions.alone_by (is_prefix (symbol_in a)) (under a)) (unary-alone depth ts m a e));
  }
