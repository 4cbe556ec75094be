-- What follows an operand, up to each level of operators.
use Rattle.std.proofs.Common.{inl, inr, true, false, Bool, ◌≡◌, ℕ, suc, ◌+◌, List, [], ◌∷◌, ◌++◌, length, refl, ap, sym, subst, ◌∙◌, codes}
use Rattle.std.specs.Prelude.{if◌then◌else◌, Ok}
use Rattle.grammar.specs.Kinds.{among, apart, covers}
use Rattle.grammar.specs.Reading.{firsts}
use Rattle.grammar.specs.Grammar.{Tree, tip, leaf, pair, node, both, token, line, starts}
use Rattle.grammar.proofs.Sets.{off-apart, at-covered}
use Rattle.js_token.specs.declared.token.Token.{Token}
use Rattle.js_tree.specs.Nodes.{Nodes}
use Rattle.js_tree.specs.declared.node.NodeId.{NodeId}
use Rattle.js_grammar.specs.Kinds.{kinds, mark}
use Rattle.js_grammar.specs.Script.{Rule, any, always, reaches, form, unary_rule, mul_rule, add_rule, shift_rule, rel_rule, equal_rule, bit_and_rule, bit_xor_rule, bit_or_rule, and_rule, relational, assign_operators}
use Rattle.js_parse.specs.Input.{Input, sees}
use Rattle.js_parse.specs.declared.symbol.Symbol.TheVariants as s
use Rattle.js_parse.specs.Grammar as g
use Rattle.js_parse.specs.Nesting.{part_at}
use Rattle.parse_laws.specs.Trees as mk
use Rattle.parse_laws.specs.Trees.{Parts, parts_at, place_in, symbol_in, first, second, under, Build}
use Rattle.parse_laws.proofs.Guided.{guided, Goes, done, called, called_ok, ok_same, then-same, goes-on, guided-continues, was, if-called, Told}
use Rattle.parse_laws.proofs.Sound.{vacant}
use Rattle.parse_laws.proofs.Walk.{language, ahead, rule, told, built, step-at}
use Rattle.parse_laws.proofs.Begun.{tables}
use Rattle.parse_laws.proofs.Steps.{step-same, tip-took}
use Rattle.parse_laws.proofs.Loops.{Level, chain-sim}
use Rattle.parse_laws.proofs.Levels.{level-1, level-2, level-3, level-4, level-5, level-6, level-7, level-8, level-9, level-10}
use Rattle.parse_laws.proofs.Parted.{Parted}
use Rattle.parse_laws.proofs.Expressions.{unary-takes}
use Rattle.parse_laws.proofs.Operators

-- what is read behind a tree, and goes on
abbrev pub Rest : Type 1
Rest = (C : Type 0) → Tree Token → List Token → Goes Token C → Told C

abbrev pub left_node : List ℕ
left_node = 29 ∷ []

abbrev pub assign_kinds : List ℕ
assign_kinds = kinds assign_operators

-- what no operator of these levels is
abbrev pub stop_kinds : List ℕ
stop_kinds = kinds (assign_operators ++ mark (codes ",") ∷ mark (codes ")") ∷ mark (codes "]") ∷ mark (codes "}") ∷ mark (codes "=>") ∷ [])

pub assign-stops : (m : List Token) → starts language (among assign_kinds) m ≡ true → starts language (among stop_kinds) m ≡ true
unfolding tables covers
assign-stops m e = at-covered language stop_kinds assign_kinds m refl e

pub reached-tip : (name : ℕ) (t c : Tree Token) → among left_node name ≡ false → reaches left_node (node name (pair t c)) ≡ true → (c ≡ tip) × (reaches left_node t ≡ true)
unfolding reaches
reached-tip name t tip o e = (refl, rw o at e)
reached-tip name t (leaf u) o e = absurd (let e' : false ≡ true = rw o at e in cc (e'))
reached-tip name t (pair a b) o e = absurd (let e' : false ≡ true = rw o at e in cc (e'))
reached-tip name t (node n a) o e = absurd (let e' : false ≡ true = rw o at e in cc (e'))

pub reaches-up : (name : ℕ) (t : Tree Token) → among left_node name ≡ false → reaches left_node (node name (pair t tip)) ≡ reaches left_node t
unfolding reaches
reaches-up name t o = rw o refl

pub apart-4 : (b : Bool) → apart (firsts language.heads (both (token (kinds (relational b))) (line 33 shift_rule))) stop_kinds ≡ true
unfolding tables apart
apart-4 true = refl
apart-4 false = refl

module _ (depth : ℕ) (h : Parted depth) (allow_in : Bool) where
  pub record Behind (n : ℕ) (R : Rest) : Type 1 where
    pub continues : (C : Type 0) (a : Tree Token) (m : List Token) (k : Goes Token C) → R C a m k ≡ called (R (Tree Token × List Token) a m done) k
    pub reads : (at : ℕ) (a : Tree Token) (ns : Nodes) (m : List Token) → told (let w = mk.unary (parts_at depth) a ns in g.operations (part_at depth) allow_in n at w.0 (m, w.1))
        ≡ R (NodeId × Input) a m (built (mk.operand_at (parts_at depth) n at) ns)
    pub alone : (a tree : Tree Token) (m rest : List Token) → R (Tree Token × List Token) a m done ≡ Ok (tree, rest) → reaches left_node tree ≡ true → (rest ≡ m) × (reaches left_node a ≡ true)
    pub tower : Tree Token → Tree Token
    pub tower-reaches : (a : Tree Token) → reaches left_node (tower a) ≡ reaches left_node a
    pub tower-built : (at : ℕ) (a : Tree Token) (ns : Nodes) → mk.operand_at (parts_at depth) n at (tower a) ns ≡ mk.unary (parts_at depth) a ns
    pub stops : (C : Type 0) (a : Tree Token) (m : List Token) (k : Goes Token C) → starts language (among stop_kinds) m ≡ true → R C a m k ≡ k (tower a) m

  abbrev pub rest-0 : Rest
  rest-0 C a m k = k a m

  pub behind-0 : Behind 0 rest-0
  unfolding g.operations mk.operand_at
  behind-0 = record {
    continues = λ C a m k. refl;
    reads = λ at a ns m. refl;
    alone = λ a tree m rest e q. let same = ok_same _ _ e in (ap (λ q. q.1) (sym same), ap (λ q. reaches left_node q.0) same ∙ q);
    tower = λ a. a;
    tower-reaches = λ a. refl;
    tower-built = λ at a ns. refl;
    stops = λ C a m k e. refl;
  }

  abbrev pub rest-up : ℕ → Rule → Rest → Rest
  rest-up name x R C a m k = R C a m (λ t mid. guided language ahead (rule depth) (any x) mid (λ c rest. k (node name (pair t c)) rest))

  pub behind-up : (n : ℕ) {R : Rest} {x : Rule} {kinds : List ℕ} (name below : ℕ) → among left_node name ≡ false → vacant x ≡ false → Level (suc n) allow_in kinds
      → ((m : List Token) → starts language (among stop_kinds) m ≡ true → starts language (among (firsts language.heads (both (token kinds) (line below x)))) m ≡ false)
      → Operators.Operated depth h allow_in n x → Behind n R → Behind (suc n) (rest-up name (both (token kinds) (line below x)) R)
  unfolding g.operations mk.operand_at g.operand mk.chain guided
  behind-up n {R} {x} {kinds} name below other v known off sub prev = record {
    continues = λ C a m k. prev.continues C a m _
        ∙ then-same (R (Tree Token × List Token) a m done) _ _ k (λ t mid. goes-on (guided language ahead (rule depth) y) (guided language ahead (rule depth) y)
        (guided-continues language ahead (rule depth) C y) (guided-continues language ahead (rule depth) (Tree Token × List Token) y) mid
        (λ c rest. k (node name (pair t c)) rest) (λ c rest. done (node name (pair t c)) rest) k (λ c rest. refl))
        ∙ sym (ap (λ w. called w k) (prev.continues (Tree Token × List Token) a m _));
    reads = λ at a ns m.
        step-at _ (R (Tree Token × List Token) a m done) (mk.operand_at (parts_at depth) n at) ns _
        (λ t mid. guided language ahead (rule depth) y mid (λ c rest. built (mk.operand_at (parts_at depth) (suc n) at) ns (node name (pair t c)) rest))
        (prev.reads at a ns m ∙ prev.continues (NodeId × Input) a m _)
        (λ t mid e. step-same (chain-sim depth (Operators.operand-sim depth h allow_in n below v sub) at known _) mid _ _ (λ c rest. refl))
        ∙ sym (prev.continues (NodeId × Input) a m _);
    alone = λ a tree m rest e q.
        let k = called_ok (R (Tree Token × List Token) a m done) _ (tree, rest) (sym (prev.continues (Tree Token × List Token) a m _) ∙ e) in
        let f = called_ok (guided language ahead (rule depth) y (k.0).1 done) _ (tree, rest) (sym (guided-continues language ahead (rule depth) (Tree Token × List Token) y (k.0).1 _) ∙ k.2) in
        let same = ok_same _ _ f.2 in
        let up = reached-tip name (k.0).0 (f.0).0 other (ap (λ q. reaches left_node q.0) same ∙ q) in
        let none : guided language ahead (rule depth) y (k.0).1 done ≡ Ok (tip, (f.0).1) = f.1 ∙ ap (λ (c : Tree Token). Ok (c, (f.0).1)) up.0 in
        let took = tip-took depth always (both (token kinds) (line below x)) (k.0).1 (f.0).1 none in
        let ih = prev.alone a (k.0).0 m (k.0).1 k.1 up.1 in
        (ap (λ q. q.1) (sym same) ∙ sym took ∙ ih.0, ih.1);
    tower = λ a. node name (pair (prev.tower a) tip);
    tower-reaches = λ a. reaches-up name (prev.tower a) other ∙ prev.tower-reaches a;
    tower-built = λ at a ns. prev.tower-built at a ns;
    stops = λ C a m k e. prev.stops C a m _ e ∙ Operators.none-comes depth h allow_in (both (token kinds) (line below x)) (length m) m _ (off m e);
  }
    where
      y : Rule
      y = any (both (token kinds) (line below x))

  pub form-other : (name : ℕ) → among left_node name ≡ false → among left_node (name + 11) ≡ false → among left_node (form allow_in name) ≡ false
  form-other name e f = by allow_in
    where
      by : (b : Bool) → among left_node (form b name) ≡ false
      by true = e
      by false = f

  abbrev pub operator_1 : Rule
  operator_1 = both (token (kinds (mark (codes "*") ∷ mark (codes "/") ∷ mark (codes "%") ∷ []))) (line 30 unary_rule)

  pub off-1 : (m : List Token) → starts language (among stop_kinds) m ≡ true → starts language (among (firsts language.heads operator_1)) m ≡ false
  unfolding tables apart
  off-1 m e = off-apart language (firsts language.heads operator_1) stop_kinds m refl e

  abbrev pub rest-1 : Rest
  rest-1 = rest-up 31 operator_1 rest-0

  pub behind-1 : Behind 1 rest-1
  unfolding among
  behind-1 = behind-up 0 31 30 refl (unary-takes depth h) (level-1 allow_in) off-1 (Operators.operated-0 depth h allow_in) behind-0

  abbrev pub operator_2 : Rule
  operator_2 = both (token (kinds (mark (codes "+") ∷ mark (codes "-") ∷ []))) (line 31 mul_rule)

  pub off-2 : (m : List Token) → starts language (among stop_kinds) m ≡ true → starts language (among (firsts language.heads operator_2)) m ≡ false
  unfolding tables apart
  off-2 m e = off-apart language (firsts language.heads operator_2) stop_kinds m refl e

  abbrev pub rest-2 : Rest
  rest-2 = rest-up 32 operator_2 rest-1

  pub behind-2 : Behind 2 rest-2
  unfolding among
  behind-2 = behind-up 1 32 31 refl (Operators.takes-1 depth h allow_in) (level-2 allow_in) off-2 (Operators.operated-1 depth h allow_in) behind-1

  abbrev pub operator_3 : Rule
  operator_3 = both (token (kinds (mark (codes "<<") ∷ mark (codes ">>") ∷ mark (codes ">>>") ∷ []))) (line 32 add_rule)

  pub off-3 : (m : List Token) → starts language (among stop_kinds) m ≡ true → starts language (among (firsts language.heads operator_3)) m ≡ false
  unfolding tables apart
  off-3 m e = off-apart language (firsts language.heads operator_3) stop_kinds m refl e

  abbrev pub rest-3 : Rest
  rest-3 = rest-up 33 operator_3 rest-2

  pub behind-3 : Behind 3 rest-3
  unfolding among
  behind-3 = behind-up 2 33 32 refl (Operators.takes-2 depth h allow_in) (level-3 allow_in) off-3 (Operators.operated-2 depth h allow_in) behind-2

  abbrev pub operator_4 : Rule
  operator_4 = both (token (kinds (relational allow_in))) (line 33 shift_rule)

  pub off-4 : (m : List Token) → starts language (among stop_kinds) m ≡ true → starts language (among (firsts language.heads operator_4)) m ≡ false
  unfolding tables
  off-4 m e = by allow_in
    where
      by : (b : Bool) → starts language (among (firsts language.heads (both (token (kinds (relational b))) (line 33 shift_rule)))) m ≡ false
      by true = off-apart language _ stop_kinds m (apart-4 true) e
      by false = off-apart language _ stop_kinds m (apart-4 false) e

  abbrev pub rest-4 : Rest
  rest-4 = rest-up (form allow_in 34) operator_4 rest-3

  pub behind-4 : Behind 4 rest-4
  unfolding among
  behind-4 = behind-up 3 (form allow_in 34) 33 (form-other 34 refl refl) (Operators.takes-3 depth h allow_in) (level-4 allow_in) off-4 (Operators.operated-3 depth h allow_in) behind-3

  abbrev pub operator_5 : Rule
  operator_5 = both (token (kinds (mark (codes "===") ∷ mark (codes "!==") ∷ []))) (line (form allow_in 34) (rel_rule allow_in))

  pub off-5 : (m : List Token) → starts language (among stop_kinds) m ≡ true → starts language (among (firsts language.heads operator_5)) m ≡ false
  unfolding tables apart
  off-5 m e = off-apart language (firsts language.heads operator_5) stop_kinds m refl e

  abbrev pub rest-5 : Rest
  rest-5 = rest-up (form allow_in 35) operator_5 rest-4

  pub behind-5 : Behind 5 rest-5
  unfolding among
  behind-5 = behind-up 4 (form allow_in 35) (form allow_in 34) (form-other 35 refl refl) (Operators.takes-4 depth h allow_in) (level-5 allow_in) off-5 (Operators.operated-4 depth h allow_in) behind-4

  abbrev pub operator_6 : Rule
  operator_6 = both (token (kinds (mark (codes "&") ∷ []))) (line (form allow_in 35) (equal_rule allow_in))

  pub off-6 : (m : List Token) → starts language (among stop_kinds) m ≡ true → starts language (among (firsts language.heads operator_6)) m ≡ false
  unfolding tables apart
  off-6 m e = off-apart language (firsts language.heads operator_6) stop_kinds m refl e

  abbrev pub rest-6 : Rest
  rest-6 = rest-up (form allow_in 36) operator_6 rest-5

  pub behind-6 : Behind 6 rest-6
  unfolding among
  behind-6 = behind-up 5 (form allow_in 36) (form allow_in 35) (form-other 36 refl refl) (Operators.takes-5 depth h allow_in) (level-6 allow_in) off-6 (Operators.operated-5 depth h allow_in) behind-5

  abbrev pub operator_7 : Rule
  operator_7 = both (token (kinds (mark (codes "^") ∷ []))) (line (form allow_in 36) (bit_and_rule allow_in))

  pub off-7 : (m : List Token) → starts language (among stop_kinds) m ≡ true → starts language (among (firsts language.heads operator_7)) m ≡ false
  unfolding tables apart
  off-7 m e = off-apart language (firsts language.heads operator_7) stop_kinds m refl e

  abbrev pub rest-7 : Rest
  rest-7 = rest-up (form allow_in 37) operator_7 rest-6

  pub behind-7 : Behind 7 rest-7
  unfolding among
  behind-7 = behind-up 6 (form allow_in 37) (form allow_in 36) (form-other 37 refl refl) (Operators.takes-6 depth h allow_in) (level-7 allow_in) off-7 (Operators.operated-6 depth h allow_in) behind-6

  abbrev pub operator_8 : Rule
  operator_8 = both (token (kinds (mark (codes "|") ∷ []))) (line (form allow_in 37) (bit_xor_rule allow_in))

  pub off-8 : (m : List Token) → starts language (among stop_kinds) m ≡ true → starts language (among (firsts language.heads operator_8)) m ≡ false
  unfolding tables apart
  off-8 m e = off-apart language (firsts language.heads operator_8) stop_kinds m refl e

  abbrev pub rest-8 : Rest
  rest-8 = rest-up (form allow_in 38) operator_8 rest-7

  pub behind-8 : Behind 8 rest-8
  unfolding among
  behind-8 = behind-up 7 (form allow_in 38) (form allow_in 37) (form-other 38 refl refl) (Operators.takes-7 depth h allow_in) (level-8 allow_in) off-8 (Operators.operated-7 depth h allow_in) behind-7

  abbrev pub operator_9 : Rule
  operator_9 = both (token (kinds (mark (codes "&&") ∷ []))) (line (form allow_in 38) (bit_or_rule allow_in))

  pub off-9 : (m : List Token) → starts language (among stop_kinds) m ≡ true → starts language (among (firsts language.heads operator_9)) m ≡ false
  unfolding tables apart
  off-9 m e = off-apart language (firsts language.heads operator_9) stop_kinds m refl e

  abbrev pub rest-9 : Rest
  rest-9 = rest-up (form allow_in 39) operator_9 rest-8

  pub behind-9 : Behind 9 rest-9
  unfolding among
  behind-9 = behind-up 8 (form allow_in 39) (form allow_in 38) (form-other 39 refl refl) (Operators.takes-8 depth h allow_in) (level-9 allow_in) off-9 (Operators.operated-8 depth h allow_in) behind-8

  abbrev pub operator_10 : Rule
  operator_10 = both (token (kinds (mark (codes "||") ∷ []))) (line (form allow_in 39) (and_rule allow_in))

  pub off-10 : (m : List Token) → starts language (among stop_kinds) m ≡ true → starts language (among (firsts language.heads operator_10)) m ≡ false
  unfolding tables apart
  off-10 m e = off-apart language (firsts language.heads operator_10) stop_kinds m refl e

  abbrev pub rest-10 : Rest
  rest-10 = rest-up (form allow_in 40) operator_10 rest-9

  pub behind-10 : Behind 10 rest-10
  unfolding among
  behind-10 = behind-up 9 (form allow_in 40) (form allow_in 39) (form-other 40 refl refl) (Operators.takes-9 depth h allow_in) (level-10 allow_in) off-10 (Operators.operated-9 depth h allow_in) behind-9

  -- ---- and "??"

  abbrev pub coalesced_x : Rule
  coalesced_x = Operators.coalesce_x depth h allow_in

  abbrev pub to_short : List ℕ
  to_short = 38 ∷ 49 ∷ []

  abbrev pub short_with : (C : Type 0) → Goes Token C → Goes Token C
  short_with C k o r = if reaches to_short o
      then guided language ahead (rule depth) (any coalesced_x) r (λ d e. k (node (form allow_in 41) (pair o d)) e)
      else k (node (form allow_in 41) (pair o tip)) r

  abbrev pub rest-short : Rest
  rest-short C a m k = rest-10 C a m (short_with C k)

  abbrev pub Trees : Type 0
  Trees = Tree Token × List Token

  pub short-continues : (C : Type 0) (a : Tree Token) (m : List Token) (k : Goes Token C) → rest-short C a m k ≡ called (rest-short Trees a m done) k
  short-continues C a m k = behind-10.continues C a m (short_with C k)
      ∙ then-same (rest-10 Trees a m done) (short_with C k) (short_with Trees done) k (λ o r. if-called (reaches to_short o) _ (k (node (form allow_in 41) (pair o tip)) r) _ (done (node (form allow_in 41) (pair o tip)) r) k
      (goes-on (guided language ahead (rule depth) (any coalesced_x)) (guided language ahead (rule depth) (any coalesced_x))
      (guided-continues language ahead (rule depth) C (any coalesced_x)) (guided-continues language ahead (rule depth) Trees (any coalesced_x)) r
      (λ d e. k (node (form allow_in 41) (pair o d)) e) (λ d e. done (node (form allow_in 41) (pair o d)) e) k (λ d e. refl)) refl)
      ∙ sym (ap (λ w. called w k) (behind-10.continues Trees a m (short_with Trees done)))

  pub up-node : {n : ℕ} {R : Rest} (name : ℕ) (x : Rule) → Behind n R → (a tree : Tree Token) (m rest : List Token) → rest-up name x R (Tree Token × List Token) a m done ≡ Ok (tree, rest)
      → (c : Tree Token) × (tree ≡ node name c)
  up-node {n} {R} name x prev a tree m rest e =
      let k = called_ok (R (Tree Token × List Token) a m done) _ (tree, rest) (sym (prev.continues (Tree Token × List Token) a m _) ∙ e) in
      let f = called_ok (guided language ahead (rule depth) (any x) (k.0).1 done) _ (tree, rest) (sym (guided-continues language ahead (rule depth) (Tree Token × List Token) (any x) (k.0).1 _) ∙ k.2) in
      (pair (k.0).0 (f.0).0, sym (ap (λ q. q.0) (ok_same _ _ f.2)))

  pub short-reads : (at : ℕ) (a : Tree Token) (ns : Nodes) (m : List Token) → told (let w = mk.unary (parts_at depth) a ns in g.short (part_at depth) allow_in at w.0 (m, w.1))
      ≡ rest-short (NodeId × Input) a m (built (mk.short_at (parts_at depth) at) ns)
  unfolding g.short
  short-reads at a ns m =
      step-at _ (rest-8 (Tree Token × List Token) a m done) (mk.operand_at (parts_at depth) 8 at) ns _
      (λ t mid. Operators.behind_bits depth h allow_in at ns t mid)
      (behind-8.reads at a ns m ∙ behind-8.continues (NodeId × Input) a m _)
      (λ t mid e. let k = up-node {n = 7} {R = rest-7} (form allow_in 38) operator_8 behind-7 a t m mid e in
      subst (λ a. told (let w = mk.operand_at (parts_at depth) 8 at a ns in Operators.short_choice depth h allow_in at w.0 (sees s.Coalesce (mid, w.1)) (mid, w.1)) ≡ Operators.behind_bits depth h allow_in at ns a mid)
      (sym k.1) (Operators.short-chosen depth h allow_in at ns k.0 mid))
      ∙ sym (behind-8.continues (NodeId × Input) a m _)

  pub short-alone : (a tree : Tree Token) (m rest : List Token) → rest-short (Tree Token × List Token) a m done ≡ Ok (tree, rest) → reaches left_node tree ≡ true
      → (rest ≡ m) × (reaches left_node a ≡ true)
  unfolding among
  short-alone a tree m rest e q =
      let k = called_ok (rest-10 Trees a m done) (short_with Trees done) (tree, rest) (sym (behind-10.continues Trees a m (short_with Trees done)) ∙ e) in
      elim (was (reaches to_short (k.0).0) (guided language ahead (rule depth) (any coalesced_x) (k.0).1 (λ d e. done (node (form allow_in 41) (pair (k.0).0 d)) e))
      (done (node (form allow_in 41) (pair (k.0).0 tip)) (k.0).1) (tree, rest) k.2) [
        | inl j ↦
            let f = called_ok (guided language ahead (rule depth) (any coalesced_x) (k.0).1 done) _ (tree, rest)
            (sym (guided-continues language ahead (rule depth) (Tree Token × List Token) (any coalesced_x) (k.0).1 _) ∙ j.1) in
            let same = ok_same _ _ f.2 in
            let up = reached-tip (form allow_in 41) (k.0).0 (f.0).0 (form-other 41 refl refl) (ap (λ q. reaches left_node q.0) same ∙ q) in
            let none : guided language ahead (rule depth) (any coalesced_x) (k.0).1 done ≡ Ok (tip, (f.0).1) = f.1 ∙ ap (λ (c : Tree Token). Ok (c, (f.0).1)) up.0 in
            let took = tip-took depth always coalesced_x (k.0).1 (f.0).1 none in
            let ih = behind-10.alone a (k.0).0 m (k.0).1 k.1 up.1 in
            (ap (λ q. q.1) (sym same) ∙ sym took ∙ ih.0, ih.1)
        | inr j ↦
            let same = ok_same _ _ j.1 in
            let up = reached-tip (form allow_in 41) (k.0).0 tip (form-other 41 refl refl) (ap (λ q. reaches left_node q.0) same ∙ q) in
            let ih = behind-10.alone a (k.0).0 m (k.0).1 k.1 up.1 in
            (ap (λ q. q.1) (sym same) ∙ ih.0, ih.1)
      ]

  abbrev pub short_tower : Tree Token → Tree Token
  short_tower a = node (form allow_in 41) (pair (behind-10.tower a) tip)

  pub short-reaches : (a : Tree Token) → reaches left_node (short_tower a) ≡ reaches left_node a
  unfolding among
  short-reaches a = reaches-up (form allow_in 41) (behind-10.tower a) (form-other 41 refl refl) ∙ behind-10.tower-reaches a

  pub short-built : (at : ℕ) (a : Tree Token) (ns : Nodes) → mk.short_at (parts_at depth) at (short_tower a) ns ≡ mk.unary (parts_at depth) a ns
  unfolding mk.short_at mk.chain
  short-built at a ns = behind-10.tower-built at a ns

  pub off-coalesce : (m : List Token) → starts language (among stop_kinds) m ≡ true → starts language (among (firsts language.heads coalesced_x)) m ≡ false
  unfolding tables apart
  off-coalesce m e = off-apart language (firsts language.heads coalesced_x) stop_kinds m refl e

  pub short-stops : (C : Type 0) (a : Tree Token) (m : List Token) (k : Goes Token C) → starts language (among stop_kinds) m ≡ true → rest-short C a m k ≡ k (short_tower a) m
  unfolding guided
  short-stops C a m k e = behind-10.stops C a m (short_with C k) e
      ∙ sym (Operators.if-both depth h allow_in (reaches to_short (behind-10.tower a)) _ _ (Operators.none-comes depth h allow_in coalesced_x (length m) m (λ d e. k (node (form allow_in 41) (pair (behind-10.tower a) d)) e) (off-coalesce m e)))
