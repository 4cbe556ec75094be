-- What follows a name, or brackets, that an expression begins with.
use Rattle.std.proofs.Common.{true, false, Bool, ◌≡◌, ℕ, List, [], ◌∷◌, length, Ok, Err, refl, ap, sym, subst, ◌∙◌, codes}
use Rattle.std.specs.Prelude.{if◌then◌else◌}
use Rattle.grammar.specs.Kinds.{among, apart, covers}
use Rattle.grammar.specs.Grammar.{Tree, tip, leaf, pair, node, token, line, both, either, starts, entry}
use Rattle.grammar.specs.Reading.{firsts}
use Rattle.grammar.specs.Tests.{InPlace}
use Rattle.grammar.proofs.Sets.{off-apart, at-covered}
use Rattle.grammar.proofs.Free.{free}
use Rattle.js_token.specs.declared.token.Token.{Token}
use Rattle.js_grammar.specs.Kinds.{kinds, unbroken_kinds, mark}
use Rattle.js_grammar.specs.Script.{Rule, script, rules, any, optional, suffix, form, reaches, right, branches, relational, cond_rule, short_rule, or_rule, and_rule, bit_or_rule, bit_xor_rule, bit_and_rule, equal_rule, rel_rule, shift_rule, add_rule, mul_rule, unary_rule, left_rule, primary_rule}
use Rattle.js_parse.specs.declared.symbol.Symbol.{Symbol}
use Rattle.js_parse.specs.declared.symbol.Symbol.TheVariants as s
use Rattle.js_parse.specs.Symbols.{of_kind, is_name}
use Rattle.parse_laws.specs.Kinds.{token_kind, numbered}
use Rattle.parse_laws.proofs.Guided.{Was, Goes, done, called, guided, guided-continues}
use Rattle.parse_laws.proofs.Walk.{language, ahead, rule, at_kind}
use Rattle.parse_laws.proofs.Begun.{kind-at, chosen-true, chosen-false, tables}
use Rattle.parse_laws.proofs.Nested.{parted}
use Rattle.parse_laws.proofs.Operators
use Rattle.parse_laws.proofs.Behind.{Rest, left_node, assign_kinds, stop_kinds}
use Rattle.parse_laws.proofs.Behind
use Rattle.parse_laws.proofs.Scripts.{end_kinds}
use Rattle.parse_laws.proofs.Places.{Within, within-more, Stands, stands-more, stands-if, guided-stands, rule-stands}

abbrev pub Read : Type 0
Read = Tree Token × List Token

-- The parts that follow go on within the list.
pub onward : (ts mid : List Token) → Within ts mid → (w : Was Token) (k : Goes Token Read) → Stands mid w → ((a : Tree Token) (l : List Token) → Within ts l → Stands ts (k a l)) → Stands ts (called w k)
onward ts mid v (Ok q) k s h = h q.0 q.1 (within-more ts mid q.1 v s)
onward ts mid v (Err e) k s h = stands-more ts mid v (Err e) s

module _ (depth : ℕ) where
  pub onward-by : (x : Rule) → InPlace language.rules x → free end_kinds script x ≡ true → (ts mid : List Token) → Within ts mid → (k : Goes Token Read)
      → ((a : Tree Token) (l : List Token) → Within ts l → Stands ts (k a l)) → Stands ts (guided language ahead (rule depth) x mid k)
  onward-by x i f ts mid v k h =
      subst (Stands ts) (sym (guided-continues language ahead (rule depth) Read x mid k))
      (onward ts mid v (guided language ahead (rule depth) x mid done) k (guided-stands (rule depth) (rule-stands depth) x i f mid v.2) h)

  abbrev pub StandsRest : Rest → Type 0
  StandsRest R = (ts m : List Token) (a : Tree Token) (k : Goes Token Read) → Within ts m → ((t : Tree Token) (l : List Token) → Within ts l → Stands ts (k t l)) → Stands ts (R Read a m k)

  pub rest-stands : (name : ℕ) (x : Rule) (R : Rest) → InPlace language.rules (any x) → free end_kinds script (any x) ≡ true → StandsRest R
      → (ts m : List Token) (a : Tree Token) (k : Goes Token Read) → Within ts m → ((t : Tree Token) (l : List Token) → Within ts l → Stands ts (k t l))
      → Stands ts (R Read a m (λ t mid. guided language ahead (rule depth) (any x) mid (λ c rest. k (node name (pair t c)) rest)))
  rest-stands name x R i f s ts m a k w h = s ts m a _ w (λ t l v. onward-by (any x) i f ts l v _ (λ c r u. h (node name (pair t c)) r u))

module _ (depth : ℕ) (allow_in : Bool) where
  abbrev pub assigned_x : Rule
  assigned_x = both (token assign_kinds) (right allow_in)

  -- how an expression goes on behind its levels of operators
  abbrev pub cond_k : Goes Token Read
  cond_k sh r = if reaches left_node sh
      then guided language ahead (rule depth) (optional (either assigned_x (branches allow_in))) r (λ b e. done (node (form allow_in 42) (pair sh b)) e)
      else guided language ahead (rule depth) (optional (branches allow_in)) r (λ b e. done (node (form allow_in 42) (pair sh b)) e)

  abbrev pub postfix_x : Rule
  postfix_x = token (unbroken_kinds (mark (codes "++") ∷ mark (codes "--") ∷ []))

  abbrev pub operand : Tree Token → Tree Token → Tree Token → Tree Token
  operand c d p = node 30 (pair (node 29 (pair (node 27 c) d)) p)

  -- what follows the first part
  unfoldable pub behind : Goes Token Read
  behind c m = guided language ahead (rule depth) (any suffix) m (λ d r. guided language ahead (rule depth) (optional postfix_x) r (λ p q.
      Behind.rest-short depth (parted depth) allow_in Read (operand c d p) q cond_k))

  -- ---- an expression begins with its first part

  abbrev pub unary_k : Goes Token Read
  unary_k a m = Behind.rest-short depth (parted depth) allow_in Read a m cond_k

  pub by-unary : (ts : List Token) → guided language ahead (rule depth) (cond_rule allow_in) ts done ≡ guided language ahead (rule depth) unary_rule ts unary_k
  unfolding cond_rule short_rule or_rule and_rule bit_or_rule bit_xor_rule bit_and_rule equal_rule rel_rule shift_rule add_rule mul_rule guided
  by-unary ts = refl

  pub by-symbol : (symbol : Symbol) (broken : Bool) (t : Token) (ts : List Token) (w : Was Token) → of_kind t.kind ≡ symbol → t.broken ≡ broken
      → at_kind depth (numbered symbol broken) unary_rule (t ∷ ts) unary_k
      ≡ guided language ahead (rule depth) left_rule (t ∷ ts) (λ l r. guided language ahead (rule depth) (optional postfix_x) r (λ p q. unary_k (node 30 (pair l p)) q))
      → at_kind depth (numbered symbol broken) left_rule (t ∷ ts) (λ l r. guided language ahead (rule depth) (optional postfix_x) r (λ p q. unary_k (node 30 (pair l p)) q))
      ≡ guided language ahead (rule depth) primary_rule (t ∷ ts) (λ c m. guided language ahead (rule depth) (any suffix) m (λ d r. guided language ahead (rule depth) (optional postfix_x) r
      (λ p q. unary_k (node 30 (pair (node 29 (pair c d)) p)) q)))
      → at_kind depth (numbered symbol broken) primary_rule (t ∷ ts) (λ c m. guided language ahead (rule depth) (any suffix) m (λ d r. guided language ahead (rule depth) (optional postfix_x) r
      (λ p q. unary_k (node 30 (pair (node 29 (pair c d)) p)) q)))
      ≡ called w behind
      → guided language ahead (rule depth) (cond_rule allow_in) (t ∷ ts) done ≡ called w behind
  by-symbol symbol broken t ts w e f one two three =
      by-unary (t ∷ ts) ∙ kind-at depth symbol broken unary_rule t ts _ e f ∙ one ∙ kind-at depth symbol broken left_rule t ts _ e f ∙ two ∙ kind-at depth symbol broken primary_rule t ts _ e f ∙ three

  pub cond-name : (symbol : Symbol) (broken : Bool) (t : Token) (ts : List Token) → is_name symbol ≡ true → of_kind t.kind ≡ symbol → t.broken ≡ broken
      → guided language ahead (rule depth) (cond_rule allow_in) (t ∷ ts) done ≡ behind (leaf t) ts
  unfolding at_kind tables unary_rule left_rule primary_rule guided behind
  cond-name s.Name true t ts n e f = by-symbol s.Name true t ts (Ok (leaf t, ts)) e f refl refl refl
  cond-name s.Name false t ts n e f = by-symbol s.Name false t ts (Ok (leaf t, ts)) e f refl refl refl
  cond-name s.Of true t ts n e f = by-symbol s.Of true t ts (Ok (leaf t, ts)) e f refl refl refl
  cond-name s.Of false t ts n e f = by-symbol s.Of false t ts (Ok (leaf t, ts)) e f refl refl refl
  cond-name s.Get true t ts n e f = by-symbol s.Get true t ts (Ok (leaf t, ts)) e f refl refl refl
  cond-name s.Get false t ts n e f = by-symbol s.Get false t ts (Ok (leaf t, ts)) e f refl refl refl
  cond-name s.Set true t ts n e f = by-symbol s.Set true t ts (Ok (leaf t, ts)) e f refl refl refl
  cond-name s.Set false t ts n e f = by-symbol s.Set false t ts (Ok (leaf t, ts)) e f refl refl refl
  cond-name _ _ t ts n e f = absurd (cc (n))

  pub cond-paren : (broken : Bool) (t : Token) (ts : List Token) → of_kind t.kind ≡ s.OpenParen → t.broken ≡ broken
      → guided language ahead (rule depth) (cond_rule allow_in) (t ∷ ts) done ≡ called (rule depth 5 (t ∷ ts)) behind
  unfolding at_kind tables unary_rule left_rule primary_rule guided behind
  cond-paren true t ts e f = by-symbol s.OpenParen true t ts (rule depth 5 (t ∷ ts)) e f refl refl refl
  cond-paren false t ts e f = by-symbol s.OpenParen false t ts (rule depth 5 (t ∷ ts)) e f refl refl refl

  pub cond-brace : (broken : Bool) (t : Token) (ts : List Token) → of_kind t.kind ≡ s.OpenBrace → t.broken ≡ broken
      → guided language ahead (rule depth) (cond_rule allow_in) (t ∷ ts) done ≡ called (rule depth 9 (t ∷ ts)) behind
  unfolding at_kind tables unary_rule left_rule primary_rule guided behind
  cond-brace true t ts e f = by-symbol s.OpenBrace true t ts (rule depth 9 (t ∷ ts)) e f refl refl refl
  cond-brace false t ts e f = by-symbol s.OpenBrace false t ts (rule depth 9 (t ∷ ts)) e f refl refl refl

  pub cond-bracket : (broken : Bool) (t : Token) (ts : List Token) → of_kind t.kind ≡ s.OpenBracket → t.broken ≡ broken
      → guided language ahead (rule depth) (cond_rule allow_in) (t ∷ ts) done ≡ called (rule depth 8 (t ∷ ts)) behind
  unfolding at_kind tables unary_rule left_rule primary_rule guided behind
  cond-bracket true t ts e f = by-symbol s.OpenBracket true t ts (rule depth 8 (t ∷ ts)) e f refl refl refl
  cond-bracket false t ts e f = by-symbol s.OpenBracket false t ts (rule depth 8 (t ∷ ts)) e f refl refl refl

  -- ---- and what follows it

  pub suffix-off : (m : List Token) → starts language (among stop_kinds) m ≡ true → starts language (among (firsts language.heads suffix)) m ≡ false
  unfolding tables apart
  suffix-off m e = off-apart language (firsts language.heads suffix) stop_kinds m refl e

  pub postfix-off : (m : List Token) → starts language (among stop_kinds) m ≡ true → starts language (among (firsts {A = Token} language.heads postfix_x)) m ≡ false
  unfolding tables apart
  postfix-off m e = off-apart language (firsts {A = Token} language.heads postfix_x) stop_kinds m refl e

  pub operand-reaches : (c : Tree Token) → reaches left_node (Behind.short_tower depth (parted depth) allow_in (operand c tip tip)) ≡ true
  unfolding reaches among
  operand-reaches c = Behind.short-reaches depth (parted depth) allow_in (operand c tip tip)

  abbrev pub stopped : Tree Token → Tree Token
  stopped c = Behind.short_tower depth (parted depth) allow_in (operand c tip tip)

  -- before what goes on with no operator but that of an assignment
  pub behind-stops : (c : Tree Token) (m : List Token) → starts language (among stop_kinds) m ≡ true
      → behind c m ≡ guided language ahead (rule depth) (optional (either assigned_x (branches allow_in))) m (λ b e. done (node (form allow_in 42) (pair (stopped c) b)) e)
  unfolding behind guided
  behind-stops c m e =
      Operators.none-comes depth (parted depth) allow_in suffix (length m) m _ (suffix-off m e)
      ∙ chosen-false (starts language (among (firsts {A = Token} language.heads postfix_x)) m) _ _ (postfix-off m e)
      ∙ Behind.short-stops depth (parted depth) allow_in Read (operand c tip tip) m cond_k e
      ∙ chosen-true (reaches left_node (stopped c)) _ _ (operand-reaches c)

  abbrev pub quiet_kinds : List ℕ
  quiet_kinds = kinds (mark (codes ",") ∷ mark (codes ")") ∷ mark (codes "]") ∷ mark (codes "}") ∷ mark (codes "=>") ∷ [])

  pub quiet-stops : (m : List Token) → starts language (among quiet_kinds) m ≡ true → starts language (among stop_kinds) m ≡ true
  unfolding tables covers
  quiet-stops m e = at-covered language stop_kinds quiet_kinds m refl e

  pub ends-off : (m : List Token) → starts language (among quiet_kinds) m ≡ true → starts language (among (firsts language.heads (either assigned_x (branches allow_in)))) m ≡ false
  unfolding tables apart
  ends-off m e = off-apart language (firsts language.heads (either assigned_x (branches allow_in))) quiet_kinds m refl e

  -- before a comma, what closes brackets, or an arrow
  pub behind-quiet : (c : Tree Token) (m : List Token) → starts language (among quiet_kinds) m ≡ true → behind c m ≡ done (node (form allow_in 42) (pair (stopped c) tip)) m
  unfolding guided
  behind-quiet c m e = behind-stops c m (quiet-stops m e) ∙ chosen-false (starts language (among (firsts language.heads (either assigned_x (branches allow_in)))) m) _ _ (ends-off m e)

-- ---- what follows stands within the list

abbrev pub Placed : Rule → Type 0
Placed x = InPlace language.rules x × (free end_kinds script x ≡ true)

pub placed-suffix : Placed (any suffix)
unfolding InPlace rules entry free tables apart
placed-suffix = (search, refl)

pub placed-postfix : Placed (optional (token (unbroken_kinds (mark (codes "++") ∷ mark (codes "--") ∷ []))))
unfolding InPlace rules entry free tables apart
placed-postfix = (search, refl)

pub placed-operator_1 : Placed (any (both (token (kinds (mark (codes "*") ∷ mark (codes "/") ∷ mark (codes "%") ∷ []))) (line 30 unary_rule)))
unfolding InPlace rules entry free tables apart
placed-operator_1 = (search, refl)

pub placed-operator_2 : Placed (any (both (token (kinds (mark (codes "+") ∷ mark (codes "-") ∷ []))) (line 31 mul_rule)))
unfolding InPlace rules entry free tables apart
placed-operator_2 = (search, refl)

pub placed-operator_3 : Placed (any (both (token (kinds (mark (codes "<<") ∷ mark (codes ">>") ∷ mark (codes ">>>") ∷ []))) (line 32 add_rule)))
unfolding InPlace rules entry free tables apart
placed-operator_3 = (search, refl)

pub placed-operator_4 : (b : Bool) → Placed (any (both (token (kinds (relational b))) (line 33 shift_rule)))
unfolding InPlace rules entry free tables apart
placed-operator_4 true = (search, refl)
placed-operator_4 false = (search, refl)

pub placed-operator_5 : (b : Bool) → Placed (any (both (token (kinds (mark (codes "===") ∷ mark (codes "!==") ∷ []))) (line (form b 34) (rel_rule b))))
unfolding InPlace rules entry free tables apart
placed-operator_5 true = (search, refl)
placed-operator_5 false = (search, refl)

pub placed-operator_6 : (b : Bool) → Placed (any (both (token (kinds (mark (codes "&") ∷ []))) (line (form b 35) (equal_rule b))))
unfolding InPlace rules entry free tables apart
placed-operator_6 true = (search, refl)
placed-operator_6 false = (search, refl)

pub placed-operator_7 : (b : Bool) → Placed (any (both (token (kinds (mark (codes "^") ∷ []))) (line (form b 36) (bit_and_rule b))))
unfolding InPlace rules entry free tables apart
placed-operator_7 true = (search, refl)
placed-operator_7 false = (search, refl)

pub placed-operator_8 : (b : Bool) → Placed (any (both (token (kinds (mark (codes "|") ∷ []))) (line (form b 37) (bit_xor_rule b))))
unfolding InPlace rules entry free tables apart
placed-operator_8 true = (search, refl)
placed-operator_8 false = (search, refl)

pub placed-operator_9 : (b : Bool) → Placed (any (both (token (kinds (mark (codes "&&") ∷ []))) (line (form b 38) (bit_or_rule b))))
unfolding InPlace rules entry free tables apart
placed-operator_9 true = (search, refl)
placed-operator_9 false = (search, refl)

pub placed-operator_10 : (b : Bool) → Placed (any (both (token (kinds (mark (codes "||") ∷ []))) (line (form b 39) (and_rule b))))
unfolding InPlace rules entry free tables apart
placed-operator_10 true = (search, refl)
placed-operator_10 false = (search, refl)

pub placed-coalesced : (b : Bool) → Placed (any (both (token (kinds (mark (codes "??") ∷ []))) (line (form b 38) (bit_or_rule b))))
unfolding InPlace rules entry free tables apart
placed-coalesced true = (search, refl)
placed-coalesced false = (search, refl)

pub placed-ends : (b : Bool) → Placed (optional (either (both (token assign_kinds) (right b)) (branches b)))
unfolding InPlace rules entry free tables apart
placed-ends true = (search, refl)
placed-ends false = (search, refl)

pub placed-branches : (b : Bool) → Placed (optional (branches b))
unfolding InPlace rules entry free tables apart
placed-branches true = (search, refl)
placed-branches false = (search, refl)

module _ (depth : ℕ) (allow_in : Bool) where
  pub stand-0 : StandsRest depth (Behind.rest-0 depth (parted depth) allow_in)
  stand-0 ts m a k w h = h a m w

  pub stand-1 : StandsRest depth (Behind.rest-1 depth (parted depth) allow_in)
  stand-1 = rest-stands depth 31 (Behind.operator_1 depth (parted depth) allow_in) (Behind.rest-0 depth (parted depth) allow_in) placed-operator_1.0 placed-operator_1.1 stand-0

  pub stand-2 : StandsRest depth (Behind.rest-2 depth (parted depth) allow_in)
  stand-2 = rest-stands depth 32 (Behind.operator_2 depth (parted depth) allow_in) (Behind.rest-1 depth (parted depth) allow_in) placed-operator_2.0 placed-operator_2.1 stand-1

  pub stand-3 : StandsRest depth (Behind.rest-3 depth (parted depth) allow_in)
  stand-3 = rest-stands depth 33 (Behind.operator_3 depth (parted depth) allow_in) (Behind.rest-2 depth (parted depth) allow_in) placed-operator_3.0 placed-operator_3.1 stand-2

  pub stand-4 : StandsRest depth (Behind.rest-4 depth (parted depth) allow_in)
  stand-4 = rest-stands depth (form allow_in 34) (Behind.operator_4 depth (parted depth) allow_in) (Behind.rest-3 depth (parted depth) allow_in) (placed-operator_4 allow_in).0 (placed-operator_4 allow_in).1 stand-3

  pub stand-5 : StandsRest depth (Behind.rest-5 depth (parted depth) allow_in)
  stand-5 = rest-stands depth (form allow_in 35) (Behind.operator_5 depth (parted depth) allow_in) (Behind.rest-4 depth (parted depth) allow_in) (placed-operator_5 allow_in).0 (placed-operator_5 allow_in).1 stand-4

  pub stand-6 : StandsRest depth (Behind.rest-6 depth (parted depth) allow_in)
  stand-6 = rest-stands depth (form allow_in 36) (Behind.operator_6 depth (parted depth) allow_in) (Behind.rest-5 depth (parted depth) allow_in) (placed-operator_6 allow_in).0 (placed-operator_6 allow_in).1 stand-5

  pub stand-7 : StandsRest depth (Behind.rest-7 depth (parted depth) allow_in)
  stand-7 = rest-stands depth (form allow_in 37) (Behind.operator_7 depth (parted depth) allow_in) (Behind.rest-6 depth (parted depth) allow_in) (placed-operator_7 allow_in).0 (placed-operator_7 allow_in).1 stand-6

  pub stand-8 : StandsRest depth (Behind.rest-8 depth (parted depth) allow_in)
  stand-8 = rest-stands depth (form allow_in 38) (Behind.operator_8 depth (parted depth) allow_in) (Behind.rest-7 depth (parted depth) allow_in) (placed-operator_8 allow_in).0 (placed-operator_8 allow_in).1 stand-7

  pub stand-9 : StandsRest depth (Behind.rest-9 depth (parted depth) allow_in)
  stand-9 = rest-stands depth (form allow_in 39) (Behind.operator_9 depth (parted depth) allow_in) (Behind.rest-8 depth (parted depth) allow_in) (placed-operator_9 allow_in).0 (placed-operator_9 allow_in).1 stand-8

  pub stand-10 : StandsRest depth (Behind.rest-10 depth (parted depth) allow_in)
  stand-10 = rest-stands depth (form allow_in 40) (Behind.operator_10 depth (parted depth) allow_in) (Behind.rest-9 depth (parted depth) allow_in) (placed-operator_10 allow_in).0 (placed-operator_10 allow_in).1 stand-9

  pub short-stand : StandsRest depth (Behind.rest-short depth (parted depth) allow_in)
  short-stand ts m a k w h = stand-10 ts m a (Behind.short_with depth (parted depth) allow_in Read k) w (λ o r v. stands-if (reaches (38 ∷ 49 ∷ []) o) ts _ _
      (onward-by depth (any (Behind.coalesced_x depth (parted depth) allow_in)) (placed-coalesced allow_in).0 (placed-coalesced allow_in).1 ts r v _
      (λ d e u. h (node (form allow_in 41) (pair o d)) e u)) (h (node (form allow_in 41) (pair o tip)) r v))

  pub behind-stands : (ts m : List Token) (c : Tree Token) → Within ts m → Stands ts (behind depth allow_in c m)
  unfolding behind
  behind-stands ts m c w = onward-by depth (any suffix) placed-suffix.0 placed-suffix.1 ts m w _ (λ d r v. onward-by depth (optional (postfix_x depth allow_in)) placed-postfix.0 placed-postfix.1 ts r v _ (λ p q u.
      short-stand ts q (operand depth allow_in c d p) (cond_k depth allow_in) u (λ sh l z. stands-if (reaches left_node sh) ts _ _
      (onward-by depth (optional (either (assigned_x depth allow_in) (branches allow_in))) (placed-ends allow_in).0 (placed-ends allow_in).1 ts l z _ (λ b e y. y))
      (onward-by depth (optional (branches allow_in)) (placed-branches allow_in).0 (placed-branches allow_in).1 ts l z _ (λ b e y. y)))))

-- ---- behind `=` a right side

module _ (depth : ℕ) where
  pub equals-behind : (broken : Bool) (e : Token) (m : List Token) (k : Goes Token Read) → of_kind e.kind ≡ s.Assign → e.broken ≡ broken
      → guided language ahead (rule depth) (optional (either (assigned_x depth true) (branches true))) (e ∷ m) k ≡ called (rule depth 15 m) (λ v rest. k (pair (leaf e) v) rest)
  unfolding at_kind tables guided
  equals-behind true e m k d f = kind-at depth s.Assign true (optional (either (assigned_x depth true) (branches true))) e m k d f
  equals-behind false e m k d f = kind-at depth s.Assign false (optional (either (assigned_x depth true) (branches true))) e m k d f

  pub equals-stops : (e : Token) (m : List Token) → of_kind e.kind ≡ s.Assign → starts language (among stop_kinds) (e ∷ m) ≡ true
  unfolding token_kind tables
  equals-stops e m d = by e.broken (of_kind e.kind) d
    where
      by : (b : Bool) (symbol : Symbol) → symbol ≡ s.Assign → among stop_kinds (numbered symbol b) ≡ true
      by true symbol d = ap (λ symbol. among stop_kinds (numbered symbol true)) d
      by false symbol d = ap (λ symbol. among stop_kinds (numbered symbol false)) d

  pub behind-equals : (c : Tree Token) (e : Token) (m : List Token) → of_kind e.kind ≡ s.Assign
      → behind depth true c (e ∷ m) ≡ called (rule depth 15 m) (λ v rest. done (node 42 (pair (stopped depth true c) (pair (leaf e) v))) rest)
  behind-equals c e m d = behind-stops depth true c (e ∷ m) (equals-stops e m d) ∙ equals-behind e.broken e m _ d refl
