-- Lists of what is read, one behind the other.
use Rattle.std.proofs.Common.{true, false, Bool, ◌≡◌, ℕ, zero, suc, ◌≤◌, List, [], ◌∷◌, ◌++◌, length, refl, ap, sym, ◌∙◌, arith, codes}
use Rattle.std.proofs.lemmas.List.{append-nil}
use Rattle.std.specs.Prelude.{Option, Some, None, Ok, Err, if◌then◌else◌}
use Rattle.grammar.specs.Kinds.{among, apart}
use Rattle.grammar.specs.Grammar.{Tree, tip, leaf, pair, node, Grammar, token, both, many}
use Rattle.grammar.specs.Reading.{firsts, nullable}
use Rattle.grammar.specs.Tests.{InPlace}
use Rattle.grammar.proofs.Sets.{apart-tells}
use Rattle.js_token.specs.declared.token.Token.{Token}
use Rattle.js_tree.specs.Nodes.{Nodes}
use Rattle.js_tree.specs.declared.node.NodeId.{NodeId}
use Rattle.js_grammar.specs.Kinds.{kinds, mark}
use Rattle.js_grammar.specs.Script.{any, always, optional, has_member, listed}
use Rattle.js_parse.specs.declared.fault.Fault.{Fault}
use Rattle.js_parse.specs.declared.symbol.Symbol.{Symbol}
use Rattle.js_parse.specs.declared.symbol.Symbol.TheVariants as s
use Rattle.js_parse.specs.declared.operators.Infix.{Infix}
use Rattle.js_parse.specs.Symbols.{of_kind}
use Rattle.js_parse.specs.Operators.{infix_at, infix_of}
use Rattle.js_parse.specs.Input.{Input, Outcome, Parser, and_then, symbol, next, add, pure, ◌>>=◌, ◌>>◌, sees, after, expect}
use Rattle.js_parse.specs.Grammar as g
use Rattle.parse_laws.specs.Kinds.{numbered, token_kind}
use Rattle.parse_laws.specs.Trees as mk
use Rattle.parse_laws.specs.Trees.{Build, first_token, absent, first, second}
use Rattle.parse_laws.proofs.Guided.{Goes, done, taking, guided, many_of, Told, wrong}
use Rattle.parse_laws.proofs.Sound.{vacant, read-front}
use Rattle.parse_laws.proofs.Walk.{language, ahead, rule, told, built, Sim, Only, step, step+, step-expect, eat-or, none-at_end, each-takes}
use Rattle.parse_laws.proofs.Begun.{not-begun, tables}
use Rattle.parse_laws.proofs.Steps.{assoc}
use Rattle.parse_laws.proofs.Symbols.{only-comma}

-- ---- operands with operators between

-- An operator of the level is of the kinds, and nothing else is.
abbrev pub Joins : Option Infix → Option Infix → Bool → Type 0
Joins None other b = b ≡ false
Joins (Some operator) other b = (other ≡ Some operator) × (b ≡ true)

pub record Level (level : ℕ) (allow_in : Bool) (kinds : List ℕ) : Type 0 where
  pub joins : (symbol : Symbol) (broken : Bool) → Joins (infix_at level allow_in symbol) (infix_of symbol) (among kinds (numbered symbol broken))
  pub no_end : infix_at level allow_in s.End ≡ None

module _ (depth : ℕ) {read : Parser NodeId} {x : Grammar Token} {b : Tree Token → Build NodeId} (sim : Sim depth read x b) (at : ℕ) where
  pub chain-loop : {level : ℕ} {allow_in : Bool} {kinds : List ℕ} → Level level allow_in kinds → (n : ℕ) (ts : List Token) (ns : Nodes) (left : NodeId)
      → told (g.chain_from read level allow_in at n left (ts, ns))
      ≡ many_of language (among (firsts language.heads (both (token kinds) x))) always (guided language ahead (rule depth) (both (token kinds) x)) n ts (built (mk.chain b at left) ns)
  unfolding g.chain_from mk.chain many_of guided firsts nullable symbol next token_kind add first_token
  chain-loop known zero ts ns left = refl
  chain-loop {level} {allow_in} known (suc n) [] ns left = ap (λ o. told (g.linked read (g.chain_from read level allow_in at n) at left o ([], ns))) known.no_end
  chain-loop {level} {allow_in} {kinds} known (suc n) (t ∷ ts) ns left =
      by (chain-loop known n) (infix_at level allow_in (of_kind t.kind)) (infix_of (of_kind t.kind)) (among kinds (token_kind t)) refl (known.joins (of_kind t.kind) t.broken)
      ∙ ap (λ f. if among f (token_kind t) then (if among kinds (token_kind t) then guided language ahead (rule depth) x ts (λ c rest.
      many_of language (among (kinds ++ [])) always (guided language ahead (rule depth) (both (token kinds) x)) n rest
      (λ d end. built (mk.chain b at left) ns (pair (pair (leaf t) c) d) end)) else Err (wrong (t ∷ ts))) else built (mk.chain b at left) ns tip (t ∷ ts)) (sym (append-nil kinds))
    where
      by : ((rest : List Token) (ns : Nodes) (left : NodeId) → told (g.chain_from read level allow_in at n left (rest, ns))
          ≡ many_of language (among (kinds ++ [])) always (guided language ahead (rule depth) (both (token kinds) x)) n rest (built (mk.chain b at left) ns))
          → (o p : Option Infix) (v : Bool) → infix_of (of_kind t.kind) ≡ p → Joins o p v → told (g.linked read (g.chain_from read level allow_in at n) at left o (t ∷ ts, ns))
          ≡ (if v then (if v then guided language ahead (rule depth) x ts (λ c rest.
          many_of language (among (kinds ++ [])) always (guided language ahead (rule depth) (both (token kinds) x)) n rest
          (λ d end. built (mk.chain b at left) ns (pair (pair (leaf t) c) d) end)) else Err (wrong (t ∷ ts))) else built (mk.chain b at left) ns tip (t ∷ ts))
      by ih None p true q j = absurd (cc (j))
      by ih None p false q j = refl
      by ih (Some o) p false q j = absurd (let k = j.1 in cc (k))
      by ih (Some o) p true q j = step sim ts ns _ _ (λ c rest. ih rest _ _ ∙ ap (λ o.
          many_of language (among (kinds ++ [])) always (guided language ahead (rule depth) (both (token kinds) x)) n rest
          (λ d end. let w = mk.joined left o (b c ns).0 at (b c ns).1 in built (mk.chain b at w.0) w.1 d end)) (sym (q ∙ j.0)))

  -- such operands behind a first
  pub chain-sim : {level : ℕ} {allow_in : Bool} {kinds : List ℕ} → Level level allow_in kinds → (left : NodeId)
      → Sim depth (g.chain read level allow_in at left) (any (both (token kinds) x)) (mk.chain b at left)
  unfolding g.chain guided
  chain-sim known left = record { holds = λ ts ns. chain-loop known (length ts) ts ns left }

-- ---- items, up to what closes them

-- ---- with a comma between, up to what closes them

pub none-first : {A B : Type 0} {c : Fault} (o : Outcome A) (f : A → Parser B) → told o ≡ Err c → told (and_then o f) ≡ Err c
none-first (Ok p) f e = absurd (cc (e))
none-first (Err d) f e = let same : d ≡ _ = cc (e) in ap (λ d. Err d) same

-- Behind a comma a member came.
pub member-came : (c o : Tree Token) (t : Token) → first_token o ≡ Some t → has_member (pair c o) ≡ true
unfolding first_token
member-came c tip t e = absurd (cc (e))
member-came c (leaf u) t e = refl
member-came c (pair a b) t e = refl
member-came c (node n a) t e = refl

module _ (depth : ℕ) {A : Type 0} {item : Parser A} {x : Grammar Token} {b : Tree Token → Build A} (sim : Sim depth item x b) (takes : vacant x ≡ false)
    (placed : InPlace language.rules x) (full : nullable x ≡ false) {close : Symbol} {kinds : List ℕ} (only : Only close kinds)
    (parted : apart kinds (firsts language.heads x) ≡ true) where
  abbrev pub behind_comma : ℕ → List A → Bool → Parser (List A)
  behind_comma m found more = if more then g.listed_from item close m found else pure found

  -- what is told of what was read, up to the token that closes
  abbrev pub closed : {B : Type 0} → (Tree Token → Build B) → Nodes → Goes Token (B × Input)
  closed c ns tree mid = taking language kinds mid (λ end rest. built c ns tree rest)

  abbrev pub comma_kinds : List ℕ
  comma_kinds = Rattle.js_grammar.specs.Kinds.kinds (mark (codes ",") ∷ [])

  abbrev pub rest_of : {B : Type 0} → ℕ → List Token → Goes Token B → Told B
  rest_of n ts k = many_of language (among (firsts language.heads (both (token comma_kinds) (optional x)))) has_member
      (guided language ahead (rule depth) (both (token comma_kinds) (optional x))) n ts k

  abbrev pub Reads-members : ℕ → ℕ → Type 0
  Reads-members n m = (ts : List Token) (ns : Nodes) (found : List A) → length ts ≤ n → length ts ≤ m → told (and_then (g.comma_or close (ts, ns)) (behind_comma m found))
      ≡ rest_of n ts (closed (mk.members_behind b found) ns)

  abbrev pub turn_of : ℕ → List A → Bool → Parser (List A)
  turn_of m found done = if done then pure found else (item >>= λ x. g.comma_or close >>= behind_comma m (found ++ x ∷ []))

  pub item-none : {c : Fault} (ts : List Token) (ns : Nodes) (f : A → Parser (List A)) → guided language ahead (rule depth) x ts (built b ns) ≡ Err c
      → told (and_then (item (ts, ns)) f) ≡ Err c
  item-none ts ns f e = none-first (item (ts, ns)) f (sim.holds ts ns ∙ e)

  -- behind a comma: what closes, or a member and what follows
  pub listed-next : (n m : ℕ) → Reads-members n m → (c : Tree Token) (ts : List Token) (ns : Nodes) (found : List A) → length ts ≤ suc n → length ts ≤ suc m
      → told (g.listed_from item close (suc m) found (ts, ns))
      ≡ guided language ahead (rule depth) (optional x) ts (λ o mid. if has_member (pair c o) then
      rest_of n mid (λ d end. closed (mk.members_behind b found) ns (pair (pair c o) d) end) else closed (mk.members_behind b found) ns (pair (pair c o) tip) mid)
  unfolding g.listed_from guided sees symbol after next mk.members_behind first_token token_kind
  listed-next n m ih c [] ns found few less =
      ap (λ v. told (turn_of m found v (if v then ([], ns) else ([], ns)))) only.no_end ∙ item-none [] ns _ (none-at_end depth x takes (built b ns))
  listed-next n m ih c (t ∷ ts) ns found few less =
      ap (λ v. told (turn_of m found v (if v then (ts, ns) else (t ∷ ts, ns)))) (only.agrees (of_kind t.kind) t.broken)
      ∙ by (among kinds (token_kind t)) (among (firsts language.heads x) (token_kind t)) refl refl
    where
      by : (w z : Bool) → among kinds (token_kind t) ≡ w → among (firsts language.heads x) (token_kind t) ≡ z
          → told (turn_of m found w (if w then (ts, ns) else (t ∷ ts, ns)))
          ≡ (if z then guided language ahead (rule depth) x (t ∷ ts) (λ o mid. if has_member (pair c o) then
          rest_of n mid (λ d end. closed (mk.members_behind b found) ns (pair (pair c o) d) end) else closed (mk.members_behind b found) ns (pair (pair c o) tip) mid)
          else (if w then Ok (found, (ts, ns)) else Err (wrong (t ∷ ts))))
      by true true p q = absurd (apart-tells kinds (firsts language.heads x) (token_kind t) parted p q)
      by true false p q = refl
      by false false p q = item-none (t ∷ ts) ns _ (not-begun depth x placed full (t ∷ ts) (built b ns) q)
      by false true p q = step+ sim (t ∷ ts) ns _ _ (λ o mid e.
          let f = read-front language ahead depth each-takes x takes (t ∷ ts) mid o e in
          let size : suc (length ts) ≡ suc (length (f.1)) = ap (λ l. length l) (f.2) in
          let short = f.4 in
          let came : has_member (pair c o) ≡ true = member-came c o f.0 f.3 in
          let front : first_token o ≡ Some f.0 = f.3 in
          rw (came, front) (ih mid (b o ns).1 (found ++ (b o ns).0 ∷ []) (omega (arith, few, size, short)) (omega (arith, less, size, short))))

  abbrev pub member_behind : ℕ → List A → Bool → Parser (List A)
  member_behind m found more i = and_then ((if more then pure true else (expect close >> pure false)) i) (behind_comma m found)

  pub no-member : (m : ℕ) (ts : List Token) (ns : Nodes) (found : List A) → told (member_behind m found false (ts, ns)) ≡ closed (mk.members_behind b found) ns tip ts
  unfolding mk.members_behind
  no-member m ts ns found = assoc (expect close (ts, ns)) (λ _. pure false) (behind_comma m found) ∙ step-expect only ts ns _ _ (λ t rest. refl)

  pub members-loop : (n m : ℕ) → Reads-members n m
  unfolding g.comma_or many_of sees symbol after next
  members-loop zero m [] ns found few less =
      ap (λ v. told (member_behind m found v (if v then ([], ns) else ([], ns)))) only-comma.no_end ∙ no-member m [] ns found
  members-loop zero m (t ∷ ts) ns found few less = absurd (omega (arith, few))
  members-loop (suc n) zero [] ns found few less =
      ap (λ v. told (member_behind zero found v (if v then ([], ns) else ([], ns)))) only-comma.no_end ∙ no-member zero [] ns found
  members-loop (suc n) zero (t ∷ ts) ns found few less = absurd (omega (arith, less))
  members-loop (suc n) (suc m) ts ns found few less =
      eat-or depth only-comma ts ns (member_behind (suc m) found) (optional x)
      (λ a rest. if has_member a then rest_of n rest (λ d end. closed (mk.members_behind b found) ns (pair a d) end) else closed (mk.members_behind b found) ns (pair a tip) rest)
      (closed (mk.members_behind b found) ns tip ts)
      (λ t rest e w. let size : length ts ≡ suc (length rest) = ap (λ l. length l) e in
      listed-next n m (members-loop n m) (leaf t) rest ns found (omega (arith, few, size)) (omega (arith, less, size)))
      (no-member (suc m) ts ns found)

  -- a list up to what closes it
  pub listed-sim : Sim depth (g.listed item close) (both (listed x) (token kinds)) (λ tree. mk.listed b (first tree))
  unfolding g.listed_from guided sees symbol after next mk.listed first_token token_kind firsts tables
  listed-sim = record { holds = holds }
    where
      by : (t : Token) (ts : List Token) (ns : Nodes) (w z : Bool) → among kinds (token_kind t) ≡ w → among (firsts language.heads x) (token_kind t) ≡ z
          → told (turn_of (length ts) [] w (if w then (ts, ns) else (t ∷ ts, ns)))
          ≡ (if z then guided language ahead (rule depth) x (t ∷ ts) (λ o mid. rest_of (length mid) mid (λ d end. closed (λ tree. mk.listed b tree) ns (pair o d) end))
          else (if w then Ok ([], (ts, ns)) else Err (wrong (t ∷ ts))))
      by t ts ns true true p q = absurd (apart-tells kinds (firsts language.heads x) (token_kind t) parted p q)
      by t ts ns true false p q = refl
      by t ts ns false false p q = item-none (t ∷ ts) ns _ (not-begun depth x placed full (t ∷ ts) (built b ns) q)
      by t ts ns false true p q = step+ sim (t ∷ ts) ns _ _ (λ o mid e.
          let f = read-front language ahead depth each-takes x takes (t ∷ ts) mid o e in
          let size : suc (length ts) ≡ suc (length (f.1)) = ap (λ l. length l) (f.2) in
          let short = f.4 in
          let front : first_token o ≡ Some f.0 = f.3 in
          rw front (members-loop (length mid) (length ts) mid (b o ns).1 ((b o ns).0 ∷ []) (omega arith) (omega (arith, size, short))))

      holds : (ts : List Token) (ns : Nodes) → told (g.listed item close (ts, ns)) ≡ guided language ahead (rule depth) (both (listed x) (token kinds)) ts (built (λ tree. mk.listed b (first tree)) ns)
      holds [] ns = refl
      holds (t ∷ ts) ns =
          ap (λ v. told (turn_of (length ts) [] v (if v then (ts, ns) else (t ∷ ts, ns)))) (only.agrees (of_kind t.kind) t.broken)
          ∙ by t ts ns (among kinds (token_kind t)) (among (firsts language.heads x) (token_kind t)) refl refl
          ∙ ap (λ f. if among f (token_kind t) then guided language ahead (rule depth) x (t ∷ ts) (λ o mid. rest_of (length mid) mid (λ d end. closed (λ tree. mk.listed b tree) ns (pair o d) end))
          else (if among kinds (token_kind t) then Ok ([], (ts, ns)) else Err (wrong (t ∷ ts))))
          (sym (ap (λ v. firsts language.heads x ++ (if v then firsts language.heads (many has_member (both (token comma_kinds) (optional x))) else [])) full ∙ append-nil (firsts language.heads x)))

-- ---- items, up to what closes them

module _ (depth : ℕ) {A : Type 0} {item : Parser A} {x : Grammar Token} {b : Tree Token → Build A} (sim : Sim depth item x b) (takes : vacant x ≡ false)
    (placed : InPlace language.rules x) (full : nullable x ≡ false) where
  -- a comma and a member each
  abbrev pub more_members : (List A → Parser (List A)) → List A → Bool → Parser (List A)
  more_members loop found more = if more then (item >>= λ x. loop (found ++ x ∷ [])) else pure found

  abbrev pub comma_first : List ℕ
  comma_first = kinds (mark (codes ",") ∷ [])

  -- from the parser's loop to that of the grammar, where it is so made
  pub commas-loop : (loop : ℕ → List A → Parser (List A)) → ((found : List A) (ts : List Token) (ns : Nodes) → loop zero found (ts, ns) ≡ Ok (found, (ts, ns)))
      → ((n : ℕ) (found : List A) (ts : List Token) (ns : Nodes) → loop (suc n) found (ts, ns) ≡ more_members (loop n) found (sees s.Comma (ts, ns)) (after s.Comma (ts, ns)))
      → (n : ℕ) (ts : List Token) (ns : Nodes) (found : List A) → told (loop n found (ts, ns))
      ≡ many_of language (among (firsts language.heads (both (token comma_first) x))) always (guided language ahead (rule depth) (both (token comma_first) x)) n ts
      (built (mk.all_behind (λ m. b (second m)) found) ns)
  unfolding many_of mk.all_behind
  commas-loop loop none more zero ts ns found = ap (λ o. told o) (none found ts ns)
  commas-loop loop none more (suc n) ts ns found =
      ap (λ o. told o) (more n found ts ns) ∙ eat-or depth only-comma ts ns (more_members (loop n) found) x
      (λ a rest. many_of language (among (firsts language.heads (both (token comma_first) x))) always (guided language ahead (rule depth) (both (token comma_first) x)) n rest
      (λ d end. built (mk.all_behind (λ m. b (second m)) found) ns (pair a d) end)) (built (mk.all_behind (λ m. b (second m)) found) ns tip ts)
      (λ t rest e m. step sim rest ns _ _ (λ o mid. commas-loop loop none more n mid _ _)) refl

  abbrev pub more_items : {B : Type 0} → (List A → Parser (List A)) → (List A → Parser B) → List A → Bool → Parser B
  more_items loop f found ended = if ended then f found else (λ i. and_then (item i) (λ x i. and_then (loop (found ++ x ∷ []) i) f))

  abbrev pub items_end : {B : Type 0} → List ℕ → (List A → Nodes → Goes Token B) → List A → Nodes → Goes Token B
  items_end kinds fin found ns chain mid = taking language kinds mid (λ c rest. let w = mk.all_behind b found chain ns in fin w.0 w.1 c rest)

  pub items-loop : {B : Type 0} {close : Symbol} {kinds : List ℕ} → Only close kinds → apart kinds (firsts language.heads x) ≡ true
      → (loop : ℕ → List A → Parser (List A)) → ((found : List A) (ts : List Token) (ns : Nodes) → told (loop zero found (ts, ns)) ≡ Err (wrong ts))
      → (f : List A → Parser B)
      → ((n : ℕ) (found : List A) (ts : List Token) (ns : Nodes) → told (and_then (loop (suc n) found (ts, ns)) f) ≡ told (more_items (loop n) f found (sees close (ts, ns)) (ts, ns)))
      → (fin : List A → Nodes → Goes Token (B × Input)) → ((found : List A) (ns : Nodes) (t : Token) (ts : List Token) → told (f found (t ∷ ts, ns)) ≡ fin found ns (leaf t) ts)
      → (n : ℕ) (ts : List Token) (ns : Nodes) (found : List A) → length ts ≤ n → told (and_then (loop n found (ts, ns)) f)
      ≡ many_of language (among (firsts language.heads x)) always (guided language ahead (rule depth) x) n ts (items_end kinds fin found ns)
  unfolding many_of mk.all_behind sees symbol token_kind
  items-loop only parted loop none f more fin last zero [] ns found few = none-first (loop zero found ([], ns)) f (none found [] ns)
  items-loop only parted loop none f more fin last zero (t ∷ ts) ns found few = absurd (omega (arith, few))
  items-loop only parted loop none f more fin last (suc n) [] ns found few =
      more n found [] ns ∙ ap (λ v. told (more_items (loop n) f found v ([], ns))) only.no_end
      ∙ none-first (item ([], ns)) _ (sim.holds [] ns ∙ none-at_end depth x takes (built b ns))
  items-loop {kinds = kinds} only parted loop none f more fin last (suc n) (t ∷ ts) ns found few =
      more n found (t ∷ ts) ns ∙ ap (λ v. told (more_items (loop n) f found v (t ∷ ts, ns))) (only.agrees (of_kind t.kind) t.broken)
      ∙ by (λ mid ns found few. items-loop only parted loop none f more fin last n mid ns found few) (among kinds (token_kind t)) (among (firsts language.heads x) (token_kind t)) refl refl
    where
      by : ((ts : List Token) (ns : Nodes) (found : List A) → length ts ≤ n → told (and_then (loop n found (ts, ns)) f)
          ≡ many_of language (among (firsts language.heads x)) always (guided language ahead (rule depth) x) n ts (items_end kinds fin found ns))
          → (w z : Bool) → among kinds (token_kind t) ≡ w → among (firsts language.heads x) (token_kind t) ≡ z
          → told (more_items (loop n) f found w (t ∷ ts, ns))
          ≡ (if z then guided language ahead (rule depth) x (t ∷ ts) (λ a mid.
          many_of language (among (firsts language.heads x)) always (guided language ahead (rule depth) x) n mid (λ d end. items_end kinds fin found ns (pair a d) end))
          else (if w then fin found ns (leaf t) ts else Err (wrong (t ∷ ts))))
      by ih true true p q = absurd (apart-tells kinds (firsts language.heads x) (token_kind t) parted p q)
      by ih true false p q = last found ns t ts
      by ih false false p q = none-first (item (t ∷ ts, ns)) _ (sim.holds (t ∷ ts) ns ∙ not-begun depth x placed full (t ∷ ts) (built b ns) q)
      by ih false true p q = step+ sim (t ∷ ts) ns _ _ (λ o mid e.
          let k = read-front language ahead depth each-takes x takes (t ∷ ts) mid o e in
          let size : suc (length ts) ≡ suc (length (k.1)) = ap (λ l. length l) (k.2) in
          let short = k.4 in
          ih mid _ _ (omega (arith, few, size, short)))
