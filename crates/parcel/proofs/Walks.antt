-- A walk and what is shown go along with the same numbers.
use Rattle.std.proofs.Common.{◌≡◌, ℕ, zero, suc, ◌+◌, ◌^◌, ◌<◌, ◌≤◌, ◌⊎◌, inl, inr, Bool as Boolean, true, false, if◌then◌else◌, nat_lt, List, [], ◌∷◌, ◌++◌, length, slice_get, Option, Some, None, ℤ, pos, negsuc, refl, sym, ap, ◌∙◌, subst, append_assoc, arith}
use Rattle.std.specs.Fmt.{decimal}
use Rattle.std.specs.List.{list_all}
use Rattle.std.proofs.lemmas.Bool.{and_parts}
use Rattle.std.proofs.lemmas.Bool.Decides.{leb_tells}
use Rattle.std.proofs.Math.Dec.{leb}
use Rattle.std.proofs.lemmas.Fmt.{decimal_nonempty}
use borrow.Author.Tests.{ltb-true}
use Rattle.wl_text.specs.Text.{quoted}
use Rattle.parcel.specs.Checked.{◌>>=◌, is_safe, is_contents, with_item, with_text, numbered, in_turn, visit_property, visit_entry, node_met, value_met, item_met}
use Rattle.parcel.specs.Text.{Shown, list_shown, property_shown, entry_shown, item_name, node_shown, first_shown, rest_shown, item_shown}
use Rattle.parcel.specs.declared.parcel.Side.TheVariants.{Own, Far}
use Rattle.parcel.specs.declared.parcel.Item.{Item}
use Rattle.parcel.specs.declared.parcel.Item.TheVariants.{Undefined, Null, Bool, Num, Str, Node, Fn, Prom}
use Rattle.parcel.specs.declared.parcel.PNode.{PNode}
use Rattle.parcel.specs.declared.parcel.PNode.TheVariants.{Object, Array, Error, Map, Set, Port, Buffer, View}
use Rattle.parcel.specs.declared.tally.Tally.{Tally}
use Rattle.parcel.proofs.Agree.{Fair, Fair-more, Fair-at}
use Rattle.parcel.proofs.Prefixes.{IsDigit, AreDigits, AreDigits-decimal}
use Rattle.parcel.proofs.Tallies.{both, only_if-told, with_item-told, numbered-told, with_text-told}
use Rattle.parcel.proofs.NodeMet.{Listed, node-told}

-- the bracket at the end of a list
abbrev pub IsCloser : ℕ → Type 0
IsCloser c = (c ≡ 93) ⊎ (c ≡ 125)

pub record Walks (nodes : List PNode) {A : Type 0} (visit : A → Tally → Option Tally) (show : A → ℕ → Shown) : Type 0 where
  pub counts : (x : A) (met now : Tally) → visit x met ≡ Some now → (show x met.nodes).1 ≡ now.nodes
  pub keeps : (x : A) (met now : Tally) → visit x met ≡ Some now → Fair nodes met.nodes → Fair nodes now.nodes
  pub opens : (x : A) (met now : Tally) (c : ℕ) (more rest : List ℕ) → visit x met ≡ Some now → IsCloser c → (show x met.nodes).0 ++ more ≡ c ∷ rest → ⊥

module _ {A : Type 0} (nodes : List PNode) (visit : A → Tally → Option Tally) (show : A → ℕ → Shown) (w : Walks nodes visit show) where
  pub list-counts : (lead : List ℕ) (xs : List A) (met now : Tally) → in_turn visit xs met ≡ Some now → (list_shown show lead xs met.nodes).1 ≡ now.nodes
  unfolding in_turn list_shown
  list-counts lead [] met now e = let same : met ≡ now = cc in ap (λ t. t.nodes) same
  list-counts lead (x ∷ xs) met now e =
      let steps = both (visit x met) (in_turn visit xs) now e in
      rw (w.counts x met steps.0 steps.1) (list-counts (44 ∷ []) xs steps.0 now steps.2)

  pub list-keeps : (xs : List A) (met now : Tally) → in_turn visit xs met ≡ Some now → Fair nodes met.nodes → Fair nodes now.nodes
  unfolding in_turn
  list-keeps [] met now e fair = let same : met ≡ now = cc in Fair-at nodes met.nodes now.nodes (ap (λ t. t.nodes) same) fair
  list-keeps (x ∷ xs) met now e fair =
      let steps = both (visit x met) (in_turn visit xs) now e in
      list-keeps xs steps.0 now steps.2 (w.keeps x met steps.0 steps.1 fair)

module _ (nodes : List PNode) (visit : Item → Tally → Option Tally) (show : Item → ℕ → Shown) (w : Walks nodes visit show) where
  pub property-walks : Walks nodes (visit_property visit) (property_shown show)
  unfolding quoted
  property-walks = record {
    counts = λ x met now e.
        let steps = both (with_text x.0 met) (visit x.1) now e in
        let key = with_text-told x.0 met steps.0 steps.1 in
        subst (λ n. (show x.1 n).1 ≡ now.nodes) key.1 (w.counts x.1 steps.0 now steps.2);
    keeps = λ x met now e fair.
        let steps = both (with_text x.0 met) (visit x.1) now e in
        let key = with_text-told x.0 met steps.0 steps.1 in
        w.keeps x.1 steps.0 now steps.2 (Fair-at nodes met.nodes steps.0.nodes (sym key.1) fair);
    opens = λ x met now c more rest e closer text.
        let first : 34 ≡ c = cc in
        elim closer [ inl h ↦ omega arith | inr h ↦ omega arith ];
  }

  pub entry-walks : Walks nodes (visit_entry visit) (entry_shown show)
  entry-walks = record {
    counts = λ x met now e.
        let steps = both (visit x.0 met) (visit x.1) now e in
        rw (w.counts x.0 met steps.0 steps.1) (w.counts x.1 steps.0 now steps.2);
    keeps = λ x met now e fair.
        let steps = both (visit x.0 met) (visit x.1) now e in
        w.keeps x.1 steps.0 now steps.2 (w.keeps x.0 met steps.0 steps.1 fair);
    opens = λ x met now c more rest e closer text.
        let steps = both (visit x.0 met) (visit x.1) now e in
        w.opens x.0 met steps.0 c _ rest steps.1 closer (sym (append_assoc (show x.0 met.nodes).0 _ more) ∙ text);
  }

  -- a list in a node that took its number
  start-at : (number : ℕ) (met start : Tally) → numbered number met ≡ Some start → start.nodes ≡ number + 1
  start-at number met start e = (numbered-told number met start e).2

  pub node-counts : (number : ℕ) (node : PNode) (met now : Tally) (next : ℕ) → node_met visit nodes number node met ≡ Some now
      → (node_shown show nodes number node next).1 ≡ now.nodes
  unfolding node_shown
  node-counts number (Object properties) met now next e =
      let t = node-told visit nodes number (Object properties) met now e in
      subst (λ n. (list_shown (property_shown show) [] properties n).1 ≡ now.nodes) (start-at number met t.start t.given)
      (list-counts nodes (visit_property visit) (property_shown show) property-walks [] properties t.start now t.walked)
  node-counts number (Array items) met now next e =
      let t = node-told visit nodes number (Array items) met now e in
      subst (λ n. (list_shown show [] items n).1 ≡ now.nodes) (start-at number met t.start t.given)
      (list-counts nodes visit show w [] items t.start now t.walked)
  node-counts number (Map entries) met now next e =
      let t = node-told visit nodes number (Map entries) met now e in
      subst (λ n. (list_shown (entry_shown show) [] entries n).1 ≡ now.nodes) (start-at number met t.start t.given)
      (list-counts nodes (visit_entry visit) (entry_shown show) entry-walks [] entries t.start now t.walked)
  node-counts number (Set items) met now next e =
      let t = node-told visit nodes number (Set items) met now e in
      subst (λ n. (list_shown show [] items n).1 ≡ now.nodes) (start-at number met t.start t.given)
      (list-counts nodes visit show w [] items t.start now t.walked)
  node-counts number (Error kind message) met now next e = sym (node-told visit nodes number (Error kind message) met now e).next
  node-counts number (Port place) met now next e = sym (node-told visit nodes number (Port place) met now e).next
  node-counts number (Buffer bytes) met now next e = sym (node-told visit nodes number (Buffer bytes) met now e).next
  node-counts number (View buffer offset size) met now next e = sym (node-told visit nodes number (View buffer offset size) met now e).next

  -- a node that took its number, and is no long buffer
  pub one-keeps : (number next : ℕ) (node : PNode) (met : Tally) → Fair nodes met.nodes → number ≡ met.nodes → number < 100_000 → next ≡ number + 1
      → slice_get nodes number ≡ Some node → ((bytes : List ℕ) → node ≡ Buffer bytes → length bytes ≤ 1_048_576) → Fair nodes next
  one-keeps number next node met fair first low e at short =
      Fair-at nodes (number + 1) next (sym e)
      (Fair-more nodes number (Fair-at nodes met.nodes number (sym first) fair) low
      (λ bytes here. short bytes (let same : Some node ≡ Some (Buffer bytes) = sym at ∙ here in cc)))

  listed-keeps : {A : Type 0} (inner : A → Tally → Option Tally) (number : ℕ) (node : PNode) (xs : List A) (met now : Tally)
      → ((start : Tally) → in_turn inner xs start ≡ Some now → Fair nodes start.nodes → Fair nodes now.nodes)
      → Listed number met (in_turn inner xs) now → slice_get nodes number ≡ Some node → ((bytes : List ℕ) → node ≡ Buffer bytes → ⊥)
      → Fair nodes met.nodes → Fair nodes now.nodes
  listed-keeps inner number node xs met now list t at other fair =
      let given = numbered-told number met t.start t.given in
      list t.start t.walked (one-keeps number t.start.nodes node met fair given.0 given.1 given.2 at (λ bytes e. absurd (other bytes e)))

  pub contents-short : (bytes : List ℕ) → is_contents bytes ≡ true → length bytes ≤ 1_048_576
  contents-short bytes e =
      let parts = and_parts (leb (length bytes) 1_048_576) (list_all (λ byte. nat_lt byte 256) bytes) e in
      elim (leb_tells (length bytes) 1_048_576) [ inl fine ↦ fine.1 | inr long ↦ absurd (let h = sym parts.0 ∙ long.0 in cc) ]

  pub buffer-short : (bytes more : List ℕ) → is_contents bytes ≡ true → Buffer bytes ≡ Buffer more → length more ≤ 1_048_576
  buffer-short bytes more e same = let h : bytes ≡ more = cc in rw (sym h) (contents-short bytes e)

  pub node-keeps : (number : ℕ) (node : PNode) (met now : Tally) → slice_get nodes number ≡ Some node → node_met visit nodes number node met ≡ Some now
      → Fair nodes met.nodes → Fair nodes now.nodes
  node-keeps number (Object properties) met now at e fair =
      listed-keeps (visit_property visit) number (Object properties) properties met now
      (λ start walked before. list-keeps nodes (visit_property visit) (property_shown show) property-walks properties start now walked before)
      (node-told visit nodes number (Object properties) met now e) at (λ bytes same. cc) fair
  node-keeps number (Array items) met now at e fair =
      listed-keeps visit number (Array items) items met now (λ start walked before. list-keeps nodes visit show w items start now walked before)
      (node-told visit nodes number (Array items) met now e) at (λ bytes same. cc) fair
  node-keeps number (Map entries) met now at e fair =
      listed-keeps (visit_entry visit) number (Map entries) entries met now
      (λ start walked before. list-keeps nodes (visit_entry visit) (entry_shown show) entry-walks entries start now walked before)
      (node-told visit nodes number (Map entries) met now e) at (λ bytes same. cc) fair
  node-keeps number (Set items) met now at e fair =
      listed-keeps visit number (Set items) items met now (λ start walked before. list-keeps nodes visit show w items start now walked before)
      (node-told visit nodes number (Set items) met now e) at (λ bytes same. cc) fair
  node-keeps number (Error kind message) met now at e fair =
      let t = node-told visit nodes number (Error kind message) met now e in
      one-keeps number now.nodes (Error kind message) met fair t.first t.low t.next at (λ bytes same. absurd cc)
  node-keeps number (Port place) met now at e fair =
      let t = node-told visit nodes number (Port place) met now e in
      one-keeps number now.nodes (Port place) met fair t.first t.low t.next at (λ bytes same. absurd cc)
  node-keeps number (Buffer bytes) met now at e fair =
      let t = node-told visit nodes number (Buffer bytes) met now e in
      one-keeps number now.nodes (Buffer bytes) met fair t.first t.low t.next at (λ more same. buffer-short bytes more t.tested same)
  node-keeps number (View buffer offset size) met now at e fair =
      let t = node-told visit nodes number (View buffer offset size) met now e in
      let b = t.buffer_told in
      let behind : Fair nodes t.behind.nodes = elim b.when [
        | inl old ↦ Fair-at nodes met.nodes t.behind.nodes (sym (ap (λ (m : Tally). m.nodes) old.1)) fair
        | inr new ↦ one-keeps buffer t.behind.nodes (Buffer b.bytes) met fair new.first new.low new.next b.is (λ more same. buffer-short b.bytes more new.tested same)
      ] in
      one-keeps number now.nodes (View buffer offset size) t.behind behind t.first t.low t.next at (λ bytes same. absurd cc)

  reference-by : (number : ℕ) (test : Boolean) (found : Option PNode) (met now : Tally) → slice_get nodes number ≡ found
      → (if test then Some met else found >>= λ node. node_met visit nodes number node met) ≡ Some now
      → ((if test then ([], met.nodes) else first_shown show nodes number found met.nodes).1 ≡ now.nodes) × (Fair nodes met.nodes → Fair nodes now.nodes)
  reference-by number true found met now at e = let same : met ≡ now = cc in (ap (λ t. t.nodes) same, λ fair. Fair-at nodes met.nodes now.nodes (ap (λ t. t.nodes) same) fair)
  reference-by number false None met now at e = absurd cc
  reference-by number false (Some node) met now at e = (node-counts number node met now met.nodes e, node-keeps number node met now at e)

  same-nodes : (met now : Tally) → Some met ≡ Some now → (met.nodes ≡ now.nodes) × (Fair nodes met.nodes → Fair nodes now.nodes)
  same-nodes met now e =
      let same : met ≡ now = cc in
      let n : met.nodes ≡ now.nodes = ap (λ t. t.nodes) same in
      (n, Fair-at nodes met.nodes now.nodes n)

  nodes-same : (met now : Tally) → now.nodes ≡ met.nodes → (met.nodes ≡ now.nodes) × (Fair nodes met.nodes → Fair nodes now.nodes)
  nodes-same met now e = (sym e, Fair-at nodes met.nodes now.nodes (sym e))

  pub value-walked : (item : Item) (met now : Tally) → value_met visit nodes item met ≡ Some now
      → ((rest_shown show nodes item met.nodes).1 ≡ now.nodes) × (Fair nodes met.nodes → Fair nodes now.nodes)
  unfolding value_met
  value-walked Undefined met now e = same-nodes met now e
  value-walked Null met now e = same-nodes met now e
  value-walked (Bool b) met now e = same-nodes met now e
  value-walked (Num n) met now e = nodes-same met now (ap (λ t. t.nodes) (only_if-told (is_safe n) met now e).1)
  value-walked (Str units) met now e = nodes-same met now (with_text-told units met now e).1
  value-walked (Fn side number) met now e = nodes-same met now (ap (λ t. t.nodes) (only_if-told (nat_lt number 4_294_967_296) met now e).1)
  value-walked (Prom side number) met now e = nodes-same met now (ap (λ t. t.nodes) (only_if-told (nat_lt number 4_294_967_296) met now e).1)
  value-walked (Node number) met now e = reference-by number (nat_lt number met.nodes) (slice_get nodes number) met now refl e

-- ---- the first unit of an item

decimal-opens : (digits more rest : List ℕ) (c : ℕ) → 0 < length digits → AreDigits digits → digits ++ more ≡ c ∷ rest → IsDigit c
decimal-opens [] more rest c some all e = absurd (omega arith)
decimal-opens (d ∷ digits) more rest c some all e = let same : d ≡ c = cc in subst IsDigit same all.0

-- what the ranges of a number tell
pub safe-below : (n : ℕ) → is_safe (pos n) ≡ true → n < 2 ^ 63
safe-below n e = elim (leb_tells n 9_007_199_254_740_991) [ inl fine ↦ omega (arith, fine.1) | inr past ↦ absurd (let h = sym e ∙ past.0 in cc) ]

pub safe-above : (n : ℕ) → is_safe (negsuc n) ≡ true → n < 2 ^ 62
safe-above n e = omega (arith, ltb-true, e)

pub name-opens : (item : Item) (c : ℕ) (more rest : List ℕ) → ((n : ℤ) → item ≡ Num n → is_safe n ≡ true) → IsCloser c → item_name item ++ more ≡ c ∷ rest → ⊥
unfolding item_name quoted
name-opens Undefined c more rest safe closer e = let first : 117 ≡ c = cc in elim closer [ inl h ↦ omega arith | inr h ↦ omega arith ]
name-opens Null c more rest safe closer e = let first : 110 ≡ c = cc in elim closer [ inl h ↦ omega arith | inr h ↦ omega arith ]
name-opens (Bool true) c more rest safe closer e = let first : 116 ≡ c = cc in elim closer [ inl h ↦ omega arith | inr h ↦ omega arith ]
name-opens (Bool false) c more rest safe closer e = let first : 102 ≡ c = cc in elim closer [ inl h ↦ omega arith | inr h ↦ omega arith ]
name-opens (Num (pos n)) c more rest safe closer e =
    let low : n < 2 ^ 63 = safe-below n (safe (pos n) refl) in
    let digit = decimal-opens (decimal n) more rest c (decimal_nonempty n (omega arith)) (AreDigits-decimal n (omega arith)) e in
    elim closer [ inl h ↦ omega (arith, digit.0, digit.1) | inr h ↦ omega (arith, digit.0, digit.1) ]
name-opens (Num (negsuc n)) c more rest safe closer e = let first : 45 ≡ c = cc in elim closer [ inl h ↦ omega arith | inr h ↦ omega arith ]
name-opens (Str units) c more rest safe closer e = let first : 34 ≡ c = cc in elim closer [ inl h ↦ omega arith | inr h ↦ omega arith ]
name-opens (Node number) c more rest safe closer e = let first : 35 ≡ c = cc in elim closer [ inl h ↦ omega arith | inr h ↦ omega arith ]
name-opens (Fn Own number) c more rest safe closer e = let first : 111 ≡ c = cc in elim closer [ inl h ↦ omega arith | inr h ↦ omega arith ]
name-opens (Fn Far number) c more rest safe closer e = let first : 102 ≡ c = cc in elim closer [ inl h ↦ omega arith | inr h ↦ omega arith ]
name-opens (Prom Own number) c more rest safe closer e = let first : 111 ≡ c = cc in elim closer [ inl h ↦ omega arith | inr h ↦ omega arith ]
name-opens (Prom Far number) c more rest safe closer e = let first : 102 ≡ c = cc in elim closer [ inl h ↦ omega arith | inr h ↦ omega arith ]

-- a number that was met is whole and in range
pub number-safe : (visit : Item → Tally → Option Tally) (nodes : List PNode) (item : Item) (met now : Tally) → value_met visit nodes item met ≡ Some now
    → (n : ℤ) → item ≡ Num n → is_safe n ≡ true
unfolding value_met
number-safe visit nodes item met now e n same =
    let here : value_met visit nodes (Num n) met ≡ Some now = rw same at e in
    (only_if-told (is_safe n) met now here).0

pub item-walks : (depth : ℕ) (nodes : List PNode) → Walks nodes (item_met depth nodes) (item_shown depth nodes)
unfolding item_met item_shown
item-walks zero nodes = record {
  counts = λ x met now e. absurd cc;
  keeps = λ x met now e fair. absurd cc;
  opens = λ x met now c more rest e closer text. absurd cc;
}
item-walks (suc depth) nodes =
    let visit = item_met depth nodes in
    let show = item_shown depth nodes in
    let w = item-walks depth nodes in
    record {
      counts = λ x met now e.
          let steps = both (with_item met) (value_met visit nodes x) now e in
          subst (λ n. (rest_shown show nodes x n).1 ≡ now.nodes) (with_item-told met steps.0 steps.1)
          (value-walked nodes visit show w x steps.0 now steps.2).0;
      keeps = λ x met now e fair.
          let steps = both (with_item met) (value_met visit nodes x) now e in
          (value-walked nodes visit show w x steps.0 now steps.2).1
          (Fair-at nodes met.nodes steps.0.nodes (sym (with_item-told met steps.0 steps.1)) fair);
      opens = λ x met now c more rest e closer text.
          let steps = both (with_item met) (value_met visit nodes x) now e in
          name-opens x c ((rest_shown show nodes x met.nodes).0 ++ more) rest (number-safe visit nodes x steps.0 now steps.2) closer
          (sym (append_assoc (item_name x) (rest_shown show nodes x met.nodes).0 more) ∙ text);
    }
