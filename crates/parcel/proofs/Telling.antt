-- The text of a checked parcel tells the parcel.
use Rattle.std.proofs.Common.{◌≡◌, ℕ, zero, suc, ◌^◌, ◌<◌, inl, inr, Bool as Boolean, true, false, if◌then◌else◌, nat_lt, IsTrue, List, [], ◌∷◌, ◌++◌, length, slice_get, Option, Some, None, refl, sym, ap, ◌∙◌, subst, append_assoc, append-nil, arith}
use Rattle.std.specs.List.{list_all}
use Rattle.std.proofs.lemmas.Bool.{and_parts}
use Rattle.std.proofs.lemmas.Bool.Decides.{eqb_tells}
use Rattle.std.proofs.Math.Dec.{leb}
use borrow.Author.Tests.{ltb-true}
use Rattle.parcel.specs.Checked.{◌>>=◌, is_safe, is_word, with_item, node_met, value_met, item_met, nothing_met, all_met, ends_with, is_checked, IsChecked}
use Rattle.parcel.specs.Text.{Shown, item_name, first_shown, rest_shown, item_shown, text_of}
use Rattle.parcel.specs.declared.parcel.Item.{Item}
use Rattle.parcel.specs.declared.parcel.Item.TheVariants.{Undefined, Null, Bool, Num, Str, Node, Fn, Prom}
use Rattle.parcel.specs.declared.parcel.PNode.{PNode}
use Rattle.parcel.specs.declared.parcel.Parcel.{Parcel}
use Rattle.parcel.specs.declared.tally.Tally.{Tally}
use Rattle.parcel.proofs.Agree.{Agree-at, Fair, Fair-none, Fair-at}
use Rattle.parcel.proofs.Lists.{Splits}
use Rattle.parcel.proofs.Names.{IsReadable, name-apart}
use Rattle.parcel.proofs.NodeMet.{node-low}
use Rattle.parcel.proofs.Prefixes.{Stops, is_unit}
use Rattle.parcel.proofs.Splitting.{value-splits}
use Rattle.parcel.proofs.Tallies.{both, only_if-told, with_item-told, with_text-told}
use Rattle.parcel.proofs.Walks.{item-walks}

-- Behind an item's name no digit stands where none stands behind the item.
rest-Stops : (show : Item → ℕ → Shown) (nodes : List PNode) (item : Item) (next : ℕ) (xs : List ℕ) → Stops xs
    → Stops ((rest_shown show nodes item next).0 ++ xs)
rest-Stops show nodes Undefined next xs stops = stops
rest-Stops show nodes Null next xs stops = stops
rest-Stops show nodes (Bool b) next xs stops = stops
rest-Stops show nodes (Num n) next xs stops = stops
rest-Stops show nodes (Str units) next xs stops = stops
rest-Stops show nodes (Fn side number) next xs stops = stops
rest-Stops show nodes (Prom side number) next xs stops = stops
rest-Stops show nodes (Node number) next xs stops = by_node (nat_lt number next) (slice_get nodes number)
  where
    by_node : (test : Boolean) (found : Option PNode) → Stops ((if test then ([], next) else first_shown show nodes number found next).0 ++ xs)
    by_node true found = stops
    by_node false None = stops
    by_node false (Some node) = λ low high. omega arith

-- An item that was met has a name that can be read.
word-low : (number : ℕ) → is_word number ≡ true → number < 2 ^ 64
word-low number e = let low : number < 4_294_967_296 = omega (arith, ltb-true, e) in omega arith

reference-low : (visit : Item → Tally → Option Tally) (nodes : List PNode) (number : ℕ) (test : Boolean) (found : Option PNode) (met now : Tally)
    → Fair nodes met.nodes → nat_lt number met.nodes ≡ test → (if test then Some met else found >>= λ node. node_met visit nodes number node met) ≡ Some now
    → number < 2 ^ 64
reference-low visit nodes number true found met now fair t e =
    let low : number < met.nodes = omega (arith, ltb-true, t) in
    let count = fair.count in
    omega arith
reference-low visit nodes number false None met now fair t e = absurd cc
reference-low visit nodes number false (Some node) met now fair t e = let low = node-low visit nodes number node met now e in omega arith

value-readable : (visit : Item → Tally → Option Tally) (nodes : List PNode) (item : Item) (met now : Tally) → Fair nodes met.nodes
    → value_met visit nodes item met ≡ Some now → IsReadable item
unfolding value_met
value-readable visit nodes Undefined met now fair e = tt
value-readable visit nodes Null met now fair e = tt
value-readable visit nodes (Bool b) met now fair e = tt
value-readable visit nodes (Num n) met now fair e = (only_if-told (is_safe n) met now e).0
value-readable visit nodes (Str units) met now fair e =
    (and_parts (leb (length units) 1_048_576) (list_all is_unit units) (with_text-told units met now e).0).1
value-readable visit nodes (Fn side number) met now fair e = word-low number (only_if-told (is_word number) met now e).0
value-readable visit nodes (Prom side number) met now fair e = word-low number (only_if-told (is_word number) met now e).0
value-readable visit nodes (Node number) met now fair e =
    reference-low visit nodes number (nat_lt number met.nodes) (slice_get nodes number) met now fair refl e

some-same : {A : Type 0} (o : Option A) (x y : A) → o ≡ Some x → o ≡ Some y → x ≡ y
some-same o x y e f = let h : Some x ≡ Some y = sym e ∙ f in cc

pub item-splits : (depth : ℕ) (p q : List PNode) → Splits p q (item_met depth p) (item_met depth q) (item_shown depth p) (item_shown depth q)
unfolding item_met item_shown
item-splits zero p q x y met now after xs ys fair_p fair_q stops_x stops_y e f text = absurd cc
item-splits (suc depth) p q x y met now after xs ys fair_p fair_q stops_x stops_y e f text =
    let visit_p = item_met depth p in
    let visit_q = item_met depth q in
    let show_p = item_shown depth p in
    let show_q = item_shown depth q in
    let step_p = both (with_item met) (value_met visit_p p x) now e in
    let step_q = both (with_item met) (value_met visit_q q y) after f in
    let counted = step_p.0 in
    let at : counted.nodes ≡ met.nodes = with_item-told met counted step_p.1 in
    let counts : counted ≡ step_q.0 = some-same (with_item met) counted step_q.0 step_p.1 step_q.1 in
    let fair_p' = Fair-at p met.nodes counted.nodes (sym at) fair_p in
    let fair_q' = Fair-at q met.nodes counted.nodes (sym at) fair_q in
    let after_y : value_met visit_q q y counted ≡ Some after = subst (λ (m : Tally). value_met visit_q q y m ≡ Some after) (sym counts) step_q.2 in
    let rest_p = (rest_shown show_p p x met.nodes).0 in
    let rest_q = (rest_shown show_q q y met.nodes).0 in
    let names = name-apart x y (rest_p ++ xs) (rest_q ++ ys)
    (value-readable visit_p p x counted now fair_p' step_p.2) (value-readable visit_q q y counted after fair_q' after_y)
    (rest-Stops show_p p x met.nodes xs stops_x) (rest-Stops show_q q y met.nodes ys stops_y)
    (sym (append_assoc (item_name x) rest_p xs) ∙ text ∙ append_assoc (item_name y) rest_q ys) in
    let after_x : value_met visit_q q x counted ≡ Some after = subst (λ i. value_met visit_q q i counted ≡ Some after) (sym names.0) after_y in
    let rests : (rest_shown show_p p x met.nodes).0 ++ xs ≡ (rest_shown show_q q x met.nodes).0 ++ ys =
    names.1 ∙ ap (λ i. (rest_shown show_q q i met.nodes).0 ++ ys) (sym names.0) in
    let rests_at : (rest_shown show_p p x counted.nodes).0 ++ xs ≡ (rest_shown show_q q x counted.nodes).0 ++ ys =
    subst (λ n. (rest_shown show_p p x n).0 ++ xs ≡ (rest_shown show_q q x n).0 ++ ys) (sym at) rests in
    let told = value-splits p q visit_p visit_q show_p show_q (item-walks depth p) (item-walks depth q) (item-splits depth p q)
    x counted now after xs ys fair_p' fair_q' step_p.2 after_x rests_at in
    record {
      same = names.0;
      tally = told.0;
      rest = told.1;
      nodes = Agree-at p q counted.nodes now.nodes met.nodes now.nodes at refl told.2;
    }

-- ---- the theorem

-- A checked parcel was walked to its end.
pub checked-told : (parcel : Parcel) → IsChecked parcel → (met : Tally) × (all_met parcel ≡ Some met) × (met.nodes ≡ length parcel.nodes)
unfolding is_checked
checked-told parcel checked = by_end (all_met parcel) checked
  where
    by_end : (found : Option Tally) → IsTrue (ends_with (length parcel.nodes) found) → (met : Tally) × (found ≡ Some met) × (met.nodes ≡ length parcel.nodes)
    by_end None h = absurd cc
    by_end (Some met) h =
        elim (eqb_tells met.nodes (length parcel.nodes)) [ inl same ↦ (met, refl, same.1) | inr other ↦ absurd (let wrong = sym other.0 ∙ h in cc) ]

pub checked-from : (parcel : Parcel) (met : Tally) → all_met parcel ≡ Some met → met.nodes ≡ length parcel.nodes → IsChecked parcel
unfolding is_checked
checked-from parcel met e nodes =
    elim (eqb_tells met.nodes (length parcel.nodes)) [ inl same ↦ ap (ends_with (length parcel.nodes)) e ∙ same.0 | inr other ↦ absurd (other.1 nodes) ]

same-list : {A : Type 0} (xs ys : List A) → length xs ≡ length ys → ((k : ℕ) → k < length xs → slice_get xs k ≡ slice_get ys k) → xs ≡ ys
same-list [] [] e same = refl
same-list [] (y ∷ ys) e same = absurd (omega arith)
same-list (x ∷ xs) [] e same = absurd (omega arith)
same-list (x ∷ xs) (y ∷ ys) e same =
    let first : Some x ≡ Some y = same 0 (omega arith) in
    let heads : x ≡ y = cc in
    let tails : xs ≡ ys = same-list xs ys (omega arith) (λ k low. same (suc k) (omega arith)) in
    rw (heads, tails) refl

pub text_of-injective : (a b : Parcel) → IsChecked a → IsChecked b → text_of a ≡ text_of b → a ≡ b
unfolding text_of all_met
text_of-injective a b checked_a checked_b text =
    let walk_a = checked-told a checked_a in
    let walk_b = checked-told b checked_b in
    let told = item-splits 1_001 a.nodes b.nodes a.root b.root nothing_met walk_a.0 walk_b.0 [] [] (Fair-none a.nodes) (Fair-none b.nodes) tt tt
    walk_a.1 walk_b.1 (append-nil (item_shown 1_001 a.nodes a.root 0).0 ∙ text ∙ sym (append-nil (item_shown 1_001 b.nodes b.root 0).0)) in
    let lengths : length a.nodes ≡ length b.nodes = sym walk_a.2 ∙ ap (λ (m : Tally). m.nodes) told.tally ∙ walk_b.2 in
    let agree = told.nodes in
    let nodes : a.nodes ≡ b.nodes = same-list a.nodes b.nodes lengths (λ k low. agree.at k (omega arith) (let n = walk_a.2 in omega arith)) in
    parcel-same a.root b.root a.nodes b.nodes told.same nodes
  where
    parcel-same : (i j : Item) (xs ys : List PNode) → i ≡ j → xs ≡ ys
        → ◌≡◌ {A = Parcel} (record { root = i; nodes = xs }) (record { root = j; nodes = ys })
    parcel-same i j xs ys e f = rw (e, f) refl
