-- Properties that were written are read again.
use Rattle.std.proofs.Common.{◌⊎◌, ◌≡◌, ℕ, ◌<◌, ◌≤◌, ◌^◌, pos, Bool, true, false, not, ◌||◌, List, [], ◌∷◌, ◌++◌, length, map, take, Option, Some, None, Ok, refl, ap, sym, ◌∙◌, subst, append_assoc, arith, inl, inr, eqb, add-one}
use Rattle.std.specs.Prelude.{nat_eq}
use Rattle.std.specs.List.{list_all, list_any}
use Rattle.std.specs.Fmt.{signed_decimal}
use Rattle.std.specs.Cmp.Lexicographic.{pointwise}
use Rattle.std.proofs.lemmas.Bool.{eq-eqb, ne_eqb}
use Rattle.std.proofs.lemmas.Bool.Decides.{eqb_tells}
use borrow.Author.Tests.{leb-true, le-leb}
use Rattle.std.proofs.lemmas.List.{map-append}
use Rattle.wl_text.specs.Number.{index_of, leads_with_zero}
use Rattle.wl_text.proofs.Numbers.{index_of_some}
use Rattle.parcel.specs.Keys.{index_after, may_come, are_in_order, are_distinct}
use Rattle.parcel.specs.Checked.{visit_property, with_text, with_units, only_if, is_text}
use Rattle.parcel.specs.Plain.{is_plain_item}
use Rattle.parcel.specs.declared.parcel.Item.{Item}
use Rattle.parcel.specs.declared.parcel.PNode.{PNode}
use Rattle.parcel.specs.declared.parcel.PNode.TheVariants as kinds
use Rattle.parcel.specs.declared.tally.Tally.{Tally}
use Rattle.v8_wire.specs.declared.met.Met.{Met}
use Rattle.v8_wire.specs.declared.open.Open.TheVariants.{Object}
use Rattle.v8_wire.specs.declared.open.Turn.TheVariants.{More, End}
use Rattle.v8_wire.specs.Leaf.{unpadded}
use Rattle.v8_wire.specs.Text.{string_at}
use Rattle.v8_wire.specs.Contents.{ItemReader, may_be_index, index_key, text_key, new_key, key_at, turn_at, turn_with, object_turn}
use Rattle.v8_wire.specs.Spelling.{Written, written, varint, key, put_property, with_bytes}
use Rattle.v8_wire.proofs.Again.{some_bind, only_if-is, with_units-is, Agrees, NoView, NoView-tag}
use Rattle.v8_wire.proofs.NumbersAgain.{number-again}
use Rattle.v8_wire.proofs.StringsAgain.{string-again}
use Rattle.v8_wire.proofs.LeavesAgain.{and_true, with_counted, counts, counted-agrees}
use Rattle.v8_wire.proofs.ListsAgain.{TurnAgain}
use Rattle.v8_wire.proofs.TurnsAgain.{InnerAgain, starts-longer, count-again}

-- ---- array indices as texts

-- A text that is an array index is its decimal text.
pub index-text : (text : List ℕ) (n : ℕ) → index_of text ≡ Some n → (signed_decimal (pos n) ≡ text) × (n ≤ 4_294_967_294)
unfolding index_of
index-text text n e = by (leads_with_zero text) refl e
  where
    by : (b : Bool) → leads_with_zero text ≡ b → index_of text ≡ Some n → (signed_decimal (pos n) ≡ text) × (n ≤ 4_294_967_294)
    by true lead e = absurd (let f = rw lead at e in cc)
    by false lead e = let i = index_of_some text n lead (rw lead at e) in (sym i.0, i.1)

-- ---- keys

-- A key with its tag, behind some padding.
record KeyAgain (at : ℕ) (text : List ℕ) (least : Option ℕ) : Type 0 where
  tag : ℕ
  body : List ℕ
  starts : (tail : List ℕ) → unpadded (key at text ++ tail) ≡ tag ∷ (body ++ tail)
  no_view : eqb tag 86 ≡ false
  no_end : eqb tag 123 ≡ false
  reads : (met : Met) (left : ℕ) (tail : List ℕ) → key_at least tag met left (body ++ tail) ≡ Ok ((text, index_after (index_of text)), tail)

index-again : (at : ℕ) (text : List ℕ) (least n : ℕ) → index_of text ≡ Some n → least ≤ n → KeyAgain at text (Some least)
unfolding key key_at may_be_index index_key unpadded
index-again at text least n e le =
    let i = index-text text n e in
    let k = number-again (pos n) (le-leb n 9_007_199_254_740_991 (omega (arith, i.1))) in
    record {
      tag = k.tag;
      body = k.body;
      starts = λ tail. rw (e, k.piece) (elim k.is_number as (λ _. unpadded (k.tag ∷ (k.body ++ tail)) ≡ k.tag ∷ (k.body ++ tail)) [ inl h ↦ rw h refl | inr h ↦ rw h refl ]);
      no_view = elim k.is_number as (λ _. eqb k.tag 86 ≡ false) [ inl h ↦ rw h refl | inr h ↦ rw h refl ];
      no_end = elim k.is_number as (λ _. eqb k.tag 123 ≡ false) [ inl h ↦ rw h refl | inr h ↦ rw h refl ];
      reads = λ met left tail.
          let may : may_be_index k.tag (Some least) ≡ true = elim k.is_number as (λ _. may_be_index k.tag (Some least) ≡ true) [ inl h ↦ rw h refl | inr h ↦ rw h refl ] in
          rw (may, k.again left tail, le-leb n 4_294_967_294 i.1, le-leb least n le, i.0, e, add-one) refl;
    }

name-read : (tag : ℕ) (least : Option ℕ) (met : Met) (left : ℕ) (bytes text tail : List ℕ) → (tag ≡ 34) ⊎ (tag ≡ 99) → string_at tag left bytes ≡ Ok (text, tail) → index_of text ≡ None
    → key_at least tag met left bytes ≡ Ok ((text, index_after (index_of text)), tail)
unfolding key_at may_be_index text_key
name-read tag least met left bytes text tail (inl h) e none = rw h (rw (rw h at e, none) refl)
name-read tag least met left bytes text tail (inr h) e none = rw h (rw (rw h at e, none) refl)

name-again : (at : ℕ) (text : List ℕ) (least : Option ℕ) → index_of text ≡ None → length text ≤ 1_048_576 → KeyAgain at text least
unfolding key key_at may_be_index text_key
name-again at text least e le =
    let s = string-again at text le in
    record {
      tag = s.tag;
      body = s.body;
      starts = λ tail. rw e (s.starts tail);
      no_view = elim s.is_string as (λ _. eqb s.tag 86 ≡ false) [ inl h ↦ rw h refl | inr h ↦ rw h refl ];
      no_end = elim s.is_string as (λ _. eqb s.tag 123 ≡ false) [ inl h ↦ rw h refl | inr h ↦ rw h refl ];
      reads = λ met left tail. name-read s.tag least met left (s.body ++ tail) text tail s.is_string (s.again left tail) e;
    }

key-again : (at : ℕ) (text : List ℕ) (least : Option ℕ) → length text ≤ 1_048_576 → may_come least (index_of text) ≡ true → KeyAgain at text least
key-again at text least le may = by least (index_of text) refl may
  where
    by : (least : Option ℕ) (index : Option ℕ) → index_of text ≡ index → may_come least index ≡ true → KeyAgain at text least
    by least None e may = name-again at text least e le
    by None (Some n) e may = absurd cc
    by (Some l) (Some n) e may = index-again at text l n e (leb-true _ _ may)

-- ---- keys that are new

eqb-sym : (a b : ℕ) → eqb a b ≡ eqb b a
eqb-sym a b = elim (eqb_tells a b) [ inl h ↦ h.0 ∙ sym (eq-eqb b a (sym h.1)) | inr h ↦ h.0 ∙ sym (ne_eqb b a (λ e. h.1 (sym e))) ]

pub pointwise-sym : (a b : List ℕ) → pointwise nat_eq a b ≡ pointwise nat_eq b a
pointwise-sym [] [] = refl
pointwise-sym [] (y ∷ b) = refl
pointwise-sym (x ∷ a) [] = refl
pointwise-sym (x ∷ a) (y ∷ b) = rw (eqb-sym x y, pointwise-sym a b) refl

pub or_false : (a b : Bool) → (a || b) ≡ false → (a ≡ false) × (b ≡ false)
or_false true b h = absurd cc
or_false false b h = (refl, h)

not_true : (a : Bool) → not a ≡ true → a ≡ false
not_true true h = absurd cc
not_true false h = refl

any-at : (p : List ℕ → Bool) (ks : List (List ℕ)) (k : List ℕ) (more : List (List ℕ)) → list_any p (ks ++ k ∷ more) ≡ false → p k ≡ false
any-at p [] k more h = (or_false _ _ h).0
any-at p (j ∷ ks) k more h = any-at p ks k more (or_false _ _ h).1

-- Of distinct keys none stands before.
distinct-new : (ks : List (List ℕ)) (k : List ℕ) (more : List (List ℕ)) → are_distinct (ks ++ k ∷ more) ≡ true → list_any (pointwise nat_eq k) ks ≡ false
unfolding are_distinct
distinct-new [] k more h = refl
distinct-new (j ∷ ks) k more h =
    let p = and_true _ _ h in
    let other : pointwise nat_eq k j ≡ false = pointwise-sym k j ∙ any-at (pointwise nat_eq j) ks k more (not_true _ p.0) in
    rw (other, distinct-new ks k more p.1) refl

-- ---- properties

abbrev pub keys : List (List ℕ × Item) → List (List ℕ)
keys properties = map (λ property. property.0) properties

-- the least array index that may come after these keys
abbrev pub least_from : Option ℕ → List (List ℕ) → Option ℕ
least_from least [] = least
least_from least (k ∷ ks) = least_from (index_after (index_of k)) ks

unfoldable pub least_of : List (List ℕ × Item) → Option ℕ
least_of properties = least_from (Some 0) (keys properties)

least_from-last : (least : Option ℕ) (ks : List (List ℕ)) (k : List ℕ) → least_from least (ks ++ k ∷ []) ≡ index_after (index_of k)
least_from-last least [] k = refl
least_from-last least (j ∷ ks) k = least_from-last (index_after (index_of j)) ks k

least_of-last : (before : List (List ℕ × Item)) (x : List ℕ × Item) → least_of (before ++ x ∷ []) ≡ index_after (index_of x.0)
unfolding least_of
least_of-last before x = ap (least_from (Some 0)) (map-append (λ property. property.0) before (x ∷ [])) ∙ least_from-last (Some 0) (keys before) x.0

-- What is left continues the order of what was read, and all keys are distinct.
pub record IsObject (before xs : List (List ℕ × Item)) : Type 0 where
  pub in_order : are_in_order (least_of before) (keys xs) ≡ true
  pub distinct : are_distinct (keys (before ++ xs)) ≡ true
  pub plain : list_all (λ property. is_plain_item property.1) xs ≡ true

module _ (ports : ℕ) (nodes : List PNode) (inner : ItemReader) (put : Item → Written → Written) (visit : Item → Tally → Option Tally) (again : InnerAgain ports nodes inner put visit) where
  pub object-one : (before : List (List ℕ × Item)) (x : List ℕ × Item) (xs : List (List ℕ × Item)) (t t' : Tally) (w : Written) (met : Met) → IsObject before (x ∷ xs)
      → visit_property visit x t ≡ Some t' → w.nodes ≡ t.nodes → Agrees ports nodes met t
      → TurnAgain (List ℕ × Item) ports nodes inner (λ l. Object l (least_of l)) (put_property put) before x t t' w met × IsObject (before ++ x ∷ []) xs
  unfolding turn_at turn_with object_turn new_key are_in_order
  object-one before x xs t t' w met p e n a =
      let plain = and_true _ _ p.plain in
      let order = and_true _ _ p.in_order in
      let b = some_bind (with_text x.0 t) (visit x.1) t' e in
      let c = some_bind (only_if (is_text x.0) t) (with_units (length x.0)) b.0 b.1 in
      let o = only_if-is (is_text x.0) t c.0 c.1 in
      let f : with_units (length x.0) t ≡ Some b.0 = subst (λ (y : Tally). with_units (length x.0) y ≡ Some b.0) (sym o.1) c.2 in
      let u = with_units-is (length x.0) t b.0 f in
      let short : length x.0 ≤ 1_048_576 = leb-true _ _ (and_true _ _ o.0).0 in
      let k = key-again (length w.bytes) x.0 (least_of before) short order.0 in
      let counted : Agrees ports nodes (with_counted (length x.0) met) b.0 = subst (λ (y : Tally). Agrees ports nodes (with_counted (length x.0) met) y) (sym u.1) (counted-agrees ports nodes (length x.0) met t a) in
      let same_nodes : t.nodes ≡ b.0.nodes = sym (ap (λ (y : Tally). y.nodes) u.1) in
      let same_items : b.0.items ≡ t.items = ap (λ (y : Tally). y.items) u.1 in
      let v = again x.1 b.0 t' (with_bytes (key (length w.bytes) x.0) w) (with_counted (length x.0) met) plain.0 b.2 (n ∙ same_nodes) counted in
      let parts : keys (before ++ x ∷ xs) ≡ keys before ++ x.0 ∷ keys xs = map-append (λ property. property.0) before (x ∷ xs) in
      let fresh : list_any (pointwise nat_eq x.0) (keys before) ≡ false = distinct-new (keys before) x.0 (keys xs) (subst (λ l. are_distinct l ≡ true) parts p.distinct) in (
        record {
          piece = key (length w.bytes) x.0 ++ v.piece;
          more = v.more;
          met' = v.met';
          puts = v.puts ∙ ap (λ (bytes : List ℕ). written bytes t'.nodes) (append_assoc w.bytes (key (length w.bytes) x.0) v.piece);
          reads = λ tail none.
              let starts : unpadded ((key (length w.bytes) x.0 ++ v.piece) ++ tail) ≡ k.tag ∷ (k.body ++ (v.piece ++ tail)) = ap unpadded (append_assoc (key (length w.bytes) x.0) v.piece tail) ∙ k.starts (v.piece ++ tail) in
              let left = length (k.tag ∷ (k.body ++ (v.piece ++ tail))) in
              rw (starts, k.no_end, k.reads met left (v.piece ++ tail), fresh, counts left (length x.0) met t a.units_are u.0, v.reads tail none)
              (ap (λ least. Ok (More (Object (before ++ x ∷ []) least), v.met', tail)) (sym (least_of-last before x)));
          no_view = λ tail. subst NoView (sym (append_assoc (key (length w.bytes) x.0) v.piece tail))
              (NoView-tag (key (length w.bytes) x.0 ++ (v.piece ++ tail)) k.tag (k.body ++ (v.piece ++ tail)) (k.starts (v.piece ++ tail)) k.no_view);
          longer = λ tail. omega (arith, starts-longer (key (length w.bytes) x.0) k.tag k.body k.starts (v.piece ++ tail), starts-longer v.piece v.tag v.body v.starts tail, ap length (append_assoc (key (length w.bytes) x.0) v.piece tail));
          nodes_are = v.nodes_are;
          agrees = v.agrees;
          taken = v.taken ∙ ap (λ m. take m nodes ++ v.more) (sym same_nodes);
          grows = omega (arith, v.grows, same_items);
        },
        record {
          in_order = rw (least_of-last before x) order.1;
          distinct = subst (λ l. are_distinct (keys l) ≡ true) (sym (append_assoc before (x ∷ []) xs)) p.distinct;
          plain = plain.1;
        },
      )

  pub object-end : (xs : List (List ℕ × Item)) (least : Option ℕ) (met : Met) (tail : List ℕ) → length xs < 2 ^ 32
      → turn_at inner (Object xs least) met ((123 ∷ varint (length xs)) ++ tail) ≡ Ok (End (kinds.Object xs), met, tail)
  unfolding turn_at turn_with object_turn unpadded
  object-end xs least met tail lt = rw (count-again (length xs) (length (123 ∷ (varint (length xs) ++ tail))) tail lt) refl
