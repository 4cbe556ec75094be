-- Elements, entries and items that were written are read again.
use Rattle.std.proofs.Common.{◌≡◌, ℕ, ◌+◌, ◌*◌, ◌<◌, ◌^◌, Bool, true, ◌&&◌, List, [], ◌∷◌, ◌++◌, length, take, Option, Some, Ok, refl, ap, sym, ◌∙◌, subst, append_assoc, arith}
use Rattle.std.specs.List.{list_all}
use Rattle.std.proofs.lemmas.Bool.{le-ltb, lt-ltb, eq-eqb}
use Rattle.std.proofs.lemmas.List.{length-append}
use Rattle.parcel.specs.Checked.{visit_entry}
use Rattle.parcel.specs.Plain.{is_plain_item}
use Rattle.parcel.specs.declared.parcel.Item.{Item}
use Rattle.parcel.specs.declared.parcel.PNode.{PNode}
use Rattle.parcel.specs.declared.parcel.PNode.TheVariants as kinds
use Rattle.parcel.specs.declared.tally.Tally.{Tally}
use Rattle.v8_wire.specs.declared.met.Met.{Met}
use Rattle.v8_wire.specs.declared.open.Open.TheVariants.{Array, Map, Set}
use Rattle.v8_wire.specs.declared.open.Turn.TheVariants.{End}
use Rattle.v8_wire.specs.Leaf.{unpadded}
use Rattle.v8_wire.specs.Contents.{ItemReader, count_at, turn_at, turn_with, array_turn, map_turn, set_turn}
use Rattle.v8_wire.specs.Spelling.{Written, written, groups, varint, put_entry}
use Rattle.v8_wire.proofs.Again.{some_bind, Agrees, NoView, NoView-tag}
use Rattle.v8_wire.proofs.NumbersAgain.{varint-again}
use Rattle.v8_wire.proofs.LeavesAgain.{and_true}
use Rattle.v8_wire.proofs.ListsAgain.{ItemAgain, TurnAgain}

-- Each plain item that is walked is written and read again.
abbrev pub InnerAgain : ℕ → List PNode → ItemReader → (Item → Written → Written) → (Item → Tally → Option Tally) → Type 0
InnerAgain ports nodes inner put visit = (item : Item) (t t' : Tally) (w : Written) (met : Met) → is_plain_item item ≡ true → visit item t ≡ Some t' → w.nodes ≡ t.nodes
    → Agrees ports nodes met t → ItemAgain ports nodes inner put item t t' w met

-- a piece with its tag has a byte at least
pub starts-longer : (piece : List ℕ) (tag : ℕ) (body : List ℕ) → ((tail : List ℕ) → unpadded (piece ++ tail) ≡ tag ∷ (body ++ tail)) → (tail : List ℕ) → length tail < length (piece ++ tail)
unfolding unpadded
starts-longer [] tag body starts tail = absurd (let e = starts [] in cc)
starts-longer (b ∷ piece) tag body starts tail = omega (arith, length-append piece tail)

varint-zero : varint 0 ≡ 0 ∷ []
unfolding varint groups
varint-zero = refl

-- the count behind an end tag
pub count-again : (count left : ℕ) (tail : List ℕ) → count < 2 ^ 32 → count_at count left (varint count ++ tail) ≡ Ok tail
unfolding count_at
count-again count left tail lt = rw (varint-again count tail lt, eq-eqb count count refl) refl

module _ (ports : ℕ) (nodes : List PNode) (inner : ItemReader) (put : Item → Written → Written) (visit : Item → Tally → Option Tally) (again : InnerAgain ports nodes inner put visit) where
  -- ---- arrays

  -- So many items are left as are missing, and they are plain.
  abbrev pub IsArray : ℕ → List Item → List Item → Type 0
  IsArray size before xs = (length before + length xs ≡ size) × (list_all is_plain_item xs ≡ true)

  pub array-one : (size : ℕ) (before : List Item) (x : Item) (xs : List Item) (t t' : Tally) (w : Written) (met : Met) → IsArray size before (x ∷ xs) → visit x t ≡ Some t' → w.nodes ≡ t.nodes
      → Agrees ports nodes met t → TurnAgain Item ports nodes inner (λ l. Array size l) put before x t t' w met × IsArray size (before ++ x ∷ []) xs
  unfolding turn_at turn_with array_turn
  array-one size before x xs t t' w met p e n a =
      let plain = and_true _ _ p.1 in
      let i = again x t t' w met plain.0 e n a in
      let short : length before < size = omega (arith, p.0) in (
        record {
          piece = i.piece;
          more = i.more;
          met' = i.met';
          puts = i.puts;
          reads = λ tail none. rw (i.starts tail, i.front.no_hole, lt-ltb (length before) size short, i.reads_tag tail none) refl;
          no_view = λ tail. NoView-tag (i.piece ++ tail) i.tag (i.body ++ tail) (i.starts tail) i.front.no_view;
          longer = starts-longer i.piece i.tag i.body i.starts;
          nodes_are = i.nodes_are;
          agrees = i.agrees;
          taken = i.taken;
          grows = i.grows;
        },
        (omega (arith, p.0, length-append before (x ∷ [])), plain.1),
      )

  pub array-end : (size : ℕ) (xs : List Item) (met : Met) (tail : List ℕ) → length xs ≡ size → size < 2 ^ 32
      → turn_at inner (Array size xs) met ((36 ∷ 0 ∷ varint size) ++ tail) ≡ Ok (End (kinds.Array xs), met, tail)
  unfolding turn_at turn_with array_turn unpadded
  array-end size xs met tail e lt =
      rw (le-ltb (length xs) size (omega arith), zero-again (length (36 ∷ (0 ∷ (varint size ++ tail)))) (varint size ++ tail), count-again size (length (36 ∷ (0 ∷ (varint size ++ tail)))) tail lt) refl
    where
      zero-again : (left : ℕ) (rest : List ℕ) → count_at 0 left (0 ∷ rest) ≡ Ok rest
      zero-again left rest = ap (λ l. count_at 0 left (l ++ rest)) (sym varint-zero) ∙ count-again 0 left rest (omega arith)

  -- ---- Sets

  abbrev pub IsSet : List Item → List Item → Type 0
  IsSet before xs = list_all is_plain_item xs ≡ true

  pub set-one : (before : List Item) (x : Item) (xs : List Item) (t t' : Tally) (w : Written) (met : Met) → IsSet before (x ∷ xs) → visit x t ≡ Some t' → w.nodes ≡ t.nodes
      → Agrees ports nodes met t → TurnAgain Item ports nodes inner (λ l. Set l) put before x t t' w met × IsSet (before ++ x ∷ []) xs
  unfolding turn_at turn_with set_turn
  set-one before x xs t t' w met p e n a =
      let plain = and_true _ _ p in
      let i = again x t t' w met plain.0 e n a in (
        record {
          piece = i.piece;
          more = i.more;
          met' = i.met';
          puts = i.puts;
          reads = λ tail none. rw (i.starts tail, i.front.no_set_end, i.reads_tag tail none) refl;
          no_view = λ tail. NoView-tag (i.piece ++ tail) i.tag (i.body ++ tail) (i.starts tail) i.front.no_view;
          longer = starts-longer i.piece i.tag i.body i.starts;
          nodes_are = i.nodes_are;
          agrees = i.agrees;
          taken = i.taken;
          grows = i.grows;
        },
        plain.1,
      )

  pub set-end : (xs : List Item) (met : Met) (tail : List ℕ) → length xs < 2 ^ 32
      → turn_at inner (Set xs) met ((44 ∷ varint (length xs)) ++ tail) ≡ Ok (End (kinds.Set xs), met, tail)
  unfolding turn_at turn_with set_turn unpadded
  set-end xs met tail lt = rw (count-again (length xs) (length (44 ∷ (varint (length xs) ++ tail))) tail lt) refl

  -- ---- Maps

  abbrev pub is_plain_entry : Item × Item → Bool
  is_plain_entry entry = is_plain_item entry.0 && is_plain_item entry.1

  abbrev pub IsMap : List (Item × Item) → List (Item × Item) → Type 0
  IsMap before xs = list_all is_plain_entry xs ≡ true

  pub map-one : (before : List (Item × Item)) (x : Item × Item) (xs : List (Item × Item)) (t t' : Tally) (w : Written) (met : Met) → IsMap before (x ∷ xs) → visit_entry visit x t ≡ Some t'
      → w.nodes ≡ t.nodes → Agrees ports nodes met t → TurnAgain (Item × Item) ports nodes inner (λ l. Map l) (put_entry put) before x t t' w met × IsMap (before ++ x ∷ []) xs
  unfolding turn_at turn_with map_turn
  map-one before x xs t t' w met p e n a =
      let plain = and_true _ _ p in
      let both = and_true _ _ plain.0 in
      let b = some_bind (visit x.0 t) (visit x.1) t' e in
      let k = again x.0 t b.0 w met both.0 b.1 n a in
      let v = again x.1 b.0 t' (written (w.bytes ++ k.piece) b.0.nodes) k.met' both.1 b.2 refl k.agrees in (
        record {
          piece = k.piece ++ v.piece;
          more = k.more ++ v.more;
          met' = v.met';
          puts = ap (put x.1) k.puts ∙ v.puts ∙ ap (λ (bytes : List ℕ). written bytes t'.nodes) (append_assoc w.bytes k.piece v.piece);
          reads = λ tail none.
              let starts : unpadded ((k.piece ++ v.piece) ++ tail) ≡ k.tag ∷ (k.body ++ (v.piece ++ tail)) = ap unpadded (append_assoc k.piece v.piece tail) ∙ k.starts (v.piece ++ tail) in
              let behind : NoView (v.piece ++ tail) = NoView-tag (v.piece ++ tail) v.tag (v.body ++ tail) (v.starts tail) v.front.no_view in
              rw (starts, k.front.no_map_end, k.reads_tag (v.piece ++ tail) behind, v.reads tail none) refl;
          no_view = λ tail. subst NoView (sym (append_assoc k.piece v.piece tail))
              (NoView-tag (k.piece ++ (v.piece ++ tail)) k.tag (k.body ++ (v.piece ++ tail)) (k.starts (v.piece ++ tail)) k.front.no_view);
          longer = λ tail. omega (arith, starts-longer k.piece k.tag k.body k.starts (v.piece ++ tail), starts-longer v.piece v.tag v.body v.starts tail, ap length (append_assoc k.piece v.piece tail));
          nodes_are = v.nodes_are ∙ ap (λ l. l ++ v.more) k.nodes_are ∙ append_assoc met.nodes k.more v.more;
          agrees = v.agrees;
          taken = v.taken ∙ ap (λ l. l ++ v.more) k.taken ∙ append_assoc (take t.nodes nodes) k.more v.more;
          grows = omega (arith, k.grows, v.grows);
        },
        plain.1,
      )

  pub map-end : (xs : List (Item × Item)) (met : Met) (tail : List ℕ) → 2 * length xs < 2 ^ 32
      → turn_at inner (Map xs) met ((58 ∷ varint (2 * length xs)) ++ tail) ≡ Ok (End (kinds.Map xs), met, tail)
  unfolding turn_at turn_with map_turn unpadded
  map-end xs met tail lt = rw (count-again (2 * length xs) (length (58 ∷ (varint (2 * length xs) ++ tail))) tail lt) refl
