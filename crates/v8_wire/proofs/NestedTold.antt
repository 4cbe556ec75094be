-- What was read of nodes with items is walked.
use Rattle.std.proofs.Common.{◌≡◌, ℕ, zero, suc, ◌+◌, ◌*◌, ◌<◌, ◌≤◌, ◌^◌, ℤ, pos, negsuc, Bool, true, false, cond, not, ◌&&◌, List, [], ◌∷◌, ◌++◌, length, map, Option, Some, None, Result, Ok, Err, refl, ap, sym, ◌∙◌, subst, append_assoc, arith, inl, inr, eqb, ltb, leb, add-one}
use Rattle.std.specs.Prelude.{slice_get, slice_set, nat_eq, is_none}
use Rattle.std.specs.List.{list_all, list_any, flat_map}
use Rattle.std.specs.Cmp.Lexicographic.{pointwise}
use Rattle.std.specs.Fmt.{signed_decimal}
use Rattle.std.proofs.Math.Seq.{set-append_seam}
use Rattle.std.proofs.lemmas.Bool.{le-ltb, lt-ltb, cases_lt}
use Rattle.std.proofs.lemmas.List.{append-nil, length-append, map-append}
use Rattle.std.proofs.lemmas.Option.{slice_get_within}
use borrow.Author.Tests.{leb-true, le-leb, leb-false}
use Rattle.std.specs.Str.{all_ascii_digits}
use Rattle.std.specs.Str.Parse.{digits_value}
use Rattle.std.specs.Char.{is_ascii_digit}
use Rattle.std.proofs.lemmas.Fmt.{digits_decimal, digits_value-decimal, length_signed_le}
use Rattle.std.proofs.lemmas.Str.Parse.{IsNumeralModel, numerals_by_value, tells_all_ascii_digits}
use Rattle.wl_text.specs.Number.{index_of, natural_of, leads_with_zero, IsIndexOf}
use Rattle.wl_text.proofs.Numbers.{index_of_some, index_of_none, index_of_led}
use Rattle.parcel.specs.Keys.{index_after, may_come, are_in_order, are_distinct, are_keys}
use Rattle.parcel.specs.Checked.{in_turn, visit_property, visit_entry, value_met, node_met, contents_met, item_met, numbered, is_text, is_safe}
use Rattle.parcel.specs.Plain.{is_plain_item, items_of}
use Rattle.parcel.specs.declared.parcel.Item.{Item}
use Rattle.parcel.specs.declared.parcel.Item.TheVariants as items
use Rattle.parcel.specs.declared.parcel.PNode.{PNode}
use Rattle.parcel.specs.declared.parcel.PNode.TheVariants as kinds
use Rattle.parcel.specs.declared.tally.Tally.{Tally}
use Rattle.v8_wire.specs.declared.kind.WireKind.{WireKind}
use Rattle.v8_wire.specs.declared.fault.Fault.{Fault}
use Rattle.v8_wire.specs.declared.met.Met.{Met}
use Rattle.v8_wire.specs.declared.open.Open.{Open}
use Rattle.v8_wire.specs.declared.open.Open.TheVariants.{Object, Array, Sparse, Map, Set}
use Rattle.v8_wire.specs.declared.open.Turn.{Turn}
use Rattle.v8_wire.specs.declared.open.Turn.TheVariants.{More, End}
use Rattle.v8_wire.specs.declared.kind.WireKind.TheVariants.{Key}
use Rattle.v8_wire.specs.Faults.{◌>>=◌, fault}
use Rattle.v8_wire.specs.Met.{are_full}
use Rattle.v8_wire.specs.Met as met_words
use Rattle.v8_wire.specs.Number.{varint_at, number_at}
use Rattle.v8_wire.specs.Text.{string_at}
use Rattle.v8_wire.specs.Leaf.{unpadded, is_text_tag, is_composite_tag, refused, leaf_at, rather}
use Rattle.v8_wire.specs.Contents.{ItemReader, count_at, opened_at, index_key, text_key, is_new, new_key, may_be_index, may_be_next, is_index, key_at, object_turn, array_turn, sparse_turn, map_turn, set_turn, turn_with, turn_at, turned, contents_at}
use Rattle.v8_wire.specs.Item.{buffer_size, composite_at, entered_at, item_at, refused_at}
use Rattle.v8_wire.proofs.KeysAgain.{or_false, pointwise-sym}
use Rattle.v8_wire.proofs.Again.{some_bind}
use Rattle.v8_wire.proofs.LeavesAgain.{and_true}
use Rattle.v8_wire.proofs.Holds.{Holds, holds-bind, holds-if, AreBytes, varint-holds, number-holds, string-holds}
use Rattle.v8_wire.proofs.Told.{tally, Buffers, Continues, fits, Grew, ValueTold, bytes-unpadded, Counted, counted-holds, text-walks, numbered-walks, slice_get-front, slice_get-seam, fit-append, leaf-told, viewed-told}

-- An item that was read.
pub record ItemTold (ports : ℕ) (visit : List PNode → Item → Tally → Option Tally) (met : Met) (x : Item × Met × List ℕ) : Type 0 where
  pub bytes : AreBytes x.2
  pub grew : Grew ports met x.1
  pub plain : is_plain_item x.0 ≡ true
  pub walks : (all : List PNode) → Buffers all met.nodes → Continues all (length met.nodes) x.1.nodes → visit all x.0 (tally met) ≡ Some (tally x.1)

abbrev pub InnerTold : ℕ → (List PNode → Item → Tally → Option Tally) → ItemReader → Type 0
InnerTold ports visit inner = (met : Met) (bytes : List ℕ) → AreBytes bytes → met.ports ≡ ports → Holds (ItemTold ports visit met) (inner met bytes)

-- ---- what was met, step by step

grew-more : (ports : ℕ) (a b c : Met) → Grew ports a b → Grew ports b c → Grew ports a c
grew-more ports a b c x y = record {
  more = x.more ++ y.more;
  nodes_are = y.nodes_are ∙ ap (λ l. l ++ y.more) x.nodes_are ∙ append_assoc a.nodes x.more y.more;
  ports_are = y.ports_are ∙ x.ports_are;
  fit = fit-append ports x.more y.more x.fit y.fit;
}

-- What holds of all nodes from before the first step holds at each.
pub record Steps (all : List PNode) (b c : Met) (from : ℕ) : Type 0 where
  pub front : Continues all from b.nodes
  pub buffers : Buffers all b.nodes
  pub back : Continues all (length b.nodes) c.nodes

steps : (ports : ℕ) (all : List PNode) (a b c : Met) → Grew ports a b → Grew ports b c → Buffers all a.nodes → Continues all (length a.nodes) c.nodes → Steps all b c (length a.nodes)
steps ports all a b c x y buffers continues =
    let longer : length b.nodes ≡ length a.nodes + length x.more = ap length x.nodes_are ∙ length-append a.nodes x.more in
    let front : Continues all (length a.nodes) b.nodes = λ i node le e.
    continues i node le (ap (λ l. slice_get l i) y.nodes_are ∙ slice_get-front b.nodes y.more i (slice_get_within b.nodes i node e) ∙ e) in
    record {
      front = front;
      buffers = λ i bytes e. elim (cases_lt i (length a.nodes)) [
        | inl old ↦ buffers i bytes (sym (ap (λ l. slice_get l i) x.nodes_are ∙ slice_get-front a.nodes x.more i old) ∙ e)
        | inr new ↦ front i (kinds.Buffer bytes) new e
      ];
      back = λ i node le e. continues i node (omega arith) e;
    }

grew-none : (ports : ℕ) (met met' : Met) → met'.nodes ≡ met.nodes → met'.ports ≡ met.ports → Grew ports met met'
grew-none ports met met' e p = record { more = []; nodes_are = e ∙ sym (append-nil met.nodes); ports_are = p; fit = refl }

in_turn-last : {A : Type 0} (f : A → Tally → Option Tally) (xs : List A) (x : A) (t t1 t2 : Tally) → in_turn f xs t ≡ Some t1 → f x t1 ≡ Some t2 → in_turn f (xs ++ x ∷ []) t ≡ Some t2
unfolding in_turn
in_turn-last f [] x t t1 t2 e g = let same : t ≡ t1 = cc in rw (same, g) refl
in_turn-last f (y ∷ xs) x t t1 t2 e g =
    let b = some_bind (f y t) (in_turn f xs) t1 e in
    rw b.1 (in_turn-last f xs x b.0 t1 t2 b.2 g)

all-last : {A : Type 0} (p : A → Bool) (xs : List A) (x : A) → list_all p xs ≡ true → p x ≡ true → list_all p (xs ++ x ∷ []) ≡ true
all-last p [] x h k = rw k refl
all-last p (y ∷ xs) x h k = let q = and_true (p y) (list_all p xs) h in rw (q.0, all-last p xs x q.1 k) refl

-- ---- a list of elements that is read

-- The elements so far are walked, each of them plain.
pub record ListTold (A : Type 0) (ports : ℕ) (visit : List PNode → A → Tally → Option Tally) (plain : A → Bool) (start : Met) (xs : List A) (met : Met) : Type 0 where
  pub grew : Grew ports start met
  pub are_plain : list_all plain xs ≡ true
  pub walks : (all : List PNode) → Buffers all start.nodes → Continues all (length start.nodes) met.nodes → in_turn (visit all) xs (tally start) ≡ Some (tally met)

list-last : (A : Type 0) (ports : ℕ) (visit : List PNode → A → Tally → Option Tally) (plain : A → Bool) (start met met' : Met) (xs : List A) (x : A) → ListTold A ports visit plain start xs met
    → Grew ports met met' → plain x ≡ true
    → ((all : List PNode) → Buffers all met.nodes → Continues all (length met.nodes) met'.nodes → visit all x (tally met) ≡ Some (tally met'))
    → ListTold A ports visit plain start (xs ++ x ∷ []) met'
list-last A ports visit plain start met met' xs x l g p walks = record {
  grew = grew-more ports start met met' l.grew g;
  are_plain = all-last plain xs x l.are_plain p;
  walks = λ all buffers continues.
      let s = steps ports all start met met' l.grew g buffers continues in
      in_turn-last (visit all) xs x (tally start) (tally met) (tally met') (l.walks all buffers s.front) (walks all s.buffers s.back);
}

-- A node with items that was read.
pub record NestTold (ports : ℕ) (visit : List PNode → Item → Tally → Option Tally) (start : Met) (x : PNode × Met × List ℕ) : Type 0 where
  pub bytes : AreBytes x.2
  pub grew : Grew ports start x.1
  pub fit : fits ports x.0 ≡ true
  pub none : buffer_size (Some x.0) ≡ None
  pub walks : (all : List PNode) → Buffers all start.nodes → Continues all (length start.nodes) x.1.nodes
      → (n : ℕ) (t : Tally) → numbered n t ≡ Some (tally start) → node_met (visit all) all n x.0 t ≡ Some (tally x.1)

-- What was read of a node with items.
abbrev pub OpenTold : (ports : ℕ) (visit : List PNode → Item → Tally → Option Tally) (start : Met) → Open → Met → Type 0
OpenTold ports visit start (Object xs least) met = ListTold (List ℕ × Item) ports (λ all. visit_property (visit all)) (λ property. is_plain_item property.1) start xs met
    × (are_keys (map (λ property. property.0) xs) ≡ true) × ((k : List ℕ) → may_come least (index_of k) ≡ true → are_in_order (Some 0) (map (λ property. property.0) xs ++ k ∷ []) ≡ true)
OpenTold ports visit start (Array size xs) met = ListTold Item ports visit is_plain_item start xs met
OpenTold ports visit start (Sparse size xs) met = ListTold Item ports visit is_plain_item start xs met
OpenTold ports visit start (Map xs) met = ListTold (Item × Item) ports (λ all. visit_entry (visit all)) (λ entry. is_plain_item entry.0 && is_plain_item entry.1) start xs met
OpenTold ports visit start (Set xs) met = ListTold Item ports visit is_plain_item start xs met

abbrev pub TurnTold : (ports : ℕ) (visit : List PNode → Item → Tally → Option Tally) (start : Met) → Turn × Met × List ℕ → Type 0
TurnTold ports visit start (More begun, met, bytes) = AreBytes bytes × (met.ports ≡ ports) × OpenTold ports visit start begun met
TurnTold ports visit start (End node, met, bytes) = NestTold ports visit start (node, met, bytes)

count-told : (count left : ℕ) (bytes : List ℕ) → AreBytes bytes → Holds AreBytes (count_at count left bytes)
unfolding count_at
count-told count left bytes h =
    holds-bind (λ x. (x.0 < 2 ^ 32) × AreBytes x.1) AreBytes (varint_at bytes) _ (varint-holds bytes h) (λ n q. holds-if AreBytes (eqb n.0 count) _ _ (λ e. q.1) (λ e. tt))

refused-holds : {A : Type 0} (P : A → Type 0) (kind : WireKind) (tag : ℕ) (met : Met) (left : ℕ) (bytes : List ℕ) → Holds P (refused kind tag met left bytes)
unfolding refused
refused-holds P kind tag met left bytes = holds-if P (is_composite_tag tag) _ _ (λ e. tt) (λ e. by (leaf_at tag met left bytes))
  where
    by : (r : Result (Item × Met × List ℕ) Fault) → Holds P (rather kind left r)
    by (Ok x) = tt
    by (Err f) = tt

module _ (ports : ℕ) (visit : List PNode → Item → Tally → Option Tally) (inner : ItemReader) (told : InnerTold ports visit inner) (start : Met) where
  array-ends : (xs : List Item) (met : Met) (bytes : List ℕ) → AreBytes bytes → ListTold Item ports visit is_plain_item start xs met → NestTold ports visit start (kinds.Array xs, met, bytes)
  unfolding node_met contents_met items_of
  array-ends xs met bytes h l = record { bytes = h; grew = l.grew; fit = rw l.are_plain refl; none = refl; walks = λ all buffers continues n t e. rw e (l.walks all buffers continues) }

  -- an element more
  element-told : (begun : List Item → Open) (xs : List Item) (met : Met) (bytes : List ℕ) → AreBytes bytes → met.ports ≡ ports → ListTold Item ports visit is_plain_item start xs met
      → ((xs : List Item) (met : Met) → ListTold Item ports visit is_plain_item start xs met → OpenTold ports visit start (begun xs) met)
      → Holds (TurnTold ports visit start) (inner met bytes >>= λ x. Ok (More (begun (xs ++ x.0 ∷ [])), x.1, x.2))
  element-told begun xs met bytes h p l is =
      holds-bind (ItemTold ports visit met) (TurnTold ports visit start) (inner met bytes) _ (told met bytes h p) (λ x i.
      (i.bytes, i.grew.ports_are ∙ p, is (xs ++ x.0 ∷ []) x.1 (list-last Item ports visit is_plain_item start met x.1 xs x.0 l i.grew i.plain i.walks)))

  pub array-told : (size : ℕ) (xs : List Item) (met : Met) (tag left : ℕ) (bytes : List ℕ) → AreBytes (tag ∷ bytes) → met.ports ≡ ports → ListTold Item ports visit is_plain_item start xs met
      → Holds (TurnTold ports visit start) (array_turn inner size xs met tag left bytes)
  unfolding array_turn
  array-told size xs met tag left bytes h p l =
      let rest = (and_true (ltb tag 256) (list_all (λ b. ltb b 256) bytes) h).1 in
      holds-if _ (eqb tag 45) _ _ (λ e. tt) (λ e.
      holds-if _ (ltb (length xs) size) _ _ (λ f. element-told (λ l. Array size l) xs met (tag ∷ bytes) h p l (λ xs met l. l)) (λ f.
      holds-if _ (eqb tag 36) _ _
      (λ g. holds-bind AreBytes _ (count_at 0 left bytes) _ (count-told 0 left bytes rest) (λ r q.
      holds-bind AreBytes _ (count_at size left r) _ (count-told size left r q) (λ s k. array-ends xs met s k l)))
      (λ g. refused-holds (TurnTold ports visit start) _ tag met left bytes)))

  pub sparse-told : (size : ℕ) (xs : List Item) (met : Met) (tag left : ℕ) (bytes : List ℕ) → AreBytes (tag ∷ bytes) → met.ports ≡ ports → ListTold Item ports visit is_plain_item start xs met
      → Holds (TurnTold ports visit start) (sparse_turn inner size xs met tag left bytes)
  unfolding sparse_turn
  sparse-told size xs met tag left bytes h p l =
      let rest = (and_true (ltb tag 256) (list_all (λ b. ltb b 256) bytes) h).1 in
      holds-if _ (eqb tag 45) _ _ (λ e. tt) (λ e.
      holds-if _ (eqb tag 64) _ _
      (λ f. holds-if _ (ltb (length xs) size) _ _ (λ g. tt)
      (λ g. holds-bind AreBytes _ (count_at size left bytes) _ (count-told size left bytes rest) (λ r q.
      holds-bind AreBytes _ (count_at size left r) _ (count-told size left r q) (λ s k. array-ends xs met s k l))))
      (λ f. holds-if _ (may_be_next tag size xs) _ _
      (λ g. holds-bind (λ x. (is_safe x.0 ≡ true) × AreBytes x.1) _ (number_at tag left bytes) _ (number-holds tag left bytes rest) (λ n q.
      holds-if _ (is_index n.0 (length xs)) _ _ (λ k. element-told (λ l. Sparse size l) xs met n.1 q.1 p l (λ xs met l. l)) (λ k. tt)))
      (λ g. refused-holds (TurnTold ports visit start) _ tag met left bytes)))

  pub set-told : (xs : List Item) (met : Met) (tag left : ℕ) (bytes : List ℕ) → AreBytes (tag ∷ bytes) → met.ports ≡ ports → ListTold Item ports visit is_plain_item start xs met
      → Holds (TurnTold ports visit start) (set_turn inner xs met tag left bytes)
  unfolding set_turn node_met contents_met items_of
  set-told xs met tag left bytes h p l =
      let rest = (and_true (ltb tag 256) (list_all (λ b. ltb b 256) bytes) h).1 in
      holds-if _ (eqb tag 44) _ _
      (λ e. holds-bind AreBytes _ (count_at (length xs) left bytes) _ (count-told (length xs) left bytes rest) (λ r q.
      record { bytes = q; grew = l.grew; fit = rw l.are_plain refl; none = refl; walks = λ all buffers continues n t e. rw e (l.walks all buffers continues) }))
      (λ e. element-told (λ l. Set l) xs met (tag ∷ bytes) h p l (λ xs met l. l))

  pairs-plain : (xs : List (Item × Item)) → list_all (λ entry. is_plain_item entry.0 && is_plain_item entry.1) xs ≡ true → list_all is_plain_item (flat_map (λ entry. entry.0 ∷ entry.1 ∷ []) xs) ≡ true
  pairs-plain [] h = refl
  pairs-plain (x ∷ xs) h =
      let p = and_true (is_plain_item x.0 && is_plain_item x.1) (list_all (λ entry. is_plain_item entry.0 && is_plain_item entry.1) xs) h in
      let q = and_true (is_plain_item x.0) (is_plain_item x.1) p.0 in rw (q.0, q.1, pairs-plain xs p.1) refl

  pub map-told : (xs : List (Item × Item)) (met : Met) (tag left : ℕ) (bytes : List ℕ) → AreBytes (tag ∷ bytes) → met.ports ≡ ports
      → ListTold (Item × Item) ports (λ all. visit_entry (visit all)) (λ entry. is_plain_item entry.0 && is_plain_item entry.1) start xs met
      → Holds (TurnTold ports visit start) (map_turn inner xs met tag left bytes)
  unfolding map_turn node_met contents_met items_of
  map-told xs met tag left bytes h p l =
      let rest = (and_true (ltb tag 256) (list_all (λ b. ltb b 256) bytes) h).1 in
      holds-if _ (eqb tag 58) _ _
      (λ e. holds-bind AreBytes _ (count_at (2 * length xs) left bytes) _ (count-told (2 * length xs) left bytes rest) (λ r q.
      record { bytes = q; grew = l.grew; fit = rw (pairs-plain xs l.are_plain) refl; none = refl; walks = λ all buffers continues n t e. rw e (l.walks all buffers continues) }))
      (λ e. holds-bind (ItemTold ports visit met) _ (inner met (tag ∷ bytes)) _ (told met (tag ∷ bytes) h p) (λ k i.
      holds-bind (ItemTold ports visit k.1) _ (inner k.1 k.2) _ (told k.1 k.2 i.bytes (i.grew.ports_are ∙ p)) (λ v j. (
        j.bytes,
        j.grew.ports_are ∙ i.grew.ports_are ∙ p,
        list-last (Item × Item) ports (λ all. visit_entry (visit all)) (λ entry. is_plain_item entry.0 && is_plain_item entry.1) start met v.1 xs (k.0, v.0) l
            (grew-more ports met k.1 v.1 i.grew j.grew) (rw (i.plain, j.plain) refl)
            (λ all buffers continues.
            let s = steps ports all met k.1 v.1 i.grew j.grew buffers continues in
            rw (i.walks all buffers s.front) (j.walks all s.buffers s.back)),
      ))))

-- ---- array indices as keys

own : IsNumeralModel (λ ds. all_ascii_digits ds ≡ true) (digits_value 10)
own = numerals_by_value (λ ds. all_ascii_digits ds ≡ true) tells_all_ascii_digits

index-law : (text : List ℕ) → IsIndexOf text (index_of text)
unfolding index_of
index-law text = by (leads_with_zero text) refl
  where
    by : (b : Bool) → leads_with_zero text ≡ b → IsIndexOf text (index_of text)
    by true lead = rw lead (index_of_led text lead)
    by false lead = rw lead (natural (natural_of 4_294_967_294 text) refl)
      where
        natural : (o : Option ℕ) → natural_of 4_294_967_294 text ≡ o → IsIndexOf text (natural_of 4_294_967_294 text)
        natural None e = rw e (index_of_none text e)
        natural (Some n) e = rw e (index_of_some text n lead e)

-- A decimal text is its array index.
decimal-index : (n : ℕ) → n ≤ 4_294_967_294 → index_of (signed_decimal (pos n)) ≡ Some n
decimal-index n le = by (index_of (signed_decimal (pos n))) refl (index-law (signed_decimal (pos n)))
  where
    by : (o : Option ℕ) → index_of (signed_decimal (pos n)) ≡ o → IsIndexOf (signed_decimal (pos n)) o → index_of (signed_decimal (pos n)) ≡ Some n
    by None e law = absurd (law n le refl)
    by (Some m) e law =
        let value : n ≡ m = sym (digits_value-decimal own n (omega arith)) ∙ ap (digits_value 10) law.0 ∙ digits_value-decimal own m (omega (arith, law.1)) in
        e ∙ ap Some (sym value)

digits-units : (text : List ℕ) → all_ascii_digits text ≡ true → list_all (λ unit. ltb unit 65_536) text ≡ true
digits-units [] h = refl
digits-units (c ∷ text) h =
    let p = and_true (is_ascii_digit c) (all_ascii_digits text) h in
    rw (lt-ltb c 65_536 (digit-small c p.0), digits-units text p.1) refl
  where
    digit-small : (c : ℕ) → is_ascii_digit c ≡ true → c < 65_536
    digit-small c h = let q = and_true (leb 48 c) (leb c 57) h in omega (arith, leb-true c 57 q.1)

decimal-text : (n : ℕ) → n ≤ 4_294_967_294 → is_text (signed_decimal (pos n)) ≡ true
decimal-text n le =
    let short : length (signed_decimal (pos n)) ≤ 20 = length_signed_le 19 (pos n) (omega arith) (omega arith) in
    rw (le-leb (length (signed_decimal (pos n))) 1_048_576 (omega arith), digits-units (signed_decimal (pos n)) (digits_decimal own n (omega arith))) refl

-- ---- objects

pub record KeyTold (least : Option ℕ) (x : (List ℕ × Option ℕ) × List ℕ) : Type 0 where
  pub bytes : AreBytes x.1
  pub is : is_text x.0.0 ≡ true
  pub may : may_come least (index_of x.0.0) ≡ true
  pub next : x.0.1 ≡ index_after (index_of x.0.0)

index-told : (least : Option ℕ) (left : ℕ) (z : ℤ) → Holds (λ x. (is_text x.0 ≡ true) × (may_come least (index_of x.0) ≡ true) × (x.1 ≡ index_after (index_of x.0))) (index_key least left z)
unfolding index_key
index-told least left (negsuc n) = tt
index-told least left (pos n) =
    holds-if _ (leb n 4_294_967_294 && may_come least (Some n)) _ _
    (λ e. let q = and_true (leb n 4_294_967_294) (may_come least (Some n)) e in
    let le : n ≤ 4_294_967_294 = leb-true n 4_294_967_294 q.0 in
    (decimal-text n le, rw (decimal-index n le) q.1, rw (decimal-index n le, add-one) refl))
    (λ e. tt)

name-told : (least : Option ℕ) (left : ℕ) (text : List ℕ) → is_text text ≡ true → Holds (λ x. (is_text x.0 ≡ true) × (may_come least (index_of x.0) ≡ true) × (x.1 ≡ index_after (index_of x.0))) (text_key left text)
unfolding text_key
name-told least left text h = by (index_of text) refl
  where
    by : (o : Option ℕ) → index_of text ≡ o → Holds {A = List ℕ × Option ℕ} (λ x. (is_text x.0 ≡ true) × (may_come least (index_of x.0) ≡ true) × (x.1 ≡ index_after (index_of x.0))) (cond (is_none (index_of text)) (Ok (text, None)) (fault left Key))
    by None e = rw e (h, rw e refl, rw e refl)
    by (Some n) e = rw e tt

key-told : (least : Option ℕ) (tag : ℕ) (met : Met) (left : ℕ) (bytes : List ℕ) → AreBytes bytes → Holds (KeyTold least) (key_at least tag met left bytes)
unfolding key_at
key-told least tag met left bytes h =
    holds-if _ (may_be_index tag least) _ _
    (λ e. holds-bind (λ x. (is_safe x.0 ≡ true) × AreBytes x.1) _ (number_at tag left bytes) _ (number-holds tag left bytes h) (λ n q.
    holds-bind (λ x. (is_text x.0 ≡ true) × (may_come least (index_of x.0) ≡ true) × (x.1 ≡ index_after (index_of x.0))) _ (index_key least left n.0) _ (index-told least left n.0) (λ k r.
    record { bytes = q.1; is = r.0; may = r.1; next = r.2 })))
    (λ e. holds-if _ (is_text_tag tag) _ _
    (λ f. holds-bind (λ x. (is_text x.0 ≡ true) × AreBytes x.1) _ (string_at tag left bytes) _ (string-holds tag left bytes h) (λ s q.
    holds-bind (λ x. (is_text x.0 ≡ true) × (may_come least (index_of x.0) ≡ true) × (x.1 ≡ index_after (index_of x.0))) _ (text_key left s.0) _ (name-told least left s.0 q.0) (λ k r.
    record { bytes = q.1; is = r.0; may = r.1; next = r.2 })))
    (λ f. refused-holds (KeyTold least) _ tag met left bytes))

pub record NewTold (xs : List (List ℕ × Item)) (met : Met) (text : List ℕ) (met' : Met) : Type 0 where
  pub counted : Counted (length text) met met'
  pub fresh : list_any (pointwise nat_eq text) (map (λ property. property.0) xs) ≡ false

not_true : (a : Bool) → not a ≡ true → a ≡ false
not_true true h = absurd cc
not_true false h = refl

new-told : (xs : List (List ℕ × Item)) (met : Met) (left : ℕ) (text : List ℕ) → Holds (NewTold xs met text) (new_key xs met left text)
unfolding new_key
new-told xs met left text =
    holds-if _ (is_new text xs) _ _
    (λ e. by (met_words.with_units left (length text) met) (counted-holds left (length text) met) (not_true _ e))
    (λ e. tt)
  where
    by : (r : Result Met Fault) → Holds (Counted (length text) met) r → list_any (pointwise nat_eq text) (map (λ property. property.0) xs) ≡ false → Holds (NewTold xs met text) r
    by (Ok m) c f = record { counted = c; fresh = f }
    by (Err e) c f = tt

any-last : (p : List ℕ → Bool) (ks : List (List ℕ)) (k : List ℕ) → list_any p ks ≡ false → p k ≡ false → list_any p (ks ++ k ∷ []) ≡ false
any-last p [] k h e = rw e refl
any-last p (j ∷ ks) k h e = let q = or_false (p j) (list_any p ks) h in rw (q.0, any-last p ks k q.1 e) refl

distinct-last : (ks : List (List ℕ)) (k : List ℕ) → are_distinct ks ≡ true → list_any (pointwise nat_eq k) ks ≡ false → are_distinct (ks ++ k ∷ []) ≡ true
unfolding are_distinct
distinct-last [] k h f = refl
distinct-last (j ∷ ks) k h f =
    let p = and_true (not (list_any (pointwise nat_eq j) ks)) (are_distinct ks) h in
    let q = or_false (pointwise nat_eq k j) (list_any (pointwise nat_eq k) ks) f in
    rw (any-last (pointwise nat_eq j) ks k (not_true _ p.0) (pointwise-sym j k ∙ q.0), distinct-last ks k p.1 q.1) refl

order-last : (least : Option ℕ) (ks : List (List ℕ)) (k next : List ℕ) → are_in_order least (ks ++ k ∷ []) ≡ true → may_come (index_after (index_of k)) (index_of next) ≡ true
    → are_in_order least ((ks ++ k ∷ []) ++ next ∷ []) ≡ true
unfolding are_in_order
order-last least [] k next h may = let p = and_true (may_come least (index_of k)) true h in rw (p.0, may) refl
order-last least (j ∷ ks) k next h may =
    let p = and_true (may_come least (index_of j)) (are_in_order (index_after (index_of j)) (ks ++ k ∷ [])) h in
    rw (p.0, order-last (index_after (index_of j)) ks k next p.1 may) refl

-- the first key of all
order-first : (k : List ℕ) → may_come (Some 0) (index_of k) ≡ true → are_in_order (Some 0) (k ∷ []) ≡ true
unfolding are_in_order
order-first k h = rw h refl

none-in_order : are_keys [] ≡ true
unfolding are_in_order are_distinct
none-in_order = refl

module _ (ports : ℕ) (visit : List PNode → Item → Tally → Option Tally) (inner : ItemReader) (told : InnerTold ports visit inner) (start : Met) where
  pub object-told : (xs : List (List ℕ × Item)) (least : Option ℕ) (met : Met) (tag left : ℕ) (bytes : List ℕ) → AreBytes (tag ∷ bytes) → met.ports ≡ ports
      → OpenTold ports visit start (Object xs least) met → Holds (TurnTold ports visit start) (object_turn inner xs least met tag left bytes)
  unfolding object_turn node_met contents_met items_of
  object-told xs least met tag left bytes h p l =
      let rest = (and_true (ltb tag 256) (list_all (λ b. ltb b 256) bytes) h).1 in
      let keys : List (List ℕ) = map (λ property. property.0) xs in
      holds-if _ (eqb tag 123) _ _
      (λ e. holds-bind AreBytes _ (count_at (length xs) left bytes) _ (count-told (length xs) left bytes rest) (λ r q.
      record { bytes = q; grew = l.0.grew; fit = rw (all-mapped xs l.0.are_plain) refl; none = refl; walks = λ all buffers continues n t e. rw (e, l.1) (l.0.walks all buffers continues) }))
      (λ e. holds-bind (KeyTold least) _ (key_at least tag met left bytes) _ (key-told least tag met left bytes rest) (λ k q.
      holds-bind (NewTold xs met k.0.0) _ (new_key xs met left k.0.0) _ (new-told xs met left k.0.0) (λ m c.
      let same_nodes : m.nodes ≡ met.nodes = ap (λ (x : Met). x.nodes) c.counted.is in
      let same_ports : m.ports ≡ met.ports = ap (λ (x : Met). x.ports) c.counted.is in
      holds-bind (ItemTold ports visit m) _ (inner m k.1) _ (told m k.1 q.bytes (same_ports ∙ p)) (λ v i.
      let first : Grew ports met m = grew-none ports met m same_nodes same_ports in
      let parts : map (λ property. property.0) (xs ++ (k.0.0, v.0) ∷ []) ≡ keys ++ k.0.0 ∷ [] = map-append (λ property. property.0) xs ((k.0.0, v.0) ∷ []) in
      let ordered : are_in_order (Some 0) (keys ++ k.0.0 ∷ []) ≡ true = l.2 k.0.0 q.may in
      let distinct : are_distinct (keys ++ k.0.0 ∷ []) ≡ true = distinct-last keys k.0.0 (and_true (are_in_order (Some 0) keys) (are_distinct keys) l.1).1 c.fresh in (
        i.bytes,
        i.grew.ports_are ∙ same_ports ∙ p,
        (
          list-last (List ℕ × Item) ports (λ all. visit_property (visit all)) (λ property. is_plain_item property.1) start met v.1 xs (k.0.0, v.0) l.0
              (grew-more ports met m v.1 first i.grew) i.plain
              (λ all buffers continues.
              let s = steps ports all met m v.1 first i.grew buffers continues in
              let counted : tally m ≡ record (tally met) { units = met.units + length k.0.0 } = ap tally c.counted.is in
              rw (text-walks k.0.0 (tally met) q.is c.counted.few) (ap (visit all v.0) (sym counted) ∙ i.walks all s.buffers s.back)),
          rw (parts, ordered, distinct) refl,
          λ next may. rw parts (order-last (Some 0) keys k.0.0 next ordered (subst (λ o. may_come o (index_of next) ≡ true) q.next may)),
        ),
      )))))
    where
      all-mapped : (xs : List (List ℕ × Item)) → list_all (λ property. is_plain_item property.1) xs ≡ true → list_all is_plain_item (map (λ property. property.1) xs) ≡ true
      all-mapped [] h = refl
      all-mapped (x ∷ xs) h = let q = and_true (is_plain_item x.1) (list_all (λ property. is_plain_item property.1) xs) h in rw (q.0, all-mapped xs q.1) refl

  turn-with-told : (begun : Open) (met : Met) (bytes : List ℕ) → AreBytes bytes → met.ports ≡ ports → OpenTold ports visit start begun met → Holds (TurnTold ports visit start) (turn_with inner begun met bytes)
  unfolding turn_with
  turn-with-told begun met [] h p l = tt
  turn-with-told (Object xs least) met (tag ∷ bytes) h p l = object-told xs least met tag (length (tag ∷ bytes)) bytes h p l
  turn-with-told (Array size xs) met (tag ∷ bytes) h p l = array-told ports visit inner told start size xs met tag (length (tag ∷ bytes)) bytes h p l
  turn-with-told (Sparse size xs) met (tag ∷ bytes) h p l = sparse-told ports visit inner told start size xs met tag (length (tag ∷ bytes)) bytes h p l
  turn-with-told (Map xs) met (tag ∷ bytes) h p l = map-told ports visit inner told start xs met tag (length (tag ∷ bytes)) bytes h p l
  turn-with-told (Set xs) met (tag ∷ bytes) h p l = set-told ports visit inner told start xs met tag (length (tag ∷ bytes)) bytes h p l

  turn-told : (begun : Open) (met : Met) (bytes : List ℕ) → AreBytes bytes → met.ports ≡ ports → OpenTold ports visit start begun met → Holds (TurnTold ports visit start) (turn_at inner begun met bytes)
  unfolding turn_at
  turn-told begun met bytes h p l = turn-with-told begun met (unpadded bytes) (bytes-unpadded bytes h) p l

  contents-told : (n : ℕ) (begun : Open) (met : Met) (bytes : List ℕ) → AreBytes bytes → met.ports ≡ ports → OpenTold ports visit start begun met → Holds (NestTold ports visit start) (contents_at inner n begun met bytes)
  unfolding contents_at
  contents-told zero begun met bytes h p l = tt
  contents-told (suc n) begun met bytes h p l =
      holds-bind (TurnTold ports visit start) (NestTold ports visit start) (turn_at inner begun met bytes) _ (turn-told begun met bytes h p l) (after (contents-told n))
    where
      after : ((begun : Open) (met : Met) (bytes : List ℕ) → AreBytes bytes → met.ports ≡ ports → OpenTold ports visit start begun met → Holds (NestTold ports visit start) (contents_at inner n begun met bytes))
          → (x : Turn × Met × List ℕ) → TurnTold ports visit start x → Holds (NestTold ports visit start) (turned (contents_at inner n) x.0 x.1 x.2)
      after more (More begun, met, bytes) q = more begun met bytes q.0 q.1 q.2
      after more (End node, met, bytes) q = q

-- What a node with items begins with.
opened-told : (ports : ℕ) (visit : List PNode → Item → Tally → Option Tally) (start : Met) (tag : ℕ) (bytes : List ℕ) → AreBytes bytes → Holds (λ x. AreBytes x.1 × OpenTold ports visit start x.0 start) (opened_at tag bytes)
unfolding opened_at in_turn
opened-told ports visit start tag bytes h =
    holds-if _ (eqb tag 111) _ _ (λ e. (h, (record { grew = grew-none ports start start refl refl; are_plain = refl; walks = λ all b c. refl }, none-in_order, order-first))) (λ e.
    holds-if _ (eqb tag 59) _ _ (λ e. (h, record { grew = grew-none ports start start refl refl; are_plain = refl; walks = λ all b c. refl })) (λ e.
    holds-if _ (eqb tag 39) _ _ (λ e. (h, record { grew = grew-none ports start start refl refl; are_plain = refl; walks = λ all b c. refl })) (λ e.
    holds-if _ (eqb tag 65) _ _
    (λ e. holds-bind (λ x. (x.0 < 2 ^ 32) × AreBytes x.1) _ (varint_at bytes) _ (varint-holds bytes h) (λ n q. (q.1, record { grew = grew-none ports start start refl refl; are_plain = refl; walks = λ all b c. refl })))
    (λ e. holds-bind (λ x. (x.0 < 2 ^ 32) × AreBytes x.1) _ (varint_at bytes) _ (varint-holds bytes h) (λ n q. (q.1, record { grew = grew-none ports start start refl refl; are_plain = refl; walks = λ all b c. refl }))))))

slice_get-past : (xs ys : List PNode) (a b : PNode) (i : ℕ) → length xs < i → slice_get (xs ++ a ∷ ys) i ≡ slice_get (xs ++ b ∷ ys) i
slice_get-past [] ys a b zero lt = absurd (omega arith)
slice_get-past [] ys a b (suc i) lt = refl
slice_get-past (x ∷ xs) ys a b zero lt = absurd (omega arith)
slice_get-past (x ∷ xs) ys a b (suc i) lt = slice_get-past xs ys a b i (omega arith)

-- A node with items as an item.
nest-made : (ports : ℕ) (visit : List PNode → Item → Tally → Option Tally) (met : Met) (node : PNode) (m : Met) (bytes : List ℕ) → length met.nodes < 100_000
    → NestTold ports visit (record met { nodes = met.nodes ++ kinds.Port 0 ∷ [] }) (node, m, bytes)
    → ValueTold ports visit met (items.Node (length met.nodes), record m { nodes = slice_set m.nodes (length met.nodes) node }, bytes)
unfolding value_met
nest-made ports visit met node m bytes room k =
    let start : List PNode = met.nodes ++ kinds.Port 0 ∷ [] in
    let stood : m.nodes ≡ met.nodes ++ (kinds.Port 0 ∷ k.grew.more) = k.grew.nodes_are ∙ append_assoc met.nodes (kinds.Port 0 ∷ []) k.grew.more in
    let placed : slice_set m.nodes (length met.nodes) node ≡ met.nodes ++ node ∷ k.grew.more =
    ap (λ xs. slice_set xs (length met.nodes) node) stood ∙ set-append_seam met.nodes (kinds.Port 0) k.grew.more node in
    let one : length start ≡ length met.nodes + 1 = length-append met.nodes (kinds.Port 0 ∷ []) in
    let same : length (slice_set m.nodes (length met.nodes) node) ≡ length m.nodes =
    ap length placed ∙ length-append met.nodes (node ∷ k.grew.more) ∙ sym (length-append met.nodes (kinds.Port 0 ∷ k.grew.more)) ∙ sym (ap length stood) in
    record {
      bytes = k.bytes;
      grew = record { more = node ∷ k.grew.more; nodes_are = placed; ports_are = k.grew.ports_are; fit = rw (k.fit, k.grew.fit) refl };
      plain = refl;
      walks = λ all buffers continues.
          let found : slice_get all (length met.nodes) ≡ Some node = continues (length met.nodes) node (omega arith) (ap (λ xs. slice_get xs (length met.nodes)) placed ∙ slice_get-seam met.nodes k.grew.more node) in
          let new : ltb (length met.nodes) (length met.nodes) ≡ false = le-ltb (length met.nodes) (length met.nodes) (omega arith) in
          let inner_buffers : Buffers all start = λ i b e. elim (cases_lt i (length met.nodes)) [
            | inl old ↦ buffers i b (sym (slice_get-front met.nodes (kinds.Port 0 ∷ []) i old) ∙ e)
            | inr last ↦
                let at : i ≡ length met.nodes = let within = slice_get_within start i (kinds.Buffer b) e in omega (arith, one) in
                absurd (let g = sym (slice_get-seam met.nodes [] (kinds.Port 0)) ∙ ap (slice_get start) (sym at) ∙ e in cc)
          ] in
          let inner_continues : Continues all (length start) m.nodes = λ i n le e.
          continues i n (omega (arith, one)) (ap (λ xs. slice_get xs i) placed ∙ slice_get-past met.nodes k.grew.more node (kinds.Port 0) i (omega (arith, one)) ∙ sym (ap (λ xs. slice_get xs i) stood) ∙ e) in
          let number : numbered (length met.nodes) (tally met) ≡ Some (record { nodes = length start; items = met.items; units = met.units }) =
          numbered-walks (length met.nodes) met room refl ∙ ap (λ n. Some (record { nodes = n; items = met.items; units = met.units })) (sym one) in
          rw (new, found) (k.walks all inner_buffers inner_continues (length met.nodes) (tally met) number ∙ ap (λ n. Some (record { nodes = n; items = m.items; units = m.units })) (sym same));
    }

composite-told : (ports : ℕ) (visit : List PNode → Item → Tally → Option Tally) (inner : ItemReader) → InnerTold ports visit inner → (tag : ℕ) (met : Met) (left : ℕ) (bytes : List ℕ) → AreBytes bytes → met.ports ≡ ports
    → Holds (ValueTold ports visit met) (composite_at inner tag met left bytes)
unfolding composite_at
composite-told ports visit inner told tag met left bytes h p = by (are_full met.nodes) refl
  where
    start : Met
    start = record met { nodes = met.nodes ++ kinds.Port 0 ∷ [] }

    reads : length met.nodes < 100_000 → Holds (ValueTold ports visit met) (opened_at tag bytes >>= λ begun. contents_at inner (length begun.1) begun.0 (record met { nodes = met.nodes ++ kinds.Port 0 ∷ [] }) begun.1
        >>= λ x. Ok (items.Node (length met.nodes), record x.1 { nodes = slice_set x.1.nodes (length met.nodes) x.0 }, x.2))
    reads room =
        holds-bind (λ x. AreBytes x.1 × OpenTold ports visit (record met { nodes = met.nodes ++ kinds.Port 0 ∷ [] }) x.0 (record met { nodes = met.nodes ++ kinds.Port 0 ∷ [] })) _ (opened_at tag bytes) _
        (opened-told ports visit (record met { nodes = met.nodes ++ kinds.Port 0 ∷ [] }) tag bytes h) (λ o q.
        holds-bind (NestTold ports visit (record met { nodes = met.nodes ++ kinds.Port 0 ∷ [] })) _ (contents_at inner (length o.1) o.0 (record met { nodes = met.nodes ++ kinds.Port 0 ∷ [] }) o.1) _
        (contents-told ports visit inner told (record met { nodes = met.nodes ++ kinds.Port 0 ∷ [] }) (length o.1) o.0 (record met { nodes = met.nodes ++ kinds.Port 0 ∷ [] }) o.1 q.0 p q.1)
        (λ x k. nest-made ports visit met x.0 x.1 x.2 room k))

    by : (b : Bool) → are_full met.nodes ≡ b → Holds (ValueTold ports visit met) (met_words.with_node left (kinds.Port 0) met >>= λ n. opened_at tag bytes >>= λ begun.
        contents_at inner (length begun.1) begun.0 n.1 begun.1 >>= λ x. Ok (items.Node n.0, record x.1 { nodes = slice_set x.1.nodes n.0 x.0 }, x.2))
    by true e = rw e tt
    by false e = rw e (reads (leb-false 100_000 (length met.nodes) e))

-- ---- items

refused_at-holds : (P : Item × Met × List ℕ → Type 0) (met : Met) (bytes : List ℕ) → Holds P (refused_at met bytes)
unfolding refused_at
refused_at-holds P met [] = tt
refused_at-holds P met (tag ∷ bytes) = refused-holds P _ tag met (length (tag ∷ bytes)) bytes

entered-told : (ports : ℕ) (visit : List PNode → Item → Tally → Option Tally) (inner : ItemReader) → InnerTold ports visit inner → (met : Met) (bytes : List ℕ) → AreBytes bytes → met.ports ≡ ports
    → Holds (ValueTold ports visit met) (entered_at inner met bytes)
unfolding entered_at
entered-told ports visit inner told met [] h p = tt
entered-told ports visit inner told met (tag ∷ bytes) h p =
    let rest = (and_true (ltb tag 256) (list_all (λ b. ltb b 256) bytes) h).1 in
    holds-if _ (is_composite_tag tag) _ _ (λ e. composite-told ports visit inner told tag met (length (tag ∷ bytes)) bytes rest p)
    (λ e. holds-bind (ValueTold ports visit met) _ (leaf_at tag met (length (tag ∷ bytes)) bytes) _ (leaf-told ports visit tag met (length (tag ∷ bytes)) bytes rest p)
    (λ x q. viewed-told ports visit met x.0 x.1 x.2 q))

pub item-told : (ports depth : ℕ) → InnerTold ports (λ all. item_met depth all) (item_at depth)
unfolding item_at item_met
item-told ports zero met bytes h p = refused_at-holds _ met (unpadded bytes)
item-told ports (suc depth) met bytes h p =
    holds-if _ (leb 1_000_000 met.items) _ _ (λ e. refused_at-holds _ met (unpadded bytes)) (λ e.
    let met1 : Met = record met { items = met.items + 1 } in
    by (entered_at (item_at depth) met1 (unpadded bytes)) (leb-false 1_000_000 met.items e)
    (entered-told ports (λ all. item_met depth all) (item_at depth) (item-told ports depth) met1 (unpadded bytes) (bytes-unpadded bytes h) p))
  where
    by : (r : Result (Item × Met × List ℕ) Fault) → met.items < 1_000_000 → Holds (ValueTold ports (λ all. item_met depth all) (record met { items = met.items + 1 })) r → Holds (ItemTold ports (λ all. item_met (suc depth) all) met) r
    by (Err f) room v = tt
    by (Ok x) room v = record {
      bytes = v.bytes;
      grew = record { more = v.grew.more; nodes_are = v.grew.nodes_are; ports_are = v.grew.ports_are; fit = v.grew.fit };
      plain = v.plain;
      walks = λ all buffers continues. rw (lt-ltb met.items 1_000_000 room) (v.walks all buffers continues);
    }
