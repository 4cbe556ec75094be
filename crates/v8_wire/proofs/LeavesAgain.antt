-- A value without items that was written is read again.
use Rattle.std.proofs.Common.{◌⊎◌, ◌≡◌, ℕ, ◌+◌, ◌<◌, ◌≤◌, Bool, true, false, List, [], ◌∷◌, ◌++◌, length, take, Option, Some, None, Ok, ℤ, ◌&&◌, refl, ap, sym, ◌∙◌, subst, append_assoc, arith, inl, inr, add-one}
use Rattle.std.specs.Prelude.{slice_get}
use Rattle.std.proofs.Math.Seq.{take-suc}
use Rattle.std.proofs.lemmas.Bool.{le-ltb, lt-ltb, ltb-true, cases_lt}
use Rattle.std.proofs.lemmas.List.{append-nil, map-append, length-append}
use Rattle.std.proofs.lemmas.Option.{slice_get_within, get_or_from_slice_get}
use borrow.Author.Tests.{leb-true, lt-leb}
use Rattle.parcel.specs.Checked.{with_text, with_units, with_contents, with_message, only_if, is_text, is_contents, is_safe, is_word}
use Rattle.parcel.specs.declared.parcel.Item.{Item}
use Rattle.parcel.specs.declared.parcel.Item.TheVariants as items
use Rattle.parcel.specs.declared.parcel.PNode.{PNode}
use Rattle.parcel.specs.declared.parcel.PNode.TheVariants as kinds
use Rattle.parcel.specs.declared.parcel.ErrorKind.{ErrorKind}
use Rattle.parcel.specs.declared.parcel.ErrorKind.TheVariants.{Error, EvalError, RangeError, ReferenceError, SyntaxError, TypeError, URIError}
use Rattle.parcel.specs.declared.tally.Tally.{Tally}
use Rattle.v8_wire.specs.declared.met.Met.{Met}
use Rattle.v8_wire.specs.Faults.{◌>>=◌}
use Rattle.v8_wire.specs.Met.{are_full}
use Rattle.v8_wire.specs.Met as met_words
use Rattle.v8_wire.specs.Number.{number_at}
use Rattle.v8_wire.specs.Leaf.{unpadded, is_composite_tag, is_text_tag, leaf_at, counted_text_at, node_at, port_at, buffer_at, error_at, kind_at, message_at, stack_at, end_at, text_at, text_with}
use Rattle.v8_wire.specs.Contents.{ItemReader}
use Rattle.v8_wire.specs.Item.{buffer_size, entered_at}
use Rattle.v8_wire.specs.Spelling.{Written, written, varint, number, string, kind_tag, error, put_value, put_contents}
use Rattle.v8_wire.proofs.Again.{some_bind, only_if-is, with_units-is, sizes, Agrees, NoView, viewed_at-none, IsFront}
use Rattle.v8_wire.proofs.NumbersAgain.{varint-again, number-again}
use Rattle.v8_wire.proofs.StringsAgain.{bytes-again, string-again}

pub and_true : (a b : Bool) → (◌&&◌ a b) ≡ true → (a ≡ true) × (b ≡ true)
and_true true b h = (refl, h)
and_true false b h = absurd cc

-- A value of an item that is written, and read again by `inner`.
pub record ValueAgain (ports : ℕ) (nodes : List PNode) (inner : ItemReader) (put : Item → Written → Written) (item : Item) (t t' : Tally) (w : Written) (met : Met) : Type 0 where
  pub piece : List ℕ
  pub tag : ℕ
  pub body : List ℕ
  pub more : List PNode
  pub met' : Met
  pub puts : put_value put nodes item w ≡ written (w.bytes ++ piece) t'.nodes
  pub starts : (tail : List ℕ) → unpadded (piece ++ tail) ≡ tag ∷ (body ++ tail)
  pub front : IsFront tag
  pub reads : (tail : List ℕ) → NoView tail → entered_at inner met (tag ∷ (body ++ tail)) ≡ Ok (item, met', tail)
  pub nodes_are : met'.nodes ≡ met.nodes ++ more
  pub agrees : Agrees ports nodes met' t'
  pub taken : take t'.nodes nodes ≡ take t.nodes nodes ++ more
  pub keeps : t.items ≤ t'.items

-- A leaf is an item, where no view follows.
entered-leaf : (inner : ItemReader) (met : Met) (tag : ℕ) (rest : List ℕ) (item : Item) (met' : Met) (tail : List ℕ) → is_composite_tag tag ≡ false
    → leaf_at tag met (length (tag ∷ rest)) rest ≡ Ok (item, met', tail) → NoView tail → entered_at inner met (tag ∷ rest) ≡ Ok (item, met', tail)
unfolding entered_at
entered-leaf inner met tag rest item met' tail leaf e none = rw (leaf, e) (viewed_at-none item met' tail none)

abbrev pub with_counted : ℕ → Met → Met
with_counted n met = record met { units = met.units + n }

pub counts : (left n : ℕ) (met : Met) (t : Tally) → met.units ≡ t.units → t.units + n ≤ 16_777_216
    → met_words.with_units left n met ≡ Ok (with_counted n met)
counts left n met t e le = rw (le-ltb 16_777_216 (met.units + n) (omega (arith, e))) refl

counted-is : (n : ℕ) (met : Met) (t : Tally) → met.units ≡ t.units → with_counted n met ≡ record met { units = t.units + n }
counted-is n met t e = ap (λ (u : ℕ). record met { units = u + n }) e

uncounted-is : (met : Met) (t : Tally) → met.units ≡ t.units → met ≡ record met { units = t.units }
uncounted-is met t e = ap (λ (u : ℕ). record met { units = u }) e

pub counted-agrees : (ports : ℕ) (nodes : List PNode) (n : ℕ) (met : Met) (t : Tally) → Agrees ports nodes met t → Agrees ports nodes (with_counted n met) (record t { units = t.units + n })
counted-agrees ports nodes n met t a = record {
  ports_are = a.ports_are;
  flags_are = a.flags_are;
  count = a.count;
  few = a.few;
  items_are = a.items_are;
  items_few = a.items_few;
  units_are = ap (λ u. u + n) a.units_are;
  sizes_are = a.sizes_are;
  small = a.small;
}

-- ---- tags of numbers and strings

number-starts : (tag : ℕ) (rest : List ℕ) → (tag ≡ 73) ⊎ (tag ≡ 78) → unpadded (tag ∷ rest) ≡ tag ∷ rest
unfolding unpadded
number-starts tag rest (inl e) = rw e refl
number-starts tag rest (inr e) = rw e refl

pub number-front : (tag : ℕ) → (tag ≡ 73) ⊎ (tag ≡ 78) → IsFront tag
number-front tag (inl e) = rw e (record { no_view = refl; no_map_end = refl; no_set_end = refl; no_hole = refl })
number-front tag (inr e) = rw e (record { no_view = refl; no_map_end = refl; no_set_end = refl; no_hole = refl })

number-leaf : (tag : ℕ) → (tag ≡ 73) ⊎ (tag ≡ 78) → is_composite_tag tag ≡ false
number-leaf tag (inl e) = rw e refl
number-leaf tag (inr e) = rw e refl

leaf_at-number : (tag : ℕ) (met : Met) (left : ℕ) (bytes : List ℕ) → (tag ≡ 73) ⊎ (tag ≡ 78)
    → leaf_at tag met left bytes ≡ (number_at tag left bytes >>= λ x. Ok (items.Num x.0, met, x.1))
unfolding leaf_at
leaf_at-number tag met left bytes (inl e) = rw e refl
leaf_at-number tag met left bytes (inr e) = rw e refl

pub string-front : (tag : ℕ) → (tag ≡ 34) ⊎ (tag ≡ 99) → IsFront tag
string-front tag (inl e) = rw e (record { no_view = refl; no_map_end = refl; no_set_end = refl; no_hole = refl })
string-front tag (inr e) = rw e (record { no_view = refl; no_map_end = refl; no_set_end = refl; no_hole = refl })

string-leaf : (tag : ℕ) → (tag ≡ 34) ⊎ (tag ≡ 99) → is_composite_tag tag ≡ false
string-leaf tag (inl e) = rw e refl
string-leaf tag (inr e) = rw e refl

string-is : (tag : ℕ) → (tag ≡ 34) ⊎ (tag ≡ 99) → is_text_tag tag ≡ true
string-is tag (inl e) = rw e refl
string-is tag (inr e) = rw e refl

leaf_at-string : (tag : ℕ) (met : Met) (left : ℕ) (bytes : List ℕ) → (tag ≡ 34) ⊎ (tag ≡ 99) → leaf_at tag met left bytes ≡ counted_text_at tag met left bytes
unfolding leaf_at
leaf_at-string tag met left bytes (inl e) = rw e refl
leaf_at-string tag met left bytes (inr e) = rw e refl

module _ (ports : ℕ) (nodes : List PNode) (inner : ItemReader) (put : Item → Written → Written) (w : Written) (met : Met) where
  -- a value of one byte
  single-again : (item : Item) (tag : ℕ) (t t' : Tally) → Some t ≡ Some t' → w.nodes ≡ t.nodes → Agrees ports nodes met t
      → put_value put nodes item w ≡ written (w.bytes ++ tag ∷ []) w.nodes → ((tail : List ℕ) → unpadded (tag ∷ tail) ≡ tag ∷ tail) → IsFront tag
      → is_composite_tag tag ≡ false → ((left : ℕ) (tail : List ℕ) → leaf_at tag met left tail ≡ Ok (item, met, tail))
      → ValueAgain ports nodes inner put item t t' w met
  single-again item tag t t' same n a puts starts front leaf reads =
      let e : t ≡ t' = cc in
      subst (λ (x : Tally). ValueAgain ports nodes inner put item t x w met) e (record {
        piece = tag ∷ [];
        tag = tag;
        body = [];
        more = [];
        met' = met;
        puts = puts ∙ ap (λ m. written (w.bytes ++ tag ∷ []) m) n;
        starts = starts;
        front = front;
        reads = λ tail none. entered-leaf inner met tag tail item met tail leaf (reads (length (tag ∷ tail)) tail) none;
        nodes_are = sym (append-nil met.nodes);
        agrees = a;
        taken = sym (append-nil (take t.nodes nodes));
        keeps = omega arith;
      })

  pub undefined-again : (t t' : Tally) → Some t ≡ Some t' → w.nodes ≡ t.nodes → Agrees ports nodes met t
      → ValueAgain ports nodes inner put items.Undefined t t' w met
  unfolding put_value unpadded leaf_at
  undefined-again t t' e n a = single-again items.Undefined 95 t t' e n a refl (λ tail. refl) (record { no_view = refl; no_map_end = refl; no_set_end = refl; no_hole = refl }) refl (λ left tail. refl)

  pub null-again : (t t' : Tally) → Some t ≡ Some t' → w.nodes ≡ t.nodes → Agrees ports nodes met t → ValueAgain ports nodes inner put items.Null t t' w met
  unfolding put_value unpadded leaf_at
  null-again t t' e n a = single-again items.Null 48 t t' e n a refl (λ tail. refl) (record { no_view = refl; no_map_end = refl; no_set_end = refl; no_hole = refl }) refl (λ left tail. refl)

  pub bool-again : (b : Bool) (t t' : Tally) → Some t ≡ Some t' → w.nodes ≡ t.nodes → Agrees ports nodes met t → ValueAgain ports nodes inner put (items.Bool b) t t' w met
  unfolding put_value unpadded leaf_at
  bool-again true t t' e n a = single-again (items.Bool true) 84 t t' e n a refl (λ tail. refl) (record { no_view = refl; no_map_end = refl; no_set_end = refl; no_hole = refl }) refl (λ left tail. refl)
  bool-again false t t' e n a = single-again (items.Bool false) 70 t t' e n a refl (λ tail. refl) (record { no_view = refl; no_map_end = refl; no_set_end = refl; no_hole = refl }) refl (λ left tail. refl)

  pub num-again : (z : ℤ) (t t' : Tally) → only_if (is_safe z) t ≡ Some t' → w.nodes ≡ t.nodes → Agrees ports nodes met t → ValueAgain ports nodes inner put (items.Num z) t t' w met
  unfolding put_value unpadded leaf_at
  num-again z t t' e n a =
      let o = only_if-is (is_safe z) t t' e in
      let k = number-again z o.0 in
      subst (λ (x : Tally). ValueAgain ports nodes inner put (items.Num z) t x w met) o.1 (record {
        piece = number z;
        tag = k.tag;
        body = k.body;
        more = [];
        met' = met;
        puts = ap (λ m. written (w.bytes ++ number z) m) n;
        starts = λ tail. rw k.piece (number-starts k.tag (k.body ++ tail) k.is_number);
        front = number-front k.tag k.is_number;
        reads = λ tail none. entered-leaf inner met k.tag (k.body ++ tail) (items.Num z) met tail (number-leaf k.tag k.is_number)
            (leaf_at-number k.tag met (length (k.tag ∷ (k.body ++ tail))) (k.body ++ tail) k.is_number
            ∙ ap (λ r. r >>= λ x. Ok (items.Num x.0, met, x.1)) (k.again (length (k.tag ∷ (k.body ++ tail))) tail)) none;
        nodes_are = sym (append-nil met.nodes);
        agrees = a;
        taken = sym (append-nil (take t.nodes nodes));
        keeps = omega arith;
      })

  pub str-again : (text : List ℕ) (t t' : Tally) → with_text text t ≡ Some t' → w.nodes ≡ t.nodes → Agrees ports nodes met t → ValueAgain ports nodes inner put (items.Str text) t t' w met
  unfolding put_value counted_text_at
  str-again text t t' e n a =
      let b = some_bind (only_if (is_text text) t) (with_units (length text)) t' e in
      let o = only_if-is (is_text text) t b.0 b.1 in
      let f : with_units (length text) t ≡ Some t' = subst (λ (x : Tally). with_units (length text) x ≡ Some t') (sym o.1) b.2 in
      let u = with_units-is (length text) t t' f in
      let s = string-again (length w.bytes) text (leb-true _ _ (and_true _ _ o.0).0) in
      subst (λ (x : Tally). ValueAgain ports nodes inner put (items.Str text) t x w met) (sym u.1) (record {
        piece = string (length w.bytes) text;
        tag = s.tag;
        body = s.body;
        more = [];
        met' = with_counted (length text) met;
        puts = ap (λ m. written (w.bytes ++ string (length w.bytes) text) m) n;
        starts = s.starts;
        front = string-front s.tag s.is_string;
        reads = λ tail none. entered-leaf inner met s.tag (s.body ++ tail) (items.Str text) (with_counted (length text) met) tail (string-leaf s.tag s.is_string)
            (leaf_at-string s.tag met (length (s.tag ∷ (s.body ++ tail))) (s.body ++ tail) s.is_string
            ∙ rw (s.again (length (s.tag ∷ (s.body ++ tail))) tail, counts (length (s.tag ∷ (s.body ++ tail))) (length text) met t a.units_are u.0) refl) none;
        nodes_are = sym (append-nil met.nodes);
        agrees = counted-agrees ports nodes (length text) met t a;
        taken = sym (append-nil (take t.nodes nodes));
        keeps = omega arith;
      })

-- ---- nodes

pub take-next : (nodes : List PNode) (k : ℕ) (node : PNode) → slice_get nodes k ≡ Some node → take (k + 1) nodes ≡ take k nodes ++ node ∷ []
take-next nodes k node found =
    rw add-one (take-suc nodes k node (slice_get_within nodes k node found) ∙ ap (λ x. take k nodes ++ x ∷ []) (get_or_from_slice_get nodes k node node found))

-- A node more agrees, where it is a buffer of the same size, or none.
pub node-agrees : (ports : ℕ) (nodes : List PNode) (met : Met) (t : Tally) (stands node : PNode) → Agrees ports nodes met t → t.nodes < 100_000
    → slice_get nodes t.nodes ≡ Some node → buffer_size (Some stands) ≡ buffer_size (Some node)
    → ((size : ℕ) → buffer_size (Some node) ≡ Some size → size ≤ 1_048_576)
    → Agrees ports nodes (record met { nodes = met.nodes ++ stands ∷ [] }) (record t { nodes = t.nodes + 1 })
node-agrees ports nodes met t stands node a lt found same fits = record {
  ports_are = a.ports_are;
  flags_are = a.flags_are;
  count = omega (arith, length-append met.nodes (stands ∷ []), a.count);
  few = omega arith;
  items_are = a.items_are;
  items_few = a.items_few;
  units_are = a.units_are;
  sizes_are = map-append (λ x. buffer_size (Some x)) met.nodes (stands ∷ [])
      ∙ ap (λ (front : List (Option ℕ)). front ++ buffer_size (Some stands) ∷ []) a.sizes_are
      ∙ ap (λ (size : Option ℕ). sizes (take t.nodes nodes) ++ size ∷ []) same
      ∙ sym (map-append (λ x. buffer_size (Some x)) (take t.nodes nodes) (node ∷ []))
      ∙ ap sizes (sym (take-next nodes t.nodes node found));
  small = λ i size lt e. elim (cases_lt i t.nodes) [
    | inl below ↦ a.small i size below e
    | inr above ↦
        let last : i ≡ t.nodes = omega arith in
        fits size (ap buffer_size (sym found) ∙ ap (λ (k : ℕ). buffer_size (slice_get nodes k)) (sym last) ∙ e)
  ];
}

pub not_full : (ports : ℕ) (nodes : List PNode) (met : Met) (t : Tally) → Agrees ports nodes met t → t.nodes < 100_000 → are_full met.nodes ≡ false
not_full ports nodes met t a lt = lt-leb 100_000 (length met.nodes) (omega (arith, a.count))

-- What stands in a node without items that is no view, behind its tag.
pub record BodyAgain (node : PNode) (t t' : Tally) (w : Written) (met : Met) : Type 0 where
  pub tag : ℕ
  pub body : List ℕ
  pub puts : (put : Item → Written → Written) → put_contents put node w ≡ written (w.bytes ++ tag ∷ body) w.nodes
  pub is_node : (tag ≡ 114) ⊎ ((tag ≡ 92) ⊎ (tag ≡ 66))
  pub reads : (left : ℕ) (tail : List ℕ) → node_at tag met left (body ++ tail) ≡ Ok (node, record met { units = t'.units }, tail)
  pub others : t' ≡ record t { units = t'.units }
  pub fits : (size : ℕ) → buffer_size (Some node) ≡ Some size → size ≤ 1_048_576

pub port-body : (place : ℕ) (t t' : Tally) (w : Written) (met : Met) → only_if (is_word place) t ≡ Some t'
    → place < met.ports → met.units ≡ t.units → BodyAgain (kinds.Port place) t t' w met
unfolding put_contents node_at port_at
port-body place t t' w met e lt a =
    let o = only_if-is (is_word place) t t' e in
    subst (λ (x : Tally). BodyAgain (kinds.Port place) t x w met) o.1 (record {
      tag = 92;
      body = 77 ∷ varint place;
      puts = λ put. refl;
      is_node = inr (inl refl);
      reads = λ left tail. rw (varint-again place tail (omega (arith, ltb-true _ _ o.0)), lt-ltb place met.ports lt)
          (ap (λ (m : Met). Ok (kinds.Port place, m, tail)) (uncounted-is met t a));
      others = refl;
      fits = λ size h. absurd cc;
    })

pub buffer-body : (bytes : List ℕ) (t t' : Tally) (w : Written) (met : Met) → with_contents bytes t ≡ Some t'
    → met.units ≡ t.units → BodyAgain (kinds.Buffer bytes) t t' w met
unfolding put_contents node_at buffer_at
buffer-body bytes t t' w met e a =
    let b = some_bind (only_if (is_contents bytes) t) (with_units (length bytes)) t' e in
    let o = only_if-is (is_contents bytes) t b.0 b.1 in
    let f : with_units (length bytes) t ≡ Some t' = subst (λ (x : Tally). with_units (length bytes) x ≡ Some t') (sym o.1) b.2 in
    let u = with_units-is (length bytes) t t' f in
    let short : length bytes ≤ 1_048_576 = leb-true _ _ (and_true _ _ o.0).0 in
    subst (λ (x : Tally). BodyAgain (kinds.Buffer bytes) t x w met) (sym u.1) (record {
      tag = 66;
      body = varint (length bytes) ++ bytes;
      puts = λ put. refl;
      is_node = inr (inr refl);
      reads = λ left tail. rw (
        append_assoc (varint (length bytes)) bytes tail,
        varint-again (length bytes) (bytes ++ tail) (omega arith),
        le-ltb 1_048_576 (length bytes) short,
        bytes-again (length bytes) bytes tail refl,
        counts left (length bytes) met t a u.0,
      )
          (ap (λ (m : Met). Ok (kinds.Buffer bytes, m, tail)) (counted-is (length bytes) met t a));
      others = refl;
      fits = λ size h. let same : length bytes ≡ size = cc in omega arith;
    })

-- ---- errors

kind-again : (kind : ErrorKind) (b : ℕ) (rest : List ℕ) → (b ≡ 109) ⊎ (b ≡ 46) → kind_at (kind_tag kind ++ (b ∷ rest)) ≡ (kind, b ∷ rest)
unfolding kind_at
kind-again Error b rest (inl e) = rw e refl
kind-again Error b rest (inr e) = rw e refl
kind-again EvalError b rest e = refl
kind-again RangeError b rest e = refl
kind-again ReferenceError b rest e = refl
kind-again SyntaxError b rest e = refl
kind-again TypeError b rest e = refl
kind-again URIError b rest e = refl

text_at-again : (at : ℕ) (text tail : List ℕ) → length text ≤ 1_048_576
    → (left : ℕ) × (text_at (string at text ++ tail) ≡ Ok (left, text, tail))
unfolding text_at text_with
text_at-again at text tail le =
    let s = string-again at text le in
    let left = length (s.tag ∷ (s.body ++ tail)) in
    (left, rw (s.starts tail, string-is s.tag s.is_string, s.again left tail) refl)

error-none : (kind : ErrorKind) (met : Met) (tail : List ℕ) → error_at met ((kind_tag kind ++ 46 ∷ []) ++ tail) ≡ Ok (kinds.Error kind None, met, tail)
unfolding error_at message_at stack_at end_at
error-none kind met tail =
    rw (append_assoc (kind_tag kind) (46 ∷ []) tail, kind-again kind 46 tail (inr refl)) refl

error-some : (kind : ErrorKind) (met : Met) (bytes text tail : List ℕ) (left : ℕ) (met' : Met) → text_at (bytes ++ (46 ∷ tail)) ≡ Ok (left, text, 46 ∷ tail)
    → met_words.with_units left (length text) met ≡ Ok met'
    → error_at met ((kind_tag kind ++ (109 ∷ (bytes ++ 46 ∷ []))) ++ tail) ≡ Ok (kinds.Error kind (Some text), met', tail)
unfolding error_at message_at stack_at end_at
error-some kind met bytes text tail left met' e u =
    let parts : (kind_tag kind ++ (109 ∷ (bytes ++ 46 ∷ []))) ++ tail ≡ kind_tag kind ++ (109 ∷ (bytes ++ (46 ∷ tail))) =
    append_assoc (kind_tag kind) (109 ∷ (bytes ++ 46 ∷ [])) tail ∙ ap (λ (x : List ℕ). kind_tag kind ++ (109 ∷ x)) (append_assoc bytes (46 ∷ []) tail) in
    rw (parts, kind-again kind 109 (bytes ++ (46 ∷ tail)) (inl refl), e, u) refl

pub error-body : (kind : ErrorKind) (text : Option (List ℕ)) (t t' : Tally) (w : Written) (met : Met) → with_message text t ≡ Some t'
    → met.units ≡ t.units → BodyAgain (kinds.Error kind text) t t' w met
unfolding put_contents node_at error
error-body kind None t t' w met e a =
    let same : t ≡ t' = cc in
    subst (λ (x : Tally). BodyAgain (kinds.Error kind None) t x w met) same (record {
      tag = 114;
      body = kind_tag kind ++ 46 ∷ [];
      puts = λ put. ap (λ bytes. written bytes w.nodes) (append_assoc w.bytes (114 ∷ kind_tag kind) (46 ∷ []));
      is_node = inl refl;
      reads = λ left tail. error-none kind met tail ∙ ap (λ (m : Met). Ok (kinds.Error kind None, m, tail)) (uncounted-is met t a);
      others = refl;
      fits = λ size h. absurd cc;
    })
error-body kind (Some text) t t' w met e a =
    let b = some_bind (only_if (is_text text) t) (with_units (length text)) t' e in
    let o = only_if-is (is_text text) t b.0 b.1 in
    let f : with_units (length text) t ≡ Some t' = subst (λ (x : Tally). with_units (length text) x ≡ Some t') (sym o.1) b.2 in
    let u = with_units-is (length text) t t' f in
    let at = length (w.bytes ++ (114 ∷ kind_tag kind)) + 1 in
    let regrouped : ((w.bytes ++ (114 ∷ kind_tag kind)) ++ 109 ∷ [] ++ string at text) ++ 46 ∷ [] ≡ w.bytes ++ (114 ∷ (kind_tag kind ++ (109 ∷ (string at text ++ 46 ∷ [])))) = simp append_assoc in
    subst (λ (x : Tally). BodyAgain (kinds.Error kind (Some text)) t x w met) (sym u.1) (record {
      tag = 114;
      body = kind_tag kind ++ (109 ∷ (string at text ++ 46 ∷ []));
      puts = λ put. ap (λ bytes. written bytes w.nodes) regrouped;
      is_node = inl refl;
      reads = λ left tail.
          let m = text_at-again at text (46 ∷ tail) (leb-true _ _ (and_true _ _ o.0).0) in
          error-some kind met (string at text) text tail m.0 (with_counted (length text) met) m.1 (counts m.0 (length text) met t a u.0)
          ∙ ap (λ (m : Met). Ok (kinds.Error kind (Some text), m, tail)) (counted-is (length text) met t a);
      others = refl;
      fits = λ size h. absurd cc;
    })
