-- A view at the root of a checked parcel: its buffer is spelled in front of it.
use Rattle.std.proofs.Common.{◌≡◌, ℕ, suc, ◌+◌, List, [], ◌∷◌, ◌++◌, length, Option, Some, None, Bool, true, false, refl, ap, sym, ◌∙◌, subst, arith, leb, ltb}
use Rattle.std.specs.Prelude.{slice_get, IsTrue, if◌then◌else◌, nat_lt}
use Rattle.std.proofs.lemmas.Bool.{le-ltb}
use Rattle.parcel.specs.Checked as checked
use Rattle.parcel.specs.Checked.{all_met, is_checked, IsChecked, ends_with, nothing_met, item_met, value_met, node_met, buffer_met, contents_met, numbered, only_if, with_contents, with_units, is_contents}
use Rattle.parcel.specs.Plain.{is_plain, IsPlain, ports_below, items_of}
use Rattle.parcel.specs.declared.parcel.Item.{Item}
use Rattle.parcel.specs.declared.parcel.Item.TheVariants.{Node}
use Rattle.parcel.specs.declared.parcel.PNode.{PNode}
use Rattle.parcel.specs.declared.parcel.PNode.TheVariants.{Buffer, View}
use Rattle.parcel.specs.declared.parcel.Parcel.{Parcel}
use Rattle.parcel.specs.declared.tally.Tally.{Tally}
use Rattle.v8_wire.specs.Spelling.{Written, written, spelled, put_item, put_value, put_node, put_buffer, put_contents, buffer, varint}
use Rattle.v8_wire.proofs.Again.{some_bind, only_if-is, with_units-is, numbered-is}
use Rattle.wire_laws.specs.Fronts.{contents_of, seen_by, seen_at, buffer_alone}

-- A view, and its buffer.
pub record HasView (nodes : List PNode) (root : Item) (bytes : List ℕ) : Type 0 where
  pub view : ℕ
  pub of : ℕ
  pub offset : ℕ
  pub size : ℕ
  pub root_is : root ≡ Node view
  pub found : slice_get nodes view ≡ Some (View of offset size)
  pub stands : slice_get nodes of ≡ Some (Buffer bytes)

buffer-is : (o : Option PNode) (bytes : List ℕ) → contents_of o ≡ Some bytes → o ≡ Some (Buffer bytes)
buffer-is (Some (Buffer found)) bytes e = cc
buffer-is o bytes e = absurd cc

by-node : (nodes : List PNode) (view : ℕ) (o : Option PNode) (bytes : List ℕ) → slice_get nodes view ≡ o → seen_by nodes o ≡ Some bytes → HasView nodes (Node view) bytes
by-node nodes view (Some (View of offset size)) bytes found e = record {
  view = view;
  of = of;
  offset = offset;
  size = size;
  root_is = refl;
  found = found;
  stands = buffer-is (slice_get nodes of) bytes e;
}
by-node nodes view o bytes found e = absurd cc

pub has_view : (nodes : List PNode) (root : Item) (bytes : List ℕ) → seen_at nodes root ≡ Some bytes → HasView nodes root bytes
has_view nodes (Node view) bytes e = by-node nodes view (slice_get nodes view) bytes refl e
has_view nodes root bytes e = absurd cc

-- ---- the walk over it

-- the number of a buffer that may have one
abbrev placed : ℕ → List ℕ → Tally → Option Tally
placed of bytes t = if nat_lt of t.nodes then Some t else checked.◌>>=◌ (numbered of t) (with_contents bytes)

-- The buffer is the first node, the view the second.
pub record IsWalked (v of : ℕ) (bytes : List ℕ) : Type 0 where
  pub of_is : of ≡ 0
  pub view_is : v ≡ 1
  pub met : Tally
  pub visits : (checked.◌>>=◌ (numbered 0 (record { nodes = 0; items = 1; units = 0 })) (with_contents bytes)) ≡ Some met
  pub one : met.nodes ≡ 1

contents-keep : (bytes : List ℕ) (t t' : Tally) → with_contents bytes t ≡ Some t' → t'.nodes ≡ t.nodes
contents-keep bytes t t' e =
    let b = some_bind (only_if (is_contents bytes) t) (with_units (length bytes)) t' e in
    let o = only_if-is (is_contents bytes) t b.0 b.1 in
    let u = with_units-is (length bytes) b.0 t' b.2 in
    ap (λ (t : Tally). t.nodes) u.1 ∙ ap (λ (t : Tally). t.nodes) (sym o.1)

-- the numbers of a buffer and a view behind it
counted : (v of : ℕ) (bytes : List ℕ) (s t' : Tally) → (checked.◌>>=◌ (numbered of (record { nodes = 0; items = 1; units = 0 })) (with_contents bytes)) ≡ Some s → numbered v s ≡ Some t' → IsWalked v of bytes
counted v of bytes s t' g e =
    let start : Tally = record { nodes = 0; items = 1; units = 0 } in
    let m = some_bind (numbered of start) (with_contents bytes) s g in
    let n = numbered-is of start m.0 m.1 in
    let one : m.0.nodes ≡ 1 = ap (λ (t : Tally). t.nodes) n.2 in
    let kept : s.nodes ≡ m.0.nodes = contents-keep bytes m.0 s m.2 in
    let l = numbered-is v s t' e in record {
      of_is = n.0;
      view_is = l.0 ∙ kept ∙ one;
      met = s;
      visits = subst (λ (x : ℕ). (checked.◌>>=◌ (numbered x start) (with_contents bytes)) ≡ Some s) n.0 g;
      one = kept ∙ one;
    }

pub walked : (depth : ℕ) (nodes : List PNode) (v of offset size : ℕ) (bytes : List ℕ) (t' : Tally) → slice_get nodes v ≡ Some (View of offset size) → slice_get nodes of ≡ Some (Buffer bytes)
    → item_met (suc depth) nodes (Node v) nothing_met ≡ Some t' → IsWalked v of bytes
unfolding item_met value_met node_met buffer_met
walked depth nodes v of offset size bytes t' found stands e =
    let start : Tally = record { nodes = 0; items = 1; units = 0 } in
    let f = rw (le-ltb v 0 (omega arith), found, stands) at e in
    let s = some_bind (buffer_met of offset size (Some (Buffer bytes)) start) (numbered v) t' f in
    let fits : Bool = leb (offset + size) (length bytes) in
    let b = some_bind (only_if fits start) (placed of bytes) s.0 s.1 in
    let o = only_if-is fits start b.0 b.1 in
    let g = rw (← o.1, le-ltb of 0 (omega arith)) at b.2 in
    counted v of bytes s.0 t' g s.2

walk-of : (count : ℕ) (o : Option Tally) → ends_with count o ≡ true → (t : Tally) × (o ≡ Some t)
walk-of count None h = absurd cc
walk-of count (Some t) h = (t, refl)

pub checked-walked : (parcel : Parcel) (bytes : List ℕ) → IsChecked parcel → (h : HasView parcel.nodes parcel.root bytes) → IsWalked h.view h.of bytes
unfolding is_checked all_met
checked-walked parcel bytes c h =
    let w = walk-of (length parcel.nodes) (all_met parcel) c in
    walked 1_000 parcel.nodes h.view h.of h.offset h.size bytes w.0 h.found h.stands (ap (λ (item : Item). item_met 1_001 parcel.nodes item nothing_met) (sym h.root_is) ∙ w.1)

-- ---- the buffer alone

pub alone-checked : (bytes : List ℕ) (v of : ℕ) → IsWalked v of bytes → IsChecked (buffer_alone bytes)
unfolding is_checked all_met item_met value_met node_met contents_met
alone-checked bytes v of w = rw (w.visits, w.one) refl

pub alone-plain : (bytes : List ℕ) → IsPlain (buffer_alone bytes)
unfolding is_plain items_of
alone-plain bytes = refl

pub alone-below : (bytes : List ℕ) (ports : ℕ) → IsTrue (ports_below ports (buffer_alone bytes))
unfolding ports_below
alone-below bytes ports = refl

pub alone-spelled : (bytes : List ℕ) → spelled (buffer_alone bytes) ≡ 255 ∷ 15 ∷ buffer bytes
unfolding spelled put_item put_value put_node put_contents
alone-spelled bytes = refl

-- ---- the view

put-view : (put : Item → Written → Written) (nodes : List PNode) (v of offset size : ℕ) (bytes : List ℕ) (w : Written) → ltb v w.nodes ≡ false → ltb of w.nodes ≡ false
    → slice_get nodes v ≡ Some (View of offset size) → slice_get nodes of ≡ Some (Buffer bytes)
    → put_value put nodes (Node v) w ≡ written ((w.bytes ++ buffer bytes) ++ (86 ∷ 66 ∷ varint offset ++ (varint size ++ 0 ∷ []))) (v + 1)
unfolding put_value put_node put_buffer
put-view put nodes v of offset size bytes w first front found stands = rw (first, found, stands, front) refl

pub view-spelled : (parcel : Parcel) (bytes : List ℕ) (h : HasView parcel.nodes parcel.root bytes)
    → spelled parcel ≡ 255 ∷ 15 ∷ (buffer bytes ++ (86 ∷ 66 ∷ varint h.offset ++ (varint h.size ++ 0 ∷ [])))
unfolding spelled put_item
view-spelled parcel bytes h =
    ap (λ (item : Item). (put_item 1_001 parcel.nodes item (written (255 ∷ 15 ∷ []) 0)).bytes) h.root_is
    ∙ ap (λ (w : Written). w.bytes) (put-view (put_item 1_000 parcel.nodes) parcel.nodes h.view h.of h.offset h.size bytes (written (255 ∷ 15 ∷ []) 0)
    (le-ltb h.view 0 (omega arith)) (le-ltb h.of 0 (omega arith)) h.found h.stands)
