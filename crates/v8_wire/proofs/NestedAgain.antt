-- A node with items that was written is read again, and so is any item.
use Rattle.std.proofs.Common.{◌≡◌, ℕ, zero, suc, ◌+◌, ◌*◌, ◌<◌, ◌≤◌, ◌^◌, Bool, true, false, cond, ◌&&◌, List, [], ◌∷◌, ◌++◌, length, map, take, Option, Some, None, Result, Ok, Err, refl, ap, sym, ◌∙◌, subst, append_assoc, arith, inl, inr, eqb, ltb, leb}
use Rattle.std.specs.Prelude.{slice_get, slice_set}
use Rattle.std.specs.List.{list_all, flat_map}
use Rattle.std.proofs.Math.Seq.{set-append_seam}
use Rattle.std.proofs.lemmas.Bool.{le-ltb, lt-ltb, ltb-true, cases_lt}
use Rattle.std.proofs.lemmas.List.{length-append, map-append}
use borrow.Author.Tests.{lt-leb}
use Rattle.parcel.specs.Checked as checked
use Rattle.parcel.specs.Checked.{in_turn, visit_property, visit_entry, contents_met, node_met, value_met, item_met, with_item, only_if, numbered}
use Rattle.parcel.specs.Keys.{are_keys}
use Rattle.parcel.specs.Plain.{is_plain_item, items_of, is_port_below}
use Rattle.parcel.specs.declared.parcel.Item.{Item}
use Rattle.parcel.specs.declared.parcel.Item.TheVariants as items
use Rattle.parcel.specs.declared.parcel.PNode.{PNode}
use Rattle.parcel.specs.declared.parcel.PNode.TheVariants as kinds
use Rattle.parcel.specs.declared.tally.Tally.{Tally}
use Rattle.v8_wire.specs.declared.fault.Fault.{Fault}
use Rattle.v8_wire.specs.declared.met.Met.{Met}
use Rattle.v8_wire.specs.declared.open.Open.{Open}
use Rattle.v8_wire.specs.declared.open.Open.TheVariants.{Object, Array, Map, Set}
use Rattle.v8_wire.specs.declared.open.Turn.TheVariants.{End}
use Rattle.v8_wire.specs.Faults.{◌>>=◌}
use Rattle.v8_wire.specs.Leaf.{unpadded, is_composite_tag}
use Rattle.v8_wire.specs.Contents.{ItemReader, opened_at, turn_at, contents_at}
use Rattle.v8_wire.specs.Item.{buffer_size, composite_at, entered_at, item_at}
use Rattle.v8_wire.specs.Spelling.{Written, written, with_bytes, varint, put_property, put_entry, put_contents, put_node, put_value, put_item}
use Rattle.v8_wire.proofs.Again.{some_bind, only_if-is, with_item-is, numbered-is, sizes, Agrees, NoView-tag, IsFront}
use Rattle.v8_wire.proofs.NumbersAgain.{varint-again}
use Rattle.v8_wire.proofs.LeavesAgain.{and_true, ValueAgain, node-agrees, not_full, take-next, undefined-again, null-again, bool-again, num-again, str-again, error-body, port-body, buffer-body}
use Rattle.v8_wire.proofs.NodesAgain.{reference-again, first-again, view-again}
use Rattle.v8_wire.proofs.ListsAgain.{RestAgain, rest-again}
use Rattle.v8_wire.proofs.TurnsAgain.{InnerAgain, IsArray, array-one, array-end, IsSet, set-one, set-end, is_plain_entry, IsMap, map-one, map-end}
use Rattle.v8_wire.proofs.KeysAgain.{keys, least_of, IsObject, object-one, object-end}
use Rattle.v8_wire.proofs.Turns.{contents_at-turn}

-- What stands in a node with items, behind its tag.
record NestAgain (ports : ℕ) (nodes : List PNode) (inner : ItemReader) (put : Item → Written → Written) (node : PNode) (t t' : Tally) (w : Written) (met : Met) : Type 0 where
  tag : ℕ
  body : List ℕ
  more : List PNode
  met' : Met
  puts : put_contents put node w ≡ written (w.bytes ++ tag ∷ body) t'.nodes
  starts : (tail : List ℕ) → unpadded (tag ∷ (body ++ tail)) ≡ tag ∷ (body ++ tail)
  front : IsFront tag
  nests : is_composite_tag tag ≡ true
  reads : (tail : List ℕ) → (opened_at tag (body ++ tail) >>= λ begun. contents_at inner (length begun.1) begun.0 met begun.1) ≡ Ok (node, met', tail)
  nodes_are : met'.nodes ≡ met.nodes ++ more
  agrees : Agrees ports nodes met' t'
  taken : take t'.nodes nodes ≡ take t.nodes nodes ++ more
  keeps : t.items ≤ t'.items

-- All items, and then the end.
ends : (A : Type 0) (ports : ℕ) (nodes : List PNode) (inner : ItemReader) (begun : List A → Open) (put : A → Written → Written) (P : List A → List A → Type 0) (xs : List A) (t t' : Tally) (w : Written) (met : Met)
    (r : RestAgain A ports nodes inner begun put P [] xs t t' w met) (tag : ℕ) (end_bytes : List ℕ) (node : PNode)
    → ((tail : List ℕ) → unpadded ((tag ∷ end_bytes) ++ tail) ≡ tag ∷ (end_bytes ++ tail)) → eqb tag 86 ≡ false
    → ((tail : List ℕ) → turn_at inner (begun xs) r.met' ((tag ∷ end_bytes) ++ tail) ≡ Ok (End node, r.met', tail))
    → (tail : List ℕ) → contents_at inner (length ((r.piece ++ (tag ∷ end_bytes)) ++ tail)) (begun []) met ((r.piece ++ (tag ∷ end_bytes)) ++ tail) ≡ Ok (node, r.met', tail)
ends A ports nodes inner begun put P xs t t' w met r tag end_bytes node starts other last tail =
    let rest = (tag ∷ end_bytes) ++ tail in
    let regrouped : (r.piece ++ (tag ∷ end_bytes)) ++ tail ≡ r.piece ++ rest = append_assoc r.piece (tag ∷ end_bytes) tail in
    let n = length (r.piece ++ rest) in
    let q = r.reads n rest (NoView-tag rest tag (end_bytes ++ tail) (starts tail) other) (omega arith) in
    let s = contents_at-turn inner q.0 (begun xs) r.met' rest (End node, r.met', tail) q.1 (last tail) in
    ap (λ (bytes : List ℕ). contents_at inner (length bytes) (begun []) met bytes) regrouped ∙ q.2 ∙ s.2

module _ (ports : ℕ) (nodes : List PNode) (inner : ItemReader) (put : Item → Written → Written) (visit : Item → Tally → Option Tally) (again : InnerAgain ports nodes inner put visit) where
  array-nest : (xs : List Item) (t t' : Tally) (w : Written) (met : Met) → list_all is_plain_item xs ≡ true → in_turn visit xs t ≡ Some t' → w.nodes ≡ t.nodes → Agrees ports nodes met t
      → NestAgain ports nodes inner put (kinds.Array xs) t t' w met
  unfolding put_contents unpadded opened_at
  array-nest xs t t' w met plain e n a =
      let r = rest-again Item ports nodes inner (λ l. Array (length xs) l) visit put (IsArray ports nodes inner put visit again (length xs)) (array-one ports nodes inner put visit again (length xs))
      xs [] t t' (with_bytes (65 ∷ varint (length xs)) w) met (omega arith, plain) e n a in
      let small : length xs < 2 ^ 32 = omega (arith, r.grows, r.agrees.items_few) in
      record {
        tag = 65;
        body = varint (length xs) ++ (r.piece ++ (36 ∷ 0 ∷ varint (length xs)));
        more = r.more;
        met' = r.met';
        puts = ap (with_bytes (36 ∷ 0 ∷ varint (length xs))) r.puts
            ∙ ap (λ (bytes : List ℕ). written bytes t'.nodes) (append_assoc (w.bytes ++ (65 ∷ varint (length xs))) r.piece (36 ∷ 0 ∷ varint (length xs))
            ∙ append_assoc w.bytes (65 ∷ varint (length xs)) (r.piece ++ (36 ∷ 0 ∷ varint (length xs))));
        starts = λ tail. refl;
        front = record { no_view = refl; no_map_end = refl; no_set_end = refl; no_hole = refl };
        nests = refl;
        reads = λ tail. rw (
          append_assoc (varint (length xs)) (r.piece ++ (36 ∷ 0 ∷ varint (length xs))) tail,
          varint-again (length xs) ((r.piece ++ (36 ∷ 0 ∷ varint (length xs))) ++ tail) small,
        )
            (ends Item ports nodes inner (λ l. Array (length xs) l) put (IsArray ports nodes inner put visit again (length xs)) xs t t' (with_bytes (65 ∷ varint (length xs)) w) met r
            36 (0 ∷ varint (length xs)) (kinds.Array xs) (λ tail. refl) refl (λ tail. array-end ports nodes inner put visit again (length xs) xs r.met' tail refl small) tail);
        nodes_are = r.nodes_are;
        agrees = r.agrees;
        taken = r.taken;
        keeps = omega (arith, r.grows);
      }

  set-nest : (xs : List Item) (t t' : Tally) (w : Written) (met : Met) → list_all is_plain_item xs ≡ true → in_turn visit xs t ≡ Some t' → w.nodes ≡ t.nodes → Agrees ports nodes met t
      → NestAgain ports nodes inner put (kinds.Set xs) t t' w met
  unfolding put_contents unpadded opened_at
  set-nest xs t t' w met plain e n a =
      let r = rest-again Item ports nodes inner (λ l. Set l) visit put (IsSet ports nodes inner put visit again) (set-one ports nodes inner put visit again)
      xs [] t t' (with_bytes (39 ∷ []) w) met plain e n a in
      let small : length xs < 2 ^ 32 = omega (arith, r.grows, r.agrees.items_few) in
      record {
        tag = 39;
        body = r.piece ++ (44 ∷ varint (length xs));
        more = r.more;
        met' = r.met';
        puts = ap (with_bytes (44 ∷ varint (length xs))) r.puts
            ∙ ap (λ (bytes : List ℕ). written bytes t'.nodes) (append_assoc (w.bytes ++ 39 ∷ []) r.piece (44 ∷ varint (length xs)) ∙ append_assoc w.bytes (39 ∷ []) (r.piece ++ (44 ∷ varint (length xs))));
        starts = λ tail. refl;
        front = record { no_view = refl; no_map_end = refl; no_set_end = refl; no_hole = refl };
        nests = refl;
        reads = λ tail. ends Item ports nodes inner (λ l. Set l) put (IsSet ports nodes inner put visit again) xs t t' (with_bytes (39 ∷ []) w) met r
            44 (varint (length xs)) (kinds.Set xs) (λ tail. refl) refl (λ tail. set-end ports nodes inner put visit again xs r.met' tail small) tail;
        nodes_are = r.nodes_are;
        agrees = r.agrees;
        taken = r.taken;
        keeps = omega (arith, r.grows);
      }

  map-nest : (xs : List (Item × Item)) (t t' : Tally) (w : Written) (met : Met) → list_all (is_plain_entry ports nodes inner put visit again) xs ≡ true → in_turn (visit_entry visit) xs t ≡ Some t'
      → w.nodes ≡ t.nodes → Agrees ports nodes met t → NestAgain ports nodes inner put (kinds.Map xs) t t' w met
  unfolding put_contents unpadded opened_at
  map-nest xs t t' w met plain e n a =
      let r = rest-again (Item × Item) ports nodes inner (λ l. Map l) (visit_entry visit) (put_entry put) (IsMap ports nodes inner put visit again) (map-one ports nodes inner put visit again)
      xs [] t t' (with_bytes (59 ∷ []) w) met plain e n a in
      let small : 2 * length xs < 2 ^ 32 = omega (arith, r.grows, r.agrees.items_few) in
      record {
        tag = 59;
        body = r.piece ++ (58 ∷ varint (2 * length xs));
        more = r.more;
        met' = r.met';
        puts = ap (with_bytes (58 ∷ varint (2 * length xs))) r.puts
            ∙ ap (λ (bytes : List ℕ). written bytes t'.nodes) (append_assoc (w.bytes ++ 59 ∷ []) r.piece (58 ∷ varint (2 * length xs)) ∙ append_assoc w.bytes (59 ∷ []) (r.piece ++ (58 ∷ varint (2 * length xs))));
        starts = λ tail. refl;
        front = record { no_view = refl; no_map_end = refl; no_set_end = refl; no_hole = refl };
        nests = refl;
        reads = λ tail. ends (Item × Item) ports nodes inner (λ l. Map l) (put_entry put) (IsMap ports nodes inner put visit again) xs t t' (with_bytes (59 ∷ []) w) met r
            58 (varint (2 * length xs)) (kinds.Map xs) (λ tail. refl) refl (λ tail. map-end ports nodes inner put visit again xs r.met' tail small) tail;
        nodes_are = r.nodes_are;
        agrees = r.agrees;
        taken = r.taken;
        keeps = omega (arith, r.grows);
      }

  object-nest : (xs : List (List ℕ × Item)) (t t' : Tally) (w : Written) (met : Met) → are_keys (keys xs) ≡ true → list_all (λ property. is_plain_item property.1) xs ≡ true
      → in_turn (visit_property visit) xs t ≡ Some t' → w.nodes ≡ t.nodes → Agrees ports nodes met t → NestAgain ports nodes inner put (kinds.Object xs) t t' w met
  unfolding put_contents unpadded opened_at least_of
  object-nest xs t t' w met in_order plain e n a =
      let order = and_true _ _ in_order in
      let r = rest-again (List ℕ × Item) ports nodes inner (λ l. Object l (least_of l)) (visit_property visit) (put_property put) IsObject (object-one ports nodes inner put visit again)
      xs [] t t' (with_bytes (111 ∷ []) w) met (record { in_order = order.0; distinct = order.1; plain = plain }) e n a in
      let small : length xs < 2 ^ 32 = omega (arith, r.grows, r.agrees.items_few) in
      record {
        tag = 111;
        body = r.piece ++ (123 ∷ varint (length xs));
        more = r.more;
        met' = r.met';
        puts = ap (with_bytes (123 ∷ varint (length xs))) r.puts
            ∙ ap (λ (bytes : List ℕ). written bytes t'.nodes) (append_assoc (w.bytes ++ 111 ∷ []) r.piece (123 ∷ varint (length xs)) ∙ append_assoc w.bytes (111 ∷ []) (r.piece ++ (123 ∷ varint (length xs))));
        starts = λ tail. refl;
        front = record { no_view = refl; no_map_end = refl; no_set_end = refl; no_hole = refl };
        nests = refl;
        reads = λ tail. ends (List ℕ × Item) ports nodes inner (λ l. Object l (least_of l)) (put_property put) IsObject xs t t' (with_bytes (111 ∷ []) w) met r
            123 (varint (length xs)) (kinds.Object xs) (λ tail. refl) refl (λ tail. object-end ports nodes inner put visit again xs (least_of xs) r.met' tail small) tail;
        nodes_are = r.nodes_are;
        agrees = r.agrees;
        taken = r.taken;
        keeps = omega (arith, r.grows);
      }

-- ---- a node with items as an item

bind-assoc : {A B C : Type 0} (r : Result A Fault) (f : A → Result B Fault) (g : B → Result C Fault) → (r >>= λ a. f a >>= g) ≡ ((r >>= f) >>= g)
bind-assoc (Ok x) f g = refl
bind-assoc (Err e) f g = refl

-- The node takes the place that was kept for it.
placed-nodes : (front more : List PNode) (stands node : PNode) (after : List PNode) → after ≡ (front ++ stands ∷ []) ++ more → slice_set after (length front) node ≡ front ++ node ∷ more
placed-nodes front more stands node after e =
    ap (λ xs. slice_set xs (length front) node) (e ∙ append_assoc front (stands ∷ []) more) ∙ set-append_seam front stands more node

nest-agrees : (ports : ℕ) (nodes : List PNode) (met' : Met) (t' : Tally) (front more after : List PNode) (node : PNode) → Agrees ports nodes met' t'
    → met'.nodes ≡ (front ++ kinds.Port 0 ∷ []) ++ more → after ≡ front ++ node ∷ more → buffer_size (Some node) ≡ None → Agrees ports nodes (record met' { nodes = after }) t'
nest-agrees ports nodes met' t' front more after node a stood placed none = record {
  ports_are = a.ports_are;
  flags_are = a.flags_are;
  count = omega (arith, ap length stood, ap length placed, length-append (front ++ kinds.Port 0 ∷ []) more, length-append front (kinds.Port 0 ∷ []), length-append front (node ∷ more), a.count);
  few = a.few;
  items_are = a.items_are;
  items_few = a.items_few;
  units_are = a.units_are;
  sizes_are = ap sizes placed ∙ map-append (λ x. buffer_size (Some x)) front (node ∷ more) ∙ ap (λ (s : Option ℕ). sizes front ++ s ∷ sizes more) none
      ∙ sym (map-append (λ x. buffer_size (Some x)) front (kinds.Port 0 ∷ more)) ∙ ap sizes (sym (stood ∙ append_assoc front (kinds.Port 0 ∷ []) more)) ∙ a.sizes_are;
  small = a.small;
}

nest-again : (ports : ℕ) (nodes : List PNode) (inner : ItemReader) (put : Item → Written → Written) (w : Written) (met : Met) (number : ℕ) (node : PNode) (t t' : Tally)
    → number ≡ t.nodes → t.nodes < 100_000 → slice_get nodes number ≡ Some node → w.nodes ≡ t.nodes → Agrees ports nodes met t → buffer_size (Some node) ≡ None
    → put_node put nodes number (Some node) w ≡ put_contents put node (record w { nodes = number + 1 })
    → NestAgain ports nodes inner put node (record t { nodes = t.nodes + 1 }) t' (record w { nodes = number + 1 }) (record met { nodes = met.nodes ++ kinds.Port 0 ∷ [] })
    → ValueAgain ports nodes inner put (items.Node number) t t' w met
unfolding put_value entered_at composite_at
nest-again ports nodes inner put w met number node t t' e lt found n a none stands k =
    let new : w.nodes ≤ number = omega arith in
    let found_next : slice_get nodes t.nodes ≡ Some node = subst (λ m. slice_get nodes m ≡ Some node) e found in
    let placed = placed-nodes met.nodes k.more (kinds.Port 0) node k.met'.nodes k.nodes_are in
    let met' : Met = record k.met' { nodes = slice_set k.met'.nodes (length met.nodes) node } in
    record {
      piece = k.tag ∷ k.body;
      tag = k.tag;
      body = k.body;
      more = node ∷ k.more;
      met' = met';
      puts = rw (le-ltb number w.nodes new, found) (stands ∙ k.puts);
      starts = k.starts;
      front = k.front;
      reads = λ tail _.
          rw (k.nests, not_full ports nodes met t a lt)
          (bind-assoc (opened_at k.tag (k.body ++ tail)) (λ begun. contents_at inner (length begun.1) begun.0 (record met { nodes = met.nodes ++ kinds.Port 0 ∷ [] }) begun.1)
          (λ x. Ok (items.Node (length met.nodes), record x.1 { nodes = slice_set x.1.nodes (length met.nodes) x.0 }, x.2))
          ∙ ap (λ r. r >>= λ x. Ok (items.Node (length met.nodes), record x.1 { nodes = slice_set x.1.nodes (length met.nodes) x.0 }, x.2)) (k.reads tail)
          ∙ ap (λ m. Ok (items.Node m, met', tail)) (a.count ∙ sym e));
      nodes_are = placed;
      agrees = nest-agrees ports nodes k.met' t' met.nodes k.more (slice_set k.met'.nodes (length met.nodes) node) node k.agrees k.nodes_are placed none;
      taken = k.taken ∙ ap (λ xs. xs ++ k.more) (take-next nodes t.nodes node found_next) ∙ append_assoc (take t.nodes nodes) (node ∷ []) k.more;
      keeps = k.keeps;
    }

-- ---- any node, any item

all-map : {A B : Type 0} (p : B → Bool) (f : A → B) (xs : List A) → list_all p (map f xs) ≡ true → list_all (λ x. p (f x)) xs ≡ true
all-map p f [] h = refl
all-map p f (x ∷ xs) h = let b = and_true (p (f x)) (list_all p (map f xs)) h in rw (b.0, all-map p f xs b.1) refl

all-pairs : (xs : List (Item × Item)) → list_all is_plain_item (flat_map (λ entry. entry.0 ∷ entry.1 ∷ []) xs) ≡ true → list_all (λ entry. is_plain_item entry.0 && is_plain_item entry.1) xs ≡ true
all-pairs [] h = refl
all-pairs (x ∷ xs) h =
    let others : Bool = list_all is_plain_item (flat_map (λ entry. entry.0 ∷ entry.1 ∷ []) xs) in
    let b = and_true (is_plain_item x.0) (is_plain_item x.1 && others) h in
    let c = and_true (is_plain_item x.1) others b.1 in
    rw (b.0, c.0, all-pairs xs c.1) refl

pub all-at : (p : PNode → Bool) (xs : List PNode) (i : ℕ) (x : PNode) → list_all p xs ≡ true → slice_get xs i ≡ Some x → p x ≡ true
all-at p [] i x h e = absurd cc
all-at p (y ∷ xs) zero x h e = let same : y ≡ x = cc in ap p (sym same) ∙ (and_true _ _ h).0
all-at p (y ∷ xs) (suc i) x h e = all-at p xs i x (and_true _ _ h).1 e

abbrev is_view : PNode → Bool
is_view (kinds.View of offset size) = true
is_view _ = false

-- Nodes without functions and promises, whose ports came along.
pub record AreFit (ports : ℕ) (nodes : List PNode) : Type 0 where
  pub plain : (i : ℕ) (node : PNode) → slice_get nodes i ≡ Some node → list_all is_plain_item (items_of node) ≡ true
  pub came : (i : ℕ) (node : PNode) → slice_get nodes i ≡ Some node → is_port_below ports node ≡ true

module _ (ports : ℕ) (nodes : List PNode) (fit : AreFit ports nodes) (inner : ItemReader) (put : Item → Written → Written) (visit : Item → Tally → Option Tally) (again : InnerAgain ports nodes inner put visit)
    (w : Written) (met : Met) (number : ℕ) where
  -- a node that is no view
  other-again : (node : PNode) (t t' : Tally) → is_view node ≡ false → slice_get nodes number ≡ Some node → (checked.◌>>=◌ (numbered number t) (contents_met visit node)) ≡ Some t'
      → w.nodes ≡ t.nodes → Agrees ports nodes met t → put_node put nodes number (Some node) w ≡ put_contents put node (record w { nodes = number + 1 })
      → ValueAgain ports nodes inner put (items.Node number) t t' w met
  unfolding contents_met items_of
  other-again node t t' other found e n a stands =
      let b = some_bind (numbered number t) (contents_met visit node) t' e in
      let k = numbered-is number t b.0 b.1 in
      let f : contents_met visit node (record t { nodes = t.nodes + 1 }) ≡ Some t' = subst (λ (m : Tally). contents_met visit node m ≡ Some t') k.2 b.2 in
      let found_next : slice_get nodes t.nodes ≡ Some node = subst (λ m. slice_get nodes m ≡ Some node) k.0 found in
      by node other found found_next f stands k.0 k.1
    where
      nested : (node : PNode) → slice_get nodes number ≡ Some node → slice_get nodes t.nodes ≡ Some node → put_node put nodes number (Some node) w ≡ put_contents put node (record w { nodes = number + 1 })
          → number ≡ t.nodes → t.nodes < 100_000 → buffer_size (Some node) ≡ None
          → (Agrees ports nodes (record met { nodes = met.nodes ++ kinds.Port 0 ∷ [] }) (record t { nodes = t.nodes + 1 })
          → NestAgain ports nodes inner put node (record t { nodes = t.nodes + 1 }) t' (record w { nodes = number + 1 }) (record met { nodes = met.nodes ++ kinds.Port 0 ∷ [] }))
          → ValueAgain ports nodes inner put (items.Node number) t t' w met
      nested node found found_next stands num lt none nest =
          nest-again ports nodes inner put w met number node t t' num lt found n a none stands
          (nest (node-agrees ports nodes met t (kinds.Port 0) node a lt found_next (sym none) (λ size h. absurd (let g = sym none ∙ h in cc))))

      by : (node : PNode) → is_view node ≡ false → slice_get nodes number ≡ Some node → slice_get nodes t.nodes ≡ Some node → contents_met visit node (record t { nodes = t.nodes + 1 }) ≡ Some t'
          → put_node put nodes number (Some node) w ≡ put_contents put node (record w { nodes = number + 1 }) → number ≡ t.nodes → t.nodes < 100_000
          → ValueAgain ports nodes inner put (items.Node number) t t' w met
      by (kinds.Object xs) other found found_next f stands num lt =
          let b = some_bind (only_if (are_keys (keys xs)) (record t { nodes = t.nodes + 1 })) (in_turn (visit_property visit) xs) t' f in
          let o = only_if-is (are_keys (keys xs)) (record t { nodes = t.nodes + 1 }) b.0 b.1 in
          let g : in_turn (visit_property visit) xs (record t { nodes = t.nodes + 1 }) ≡ Some t' = subst (λ (m : Tally). in_turn (visit_property visit) xs m ≡ Some t') (sym o.1) b.2 in
          nested (kinds.Object xs) found found_next stands num lt refl (λ a1. object-nest ports nodes inner put visit again xs (record t { nodes = t.nodes + 1 }) t' (record w { nodes = number + 1 })
          (record met { nodes = met.nodes ++ kinds.Port 0 ∷ [] }) o.0 (all-map is_plain_item (λ property. property.1) xs (fit.plain number (kinds.Object xs) found)) g (ap (λ m. m + 1) num) a1)
      by (kinds.Array xs) other found found_next f stands num lt =
          nested (kinds.Array xs) found found_next stands num lt refl (λ a1. array-nest ports nodes inner put visit again xs (record t { nodes = t.nodes + 1 }) t' (record w { nodes = number + 1 })
          (record met { nodes = met.nodes ++ kinds.Port 0 ∷ [] }) (fit.plain number (kinds.Array xs) found) f (ap (λ m. m + 1) num) a1)
      by (kinds.Map xs) other found found_next f stands num lt =
          nested (kinds.Map xs) found found_next stands num lt refl (λ a1. map-nest ports nodes inner put visit again xs (record t { nodes = t.nodes + 1 }) t' (record w { nodes = number + 1 })
          (record met { nodes = met.nodes ++ kinds.Port 0 ∷ [] }) (all-pairs xs (fit.plain number (kinds.Map xs) found)) f (ap (λ m. m + 1) num) a1)
      by (kinds.Set xs) other found found_next f stands num lt =
          nested (kinds.Set xs) found found_next stands num lt refl (λ a1. set-nest ports nodes inner put visit again xs (record t { nodes = t.nodes + 1 }) t' (record w { nodes = number + 1 })
          (record met { nodes = met.nodes ++ kinds.Port 0 ∷ [] }) (fit.plain number (kinds.Set xs) found) f (ap (λ m. m + 1) num) a1)
      by (kinds.Error kind text) other found found_next f stands num lt =
          first-again ports nodes inner put w met number (kinds.Error kind text) t t' num lt found n a stands
          (error-body kind text (record t { nodes = t.nodes + 1 }) t' (record w { nodes = number + 1 }) met f a.units_are)
      by (kinds.Port place) other found found_next f stands num lt =
          first-again ports nodes inner put w met number (kinds.Port place) t t' num lt found n a stands
          (port-body place (record t { nodes = t.nodes + 1 }) t' (record w { nodes = number + 1 }) met f (omega (arith, ltb-true _ _ (fit.came number (kinds.Port place) found), a.ports_are)) a.units_are)
      by (kinds.Buffer bytes) other found found_next f stands num lt =
          first-again ports nodes inner put w met number (kinds.Buffer bytes) t t' num lt found n a stands
          (buffer-body bytes (record t { nodes = t.nodes + 1 }) t' (record w { nodes = number + 1 }) met f a.units_are)
      by (kinds.View of offset size) other found found_next f stands num lt = absurd cc

  -- a node at its first visit
  first-visit : (node : PNode) (t t' : Tally) → t.nodes ≤ number → slice_get nodes number ≡ Some node → node_met visit nodes number node t ≡ Some t'
      → w.nodes ≡ t.nodes → Agrees ports nodes met t → ValueAgain ports nodes inner put (items.Node number) t t' w met
  unfolding node_met put_node
  first-visit (kinds.View of offset size) t t' new found e n a = view-again ports nodes inner put w met number of offset size (slice_get nodes of) t t' new found refl e n a
  first-visit (kinds.Object xs) t t' new found e n a = other-again (kinds.Object xs) t t' refl found e n a refl
  first-visit (kinds.Array xs) t t' new found e n a = other-again (kinds.Array xs) t t' refl found e n a refl
  first-visit (kinds.Map xs) t t' new found e n a = other-again (kinds.Map xs) t t' refl found e n a refl
  first-visit (kinds.Set xs) t t' new found e n a = other-again (kinds.Set xs) t t' refl found e n a refl
  first-visit (kinds.Error kind text) t t' new found e n a = other-again (kinds.Error kind text) t t' refl found e n a refl
  first-visit (kinds.Port place) t t' new found e n a = other-again (kinds.Port place) t t' refl found e n a refl
  first-visit (kinds.Buffer bytes) t t' new found e n a = other-again (kinds.Buffer bytes) t t' refl found e n a refl

  -- a node by its number
  node-again : (t t' : Tally) → (cond (ltb number t.nodes) (Some t) (checked.◌>>=◌ (slice_get nodes number) (λ node. node_met visit nodes number node t))) ≡ Some t'
      → w.nodes ≡ t.nodes → Agrees ports nodes met t → ValueAgain ports nodes inner put (items.Node number) t t' w met
  node-again t t' e n a = elim (cases_lt number t.nodes) [
    | inl old ↦
        let f = rw (lt-ltb number t.nodes old) at e in
        let same : t ≡ t' = cc in
        subst (λ (m : Tally). ValueAgain ports nodes inner put (items.Node number) t m w met) same (reference-again ports nodes inner put w met number t old n a)
    | inr new ↦
        let f = rw (le-ltb number t.nodes new) at e in
        let b = some_bind (slice_get nodes number) (λ node. node_met visit nodes number node t) t' f in
        first-visit b.0 t t' new b.1 b.2 n a
  ]

module _ (ports : ℕ) (nodes : List PNode) (fit : AreFit ports nodes) where
  value-again : (inner : ItemReader) (put : Item → Written → Written) (visit : Item → Tally → Option Tally) (again : InnerAgain ports nodes inner put visit) (item : Item) (t t' : Tally) (w : Written) (met : Met)
      → is_plain_item item ≡ true → value_met visit nodes item t ≡ Some t' → w.nodes ≡ t.nodes → Agrees ports nodes met t → ValueAgain ports nodes inner put item t t' w met
  unfolding value_met
  value-again inner put visit again items.Undefined t t' w met plain e n a = undefined-again ports nodes inner put w met t t' e n a
  value-again inner put visit again items.Null t t' w met plain e n a = null-again ports nodes inner put w met t t' e n a
  value-again inner put visit again (items.Bool b) t t' w met plain e n a = bool-again ports nodes inner put w met b t t' e n a
  value-again inner put visit again (items.Num z) t t' w met plain e n a = num-again ports nodes inner put w met z t t' e n a
  value-again inner put visit again (items.Str text) t t' w met plain e n a = str-again ports nodes inner put w met text t t' e n a
  value-again inner put visit again (items.Node number) t t' w met plain e n a = node-again ports nodes fit inner put visit again w met number t t' e n a
  value-again inner put visit again (items.Fn side number) t t' w met plain e n a = absurd cc
  value-again inner put visit again (items.Prom side number) t t' w met plain e n a = absurd cc

  unpadded-twice : (bytes : List ℕ) → unpadded (unpadded bytes) ≡ unpadded bytes
  unfolding unpadded
  unpadded-twice [] = refl
  unpadded-twice (zero ∷ bytes) = unpadded-twice bytes
  unpadded-twice (suc b ∷ bytes) = refl

  -- Any item is read again.
  pub item-again : (depth : ℕ) → InnerAgain ports nodes (item_at depth) (put_item depth nodes) (item_met depth nodes)
  unfolding item_at put_item item_met
  item-again zero item t t' w met plain e n a = absurd cc
  item-again (suc depth) item t t' w met plain e n a =
      let b = some_bind (with_item t) (value_met (item_met depth nodes) nodes item) t' e in
      let k = with_item-is t b.0 b.1 in
      let met1 : Met = record met { items = met.items + 1 } in
      let a1 : Agrees ports nodes met1 (record t { items = t.items + 1 }) = record {
        ports_are = a.ports_are;
        flags_are = a.flags_are;
        count = a.count;
        few = a.few;
        items_are = ap (λ i. i + 1) a.items_are;
        items_few = omega arith;
        units_are = a.units_are;
        sizes_are = a.sizes_are;
        small = a.small;
      } in
      let f : value_met (item_met depth nodes) nodes item (record t { items = t.items + 1 }) ≡ Some t' = subst (λ (m : Tally). value_met (item_met depth nodes) nodes item m ≡ Some t') k.1 b.2 in
      let v = value-again (item_at depth) (put_item depth nodes) (item_met depth nodes) (item-again depth) item (record t { items = t.items + 1 }) t' w met1 plain f n a1 in
      let room : leb 1_000_000 met.items ≡ false = lt-leb 1_000_000 met.items (omega (arith, a.items_are)) in
      record {
        piece = v.piece;
        tag = v.tag;
        body = v.body;
        more = v.more;
        met' = v.met';
        puts = v.puts;
        starts = v.starts;
        front = v.front;
        reads = λ tail none. rw (room, v.starts tail) (v.reads tail none);
        reads_tag = λ tail none.
            let same : unpadded (v.tag ∷ (v.body ++ tail)) ≡ v.tag ∷ (v.body ++ tail) = ap unpadded (sym (v.starts tail)) ∙ unpadded-twice (v.piece ++ tail) ∙ v.starts tail in
            rw (room, same) (v.reads tail none);
        nodes_are = v.nodes_are;
        agrees = v.agrees;
        taken = v.taken;
        grows = v.keeps;
      }
