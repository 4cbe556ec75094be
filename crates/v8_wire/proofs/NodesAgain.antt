-- A node without items that was written is read again.
use Rattle.std.proofs.Common.{◌⊎◌, ◌≡◌, ℕ, zero, suc, ◌+◌, ◌<◌, ◌≤◌, false, cond, List, [], ◌∷◌, ◌++◌, length, take, Option, Some, None, Ok, refl, ap, sym, ◌∙◌, subst, append_assoc, arith, inl, inr, ltb, leb}
use Rattle.std.specs.Prelude.{slice_get}
use Rattle.std.proofs.lemmas.Bool.{le-ltb, lt-ltb, cases_lt}
use Rattle.std.proofs.lemmas.List.{append-nil, append_cancel_left}
use borrow.Author.Tests.{leb-true}
use Rattle.parcel.specs.Checked as checked
use Rattle.parcel.specs.Checked.{only_if, numbered, with_contents, node_met, contents_met, buffer_met}
use Rattle.parcel.specs.declared.parcel.Item.{Item}
use Rattle.parcel.specs.declared.parcel.Item.TheVariants as items
use Rattle.parcel.specs.declared.parcel.PNode.{PNode}
use Rattle.parcel.specs.declared.parcel.PNode.TheVariants as kinds
use Rattle.parcel.specs.declared.tally.Tally.{Tally}
use Rattle.v8_wire.specs.declared.met.Met.{Met}
use Rattle.v8_wire.specs.Leaf.{unpadded, is_composite_tag, leaf_at, placed_at, reference_at}
use Rattle.v8_wire.specs.Contents.{ItemReader}
use Rattle.v8_wire.specs.Item.{buffer_size, viewed_at, viewed_with, view_at, flags_at, entered_at}
use Rattle.v8_wire.specs.Spelling.{Written, written, varint, buffer, reference, put_value, put_contents, put_node, put_buffer}
use Rattle.v8_wire.proofs.Again.{some_bind, only_if-is, numbered-is, sizes, Agrees, viewed_at-none, IsFront}
use Rattle.v8_wire.proofs.NumbersAgain.{varint-again}
use Rattle.v8_wire.proofs.LeavesAgain.{ValueAgain, BodyAgain, buffer-body, node-agrees, not_full, take-next}

-- ---- lists of nodes by their numbers

slice_get-last : (xs : List PNode) (x : PNode) (n : ℕ) → n ≡ length xs → slice_get (xs ++ x ∷ []) n ≡ Some x
slice_get-last [] x n e = rw e refl
slice_get-last (y ∷ xs) x zero e = absurd (omega arith)
slice_get-last (y ∷ xs) x (suc n) e = slice_get-last xs x n (omega arith)

slice_get-take : (nodes : List PNode) (k i : ℕ) → i < k → slice_get (take k nodes) i ≡ slice_get nodes i
slice_get-take [] zero i lt = absurd (omega arith)
slice_get-take [] (suc k) i lt = refl
slice_get-take (x ∷ nodes) zero i lt = absurd (omega arith)
slice_get-take (x ∷ nodes) (suc k) zero lt = refl
slice_get-take (x ∷ nodes) (suc k) (suc i) lt = slice_get-take nodes k i (omega arith)

-- Lists of the same sizes have the same size at a number.
size-at : (xs ys : List PNode) (i : ℕ) → sizes xs ≡ sizes ys → buffer_size (slice_get xs i) ≡ buffer_size (slice_get ys i)
size-at [] [] i e = refl
size-at [] (y ∷ ys) i e = absurd cc
size-at (x ∷ xs) [] i e = absurd cc
size-at (x ∷ xs) (y ∷ ys) zero e = cc
size-at (x ∷ xs) (y ∷ ys) (suc i) e = let f : sizes xs ≡ sizes ys = cc in size-at xs ys i f

-- A reader has the size of each buffer that was met.
pub size-met : (ports : ℕ) (nodes : List PNode) (met : Met) (t : Tally) (i : ℕ) → Agrees ports nodes met t → i < t.nodes
    → buffer_size (slice_get met.nodes i) ≡ buffer_size (slice_get nodes i)
size-met ports nodes met t i a lt =
    size-at met.nodes (take t.nodes nodes) i a.sizes_are ∙ ap buffer_size (slice_get-take nodes t.nodes i lt)

-- ---- nodes that were met before

pub reference-again : (ports : ℕ) (nodes : List PNode) (inner : ItemReader) (put : Item → Written → Written) (w : Written) (met : Met) (number : ℕ) (t : Tally)
    → number < t.nodes → w.nodes ≡ t.nodes → Agrees ports nodes met t → ValueAgain ports nodes inner put (items.Node number) t t w met
unfolding put_value unpadded entered_at leaf_at reference_at
reference-again ports nodes inner put w met number t lt n a =
    let before : number < w.nodes = omega arith in
    let stands : number < length met.nodes = omega (arith, a.count) in
    record {
      piece = reference number;
      tag = 94;
      body = varint number;
      more = [];
      met' = met;
      puts = rw (lt-ltb number w.nodes before) (ap (λ m. written (w.bytes ++ reference number) m) n);
      starts = λ tail. refl;
      front = record { no_view = refl; no_map_end = refl; no_set_end = refl; no_hole = refl };
      reads = λ tail none. rw (varint-again number tail (omega (arith, a.few)), lt-ltb number (length met.nodes) stands) (viewed_at-none (items.Node number) met tail none);
      nodes_are = sym (append-nil met.nodes);
      agrees = a;
      taken = sym (append-nil (take t.nodes nodes));
      keeps = omega arith;
    }

-- ---- nodes at their first visit

leaf_at-node : (tag : ℕ) (met : Met) (left : ℕ) (bytes : List ℕ) → (tag ≡ 114) ⊎ ((tag ≡ 92) ⊎ (tag ≡ 66)) → leaf_at tag met left bytes ≡ placed_at tag met left bytes
unfolding leaf_at
leaf_at-node tag met left bytes (inl e) = rw e refl
leaf_at-node tag met left bytes (inr (inl e)) = rw e refl
leaf_at-node tag met left bytes (inr (inr e)) = rw e refl

node-leaf : (tag : ℕ) → (tag ≡ 114) ⊎ ((tag ≡ 92) ⊎ (tag ≡ 66)) → is_composite_tag tag ≡ false
node-leaf tag (inl e) = rw e refl
node-leaf tag (inr (inl e)) = rw e refl
node-leaf tag (inr (inr e)) = rw e refl

node-starts : (tag : ℕ) (rest : List ℕ) → (tag ≡ 114) ⊎ ((tag ≡ 92) ⊎ (tag ≡ 66)) → unpadded (tag ∷ rest) ≡ tag ∷ rest
unfolding unpadded
node-starts tag rest (inl e) = rw e refl
node-starts tag rest (inr (inl e)) = rw e refl
node-starts tag rest (inr (inr e)) = rw e refl

node-front : (tag : ℕ) → (tag ≡ 114) ⊎ ((tag ≡ 92) ⊎ (tag ≡ 66)) → IsFront tag
node-front tag (inl e) = rw e (record { no_view = refl; no_map_end = refl; no_set_end = refl; no_hole = refl })
node-front tag (inr (inl e)) = rw e (record { no_view = refl; no_map_end = refl; no_set_end = refl; no_hole = refl })
node-front tag (inr (inr e)) = rw e (record { no_view = refl; no_map_end = refl; no_set_end = refl; no_hole = refl })

-- A node without items is read, and takes its number.
record PlacedAgain (ports : ℕ) (nodes : List PNode) (node : PNode) (t t' : Tally) (met : Met) (tag : ℕ) (body : List ℕ) : Type 0 where
  met' : Met
  reads : (left : ℕ) (tail : List ℕ) → leaf_at tag met left (body ++ tail) ≡ Ok (items.Node t.nodes, met', tail)
  nodes_are : met'.nodes ≡ met.nodes ++ node ∷ []
  agrees : Agrees ports nodes met' t'
  taken : take t'.nodes nodes ≡ take t.nodes nodes ++ node ∷ []
  next : t'.nodes ≡ t.nodes + 1
  same_items : t'.items ≡ t.items

placed-again : (ports : ℕ) (nodes : List PNode) (node : PNode) (t t' : Tally) (w : Written) (met : Met) → t.nodes < 100_000 → slice_get nodes t.nodes ≡ Some node
    → Agrees ports nodes met t → (b : BodyAgain node (record t { nodes = t.nodes + 1 }) t' w met) → PlacedAgain ports nodes node t t' met b.tag b.body
unfolding placed_at
placed-again ports nodes node t t' w met lt found a b =
    let grown = node-agrees ports nodes met t node node a lt found refl b.fits in
    record {
      met' = record met { units = t'.units; nodes = met.nodes ++ node ∷ [] };
      reads = λ left tail. leaf_at-node b.tag met left (b.body ++ tail) b.is_node
          ∙ rw (not_full ports nodes met t a lt, b.reads left tail, not_full ports nodes met t a lt, a.count) refl;
      nodes_are = refl;
      agrees = rw b.others (record {
        ports_are = grown.ports_are;
        flags_are = grown.flags_are;
        count = grown.count;
        few = grown.few;
        items_are = grown.items_are;
        items_few = grown.items_few;
        units_are = refl;
        sizes_are = grown.sizes_are;
        small = grown.small;
      });
      taken = rw b.others (take-next nodes t.nodes node found);
      next = ap (λ (x : Tally). x.nodes) b.others;
      same_items = ap (λ (x : Tally). x.items) b.others;
    }

-- An error, a port or a buffer as an item.
pub first-again : (ports : ℕ) (nodes : List PNode) (inner : ItemReader) (put : Item → Written → Written) (w : Written) (met : Met) (number : ℕ) (node : PNode) (t t' : Tally)
    → number ≡ t.nodes → t.nodes < 100_000 → slice_get nodes number ≡ Some node → w.nodes ≡ t.nodes → Agrees ports nodes met t
    → put_node put nodes number (Some node) w ≡ put_contents put node (record w { nodes = number + 1 })
    → BodyAgain node (record t { nodes = t.nodes + 1 }) t' (record w { nodes = number + 1 }) met
    → ValueAgain ports nodes inner put (items.Node number) t t' w met
unfolding put_value entered_at
first-again ports nodes inner put w met number node t t' e lt found n a stands b =
    let found_next : slice_get nodes t.nodes ≡ Some node = subst (λ k. slice_get nodes k ≡ Some node) e found in
    let p = placed-again ports nodes node t t' (record w { nodes = number + 1 }) met lt found_next a b in
    let new : w.nodes ≤ number = omega arith in
    record {
      piece = b.tag ∷ b.body;
      tag = b.tag;
      body = b.body;
      more = node ∷ [];
      met' = p.met';
      puts = rw (le-ltb number w.nodes new, found) (stands ∙ b.puts put ∙ ap (λ m. written (w.bytes ++ b.tag ∷ b.body) m) (ap (λ m. m + 1) e ∙ sym p.next));
      starts = λ tail. node-starts b.tag (b.body ++ tail) b.is_node;
      front = node-front b.tag b.is_node;
      reads = λ tail none. rw (node-leaf b.tag b.is_node, p.reads (length (b.tag ∷ (b.body ++ tail))) tail)
          (viewed_at-none (items.Node t.nodes) p.met' tail none ∙ ap (λ m. Ok (items.Node m, p.met', tail)) (sym e));
      nodes_are = p.nodes_are;
      agrees = p.agrees;
      taken = p.taken;
      keeps = omega (arith, p.same_items);
    }

-- ---- views

abbrev view_bytes : ℕ → ℕ → List ℕ
view_bytes offset size = 86 ∷ 66 ∷ varint offset ++ (varint size ++ 0 ∷ [])

-- A view behind its buffer.
pub viewed-again : (ports : ℕ) (nodes : List PNode) (met : Met) (t t' : Tally) (of offset size whole number : ℕ) (tail : List ℕ)
    → Agrees ports nodes met t → buffer_size (slice_get met.nodes of) ≡ Some whole → offset + size ≤ whole → whole ≤ 1_048_576 → numbered number t ≡ Some t'
    → viewed_at (items.Node of) met (86 ∷ 66 ∷ (varint offset ++ (varint size ++ 0 ∷ tail)))
    ≡ Ok (items.Node number, record met { nodes = met.nodes ++ kinds.View of offset size ∷ [] }, tail)
unfolding viewed_at viewed_with view_at flags_at unpadded
viewed-again ports nodes met t t' of offset size whole number tail a sized within short e =
    let k = numbered-is number t t' e in
    rw (
      sized,
      not_full ports nodes met t a k.1,
      varint-again offset (varint size ++ 0 ∷ tail) (omega arith),
      varint-again size (0 ∷ tail) (omega arith),
      le-ltb whole (offset + size) within,
      a.flags_are,
      a.count,
      k.0,
    ) refl

-- What stands behind a view's buffer.
view-agrees : (ports : ℕ) (nodes : List PNode) (met : Met) (t t' : Tally) (of offset size number : ℕ) → Agrees ports nodes met t → numbered number t ≡ Some t'
    → slice_get nodes number ≡ Some (kinds.View of offset size)
    → Agrees ports nodes (record met { nodes = met.nodes ++ kinds.View of offset size ∷ [] }) t' × (take t'.nodes nodes ≡ take t.nodes nodes ++ kinds.View of offset size ∷ [])
view-agrees ports nodes met t t' of offset size number a e found =
    let k = numbered-is number t t' e in
    let found_next : slice_get nodes t.nodes ≡ Some (kinds.View of offset size) = subst (λ n. slice_get nodes n ≡ Some (kinds.View of offset size)) k.0 found in
    subst (λ (x : Tally). Agrees ports nodes (record met { nodes = met.nodes ++ kinds.View of offset size ∷ [] }) x × (take x.nodes nodes ≡ take t.nodes nodes ++ kinds.View of offset size ∷ [])) (sym k.2) (
      node-agrees ports nodes met t (kinds.View of offset size) (kinds.View of offset size) a k.1 found_next refl (λ s h. absurd cc),
      take-next nodes t.nodes (kinds.View of offset size) found_next,
    )

view-regroup : (front : List ℕ) (offset size : ℕ) (tail : List ℕ)
    → (front ++ view_bytes offset size) ++ tail ≡ front ++ (86 ∷ 66 ∷ (varint offset ++ (varint size ++ 0 ∷ tail)))
view-regroup front offset size tail = simp append_assoc

-- A view of a buffer that was met before.
pub view-old : (ports : ℕ) (nodes : List PNode) (inner : ItemReader) (put : Item → Written → Written) (w : Written) (met : Met) (number of offset size : ℕ) (bytes : List ℕ) (t t' : Tally)
    → of < t.nodes → t.nodes ≤ number → slice_get nodes number ≡ Some (kinds.View of offset size) → slice_get nodes of ≡ Some (kinds.Buffer bytes)
    → offset + size ≤ length bytes → numbered number t ≡ Some t' → w.nodes ≡ t.nodes → Agrees ports nodes met t
    → ValueAgain ports nodes inner put (items.Node number) t t' w met
unfolding put_value put_node put_buffer unpadded entered_at leaf_at reference_at
view-old ports nodes inner put w met number of offset size bytes t t' old new found stands within e n a =
    let k = numbered-is number t t' e in
    let sized : buffer_size (slice_get met.nodes of) ≡ Some (length bytes) = size-met ports nodes met t of a old ∙ ap buffer_size stands in
    let short : length bytes ≤ 1_048_576 = a.small of (length bytes) old (ap buffer_size stands) in
    let v = view-agrees ports nodes met t t' of offset size number a e found in
    let before : of < w.nodes = omega arith in
    let first : w.nodes ≤ number = omega arith in
    let there : of < length met.nodes = omega (arith, a.count) in
    let next : number + 1 ≡ t'.nodes = ap (λ m. m + 1) k.0 ∙ sym (ap (λ (x : Tally). x.nodes) k.2) in
    record {
      piece = reference of ++ view_bytes offset size;
      tag = 94;
      body = varint of ++ view_bytes offset size;
      more = kinds.View of offset size ∷ [];
      met' = record met { nodes = met.nodes ++ kinds.View of offset size ∷ [] };
      puts = rw (le-ltb number w.nodes first, found, stands, lt-ltb of w.nodes before)
          (ap (λ (b : List ℕ). written b (number + 1)) (append_assoc w.bytes (reference of) (view_bytes offset size)) ∙ ap (λ m. written (w.bytes ++ (reference of ++ view_bytes offset size)) m) next);
      starts = λ tail. refl;
      front = record { no_view = refl; no_map_end = refl; no_set_end = refl; no_hole = refl };
      reads = λ tail none. rw (view-regroup (varint of) offset size tail, varint-again of (86 ∷ 66 ∷ (varint offset ++ (varint size ++ 0 ∷ tail))) (omega (arith, a.few)), lt-ltb of (length met.nodes) there)
          (viewed-again ports nodes met t t' of offset size (length bytes) number tail a sized within short e);
      nodes_are = refl;
      agrees = v.0;
      taken = v.1;
      keeps = omega (arith, ap (λ (x : Tally). x.items) k.2);
    }

-- what is written of a buffer
buffer-piece : (bytes : List ℕ) (t t' : Tally) (w : Written) (met : Met) (b : BodyAgain (kinds.Buffer bytes) t t' w met) → b.tag ∷ b.body ≡ buffer bytes
unfolding put_contents
buffer-piece bytes t t' w met b =
    let e : w.bytes ++ buffer bytes ≡ w.bytes ++ (b.tag ∷ b.body) = ap (λ (x : Written). x.bytes) (b.puts (λ item x. x)) in
    sym (append_cancel_left w.bytes (buffer bytes) (b.tag ∷ b.body) e)

-- A view whose buffer is met with it.
view-new : (ports : ℕ) (nodes : List PNode) (inner : ItemReader) (put : Item → Written → Written) (w : Written) (met : Met) (number of offset size : ℕ) (bytes : List ℕ) (t t1 t' : Tally)
    → of ≡ t.nodes → t.nodes < 100_000 → t.nodes ≤ number → slice_get nodes number ≡ Some (kinds.View of offset size) → slice_get nodes of ≡ Some (kinds.Buffer bytes)
    → offset + size ≤ length bytes → with_contents bytes (record t { nodes = t.nodes + 1 }) ≡ Some t1 → numbered number t1 ≡ Some t' → w.nodes ≡ t.nodes → Agrees ports nodes met t
    → ValueAgain ports nodes inner put (items.Node number) t t' w met
unfolding put_value put_node put_buffer put_contents entered_at
view-new ports nodes inner put w met number of offset size bytes t t1 t' new lt later found stands within contents e n a =
    let k = numbered-is number t1 t' e in
    let stands_next : slice_get nodes t.nodes ≡ Some (kinds.Buffer bytes) = subst (λ m. slice_get nodes m ≡ Some (kinds.Buffer bytes)) new stands in
    let b = buffer-body bytes (record t { nodes = t.nodes + 1 }) t1 (record w { nodes = of + 1 }) met contents a.units_are in
    let p = placed-again ports nodes (kinds.Buffer bytes) t t1 (record w { nodes = of + 1 }) met lt stands_next a b in
    let first : w.nodes ≤ number = omega arith in
    let fresh : w.nodes ≤ of = omega arith in
    let body_is : b.tag ∷ b.body ≡ buffer bytes = buffer-piece bytes (record t { nodes = t.nodes + 1 }) t1 (record w { nodes = of + 1 }) met b in
    let last : slice_get p.met'.nodes t.nodes ≡ Some (kinds.Buffer bytes) =
    ap (λ xs. slice_get xs t.nodes) p.nodes_are ∙ slice_get-last met.nodes (kinds.Buffer bytes) t.nodes (sym a.count) in
    let sized : buffer_size (slice_get p.met'.nodes t.nodes) ≡ Some (length bytes) = ap buffer_size last in
    let v = view-agrees ports nodes p.met' t1 t' of offset size number p.agrees e found in
    let next : number + 1 ≡ t'.nodes = ap (λ m. m + 1) k.0 ∙ sym (ap (λ (x : Tally). x.nodes) k.2) in
    let shown : kinds.View t.nodes offset size ≡ kinds.View of offset size = ap (λ m. kinds.View m offset size) (sym new) in
    let met' : Met = record p.met' { nodes = p.met'.nodes ++ kinds.View of offset size ∷ [] } in
    record {
      piece = (b.tag ∷ b.body) ++ view_bytes offset size;
      tag = b.tag;
      body = b.body ++ view_bytes offset size;
      more = kinds.Buffer bytes ∷ kinds.View of offset size ∷ [];
      met' = met';
      puts = rw (le-ltb number w.nodes first, found, stands, le-ltb of w.nodes fresh)
          (ap (λ (x : List ℕ). written ((w.bytes ++ x) ++ view_bytes offset size) (number + 1)) (sym body_is)
          ∙ ap (λ (x : List ℕ). written x (number + 1)) (append_assoc w.bytes (b.tag ∷ b.body) (view_bytes offset size))
          ∙ ap (λ m. written (w.bytes ++ ((b.tag ∷ b.body) ++ view_bytes offset size)) m) next);
      starts = λ tail. node-starts b.tag ((b.body ++ view_bytes offset size) ++ tail) b.is_node;
      front = node-front b.tag b.is_node;
      reads = λ tail none.
          let left = length (b.tag ∷ ((b.body ++ view_bytes offset size) ++ tail)) in
          let rest = 86 ∷ 66 ∷ (varint offset ++ (varint size ++ 0 ∷ tail)) in
          let leaf : leaf_at b.tag met left ((b.body ++ view_bytes offset size) ++ tail) ≡ Ok (items.Node t.nodes, p.met', rest) =
          ap (λ (x : List ℕ). leaf_at b.tag met left x) (view-regroup b.body offset size tail) ∙ p.reads left rest in
          rw (node-leaf b.tag b.is_node, leaf)
          (ap (λ m. viewed_at (items.Node m) p.met' rest) (sym new)
          ∙ viewed-again ports nodes p.met' t1 t' of offset size (length bytes) number tail p.agrees (ap (λ m. buffer_size (slice_get p.met'.nodes m)) new ∙ sized) within (b.fits (length bytes) refl) e);
      nodes_are = ap (λ xs. xs ++ kinds.View of offset size ∷ []) p.nodes_are ∙ append_assoc met.nodes (kinds.Buffer bytes ∷ []) (kinds.View of offset size ∷ []);
      agrees = v.0;
      taken = v.1 ∙ ap (λ xs. xs ++ kinds.View of offset size ∷ []) p.taken ∙ append_assoc (take t.nodes nodes) (kinds.Buffer bytes ∷ []) (kinds.View of offset size ∷ []);
      keeps = omega (arith, p.same_items, ap (λ (x : Tally). x.items) k.2);
    }

-- A view as an item.
pub view-again : (ports : ℕ) (nodes : List PNode) (inner : ItemReader) (put : Item → Written → Written) (w : Written) (met : Met) (number of offset size : ℕ) (stands : Option PNode) (t t' : Tally)
    → t.nodes ≤ number → slice_get nodes number ≡ Some (kinds.View of offset size) → slice_get nodes of ≡ stands
    → (checked.◌>>=◌ (buffer_met of offset size stands t) (numbered number)) ≡ Some t' → w.nodes ≡ t.nodes → Agrees ports nodes met t
    → ValueAgain ports nodes inner put (items.Node number) t t' w met
unfolding buffer_met
view-again ports nodes inner put w met number of offset size None t t' later found stands e n a = absurd cc
view-again ports nodes inner put w met number of offset size (Some (kinds.Buffer bytes)) t t' later found stands e n a =
    let b = some_bind _ (numbered number) t' e in
    let c = some_bind (only_if (leb (offset + size) (length bytes)) t) (λ m. cond (ltb of m.nodes) (Some m) (checked.◌>>=◌ (numbered of m) (with_contents bytes))) b.0 b.1 in
    let o = only_if-is (leb (offset + size) (length bytes)) t c.0 c.1 in
    let f : cond (ltb of t.nodes) (Some t) (checked.◌>>=◌ (numbered of t) (with_contents bytes)) ≡ Some b.0 =
    subst (λ (m : Tally). cond (ltb of m.nodes) (Some m) (checked.◌>>=◌ (numbered of m) (with_contents bytes)) ≡ Some b.0) (sym o.1) c.2 in
    elim (cases_lt of t.nodes) [
      | inl old ↦
          let same : t ≡ b.0 = let g = rw (lt-ltb of t.nodes old) at f in cc in
          view-old ports nodes inner put w met number of offset size bytes t t' old later found stands (leb-true _ _ o.0)
          (subst (λ (m : Tally). numbered number m ≡ Some t') (sym same) b.2) n a
      | inr fresh ↦
          let g = rw (le-ltb of t.nodes fresh) at f in
          let d = some_bind (numbered of t) (with_contents bytes) b.0 g in
          let k = numbered-is of t d.0 d.1 in
          view-new ports nodes inner put w met number of offset size bytes t b.0 t' k.0 k.1 later found stands (leb-true _ _ o.0)
          (subst (λ (m : Tally). with_contents bytes m ≡ Some b.0) k.2 d.2) b.2 n a
    ]
view-again ports nodes inner put w met number of offset size (Some (kinds.Object x)) t t' later found stands e n a = absurd cc
view-again ports nodes inner put w met number of offset size (Some (kinds.Array x)) t t' later found stands e n a = absurd cc
view-again ports nodes inner put w met number of offset size (Some (kinds.Error x y)) t t' later found stands e n a = absurd cc
view-again ports nodes inner put w met number of offset size (Some (kinds.Map x)) t t' later found stands e n a = absurd cc
view-again ports nodes inner put w met number of offset size (Some (kinds.Set x)) t t' later found stands e n a = absurd cc
view-again ports nodes inner put w met number of offset size (Some (kinds.Port x)) t t' later found stands e n a = absurd cc
view-again ports nodes inner put w met number of offset size (Some (kinds.View x y z)) t t' later found stands e n a = absurd cc
