-- What was read is walked.
use Rattle.std.proofs.Common.{◌≡◌, ℕ, zero, suc, ◌+◌, ◌<◌, ◌≤◌, ◌^◌, Bool, true, false, cond, ◌&&◌, List, [], ◌∷◌, ◌++◌, length, Option, Some, None, Result, Ok, Err, refl, ap, sym, ◌∙◌, subst, append_assoc, arith, inl, inr, eqb, ltb, leb}
use Rattle.std.specs.Prelude.{slice_get}
use Rattle.std.specs.List.{list_all}
use Rattle.std.proofs.lemmas.Bool.{le-ltb, lt-ltb, ltb-false, eq-eqb, cases_lt}
use Rattle.std.proofs.lemmas.List.{append-nil, length-append}
use Rattle.std.proofs.lemmas.Option.{slice_get_within}
use borrow.Author.Tests.{le-leb, lt-leb, leb-false}
use Rattle.parcel.specs.Checked.{value_met, node_met, contents_met, buffer_met, with_text, with_message, numbered, is_text, is_safe}
use Rattle.parcel.specs.Plain.{is_plain_item, items_of, is_port_below}
use Rattle.parcel.specs.declared.parcel.Item.{Item}
use Rattle.parcel.specs.declared.parcel.Item.TheVariants as items
use Rattle.parcel.specs.declared.parcel.PNode.{PNode}
use Rattle.parcel.specs.declared.parcel.PNode.TheVariants as kinds
use Rattle.parcel.specs.declared.parcel.ErrorKind.{ErrorKind}
use Rattle.parcel.specs.declared.tally.Tally.{Tally}
use Rattle.v8_wire.specs.declared.kind.WireKind.{WireKind}
use Rattle.v8_wire.specs.declared.kind.WireKind.TheVariants.{TooLarge}
use Rattle.v8_wire.specs.declared.fault.Fault.{Fault}
use Rattle.v8_wire.specs.declared.met.Met.{Met}
use Rattle.v8_wire.specs.Faults.{◌>>=◌}
use Rattle.v8_wire.specs.Met.{are_full}
use Rattle.v8_wire.specs.Met as met_words
use Rattle.v8_wire.specs.Number.{varint_at, number_at}
use Rattle.v8_wire.specs.Text.{string_at, bytes_at}
use Rattle.v8_wire.specs.Leaf.{unpadded, is_text_tag, is_number_tag, is_node_tag, rather, text_with, text_at, kind_at, message_at, stack_at, end_at, error_at, port_at, buffer_at, node_at, placed_at, reference_at, counted_text_at, leaf_at}
use Rattle.v8_wire.specs.Item.{buffer_size, flags_at, view_at, viewed_with, viewed_if, viewed_at}
use Rattle.v8_wire.proofs.LeavesAgain.{and_true}
use Rattle.v8_wire.proofs.Holds.{Holds, holds-bind, holds-if, AreBytes, varint-holds, number-holds, string-holds, bytes_at-holds}

-- what a walk has counted of what a reader has met
abbrev pub tally : Met → Tally
tally met = record { nodes = length met.nodes; items = met.items; units = met.units }

-- All buffers of these nodes stand among all.
abbrev pub Buffers : List PNode → List PNode → Type 0
Buffers all nodes = (i : ℕ) (bytes : List ℕ) → slice_get nodes i ≡ Some (kinds.Buffer bytes) → slice_get all i ≡ Some (kinds.Buffer bytes)

-- From a number on these nodes stand among all.
abbrev pub Continues : List PNode → ℕ → List PNode → Type 0
Continues all k nodes = (i : ℕ) (node : PNode) → k ≤ i → slice_get nodes i ≡ Some node → slice_get all i ≡ Some node

-- no functions and promises, and its port came along
abbrev pub fits : ℕ → PNode → Bool
fits ports node = list_all is_plain_item (items_of node) && is_port_below ports node

pub record Grew (ports : ℕ) (met met' : Met) : Type 0 where
  pub more : List PNode
  pub nodes_are : met'.nodes ≡ met.nodes ++ more
  pub ports_are : met'.ports ≡ met.ports
  pub fit : list_all (fits ports) more ≡ true

-- A value that was read, once it was counted.
pub record ValueTold (ports : ℕ) (visit : List PNode → Item → Tally → Option Tally) (met : Met) (x : Item × Met × List ℕ) : Type 0 where
  pub bytes : AreBytes x.2
  pub grew : Grew ports met x.1
  pub plain : is_plain_item x.0 ≡ true
  pub walks : (all : List PNode) → Buffers all met.nodes → Continues all (length met.nodes) x.1.nodes → value_met (visit all) all x.0 (tally met) ≡ Some (tally x.1)

grew-same : (ports : ℕ) (met met' : Met) → met'.nodes ≡ met.nodes → met'.ports ≡ met.ports → Grew ports met met'
grew-same ports met met' e p = record { more = []; nodes_are = e ∙ sym (append-nil met.nodes); ports_are = p; fit = refl }

pub bytes-unpadded : (bytes : List ℕ) → AreBytes bytes → AreBytes (unpadded bytes)
unfolding unpadded
bytes-unpadded [] h = h
bytes-unpadded (zero ∷ bytes) h = bytes-unpadded bytes h
bytes-unpadded (suc b ∷ bytes) h = h

-- units that were counted
pub record Counted (n : ℕ) (met met' : Met) : Type 0 where
  pub is : met' ≡ record met { units = met.units + n }
  pub few : met.units + n ≤ 16_777_216

pub counted-holds : (left n : ℕ) (met : Met) → Holds (Counted n met) (met_words.with_units left n met)
counted-holds left n met = holds-if _ (ltb 16_777_216 (met.units + n)) _ _ (λ e. tt) (λ e. record { is = refl; few = ltb-false 16_777_216 (met.units + n) e })

pub text-walks : (text : List ℕ) (t : Tally) → is_text text ≡ true → t.units + length text ≤ 16_777_216 → with_text text t ≡ Some (record t { units = t.units + length text })
text-walks text t is few = rw (is, le-leb (t.units + length text) 16_777_216 few) refl

-- What stands in a node without items, with its units counted.
record BodyTold (ports : ℕ) (met : Met) (x : PNode × Met × List ℕ) : Type 0 where
  bytes : AreBytes x.2
  others : x.1 ≡ record met { units = x.1.units }
  fit : fits ports x.0 ≡ true
  walks : (visit : Item → Tally → Option Tally) (all : List PNode) (n : ℕ) → n < 100_000 → n ≡ length met.nodes → node_met visit all n x.0 (tally met) ≡ Some (record { nodes = n + 1; items = met.items; units = x.1.units })

pub numbered-walks : (n : ℕ) (met : Met) → n < 100_000 → n ≡ length met.nodes → numbered n (tally met) ≡ Some (record { nodes = n + 1; items = met.items; units = met.units })
numbered-walks n met lt e = rw (← e) (rw (eq-eqb n n refl, lt-ltb n 100_000 lt) refl)

port-told : (ports : ℕ) (met : Met) (left : ℕ) (bytes : List ℕ) → AreBytes bytes → met.ports ≡ ports → Holds (BodyTold ports met) (port_at met left bytes)
unfolding port_at node_met contents_met items_of
port-told ports met left [] h p = tt
port-told ports met left (b ∷ bytes) h p =
    let q = and_true (ltb b 256) (list_all (λ b. ltb b 256) bytes) h in
    holds-if _ (eqb b 77) _ _
    (λ e. holds-bind (λ x. (x.0 < 2 ^ 32) × AreBytes x.1) _ (varint_at bytes) _ (varint-holds bytes q.1) (λ n r.
    holds-if _ (ltb n.0 met.ports) _ _
    (λ f. record {
      bytes = r.1;
      others = refl;
      fit = subst (λ k. ltb n.0 k ≡ true) p f;
      walks = λ visit all k lt e. rw (numbered-walks k met lt e, lt-ltb n.0 4_294_967_296 (omega (arith, r.0))) refl;
    })
    (λ f. tt)))
    (λ e. tt)

buffer-told : (ports : ℕ) (met : Met) (left : ℕ) (bytes : List ℕ) → AreBytes bytes → Holds (BodyTold ports met) (buffer_at met left bytes)
unfolding buffer_at node_met contents_met items_of
buffer-told ports met left bytes h =
    holds-bind (λ x. (x.0 < 2 ^ 32) × AreBytes x.1) _ (varint_at bytes) _ (varint-holds bytes h) (λ n r.
    holds-if _ (ltb 1_048_576 n.0) _ _ (λ e. tt) (λ e.
    holds-bind (λ x. (length x.0 ≡ n.0) × AreBytes x.0 × AreBytes x.1) _ (bytes_at n.0 n.1) _ (bytes_at-holds n.0 n.1 r.1) (λ x s.
    holds-bind (Counted (length x.0) met) _ (met_words.with_units left (length x.0) met) _ (counted-holds left (length x.0) met) (λ counted c.
    record {
      bytes = s.2;
      others = rw c.is refl;
      fit = refl;
      walks = λ visit all k lt f. rw (
        numbered-walks k met lt f,
        c.is,
        le-leb (length x.0) 1_048_576 (omega (arith, s.0, ltb-false 1_048_576 n.0 e)),
        s.1,
        le-leb (met.units + length x.0) 16_777_216 c.few,
      ) refl;
    }))))

text_with-holds : (bytes : List ℕ) → AreBytes bytes → Holds (λ x. (is_text x.1 ≡ true) × AreBytes x.2) (text_with bytes)
unfolding text_with
text_with-holds [] h = tt
text_with-holds (tag ∷ bytes) h =
    holds-if _ (is_text_tag tag) _ _
    (λ e. holds-bind (λ x. (is_text x.0 ≡ true) × AreBytes x.1) _ (string_at tag (length (tag ∷ bytes)) bytes) _
    (string-holds tag (length (tag ∷ bytes)) bytes (and_true (ltb tag 256) (list_all (λ b. ltb b 256) bytes) h).1) (λ x q. q))
    (λ e. tt)

text_at-holds : (bytes : List ℕ) → AreBytes bytes → Holds (λ x. (is_text x.1 ≡ true) × AreBytes x.2) (text_at bytes)
unfolding text_at
text_at-holds bytes h = text_with-holds (unpadded bytes) (bytes-unpadded bytes h)

kind-bytes : (bytes : List ℕ) → AreBytes bytes → AreBytes (kind_at bytes).1
unfolding kind_at
kind-bytes [] h = refl
kind-bytes (b ∷ bytes) h =
    let rest = (and_true (ltb b 256) (list_all (λ b. ltb b 256) bytes) h).1 in
    pick (eqb b 69) _ _ rest (pick (eqb b 82) _ _ rest (pick (eqb b 70) _ _ rest (pick (eqb b 83) _ _ rest (pick (eqb b 84) _ _ rest (pick (eqb b 85) _ _ rest h)))))
  where
    pick : (c : Bool) (x y : ErrorKind × List ℕ) → AreBytes x.1 → AreBytes y.1 → AreBytes (cond c x y).1
    pick true x y h k = h
    pick false x y h k = k

-- an optional message, with its units counted
record MessageTold (met : Met) (x : Option (List ℕ) × Met × List ℕ) : Type 0 where
  bytes : AreBytes x.2
  others : x.1 ≡ record met { units = x.1.units }
  walks : (n : ℕ) → with_message x.0 (record { nodes = n; items = met.items; units = met.units }) ≡ Some (record { nodes = n; items = met.items; units = x.1.units })

message-told : (met : Met) (bytes : List ℕ) → AreBytes bytes → Holds (MessageTold met) (message_at met bytes)
unfolding message_at
message-told met [] h = record { bytes = refl; others = refl; walks = λ n. refl }
message-told met (b ∷ bytes) h =
    holds-if _ (eqb b 109) _ _
    (λ e. holds-bind (λ x. (is_text x.1 ≡ true) × AreBytes x.2) _ (text_at bytes) _ (text_at-holds bytes (and_true (ltb b 256) (list_all (λ b. ltb b 256) bytes) h).1) (λ x q.
    holds-bind (Counted (length x.1) met) _ (met_words.with_units x.0 (length x.1) met) _ (counted-holds x.0 (length x.1) met) (λ counted c.
    record { bytes = q.1; others = rw c.is refl; walks = λ n. rw c.is (text-walks x.1 (record { nodes = n; items = met.items; units = met.units }) q.0 c.few) })))
    (λ e. record { bytes = h; others = refl; walks = λ n. refl })

stack-told : (bytes : List ℕ) → AreBytes bytes → Holds AreBytes (stack_at bytes)
unfolding stack_at
stack-told [] h = refl
stack-told (b ∷ bytes) h =
    holds-if _ (eqb b 115) _ _
    (λ e. holds-bind (λ x. (is_text x.1 ≡ true) × AreBytes x.2) AreBytes (text_at bytes) _ (text_at-holds bytes (and_true (ltb b 256) (list_all (λ b. ltb b 256) bytes) h).1) (λ x q. q.1))
    (λ e. h)

end-told : (bytes : List ℕ) → AreBytes bytes → Holds AreBytes (end_at bytes)
unfolding end_at
end-told [] h = tt
end-told (b ∷ bytes) h = holds-if _ (eqb b 46) _ _ (λ e. (and_true (ltb b 256) (list_all (λ b. ltb b 256) bytes) h).1) (λ e. tt)

error-told : (ports : ℕ) (met : Met) (bytes : List ℕ) → AreBytes bytes → Holds (BodyTold ports met) (error_at met bytes)
unfolding error_at node_met contents_met items_of
error-told ports met bytes h =
    holds-bind (MessageTold met) _ (message_at met (kind_at bytes).1) _ (message-told met (kind_at bytes).1 (kind-bytes bytes h)) (λ m q.
    holds-bind AreBytes _ (stack_at m.2) _ (stack-told m.2 q.bytes) (λ rest r.
    holds-bind AreBytes _ (end_at rest) _ (end-told rest r) (λ last s.
    record {
      bytes = s;
      others = q.others;
      fit = refl;
      walks = λ visit all k lt e. rw (numbered-walks k met lt e) (q.walks (k + 1));
    })))

node-told : (ports tag : ℕ) (met : Met) (left : ℕ) (bytes : List ℕ) → AreBytes bytes → met.ports ≡ ports → Holds (BodyTold ports met) (node_at tag met left bytes)
unfolding node_at
node-told ports tag met left bytes h p =
    holds-if _ (eqb tag 114) _ _ (λ e. error-told ports met bytes h)
    (λ e. holds-if _ (eqb tag 92) _ _ (λ f. port-told ports met left bytes h p) (λ f. buffer-told ports met left bytes h))

-- ---- lists of nodes

pub slice_get-front : (xs ys : List PNode) (i : ℕ) → i < length xs → slice_get (xs ++ ys) i ≡ slice_get xs i
slice_get-front [] ys i lt = absurd (omega arith)
slice_get-front (x ∷ xs) ys zero lt = refl
slice_get-front (x ∷ xs) ys (suc i) lt = slice_get-front xs ys i (omega arith)

pub slice_get-seam : (xs ys : List PNode) (x : PNode) → slice_get (xs ++ x ∷ ys) (length xs) ≡ Some x
slice_get-seam [] ys x = refl
slice_get-seam (y ∷ xs) ys x = slice_get-seam xs ys x

pub fit-append : (ports : ℕ) (xs ys : List PNode) → list_all (fits ports) xs ≡ true → list_all (fits ports) ys ≡ true → list_all (fits ports) (xs ++ ys) ≡ true
fit-append ports [] ys h k = k
fit-append ports (x ∷ xs) ys h k = let p = and_true (fits ports x) (list_all (fits ports) xs) h in rw (p.0, fit-append ports xs ys p.1 k) refl

rather-holds : {A B : Type 0} (P : B → Type 0) (kind : WireKind) (left : ℕ) (r : Result A Fault) → Holds P (rather kind left r)
rather-holds P kind left (Ok x) = tt
rather-holds P kind left (Err f) = tt

pub placed-told : (ports : ℕ) (visit : List PNode → Item → Tally → Option Tally) (tag : ℕ) (met : Met) (left : ℕ) (bytes : List ℕ) → AreBytes bytes → met.ports ≡ ports
    → Holds (ValueTold ports visit met) (placed_at tag met left bytes)
unfolding placed_at value_met
placed-told ports visit tag met left bytes h p =
    holds-if _ (are_full met.nodes) _ _ (λ e. rather-holds (ValueTold ports visit met) TooLarge left (node_at tag met left bytes)) (λ e.
    holds-bind (BodyTold ports met) _ (node_at tag met left bytes) _ (node-told ports tag met left bytes h p) (λ x b.
    let same : x.1.nodes ≡ met.nodes = ap (λ (m : Met). m.nodes) b.others in
    let room : length met.nodes < 100_000 = leb-false 100_000 (length met.nodes) e in
    holds-if-bind x b same room))
  where
    holds-if-bind : (x : PNode × Met × List ℕ) → BodyTold ports met x → x.1.nodes ≡ met.nodes → length met.nodes < 100_000
        → Holds (ValueTold ports visit met) (met_words.with_node left x.0 x.1 >>= λ n. Ok (items.Node n.0, n.1, x.2))
    holds-if-bind x b same room =
        let open_ : leb 100_000 (length x.1.nodes) ≡ false = lt-leb 100_000 (length x.1.nodes) (omega (arith, ap length same)) in
        rw open_ (record {
          bytes = b.bytes;
          grew = record { more = x.0 ∷ []; nodes_are = ap (λ xs. xs ++ x.0 ∷ []) same; ports_are = ap (λ (m : Met). m.ports) b.others; fit = rw b.fit refl };
          plain = refl;
          walks = λ all buffers continues.
              let at : slice_get (x.1.nodes ++ x.0 ∷ []) (length x.1.nodes) ≡ Some x.0 = slice_get-seam x.1.nodes [] x.0 in
              let found : slice_get all (length x.1.nodes) ≡ Some x.0 = continues (length x.1.nodes) x.0 (omega (arith, ap length same)) at in
              let new : ltb (length x.1.nodes) (length met.nodes) ≡ false = le-ltb (length x.1.nodes) (length met.nodes) (omega (arith, ap length same)) in
              let items_are : x.1.items ≡ met.items = ap (λ (m : Met). m.items) b.others in
              let last : length (x.1.nodes ++ x.0 ∷ []) ≡ length x.1.nodes + 1 = length-append x.1.nodes (x.0 ∷ []) in
              rw (new, found) (b.walks (visit all) all (length x.1.nodes) (omega (arith, ap length same)) (ap length same)
              ∙ ap (λ (t : Tally). Some t) (tally-is (length x.1.nodes) x.1.units last items_are));
        })
      where
        tally-is : (n units : ℕ) → length (x.1.nodes ++ x.0 ∷ []) ≡ n + 1 → x.1.items ≡ met.items
            → ◌≡◌ {A = Tally} (record { nodes = n + 1; items = met.items; units = units }) (record { nodes = length (x.1.nodes ++ x.0 ∷ []); items = x.1.items; units = units })
        tally-is n units e f = rw (e, f) refl

-- ---- leaves

pub leaf-told : (ports : ℕ) (visit : List PNode → Item → Tally → Option Tally) (tag : ℕ) (met : Met) (left : ℕ) (bytes : List ℕ) → AreBytes bytes → met.ports ≡ ports
    → Holds (ValueTold ports visit met) (leaf_at tag met left bytes)
unfolding leaf_at counted_text_at reference_at value_met
leaf-told ports visit tag met left bytes h p =
    let same : Grew ports met met = grew-same ports met met refl refl in
    holds-if _ (eqb tag 95) _ _ (λ e. record { bytes = h; grew = same; plain = refl; walks = λ all b c. refl }) (λ e.
    holds-if _ (eqb tag 48) _ _ (λ e. record { bytes = h; grew = same; plain = refl; walks = λ all b c. refl }) (λ e.
    holds-if _ (eqb tag 84) _ _ (λ e. record { bytes = h; grew = same; plain = refl; walks = λ all b c. refl }) (λ e.
    holds-if _ (eqb tag 70) _ _ (λ e. record { bytes = h; grew = same; plain = refl; walks = λ all b c. refl }) (λ e.
    holds-if _ (is_number_tag tag) _ _
    (λ e. holds-bind (λ x. (is_safe x.0 ≡ true) × AreBytes x.1) _ (number_at tag left bytes) _ (number-holds tag left bytes h)
    (λ n q. record { bytes = q.1; grew = same; plain = refl; walks = λ all b c. rw q.0 refl })) (λ e.
    holds-if _ (is_text_tag tag) _ _
    (λ e. holds-bind (λ x. (is_text x.0 ≡ true) × AreBytes x.1) _ (string_at tag left bytes) _ (string-holds tag left bytes h) (λ s q.
    holds-bind (Counted (length s.0) met) _ (met_words.with_units left (length s.0) met) _ (counted-holds left (length s.0) met) (λ counted c.
    record {
      bytes = q.1;
      grew = grew-same ports met counted (ap (λ (m : Met). m.nodes) c.is) (ap (λ (m : Met). m.ports) c.is);
      plain = refl;
      walks = λ all b k. rw c.is (text-walks s.0 (tally met) q.0 c.few);
    }))) (λ e.
    holds-if _ (is_node_tag tag) _ _ (λ e. placed-told ports visit tag met left bytes h p) (λ e.
    holds-if _ (eqb tag 94) _ _
    (λ e. holds-bind (λ x. (x.0 < 2 ^ 32) × AreBytes x.1) _ (varint_at bytes) _ (varint-holds bytes h) (λ n q.
    holds-if _ (ltb n.0 (length met.nodes)) _ _ (λ f. record { bytes = q.1; grew = same; plain = refl; walks = λ all b c. rw f refl }) (λ f. tt)))
    (λ e. tt))))))))

-- ---- views

buffer-found : (o : Option PNode) (size : ℕ) → buffer_size o ≡ Some size → (bytes : List ℕ) × (o ≡ Some (kinds.Buffer bytes)) × (length bytes ≡ size)
buffer-found None size e = absurd cc
buffer-found (Some (kinds.Buffer bytes)) size e = (bytes, refl, cc)
buffer-found (Some (kinds.Object x)) size e = absurd cc
buffer-found (Some (kinds.Array x)) size e = absurd cc
buffer-found (Some (kinds.Error x y)) size e = absurd cc
buffer-found (Some (kinds.Map x)) size e = absurd cc
buffer-found (Some (kinds.Set x)) size e = absurd cc
buffer-found (Some (kinds.Port x)) size e = absurd cc
buffer-found (Some (kinds.View x y z)) size e = absurd cc

-- The walk over a buffer is that over the buffer of a view.
buffer-walks : (visit : List PNode → Item → Tally → Option Tally) (all : List PNode) (of offset size : ℕ) (bytes : List ℕ) (t t1 : Tally) → value_met (visit all) all (items.Node of) t ≡ Some t1
    → slice_get all of ≡ Some (kinds.Buffer bytes) → offset + size ≤ length bytes → buffer_met of offset size (Some (kinds.Buffer bytes)) t ≡ Some t1
unfolding value_met node_met contents_met buffer_met
buffer-walks visit all of offset size bytes t t1 e found within = rw (le-leb (offset + size) (length bytes) within) (rw found at e)

flags-told : (flags : Bool) (left : ℕ) (bytes : List ℕ) → AreBytes bytes → Holds AreBytes (flags_at flags left bytes)
unfolding flags_at
flags-told true left [] h = tt
flags-told false left [] h = refl
flags-told true left (b ∷ bytes) h = holds-if _ (eqb b 0) _ _ (λ e. (and_true (ltb b 256) (list_all (λ b. ltb b 256) bytes) h).1) (λ e. tt)
flags-told false left (b ∷ bytes) h = h

module _ (ports : ℕ) (visit : List PNode → Item → Tally → Option Tally) (met m : Met) (of size : ℕ) (rest : List ℕ) (x : ValueTold ports visit met (items.Node of, m, rest)) (sized : buffer_size (slice_get m.nodes of) ≡ Some size) where
  -- a view that was read behind its buffer
  view-made : (offset count : ℕ) (bytes : List ℕ) → AreBytes bytes → offset + count ≤ size → length m.nodes < 100_000
      → ValueTold ports visit met (items.Node (length m.nodes), record m { nodes = m.nodes ++ kinds.View of offset count ∷ [] }, bytes)
  unfolding value_met node_met items_of
  view-made offset count bytes h within room =
      let b = buffer-found (slice_get m.nodes of) size sized in
      let longer : length m.nodes ≡ length met.nodes + length x.grew.more = ap length x.grew.nodes_are ∙ length-append met.nodes x.grew.more in
      record {
        bytes = h;
        grew = record {
          more = x.grew.more ++ kinds.View of offset count ∷ [];
          nodes_are = ap (λ l. l ++ kinds.View of offset count ∷ []) x.grew.nodes_are ∙ append_assoc met.nodes x.grew.more (kinds.View of offset count ∷ []);
          ports_are = x.grew.ports_are;
          fit = fit-append ports x.grew.more (kinds.View of offset count ∷ []) x.grew.fit refl;
        };
        plain = refl;
        walks = λ all buffers continues.
            let front : Continues all (length met.nodes) m.nodes = λ i node le e. continues i node le (slice_get-front m.nodes (kinds.View of offset count ∷ []) i (slice_get_within m.nodes i node e) ∙ e) in
            let leaf = x.walks all buffers front in
            let stands : slice_get all of ≡ Some (kinds.Buffer b.0) = elim (cases_lt of (length met.nodes)) [
              | inl old ↦ buffers of b.0 (sym (ap (λ l. slice_get l of) x.grew.nodes_are ∙ slice_get-front met.nodes x.grew.more of old) ∙ b.1)
              | inr new ↦ front of (kinds.Buffer b.0) new b.1
            ] in
            let found : slice_get all (length m.nodes) ≡ Some (kinds.View of offset count) = continues (length m.nodes) (kinds.View of offset count) (omega arith) (slice_get-seam m.nodes [] (kinds.View of offset count)) in
            let new : ltb (length m.nodes) (length met.nodes) ≡ false = le-ltb (length m.nodes) (length met.nodes) (omega arith) in
            let last : length (m.nodes ++ kinds.View of offset count ∷ []) ≡ length m.nodes + 1 = length-append m.nodes (kinds.View of offset count ∷ []) in
            rw (new, found, stands, buffer-walks visit all of offset count b.0 (tally met) (tally m) leaf stands (omega (arith, b.2)), numbered-walks (length m.nodes) m room refl)
            (ap (λ n. Some (record { nodes = n; items = m.items; units = m.units })) (sym last));
      }

  view-told : (left : ℕ) (bytes : List ℕ) → AreBytes bytes → Holds (ValueTold ports visit met) (view_at of size m left bytes)
  unfolding view_at
  view-told left [] h = holds-if _ (are_full m.nodes) _ _ (λ e. tt) (λ e. tt)
  view-told left (b ∷ bytes) h =
      holds-if _ (are_full m.nodes) _ _ (λ e. tt) (λ e.
      holds-if _ (eqb b 66) _ _
      (λ f. holds-bind (λ y. (y.0 < 2 ^ 32) × AreBytes y.1) _ (varint_at bytes) _ (varint-holds bytes (and_true (ltb b 256) (list_all (λ b. ltb b 256) bytes) h).1) (λ offset q.
      holds-bind (λ y. (y.0 < 2 ^ 32) × AreBytes y.1) _ (varint_at offset.1) _ (varint-holds offset.1 q.1) (λ count r.
      holds-if _ (ltb size (offset.0 + count.0)) _ _ (λ g. tt) (λ g.
      holds-bind AreBytes _ (flags_at m.flags left count.1) _ (flags-told m.flags left count.1 r.1) (λ last s.
      rw e (view-made offset.0 count.0 last s (ltb-false size (offset.0 + count.0) g) (leb-false 100_000 (length m.nodes) e)))))))
      (λ f. tt))

  with-told : (bytes : List ℕ) → AreBytes bytes → Holds (ValueTold ports visit met) (viewed_with of size m rest bytes)
  unfolding viewed_with
  with-told [] h = x
  with-told (b ∷ bytes) h = holds-if _ (eqb b 86) _ _ (λ e. view-told (length (b ∷ bytes)) bytes (and_true (ltb b 256) (list_all (λ b. ltb b 256) bytes) h).1) (λ e. x)

pub viewed-told : (ports : ℕ) (visit : List PNode → Item → Tally → Option Tally) (met : Met) (item : Item) (m : Met) (rest : List ℕ) → ValueTold ports visit met (item, m, rest)
    → Holds (ValueTold ports visit met) (viewed_at item m rest)
unfolding viewed_at
viewed-told ports visit met (items.Node of) m rest x = by (buffer_size (slice_get m.nodes of)) refl
  where
    by : (o : Option ℕ) → buffer_size (slice_get m.nodes of) ≡ o → Holds (ValueTold ports visit met) (viewed_if o of m rest)
    by None e = x
    by (Some size) e = with-told ports visit met m of size rest x e (unpadded rest) (bytes-unpadded rest x.bytes)
viewed-told ports visit met items.Undefined m rest x = x
viewed-told ports visit met items.Null m rest x = x
viewed-told ports visit met (items.Bool b) m rest x = x
viewed-told ports visit met (items.Num z) m rest x = x
viewed-told ports visit met (items.Str text) m rest x = x
viewed-told ports visit met (items.Fn side number) m rest x = x
viewed-told ports visit met (items.Prom side number) m rest x = x
