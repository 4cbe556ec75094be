-- A front of an item.
use Rattle.std.proofs.Common.{◌≡◌, ℕ, ℤ, pos, negsuc, zero, suc, ◌+◌, ◌*◌, List, [], ◌∷◌, ◌++◌, length, Option, Some, None, Result, Ok, Err, Bool, true, false, refl, ap, ◌∙◌, inl, inr}
use Rattle.std.specs.Prelude.{if◌then◌else◌, ◌==◌, ◌&&◌, nat_lt, nat_le, is_none, slice_get}
use Rattle.wl_text.specs.Number.{index_of}
use Rattle.parcel.specs.Keys.{may_come}
use Rattle.parcel.specs.declared.parcel.Item.{Item}
use Rattle.parcel.specs.declared.parcel.Item.TheVariants.{Node}
use Rattle.parcel.specs.declared.parcel.PNode.{PNode}
use Rattle.parcel.specs.declared.parcel.PNode.TheVariants as nodes
use Rattle.v8_wire.specs.declared.kind.WireKind.TheVariants.{Key, Hole, TooLarge}
use Rattle.v8_wire.specs.declared.kind.WireKind.TheVariants as kinds
use Rattle.v8_wire.specs.Faults.{◌>>=◌, fault, cut}
use Rattle.v8_wire.specs.Number.{varint_at}
use Rattle.v8_wire.specs.Met.{are_full}
use Rattle.v8_wire.specs.Leaf.{unpadded, is_text_tag, is_composite_tag}
use Rattle.v8_wire.specs.Contents.{ItemReader, count_at, opened_at, index_key, text_key, is_new, new_key, may_be_index, key_at, object_turn, array_turn, is_index, may_be_next, sparse_turn, map_turn, set_turn, turn_with, turn_at, turned, contents_at}
use Rattle.v8_wire.specs.Item.{buffer_size, composite_at, flags_at, view_at, viewed_with, viewed_if, viewed_at, refused_at, entered_at, item_at}
use Rattle.wire_laws.proofs.Cut.{Fault, Met, Open, Turn, Front, Exactly, same, after1, after2, after3, loosened, behind, loosely, either, moved, unpadded-front}
use Rattle.wire_laws.proofs.Cut.Front.{failed, ended, gives}
use Rattle.wire_laws.proofs.Leaves.{refused-fails, units-front, node-front, varint-front, number-front, string-front, leaf-front}

-- Which turn is made over a node that is begun.
pub data IsOpen (begun : Open) : Type 0 where
  object : (properties : List (List ℕ × Item)) (least : Option ℕ)
      → ((inner : ItemReader) (met : Met) (tag : ℕ) (rest : List ℕ) → turn_with inner begun met (tag ∷ rest) ≡ object_turn inner properties least met tag (length (tag ∷ rest)) rest) → IsOpen begun
  array : (size : ℕ) (items : List Item)
      → ((inner : ItemReader) (met : Met) (tag : ℕ) (rest : List ℕ) → turn_with inner begun met (tag ∷ rest) ≡ array_turn inner size items met tag (length (tag ∷ rest)) rest) → IsOpen begun
  sparse : (size : ℕ) (items : List Item)
      → ((inner : ItemReader) (met : Met) (tag : ℕ) (rest : List ℕ) → turn_with inner begun met (tag ∷ rest) ≡ sparse_turn inner size items met tag (length (tag ∷ rest)) rest) → IsOpen begun
  entries : (pairs : List (Item × Item))
      → ((inner : ItemReader) (met : Met) (tag : ℕ) (rest : List ℕ) → turn_with inner begun met (tag ∷ rest) ≡ map_turn inner pairs met tag (length (tag ∷ rest)) rest) → IsOpen begun
  members : (items : List Item)
      → ((inner : ItemReader) (met : Met) (tag : ℕ) (rest : List ℕ) → turn_with inner begun met (tag ∷ rest) ≡ set_turn inner items met tag (length (tag ∷ rest)) rest) → IsOpen begun

abbrev Contents : Type 0
Contents = Open → Met → List ℕ → Result (PNode × Met × List ℕ) Fault

-- What a turn gives: the same turn, or one behind which nothing stands.
pub data GivesTurn (back : List ℕ) (x : Turn × Met × List ℕ) (all : Result (Turn × Met × List ℕ) Fault) : Type 0 where
  more : (begun : Open) → ((next : Contents) (met : Met) (bytes : List ℕ) → turned next x.0 met bytes ≡ next begun met bytes) → IsOpen begun
      → all ≡ Ok (after3 back x) → GivesTurn back x all
  lost : (begun : Open) → ((next : Contents) (met : Met) (bytes : List ℕ) → turned next x.0 met bytes ≡ next begun met bytes)
      → unpadded x.2 ≡ [] → GivesTurn back x all
  last : (node : PNode) → ((next : Contents) (met : Met) (bytes : List ℕ) → turned next x.0 met bytes ≡ Ok (node, met, bytes))
      → all ≡ Ok (after3 back x) → GivesTurn back x all

-- What an item gives: the same item, or a buffer whose view is cut off.
pub data GivesItem (back : List ℕ) (x : Item × Met × List ℕ) (all : Result (Item × Met × List ℕ) Fault) : Type 0 where
  exact : all ≡ Ok (after3 back x) → GivesItem back x all
  viewless : (number size offset count : ℕ) (rest : List ℕ) → unpadded x.2 ≡ [] → x.0 ≡ Node number → buffer_size (slice_get x.1.nodes number) ≡ Some size
      → all ≡ Ok (Node (length x.1.nodes), record x.1 { nodes = x.1.nodes ++ nodes.View number offset count ∷ [] }, rest) → GivesItem back x all

by-item : {B : Type 0} {H : B → Result B Fault → Type 0} (back : List ℕ) (f : Item × Met × List ℕ → Result B Fault) (x : Item × Met × List ℕ) (all : Result (Item × Met × List ℕ) Fault)
    → GivesItem back x all → Front B H (f (after3 back x)) (f x) → ((any : Result B Fault) → unpadded x.2 ≡ [] → Front B H any (f x)) → Front B H (all >>= f) (f x)
by-item back f x all (GivesItem.exact h) same other = rw h same
by-item back f x all (GivesItem.viewless number size offset count rest u i s h) same other = other (all >>= f) u

-- An item's reader whose fronts are known.
pub record IsFronted (back : List ℕ) (inner : ItemReader) : Type 0 where
  pub fronts : (met : Met) (bytes : List ℕ) → Front (Item × Met × List ℕ) (GivesItem back) (inner met (bytes ++ back)) (inner met bytes)
  pub ends : (met : Met) (bytes : List ℕ) → unpadded bytes ≡ [] → inner met bytes ≡ cut

-- ---- keys

index-front : (least : Option ℕ) (left left' : ℕ) (z : ℤ) → Front (List ℕ × Option ℕ) (Exactly same) (index_key least left z) (index_key least left' z)
unfolding index_key
index-front least left left' (pos n) = either (nat_le n 4_294_967_294 && may_come least (Some n)) (gives _ refl refl) (failed _ refl)
index-front least left left' (negsuc n) = failed _ refl

text_key-front : (left left' : ℕ) (text : List ℕ) → Front (List ℕ × Option ℕ) (Exactly same) (text_key left text) (text_key left' text)
unfolding text_key
text_key-front left left' text = either (is_none (index_of text)) (gives _ refl refl) (failed _ refl)

new_key-front : (properties : List (List ℕ × Item)) (met : Met) (left left' : ℕ) (key : List ℕ) → Front Met (Exactly same) (new_key properties met left key) (new_key properties met left' key)
unfolding new_key
new_key-front properties met left left' key = either (is_new key properties) (units-front left left' (length key) met) (failed _ refl)

module _ (back : List ℕ) where
  count-front : (count left left' : ℕ) (bytes : List ℕ) → Front (List ℕ) (Exactly (after1 back)) (count_at count left (bytes ++ back)) (count_at count left' bytes)
  unfolding count_at
  count-front count left left' bytes = behind (after2 back) _ _ (varint-front back bytes) (λ n. either (n.0 == count) (gives n.1 refl refl) (failed _ refl))

  opened-front : (tag : ℕ) (bytes : List ℕ) → Front (Open × List ℕ) (λ x all. IsOpen x.0 × (all ≡ Ok (after2 back x))) (opened_at tag (bytes ++ back)) (opened_at tag bytes)
  unfolding opened_at turn_with
  opened-front tag bytes = either (tag == 111) (gives _ refl (IsOpen.object [] (Some 0) (λ inner met tag rest. refl), refl))
      (either (tag == 59) (gives _ refl (IsOpen.entries [] (λ inner met tag rest. refl), refl))
      (either (tag == 39) (gives _ refl (IsOpen.members [] (λ inner met tag rest. refl), refl))
      (either (tag == 65) (behind (after2 back) _ _ (varint-front back bytes) (λ n. gives _ refl (IsOpen.array n.0 [] (λ inner met tag rest. refl), refl)))
      (behind (after2 back) _ _ (varint-front back bytes) (λ n. gives _ refl (IsOpen.sparse n.0 [] (λ inner met tag rest. refl), refl))))))

  key-front : (least : Option ℕ) (tag : ℕ) (met : Met) (left left' : ℕ) (bytes : List ℕ) → Front ((List ℕ × Option ℕ) × List ℕ) (Exactly (after2 back)) (key_at least tag met left (bytes ++ back)) (key_at least tag met left' bytes)
  unfolding key_at
  key-front least tag met left left' bytes =
      let fails = refused-fails ((List ℕ × Option ℕ) × List ℕ) Key tag met left (bytes ++ back) in
      either (may_be_index tag least)
      (behind (after2 back) _ _ (number-front back tag left left' bytes) (λ n. behind same _ _ (index-front least left left' n.0) (λ key. gives (key, n.1) refl refl)))
      (either (is_text_tag tag)
      (behind (after2 back) _ _ (string-front back tag left left' bytes) (λ s. behind same _ _ (text_key-front left left' s.0) (λ key. gives (key, s.1) refl refl)))
      (failed fails.0 fails.1))

  module _ (inner : ItemReader) (known : IsFronted back inner) where
    -- ---- turns

    object-front : (properties : List (List ℕ × Item)) (least : Option ℕ) (met : Met) (tag left left' : ℕ) (bytes : List ℕ)
        → Front (Turn × Met × List ℕ) (GivesTurn back) (object_turn inner properties least met tag left (bytes ++ back)) (object_turn inner properties least met tag left' bytes)
    unfolding object_turn turn_with
    object-front properties least met tag left left' bytes = either (tag == 123)
        (behind (after1 back) _ _ (count-front (length properties) left left' bytes) (λ rest. gives _ refl (GivesTurn.last (nodes.Object properties) (λ next met bytes. refl) refl)))
        (behind (after2 back) _ _ (key-front least tag met left left' bytes) (λ key. behind same _ _ (new_key-front properties met left left' key.0.0) (λ counted.
        loosely _ _ (known.fronts counted key.1) (λ x all g. by-item back _ x all g
        (gives _ refl (GivesTurn.more _ (λ next met bytes. refl) (IsOpen.object (properties ++ (key.0.0, x.0) ∷ []) key.0.1 (λ inner met tag rest. refl)) refl))
        (λ any u. gives _ refl (GivesTurn.lost _ (λ next met bytes. refl) u))))))

    array-front : (size : ℕ) (items : List Item) (met : Met) (tag left left' : ℕ) (bytes : List ℕ)
        → Front (Turn × Met × List ℕ) (GivesTurn back) (array_turn inner size items met tag left (bytes ++ back)) (array_turn inner size items met tag left' bytes)
    unfolding array_turn turn_with
    array-front size items met tag left left' bytes =
        let fails = refused-fails (Turn × Met × List ℕ) Key tag met left (bytes ++ back) in
        either (tag == 45) (failed _ refl) (either (nat_lt (length items) size)
        (loosely _ _ (known.fronts met (tag ∷ bytes)) (λ x all g. by-item back _ x all g
        (gives _ refl (GivesTurn.more _ (λ next met bytes. refl) (IsOpen.array size (items ++ x.0 ∷ []) (λ inner met tag rest. refl)) refl))
        (λ any u. gives _ refl (GivesTurn.lost _ (λ next met bytes. refl) u))))
        (either (tag == 36)
        (behind (after1 back) _ _ (count-front 0 left left' bytes) (λ rest. behind (after1 back) _ _ (count-front size left left' rest)
        (λ rest. gives _ refl (GivesTurn.last (nodes.Array items) (λ next met bytes. refl) refl))))
        (failed fails.0 fails.1)))

    sparse-front : (size : ℕ) (items : List Item) (met : Met) (tag left left' : ℕ) (bytes : List ℕ)
        → Front (Turn × Met × List ℕ) (GivesTurn back) (sparse_turn inner size items met tag left (bytes ++ back)) (sparse_turn inner size items met tag left' bytes)
    unfolding sparse_turn turn_with
    sparse-front size items met tag left left' bytes =
        let fails = refused-fails (Turn × Met × List ℕ) Hole tag met left (bytes ++ back) in
        either (tag == 45) (failed _ refl) (either (tag == 64) (either (nat_lt (length items) size) (failed _ refl)
        (behind (after1 back) _ _ (count-front size left left' bytes) (λ rest. behind (after1 back) _ _ (count-front size left left' rest)
        (λ rest. gives _ refl (GivesTurn.last (nodes.Array items) (λ next met bytes. refl) refl)))))
        (either (may_be_next tag size items)
        (behind (after2 back) _ _ (number-front back tag left left' bytes) (λ n. either (is_index n.0 (length items))
        (loosely _ _ (known.fronts met n.1) (λ x all g. by-item back _ x all g
        (gives _ refl (GivesTurn.more _ (λ next met bytes. refl) (IsOpen.sparse size (items ++ x.0 ∷ []) (λ inner met tag rest. refl)) refl))
        (λ any u. gives _ refl (GivesTurn.lost _ (λ next met bytes. refl) u))))
        (failed _ refl)))
        (failed fails.0 fails.1)))

    map-front : (pairs : List (Item × Item)) (met : Met) (tag left left' : ℕ) (bytes : List ℕ)
        → Front (Turn × Met × List ℕ) (GivesTurn back) (map_turn inner pairs met tag left (bytes ++ back)) (map_turn inner pairs met tag left' bytes)
    unfolding map_turn turn_with
    map-front pairs met tag left left' bytes = either (tag == 58)
        (behind (after1 back) _ _ (count-front (2 * length pairs) left left' bytes) (λ rest. gives _ refl (GivesTurn.last (nodes.Map pairs) (λ next met bytes. refl) refl)))
        (loosely _ _ (known.fronts met (tag ∷ bytes)) (λ k all g. by-item back _ k all g
        (loosely _ _ (known.fronts k.1 k.2) (λ x all g. by-item back _ x all g
        (gives _ refl (GivesTurn.more _ (λ next met bytes. refl) (IsOpen.entries (pairs ++ (k.0, x.0) ∷ []) (λ inner met tag rest. refl)) refl))
        (λ any u. gives _ refl (GivesTurn.lost _ (λ next met bytes. refl) u))))
        (λ any u. ended (rw (known.ends k.1 k.2 u) refl))))

    set-front : (items : List Item) (met : Met) (tag left left' : ℕ) (bytes : List ℕ)
        → Front (Turn × Met × List ℕ) (GivesTurn back) (set_turn inner items met tag left (bytes ++ back)) (set_turn inner items met tag left' bytes)
    unfolding set_turn turn_with
    set-front items met tag left left' bytes = either (tag == 44)
        (behind (after1 back) _ _ (count-front (length items) left left' bytes) (λ rest. gives _ refl (GivesTurn.last (nodes.Set items) (λ next met bytes. refl) refl)))
        (loosely _ _ (known.fronts met (tag ∷ bytes)) (λ x all g. by-item back _ x all g
        (gives _ refl (GivesTurn.more _ (λ next met bytes. refl) (IsOpen.members (items ++ x.0 ∷ []) (λ inner met tag rest. refl)) refl))
        (λ any u. gives _ refl (GivesTurn.lost _ (λ next met bytes. refl) u))))

    turn_with-front : (begun : Open) → IsOpen begun → (met : Met) (tag : ℕ) (bytes : List ℕ)
        → Front (Turn × Met × List ℕ) (GivesTurn back) (turn_with inner begun met (tag ∷ (bytes ++ back))) (turn_with inner begun met (tag ∷ bytes))
    turn_with-front begun (IsOpen.object properties least is) met tag bytes = moved (is inner met tag (bytes ++ back)) (is inner met tag bytes) (object-front properties least met tag _ _ bytes)
    turn_with-front begun (IsOpen.array size items is) met tag bytes = moved (is inner met tag (bytes ++ back)) (is inner met tag bytes) (array-front size items met tag _ _ bytes)
    turn_with-front begun (IsOpen.sparse size items is) met tag bytes = moved (is inner met tag (bytes ++ back)) (is inner met tag bytes) (sparse-front size items met tag _ _ bytes)
    turn_with-front begun (IsOpen.entries pairs is) met tag bytes = moved (is inner met tag (bytes ++ back)) (is inner met tag bytes) (map-front pairs met tag _ _ bytes)
    turn_with-front begun (IsOpen.members items is) met tag bytes = moved (is inner met tag (bytes ++ back)) (is inner met tag bytes) (set-front items met tag _ _ bytes)

    turn-ends : (begun : Open) (met : Met) (bytes : List ℕ) → unpadded bytes ≡ [] → turn_at inner begun met bytes ≡ cut
    unfolding turn_at turn_with
    turn-ends begun met bytes e = rw e refl

    turn-front : (begun : Open) → IsOpen begun → (met : Met) (bytes : List ℕ)
        → Front (Turn × Met × List ℕ) (GivesTurn back) (turn_at inner begun met (bytes ++ back)) (turn_at inner begun met bytes)
    unfolding turn_at
    turn-front begun good met bytes = elim (unpadded-front back bytes) [
      | inl e ↦ ended (turn-ends begun met bytes e)
      | inr h ↦ moved (ap (turn_with inner begun met) h.3) (ap (turn_with inner begun met) h.2) (turn_with-front begun good met h.0 h.1)
    ]

    contents-ends : (m : ℕ) (begun : Open) (met : Met) (bytes : List ℕ) → unpadded bytes ≡ [] → contents_at inner m begun met bytes ≡ cut
    unfolding contents_at
    contents-ends zero begun met bytes e = refl
    contents-ends (suc m) begun met bytes e = ap (λ r. r >>= λ x. turned (contents_at inner m) x.0 x.1 x.2) (turn-ends begun met bytes e)

    turned-front : (n m : ℕ) (next : (begun : Open) → IsOpen begun → (met : Met) (bytes : List ℕ)
        → Front (PNode × Met × List ℕ) (Exactly (after3 back)) (contents_at inner n begun met (bytes ++ back)) (contents_at inner m begun met bytes))
        (x : Turn × Met × List ℕ) (all : Result (Turn × Met × List ℕ) Fault) → GivesTurn back x all
        → Front (PNode × Met × List ℕ) (Exactly (after3 back)) (all >>= λ x. turned (contents_at inner n) x.0 x.1 x.2) (turned (contents_at inner m) x.0 x.1 x.2)
    turned-front n m next x all (GivesTurn.more begun turns good h) =
        moved (ap (λ r. r >>= λ x. turned (contents_at inner n) x.0 x.1 x.2) h ∙ turns (contents_at inner n) x.1 (x.2 ++ back)) (turns (contents_at inner m) x.1 x.2) (next begun good x.1 x.2)
    turned-front n m next x all (GivesTurn.lost begun turns u) = ended (turns (contents_at inner m) x.1 x.2 ∙ contents-ends m begun x.1 x.2 u)
    turned-front n m next x all (GivesTurn.last node turns h) =
        moved (ap (λ r. r >>= λ x. turned (contents_at inner n) x.0 x.1 x.2) h ∙ turns (contents_at inner n) x.1 (x.2 ++ back)) (turns (contents_at inner m) x.1 x.2) (gives (node, x.1, x.2) refl refl)

    contents-front : (n m : ℕ) (begun : Open) → IsOpen begun → (met : Met) (bytes : List ℕ)
        → Front (PNode × Met × List ℕ) (Exactly (after3 back)) (contents_at inner n begun met (bytes ++ back)) (contents_at inner m begun met bytes)
    unfolding contents_at
    contents-front zero m begun good met bytes = failed _ refl
    contents-front (suc n) zero begun good met bytes = ended refl
    contents-front (suc n) (suc m) begun good met bytes = loosely _ _ (turn-front begun good met bytes) (turned-front n m (contents-front n m))

    composite-front : (tag : ℕ) (met : Met) (left left' : ℕ) (bytes : List ℕ)
        → Front (Item × Met × List ℕ) (Exactly (after3 back)) (composite_at inner tag met left (bytes ++ back)) (composite_at inner tag met left' bytes)
    unfolding composite_at
    composite-front tag met left left' bytes = behind same _ _ (node-front left left' (nodes.Port 0) met) (λ n.
        loosely _ _ (opened-front tag bytes) (λ begun all g. rw g.1 (behind (after3 back) _ _ (contents-front (length (begun.1 ++ back)) (length begun.1) begun.0 g.0 n.1 begun.1) (λ x. gives _ refl refl))))

-- ---- views

-- What stands behind a buffer's `V` fails, or is a view of it.
data IsViewed (number : ℕ) (met : Met) (all : Result (Item × Met × List ℕ) Fault) : Type 0 where
  fails : (f : Fault) → all ≡ Err f → IsViewed number met all
  views : (offset count : ℕ) (rest : List ℕ) → all ≡ Ok (Node (length met.nodes), record met { nodes = met.nodes ++ nodes.View number offset count ∷ [] }, rest) → IsViewed number met all

viewed-behind : {A : Type 0} (number : ℕ) (met : Met) (r : Result A Fault) (f : A → Result (Item × Met × List ℕ) Fault) → ((x : A) → IsViewed number met (f x)) → IsViewed number met (r >>= f)
viewed-behind number met (Ok x) f each = each x
viewed-behind number met (Err e) f each = IsViewed.fails e refl

viewed-either : (number : ℕ) (met : Met) (test : Bool) (a b : Result (Item × Met × List ℕ) Fault) → IsViewed number met a → IsViewed number met b → IsViewed number met (if test then a else b)
viewed-either number met true a b h k = h
viewed-either number met false a b h k = k

view-is : (number size : ℕ) (met : Met) (left : ℕ) (bytes : List ℕ) → IsViewed number met (view_at number size met left bytes)
unfolding view_at
view-is number size met left [] = viewed-either number met (are_full met.nodes) _ _ (IsViewed.fails _ refl) (IsViewed.fails _ refl)
view-is number size met left (b ∷ rest) = viewed-either number met (are_full met.nodes) _ _ (IsViewed.fails _ refl)
    (viewed-either number met (b == 66) _ _ (viewed-behind number met (varint_at rest) _ (λ offset. viewed-behind number met (varint_at offset.1) _ (λ count.
    viewed-either number met (nat_lt size (offset.0 + count.0)) _ _ (IsViewed.fails (record { left = left; kind = kinds.View }) refl) (viewed-behind number met (flags_at met.flags left count.1) _ (λ rest.
    viewed-full number met (are_full met.nodes) offset.0 count.0 left rest)))))
    (IsViewed.fails (record { left = left; kind = kinds.View }) refl))
  where
    viewed-full : (number : ℕ) (met : Met) (test : Bool) (offset count left : ℕ) (rest : List ℕ)
        → IsViewed number met (◌>>=◌ {A = ℕ × Met} (if test then fault left TooLarge else Ok (length met.nodes, record met { nodes = met.nodes ++ nodes.View number offset count ∷ [] })) (λ n. Ok (Node n.0, n.1, rest)))
    viewed-full number met true offset count left rest = IsViewed.fails _ refl
    viewed-full number met false offset count left rest = IsViewed.views offset count rest refl

view-full : (number size : ℕ) (met : Met) (left : ℕ) (bytes : List ℕ) → are_full met.nodes ≡ true → (f : Fault) × (view_at number size met left bytes ≡ Err f)
unfolding view_at
view-full number size met left [] e = (record { left = left; kind = TooLarge }, rw e refl)
view-full number size met left (b ∷ rest) e = (record { left = left; kind = TooLarge }, rw e refl)

module _ (back : List ℕ) where
  flags-front : (flags : Bool) (left left' : ℕ) (bytes : List ℕ) → Front (List ℕ) (Exactly (after1 back)) (flags_at flags left (bytes ++ back)) (flags_at flags left' bytes)
  unfolding flags_at
  flags-front true left left' [] = ended refl
  flags-front false left left' [] = gives [] refl (flags-none left back)
    where
      flags-none : (left : ℕ) (bytes : List ℕ) → flags_at false left bytes ≡ Ok bytes
      flags-none left [] = refl
      flags-none left (b ∷ bytes) = refl
  flags-front flags left left' (b ∷ rest) = either flags (either (b == 0) (gives rest refl refl) (failed _ refl)) (gives (b ∷ rest) refl refl)

  view-front : (number size : ℕ) (met : Met) (left left' : ℕ) (bytes : List ℕ)
      → Front (Item × Met × List ℕ) (Exactly (after3 back)) (view_at number size met left (bytes ++ back)) (view_at number size met left' bytes)
  unfolding view_at
  view-front number size met left left' [] = by (are_full met.nodes) refl
    where
      by : (test : Bool) → are_full met.nodes ≡ test → Front (Item × Met × List ℕ) (Exactly (after3 back)) (view_at number size met left back) (view_at number size met left' [])
      by true e = let f = view-full number size met left back e in failed f.0 f.1
      by false e = ended (rw e refl)
  view-front number size met left left' (b ∷ rest) = either (are_full met.nodes) (failed _ refl) (either (b == 66)
      (behind (after2 back) _ _ (varint-front back rest) (λ offset. behind (after2 back) _ _ (varint-front back offset.1) (λ count.
      either (nat_lt size (offset.0 + count.0)) (failed _ refl) (behind (after1 back) _ _ (flags-front met.flags left left' count.1) (λ rest.
      behind same _ _ (node-front left left' (nodes.View number offset.0 count.0) met) (λ n. gives _ refl refl))))))
      (failed _ refl))

  -- nothing but padding stands behind a buffer
  viewless-front : (number size : ℕ) (met : Met) (bytes list : List ℕ) → buffer_size (slice_get met.nodes number) ≡ Some size → unpadded bytes ≡ []
      → Front (Item × Met × List ℕ) (GivesItem back) (viewed_with number size met (bytes ++ back) list) (Ok (Node number, met, bytes))
  unfolding viewed_with
  viewless-front number size met bytes [] s u = gives _ refl (GivesItem.exact refl)
  viewless-front number size met bytes (b ∷ rest) s u = by (b == 86) (view-is number size met (length (b ∷ rest)) rest)
    where
      by : (test : Bool) → IsViewed number met (view_at number size met (length (b ∷ rest)) rest)
          → Front (Item × Met × List ℕ) (GivesItem back) (if test then view_at number size met (length (b ∷ rest)) rest else Ok (Node number, met, bytes ++ back)) (Ok (Node number, met, bytes))
      by true (IsViewed.fails f h) = failed f h
      by true (IsViewed.views offset count after h) = gives _ refl (GivesItem.viewless number size offset count after u refl s h)
      by false h = gives _ refl (GivesItem.exact refl)

  viewed_with-front : (number size : ℕ) (met : Met) (bytes : List ℕ) → buffer_size (slice_get met.nodes number) ≡ Some size
      → Front (Item × Met × List ℕ) (GivesItem back) (viewed_with number size met (bytes ++ back) (unpadded (bytes ++ back))) (viewed_with number size met bytes (unpadded bytes))
  unfolding viewed_with
  viewed_with-front number size met bytes s = elim (unpadded-front back bytes) [
    | inl e ↦ moved refl (ap (viewed_with number size met bytes) e) (viewless-front number size met bytes (unpadded (bytes ++ back)) s e)
    | inr h ↦ moved (ap (viewed_with number size met (bytes ++ back)) h.3) (ap (viewed_with number size met bytes) h.2) (either (h.0 == 86)
        (loosened (λ x k. GivesItem.exact k) (view-front number size met _ _ h.1)) (gives (Node number, met, bytes) refl (GivesItem.exact refl)))
  ]

  viewed-front : (item : Item) (met : Met) (bytes : List ℕ) → Front (Item × Met × List ℕ) (GivesItem back) (viewed_at item met (bytes ++ back)) (viewed_at item met bytes)
  unfolding viewed_at
  viewed-front (Node number) met bytes = by (buffer_size (slice_get met.nodes number)) refl
    where
      by : (size : Option ℕ) → buffer_size (slice_get met.nodes number) ≡ size → Front (Item × Met × List ℕ) (GivesItem back) (viewed_if size number met (bytes ++ back)) (viewed_if size number met bytes)
      by None s = gives (Node number, met, bytes) refl (GivesItem.exact refl)
      by (Some size) s = viewed_with-front number size met bytes s
  viewed-front item met bytes = gives (item, met, bytes) refl (GivesItem.exact refl)

  -- ---- items

  refused-ends : (met : Met) (bytes : List ℕ) → unpadded bytes ≡ [] → refused_at met (unpadded bytes) ≡ cut
  unfolding refused_at
  refused-ends met bytes e = rw e refl

  refused-front : (met : Met) (bytes : List ℕ) → Front (Item × Met × List ℕ) (GivesItem back) (refused_at met (unpadded (bytes ++ back))) (refused_at met (unpadded bytes))
  unfolding refused_at
  refused-front met bytes = elim (unpadded-front back bytes) [
    | inl e ↦ ended (refused-ends met bytes e)
    | inr h ↦
        let fails = refused-fails (Item × Met × List ℕ) TooLarge h.0 met (length (h.0 ∷ (h.1 ++ back))) (h.1 ++ back) in
        failed fails.0 (ap (refused_at met) h.3 ∙ fails.1)
  ]

  entered-front : (inner : ItemReader) → IsFronted back inner → (met : Met) (bytes : List ℕ)
      → Front (Item × Met × List ℕ) (GivesItem back) (entered_at inner met (unpadded (bytes ++ back))) (entered_at inner met (unpadded bytes))
  unfolding entered_at
  entered-front inner known met bytes = elim (unpadded-front back bytes) [
    | inl e ↦ ended (rw e refl)
    | inr h ↦ moved (ap (entered_at inner met) h.3) (ap (entered_at inner met) h.2) (either (is_composite_tag h.0)
        (loosened (λ x k. GivesItem.exact k) (composite-front back inner known h.0 met _ _ h.1))
        (behind (after3 back) _ _ (leaf-front back h.0 met _ _ h.1) (λ x. viewed-front x.0 x.1 x.2)))
  ]

  entered-ends : (inner : ItemReader) (met : Met) (bytes : List ℕ) → unpadded bytes ≡ [] → entered_at inner met (unpadded bytes) ≡ cut
  unfolding entered_at
  entered-ends inner met bytes e = rw e refl

  one : {A : Type 0} (test : Bool) (a b c : A) → a ≡ c → b ≡ c → (if test then a else b) ≡ c
  one true a b c h k = h
  one false a b c h k = k

  pub item-fronted : (depth : ℕ) → IsFronted back (item_at depth)
  unfolding item_at
  item-fronted zero = record { fronts = refused-front; ends = refused-ends }
  item-fronted (suc depth) = record {
    fronts = λ met bytes. either (nat_le 1_000_000 met.items) (refused-front met bytes) (entered-front (item_at depth) (item-fronted depth) (record met { items = met.items + 1 }) bytes);
    ends = λ met bytes e. one (nat_le 1_000_000 met.items) _ _ _ (refused-ends met bytes e) (entered-ends (item_at depth) (record met { items = met.items + 1 }) bytes e);
  }
