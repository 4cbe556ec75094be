-- A JSON value gives no functions, promises and ports.
use Rattle.std.proofs.Common.{◌≡◌, ℕ, zero, suc, ◌+◌, nat_lt, eqb, List, [], ◌∷◌, ◌++◌, length, map, Bool as Boolean, true, false, if◌then◌else◌, Option, Some, None, option_map, option_and_then, refl, ap, ◌∙◌, subst}
use Rattle.std.specs.List.{list_all}
use Rattle.std.proofs.lemmas.List.Folds.{list_all-append}
use Rattle.serde_json.specs.Data.{Num, Data, null, boolean, number, string, array, object, Items, no_items, item, Members, no_members, member}
use Rattle.serde_json.specs.Find.{as_i64}
use Rattle.parcel.specs.Plain.{items_of, is_plain_item, is_plain, is_port_below, ports_below}
use Rattle.parcel.specs.declared.parcel.Item.{Item}
use Rattle.parcel.specs.declared.parcel.Item.TheVariants.{Null, Bool, Num as Whole, Str, Node}
use Rattle.parcel.specs.declared.parcel.PNode.{PNode}
use Rattle.parcel.specs.declared.parcel.PNode.TheVariants.{Object, Array}
use Rattle.wire_input.specs.Input.{Placed, placed_with, named, text_of, class_of, classes_placed, value_placed, items_placed, class_placed}

-- no function, promise or port in the nodes
pub record Fine (ns : List PNode) : Type 0 where
  pub plain : list_all (λ node. list_all is_plain_item (items_of node)) ns ≡ true
  pub ports : list_all (is_port_below 0) ns ≡ true

Fine-none : Fine []
Fine-none = record { plain = refl; ports = refl }

Fine-append : (ns ms : List PNode) → Fine ns → Fine ms → Fine (ns ++ ms)
Fine-append ns ms a b = record {
  plain = list_all-append _ ns ms ∙ rw (a.plain, b.plain) refl;
  ports = list_all-append _ ns ms ∙ rw (a.ports, b.ports) refl;
}

mapped : {A B : Type 0} (f : A → B) (o : Option A) (y : B) → option_map f o ≡ Some y → (x : A) × (o ≡ Some x) × (f x ≡ y)
mapped f None y e = absurd cc
mapped f (Some x) y e = (x, refl, cc)

-- what the parts of a whole were
with-told : {A B C : Type 0} (join : A → B → C) (first : Placed A) (more : ℕ → Placed B) (next : ℕ) (y : C × List PNode) → placed_with join first more next ≡ Some y
    → (a : A × List PNode) × (first ≡ Some a) × (b : B × List PNode) × (more (next + length a.1) ≡ Some b)
    × (◌≡◌ {A = C × List PNode} (join a.0 b.0, a.1 ++ b.1) y)
with-told join None more next y e = absurd cc
with-told join (Some a) more next y e =
    let m = mapped (λ rest. (join a.0 rest.0, a.1 ++ rest.1)) (more (next + length a.1)) y e in
    (a, refl, m.0, m.1, m.2)

node-by : {A : Type 0} (test : Boolean) (node : List A → PNode) (contents : Placed (List A)) (next : ℕ) (y : Item × List PNode)
    → (if test then option_map (λ inner. (Node next, node inner.0 ∷ inner.1)) contents else None) ≡ Some y
    → (inner : List A × List PNode) × (contents ≡ Some inner) × (◌≡◌ {A = Item × List PNode} (Node next, node inner.0 ∷ inner.1) y)
node-by true node contents next y e = mapped (λ inner. (Node next, node inner.0 ∷ inner.1)) contents y e
node-by false node contents next y e = absurd cc

-- a placed value, a placed list
abbrev FineItem : Item × List PNode → Type 0
FineItem y = (is_plain_item y.0 ≡ true) × Fine y.1

abbrev FineItems : List Item × List PNode → Type 0
FineItems y = (list_all is_plain_item y.0 ≡ true) × Fine y.1

abbrev FineProperties : List (List ℕ × Item) × List PNode → Type 0
FineProperties y = (list_all is_plain_item (map (λ property. property.1) y.0) ≡ true) × Fine y.1

leaf : (it : Item) (y : Item × List PNode) → is_plain_item it ≡ true → ◌≡◌ {A = Placed Item} (Some (it, [])) (Some y) → FineItem y
leaf it y plain e = let same : ◌≡◌ {A = Item × List PNode} (it, []) y = cc in subst FineItem same (plain, Fine-none)

array-fine : (next : ℕ) (inner : List Item × List PNode) → FineItems inner → FineItem (Node next, Array inner.0 ∷ inner.1)
unfolding items_of
array-fine next inner h = (refl, record { plain = rw (h.0, h.1.plain) refl; ports = h.1.ports })

object-fine : (next : ℕ) (inner : List (List ℕ × Item) × List PNode) → FineProperties inner → FineItem (Node next, Object inner.0 ∷ inner.1)
unfolding items_of
object-fine next inner h = (refl, record { plain = rw (h.0, h.1.plain) refl; ports = h.1.ports })

items-fine : (a : Item × List PNode) (b : List Item × List PNode) → FineItem a → FineItems b → FineItems (a.0 ∷ b.0, a.1 ++ b.1)
items-fine a b h k = (rw (h.0, k.0) refl, Fine-append a.1 b.1 h.1 k.1)

property-fine : (a : (List ℕ × Item) × List PNode) (b : List (List ℕ × Item) × List PNode) → (is_plain_item a.0.1 ≡ true) × Fine a.1 → FineProperties b
    → FineProperties (a.0 ∷ b.0, a.1 ++ b.1)
property-fine a b h k = (rw (h.0, k.0) refl, Fine-append a.1 b.1 h.1 k.1)

map-append : (xs ys : List (List ℕ × Item)) → map (λ property. property.1) (xs ++ ys) ≡ map (λ property. property.1) xs ++ map (λ property. property.1) ys
map-append [] ys = refl
map-append (x ∷ xs) ys = ap (λ l. x.1 ∷ l) (map-append xs ys)

properties-fine : (a b : List (List ℕ × Item) × List PNode) → FineProperties a → FineProperties b → FineProperties (a.0 ++ b.0, a.1 ++ b.1)
properties-fine a b h k = (
  ap (list_all is_plain_item) (map-append a.0 b.0) ∙ list_all-append is_plain_item (map (λ property. property.1) a.0) (map (λ property. property.1) b.0)
      ∙ rw (h.0, k.0) refl,
  Fine-append a.1 b.1 h.1 k.1,
)

classes-fine : (members : ℕ → ℕ → Placed (List (List ℕ × Item)))
    → ((class next : ℕ) (y : List (List ℕ × Item) × List PNode) → members class next ≡ Some y → FineProperties y)
    → (count class next : ℕ) (y : List (List ℕ × Item) × List PNode) → classes_placed members count class next ≡ Some y → FineProperties y
unfolding classes_placed
classes-fine members fine zero class next y e =
    let same : ◌≡◌ {A = List (List ℕ × Item) × List PNode} ([], []) y = cc in
    subst FineProperties same (refl, Fine-none)
classes-fine members fine (suc count) class next y e =
    let t = with-told (λ first more. first ++ more) (members class next) (classes_placed members count (suc class)) next y e in
    subst FineProperties t.4
    (properties-fine t.0 t.2 (fine class next t.0 t.1) (classes-fine members fine count (suc class) (next + length t.0.1) t.2 t.3))

-- a member of a class
named-told : (text : Option (List ℕ)) (value : Placed Item) (y : (List ℕ × Item) × List PNode) → option_and_then (named value) text ≡ Some y
    → (inner : Item × List PNode) × (value ≡ Some inner) × (key : List ℕ) × (◌≡◌ {A = (List ℕ × Item) × List PNode} ((key, inner.0), inner.1) y)
named-told None value y e = absurd cc
named-told (Some key) value y e =
    let m = mapped (λ inner. ((key, inner.0), inner.1)) value y e in
    (m.0, m.1, key, m.2)

number-fine : (n : Num) (y : Item × List PNode) → option_map (λ whole. (whole, [])) (option_map (λ z. Whole z) (as_i64 n)) ≡ Some y → FineItem y
number-fine n y e =
    let m = mapped (λ whole. (whole, [])) (option_map (λ z. Whole z) (as_i64 n)) y e in
    let k = mapped (λ z. Whole z) (as_i64 n) m.0 m.1 in
    subst FineItem m.2 (subst (λ it. FineItem (it, [])) k.2 (refl, Fine-none))

string-fine : (s : List ℕ) (y : Item × List PNode) → option_map (λ text. (Str text, [])) (text_of s) ≡ Some y → FineItem y
string-fine s y e =
    let m = mapped (λ text. (Str text, [])) (text_of s) y e in
    subst FineItem m.2 (refl, Fine-none)

-- a member is of the class, or passed over
member-by : (test : Boolean) (first : Placed (List ℕ × Item)) (more : ℕ → Placed (List (List ℕ × Item))) (next : ℕ) (y : List (List ℕ × Item) × List PNode)
    → ((a : (List ℕ × Item) × List PNode) → first ≡ Some a → (is_plain_item a.0.1 ≡ true) × Fine a.1)
    → ((n : ℕ) (b : List (List ℕ × Item) × List PNode) → more n ≡ Some b → FineProperties b)
    → (if test then placed_with (λ x rest. x ∷ rest) first more next else more next) ≡ Some y → FineProperties y
member-by true first more next y fine_first fine_more e =
    let t = with-told (λ x rest. x ∷ rest) first more next y e in
    subst FineProperties t.4 (property-fine t.0 t.2 (fine_first t.0 t.1) (fine_more (next + length t.0.1) t.2 t.3))
member-by false first more next y fine_first fine_more e = fine_more next y e

named-fine : (text : Option (List ℕ)) (value : Placed Item) → ((inner : Item × List PNode) → value ≡ Some inner → FineItem inner)
    → (a : (List ℕ × Item) × List PNode) → option_and_then (named value) text ≡ Some a → (is_plain_item a.0.1 ≡ true) × Fine a.1
named-fine text value fine a e =
    let t = named-told text value a e in
    let P : (List ℕ × Item) × List PNode → Type 0 = λ b. (is_plain_item b.0.1 ≡ true) × Fine b.1 in
    subst P t.3 (fine t.0 t.1)

mutual
  unfolding value_placed

  value-fine : (d : Data) (next : ℕ) (y : Item × List PNode) → value_placed d next ≡ Some y → FineItem y
  value-fine null next y e = leaf Null y refl e
  value-fine (boolean b) next y e = leaf (Bool b) y refl e
  value-fine (number n) next y e = number-fine n y e
  value-fine (string s) next y e = string-fine s y e
  value-fine (array values) next y e =
      let t = node-by (nat_lt next 100_000) (λ items. Array items) (items_placed values (next + 1)) next y e in
      subst FineItem t.2 (array-fine next t.0 (list-fine values (next + 1) t.0 t.1))
  value-fine (object members) next y e =
      let t = node-by (nat_lt next 100_000) (λ properties. Object properties) (classes_placed (class_placed members) 11 1 (next + 1)) next y e in
      subst FineItem t.2 (object-fine next t.0 (classes-fine (class_placed members) (class-fine members) 11 1 (next + 1) t.0 t.1))

  list-fine : (ds : Items) (next : ℕ) (y : List Item × List PNode) → items_placed ds next ≡ Some y → FineItems y
  list-fine no_items next y e = let same : ◌≡◌ {A = List Item × List PNode} ([], []) y = cc in subst FineItems same (refl, Fine-none)
  list-fine (item d ds) next y e =
      let t = with-told (λ first more. first ∷ more) (value_placed d next) (items_placed ds) next y e in
      subst FineItems t.4 (items-fine t.0 t.2 (value-fine d next t.0 t.1) (list-fine ds (next + length t.0.1) t.2 t.3))

  class-fine : (ms : Members) (class next : ℕ) (y : List (List ℕ × Item) × List PNode) → class_placed ms class next ≡ Some y → FineProperties y
  class-fine no_members class next y e =
      let same : ◌≡◌ {A = List (List ℕ × Item) × List PNode} ([], []) y = cc in
      subst FineProperties same (refl, Fine-none)
  class-fine (member key d ms) class next y e =
      member-by (eqb (class_of key) class) (option_and_then (named (value_placed d next)) (text_of key)) (class_placed ms class) next y
      (named-fine (text_of key) (value_placed d next) (value-fine d next)) (class-fine ms class) e

-- The parcel of a value has no function and no promise.
pub value-plain : (d : Data) (root : Item) (nodes : List PNode) → value_placed d 0 ≡ Some (root, nodes) → is_plain (record { root = root; nodes = nodes }) ≡ true
unfolding is_plain
value-plain d root nodes e = let h = value-fine d 0 (root, nodes) e in rw (h.0, h.1.plain) refl

-- It has no port.
pub value-ports : (d : Data) (root : Item) (nodes : List PNode) → value_placed d 0 ≡ Some (root, nodes) → ports_below 0 (record { root = root; nodes = nodes }) ≡ true
unfolding ports_below
value-ports d root nodes e = let h = value-fine d 0 (root, nodes) e in h.1.ports
