-- Laws of the sides.
use Rattle.std.proofs.Common.{◌≡◌, List, [], ◌∷◌, map, refl, ap}
use Rattle.parcel.specs.Sides.{other_side, turned_item, turned_node, turned, swapped}
use Rattle.parcel.specs.declared.parcel.Side.{Side}
use Rattle.parcel.specs.declared.parcel.Side.TheVariants.{Own, Far}
use Rattle.parcel.specs.declared.parcel.Item.{Item}
use Rattle.parcel.specs.declared.parcel.Item.TheVariants.{Undefined, Null, Bool, Num, Str, Node, Fn, Prom}
use Rattle.parcel.specs.declared.parcel.PNode.{PNode}
use Rattle.parcel.specs.declared.parcel.PNode.TheVariants.{Object, Array, Error, Map, Set, Port, Buffer, View}
use Rattle.parcel.specs.declared.parcel.Parcel.{Parcel}

-- a map twice, where each element comes back
pub map-twice : {A : Type 0} (f g : A → A) → ((x : A) → f (g x) ≡ x) → (xs : List A) → map f (map g xs) ≡ xs
map-twice f g back [] = refl
map-twice f g back (x ∷ xs) = ap2 (back x) (map-twice f g back xs)
  where
    ap2 : {A : Type 0} {x y : A} {xs ys : List A} → x ≡ y → xs ≡ ys → (x ∷ xs) ≡ (y ∷ ys)
    ap2 e d = rw (e, d) refl

pub map_same : {A : Type 0} (f : A → A) → ((x : A) → f x ≡ x) → (xs : List A) → map f xs ≡ xs
map_same f same [] = refl
map_same f same (x ∷ xs) = rw (same x, map_same f same xs) refl

module _ (f g : Side → Side) (back : (side : Side) → f (g side) ≡ side) where
  pub turned_item-twice : (item : Item) → turned_item f (turned_item g item) ≡ item
  unfolding turned_item
  turned_item-twice Undefined = refl
  turned_item-twice Null = refl
  turned_item-twice (Bool b) = refl
  turned_item-twice (Num n) = refl
  turned_item-twice (Str units) = refl
  turned_item-twice (Node number) = refl
  turned_item-twice (Fn side number) = rw (back side) refl
  turned_item-twice (Prom side number) = rw (back side) refl

  pub turned_node-twice : (node : PNode) → turned_node f (turned_node g node) ≡ node
  unfolding turned_node
  turned_node-twice (Object properties) = ap (λ ps. Object ps) (map-twice _ _ (λ p. ap (λ i. (p.0, i)) (turned_item-twice p.1)) properties)
  turned_node-twice (Array items) = ap (λ xs. Array xs) (map-twice _ _ turned_item-twice items)
  turned_node-twice (Error kind message) = refl
  turned_node-twice (Map entries) = ap (λ es. Map es) (map-twice _ _ (λ e. rw (turned_item-twice e.0, turned_item-twice e.1) refl) entries)
  turned_node-twice (Set items) = ap (λ xs. Set xs) (map-twice _ _ turned_item-twice items)
  turned_node-twice (Port place) = refl
  turned_node-twice (Buffer bytes) = refl
  turned_node-twice (View buffer offset size) = refl

  pub turned-twice : (parcel : Parcel) → turned f (turned g parcel) ≡ parcel
  unfolding turned
  turned-twice parcel = rw (turned_item-twice parcel.root, map-twice (turned_node f) (turned_node g) turned_node-twice parcel.nodes) refl

pub other_side-twice : (side : Side) → other_side (other_side side) ≡ side
other_side-twice Own = refl
other_side-twice Far = refl

-- Exchanging the sides twice gives the parcel again.
pub swapped-twice : (parcel : Parcel) → swapped (swapped parcel) ≡ parcel
unfolding swapped
swapped-twice parcel = turned-twice other_side other_side other_side-twice parcel

-- A parcel whose sides are kept is the same.
module _ (f : Side → Side) (same : (side : Side) → f side ≡ side) where
  pub turned_item-kept : (item : Item) → turned_item f item ≡ item
  unfolding turned_item
  turned_item-kept Undefined = refl
  turned_item-kept Null = refl
  turned_item-kept (Bool b) = refl
  turned_item-kept (Num n) = refl
  turned_item-kept (Str units) = refl
  turned_item-kept (Node number) = refl
  turned_item-kept (Fn side number) = rw (same side) refl
  turned_item-kept (Prom side number) = rw (same side) refl

  pub turned_node-kept : (node : PNode) → turned_node f node ≡ node
  unfolding turned_node
  turned_node-kept (Object properties) = ap (λ ps. Object ps) (map_same _ (λ p. ap (λ i. (p.0, i)) (turned_item-kept p.1)) properties)
  turned_node-kept (Array items) = ap (λ xs. Array xs) (map_same _ turned_item-kept items)
  turned_node-kept (Error kind message) = refl
  turned_node-kept (Map entries) = ap (λ es. Map es) (map_same _ (λ e. rw (turned_item-kept e.0, turned_item-kept e.1) refl) entries)
  turned_node-kept (Set items) = ap (λ xs. Set xs) (map_same _ turned_item-kept items)
  turned_node-kept (Port place) = refl
  turned_node-kept (Buffer bytes) = refl
  turned_node-kept (View buffer offset size) = refl

  pub turned-kept : (parcel : Parcel) → turned f parcel ≡ parcel
  unfolding turned
  turned-kept parcel = rw (turned_item-kept parcel.root, map_same (turned_node f) turned_node-kept parcel.nodes) refl
