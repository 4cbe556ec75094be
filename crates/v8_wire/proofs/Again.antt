-- What it means that what was written is read again.
use Rattle.std.proofs.Common.{◌≡◌, ℕ, ◌+◌, ◌<◌, ◌≤◌, Bool, true, false, List, [], ◌∷◌, length, map, take, Option, Some, None, Ok, refl, ap, sym, ◌∙◌, subst, inl, inr, eqb}
use Rattle.std.specs.Prelude.{slice_get}
use Rattle.std.proofs.lemmas.Bool.{le-ltb, lt-ltb, cases_lt, eqb-true}
use Rattle.std.proofs.lemmas.Bool.Decides.{leb_tells}
use Rattle.parcel.specs.Checked.{with_item, with_node, with_units, only_if, numbered}
use Rattle.parcel.specs.Checked as checked
use Rattle.parcel.specs.declared.parcel.Item.{Item}
use Rattle.parcel.specs.declared.parcel.Item.TheVariants.{Node}
use Rattle.parcel.specs.declared.parcel.PNode.{PNode}
use Rattle.parcel.specs.declared.tally.Tally.{Tally}
use Rattle.v8_wire.specs.declared.met.Met.{Met}
use Rattle.v8_wire.specs.Leaf.{unpadded}
use Rattle.v8_wire.specs.Item.{buffer_size, viewed_with, viewed_if, viewed_at}

-- ---- the walk over a parcel

pub some_bind : {A B : Type 0} (o : Option A) (f : A → Option B) (y : B) → (checked.◌>>=◌ o f) ≡ Some y → (x : A) × (o ≡ Some x) × (f x ≡ Some y)
some_bind None f y e = absurd cc
some_bind (Some x) f y e = (x, refl, e)

pub only_if-is : (test : Bool) (t t' : Tally) → only_if test t ≡ Some t' → (test ≡ true) × (t ≡ t')
only_if-is true t t' e = (refl, cc)
only_if-is false t t' e = absurd cc

pub with_item-is : (t t' : Tally) → with_item t ≡ Some t' → (t.items < 1_000_000) × (t' ≡ record t { items = t.items + 1 })
with_item-is t t' e = elim (cases_lt t.items 1_000_000) [
  | inl lt ↦ (lt, let f = rw (lt-ltb t.items 1_000_000 lt) at e in cc)
  | inr le ↦ absurd (let f = rw (le-ltb t.items 1_000_000 le) at e in cc)
]

pub with_node-is : (t t' : Tally) → with_node t ≡ Some t' → (t.nodes < 100_000) × (t' ≡ record t { nodes = t.nodes + 1 })
with_node-is t t' e = elim (cases_lt t.nodes 100_000) [
  | inl lt ↦ (lt, let f = rw (lt-ltb t.nodes 100_000 lt) at e in cc)
  | inr le ↦ absurd (let f = rw (le-ltb t.nodes 100_000 le) at e in cc)
]

pub with_units-is : (more : ℕ) (t t' : Tally) → with_units more t ≡ Some t' → (t.units + more ≤ 16_777_216) × (t' ≡ record t { units = t.units + more })
with_units-is more t t' e = elim (leb_tells (t.units + more) 16_777_216) [
  | inl h ↦ (h.1, let f = rw h.0 at e in cc)
  | inr h ↦ absurd (let f = rw h.0 at e in cc)
]

pub numbered-is : (number : ℕ) (t t' : Tally) → numbered number t ≡ Some t' → (number ≡ t.nodes) × (t.nodes < 100_000) × (t' ≡ record t { nodes = t.nodes + 1 })
numbered-is number t t' e =
    let b = some_bind (only_if (eqb number t.nodes) t) with_node t' e in
    let o = only_if-is (eqb number t.nodes) t b.0 b.1 in
    let n = with_node-is b.0 t' b.2 in
    (eqb-true number t.nodes o.0, subst (λ (x : Tally). x.nodes < 100_000) (sym o.1) n.0, n.1 ∙ ap (λ (x : Tally). record x { nodes = x.nodes + 1 }) (sym o.1))

-- ---- what a reader has met, and what a walk has

-- the sizes of the buffers among nodes
abbrev pub sizes : List PNode → List (Option ℕ)
sizes nodes = map (λ node. buffer_size (Some node)) nodes

-- A reader that has met so much of the nodes.
pub record Agrees (ports : ℕ) (nodes : List PNode) (met : Met) (t : Tally) : Type 0 where
  pub ports_are : met.ports ≡ ports
  pub flags_are : met.flags ≡ true
  pub count : length met.nodes ≡ t.nodes
  pub few : t.nodes ≤ 100_000
  pub items_are : met.items ≡ t.items
  pub items_few : t.items ≤ 1_000_000
  pub units_are : met.units ≡ t.units
  pub sizes_are : sizes met.nodes ≡ sizes (take t.nodes nodes)
  pub small : (i size : ℕ) → i < t.nodes → buffer_size (slice_get nodes i) ≡ Some size → size ≤ 1_048_576

-- ---- what may follow an item

-- No view begins there.
abbrev pub NoView : List ℕ → Type 0
NoView tail = (number size : ℕ) (met : Met) → viewed_with number size met tail (unpadded tail) ≡ Ok (Node number, met, tail)

pub NoView-end : NoView []
unfolding viewed_with unpadded
NoView-end number size met = refl

pub NoView-tag : (bytes : List ℕ) (tag : ℕ) (rest : List ℕ) → unpadded bytes ≡ tag ∷ rest → eqb tag 86 ≡ false → NoView bytes
unfolding viewed_with
NoView-tag bytes tag rest e other number size met = rw (e, other) refl

-- Behind any item nothing changes where no view begins.
pub viewed_at-none : (item : Item) (met : Met) (tail : List ℕ) → NoView tail → viewed_at item met tail ≡ Ok (item, met, tail)
unfolding viewed_at
viewed_at-none (Node number) met tail none = by (buffer_size (slice_get met.nodes number))
  where
    by : (size : Option ℕ) → viewed_if size number met tail ≡ Ok (Node number, met, tail)
    by None = refl
    by (Some size) = none number size met
viewed_at-none item met tail none = refl

-- A tag that may stand in front of an item.
pub record IsFront (tag : ℕ) : Type 0 where
  pub no_view : eqb tag 86 ≡ false
  pub no_map_end : eqb tag 58 ≡ false
  pub no_set_end : eqb tag 44 ≡ false
  pub no_hole : eqb tag 45 ≡ false
