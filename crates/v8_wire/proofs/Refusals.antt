-- Lemmas on what is refused.
use Rattle.std.proofs.Common.{◌≡◌, ◌≢◌, ◌≤◌, ◌∷◌, ℕ, List, Bool, true, false, length, Option, Result, Ok, Err, refl}
use Rattle.std.proofs.lemmas.Bool.{le-ltb, ne_eqb}
use Rattle.parcel.specs.declared.parcel.Item.{Item}
use Rattle.v8_wire.specs.declared.kind.WireKind.{WireKind}
use Rattle.v8_wire.specs.declared.kind.WireKind.TheVariants.{Key, Hole, TooLarge}
use Rattle.v8_wire.specs.declared.fault.Fault.{Fault}
use Rattle.v8_wire.specs.declared.fault.Stop.{Stop}
use Rattle.v8_wire.specs.declared.fault.Stop.TheVariants as stops
use Rattle.v8_wire.specs.declared.met.Met.{Met}
use Rattle.v8_wire.specs.Faults.{Fails}
use Rattle.v8_wire.specs.Leaf.{refused, rather, leaf_at, is_composite_tag, is_text_tag}
use Rattle.v8_wire.specs.Contents.{ItemReader, array_turn, sparse_turn, may_be_next, may_be_index, key_at}
use Rattle.v8_wire.specs.Item.{refused_at}

rather-any : {A B C : Type 0} (kind : WireKind) (left : ℕ) (read : Result C Fault) (f : Fault) → rather {B = A} kind left read ≡ Err f → rather {B = B} kind left read ≡ Err f
rather-any kind left (Ok x) f e = cc
rather-any kind left (Err g) f e = cc

-- A refusal is the same, whatever would have been read.
pub refused-any : {A B : Type 0} (kind : WireKind) (tag : ℕ) (met : Met) (left : ℕ) (bytes : List ℕ) (f : Fault)
    → refused {A = A} kind tag met left bytes ≡ Err f → refused {A = B} kind tag met left bytes ≡ Err f
unfolding refused
refused-any {A = A} {B = B} kind tag met left bytes f e = by (is_composite_tag tag) refl e
  where
    by : (b : Bool) → is_composite_tag tag ≡ b → refused {A = A} kind tag met left bytes ≡ Err f → refused {A = B} kind tag met left bytes ≡ Err f
    by true h e = rw h (let g = rw h at e in cc)
    by false h e = rw h (rather-any kind left (leaf_at tag met left bytes) f (rw h at e))

pub Fails-any : (A B : Type 0) (stop : Stop) (kind : WireKind) (tag : ℕ) (met : Met) (left : ℕ) (bytes : List ℕ)
    → Fails {Y = A} stop (refused kind tag met left bytes) → Fails {Y = B} stop (refused kind tag met left bytes)
Fails-any A B stops.Memory kind tag met left bytes h = tt
Fails-any A B (stops.At f) kind tag met left bytes h = refused-any {A = A} {B = B} kind tag met left bytes f h

-- What stands where no item more may stand is refused.
pub refused_at-fails : (stop : Stop) (met : Met) (bytes : List ℕ) (tag : ℕ) (rest : List ℕ) → bytes ≡ tag ∷ rest
    → Fails {Y = Item} stop (refused TooLarge tag met (length bytes) rest) → Fails stop (refused_at met bytes)
unfolding refused_at
refused_at-fails stop met bytes tag rest e h = rw e (Fails-any _ _ stop TooLarge tag met (length (tag ∷ rest)) rest (rw e at h))

-- An item behind the last of an array's elements is refused.
pub array_turn-fails : (stop : Stop) (inner : ItemReader) (size : ℕ) (items : List Item) (met : Met) (tag left : ℕ) (rest : List ℕ)
    → tag ≢ 45 → size ≤ length items → tag ≢ 36
    → Fails {Y = Item} stop (refused Key tag met left rest) → Fails stop (array_turn inner size items met tag left rest)
unfolding array_turn
array_turn-fails stop inner size items met tag left rest no_hole full no_end h =
    rw (ne_eqb tag 45 no_hole, le-ltb (length items) size full, ne_eqb tag 36 no_end) (Fails-any _ _ stop Key tag met left rest h)

-- An item in the place of an index is refused.
pub sparse_turn-fails : (stop : Stop) (inner : ItemReader) (size : ℕ) (items : List Item) (met : Met) (tag left : ℕ) (rest : List ℕ)
    → tag ≢ 45 → tag ≢ 64 → may_be_next tag size items ≡ false
    → Fails {Y = Item} stop (refused Hole tag met left rest) → Fails stop (sparse_turn inner size items met tag left rest)
unfolding sparse_turn
sparse_turn-fails stop inner size items met tag left rest no_hole no_end none h =
    rw (ne_eqb tag 45 no_hole, ne_eqb tag 64 no_end, none) (Fails-any _ _ stop Hole tag met left rest h)

-- What is no key is refused.
pub key_at-fails : (stop : Stop) (least : Option ℕ) (tag : ℕ) (met : Met) (left : ℕ) (rest : List ℕ)
    → may_be_index tag least ≡ false → is_text_tag tag ≡ false
    → Fails {Y = Item} stop (refused Key tag met left rest) → Fails stop (key_at least tag met left rest)
unfolding key_at
key_at-fails stop least tag met left rest no_index no_text h = rw (no_index, no_text) (Fails-any _ _ stop Key tag met left rest h)
