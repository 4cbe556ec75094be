-- Members that are put into the cells of a realm.
use Rattle.std.specs.Prelude.{◌≡◌, ℕ, zero, suc, ◌+◌, List, [], ◌∷◌, Bool, true, false, if◌then◌else◌, is_some, codes}
use Rattle.world_kind.specs.declared.WorldKind.{WorldKind}
use Rattle.world_kind.specs.declared.WorldKind.TheVariants.{Main, Preload, Page}
use Rattle.parcel.specs.declared.parcel.ErrorKind.{ErrorKind}
use Rattle.world_heap.specs.declared.value.Value.TheVariants.{Str}
use Rattle.world_heap.specs.declared.cell.Cell.{Cell}
use Rattle.world_heap.specs.declared.builtin.BuiltIn.TheVariants.{Global}
use Rattle.world_heap.specs.Bodies.{body_of}
use Rattle.world_heap.specs.BuiltIns.{place_of}
use Rattle.world_heap.specs.Maps.{keys, Stands}
use Rattle.world_heap.specs.Over.{ListOver, PropertyOver}
use Rattle.world_heap.specs.Table.{put_under}
use Rattle.world_heap.specs.Stored.{IsDistinct}
use Rattle.world_heap.specs.Views.{HeapView}
use Rattle.js_semantics.specs.Faults.{kind_name, kind_number, prototype_of_kind}
use Rattle.js_semantics.specs.Properties.{member}
use Rattle.js_semantics.specs.Realm.{console_place, natives_place, module_place, module_names, error_kinds, member_at, members_from, global_members}
use Rattle.js_realm.specs.Building.{Members, contents, supply_of, with_members}

-- the cells are all objects
abbrev pub are_objects : List (Cell ℕ) → Bool
are_objects [] = true
are_objects (c ∷ cs) = if is_some (body_of c) then are_objects cs else false

-- a heap whose cells are objects at these locations
pub record IsOpen (places : List ℕ) (heap : HeapView) : Type 0 where
  pub located : keys heap.cells ≡ places
  pub distinct : IsDistinct places
  pub objects : are_objects (contents heap.cells) ≡ true

-- the objects that the members refer to stand at these locations
abbrev pub AreWithin : List ℕ → Members → Type 0
AreWithin places members = ListOver (λ m. PropertyOver (Stands places) m.1) members

-- Members are put, and refer to objects at these locations.
pub record Puts (places : List ℕ) (change : Members → Members) (old new : Members) : Type 0 where
  pub is : new ≡ change old
  pub within : AreWithin places old → AreWithin places new

-- these members, which refer to objects at these locations
abbrev pub AreMembers : List ℕ → Members → Members → Type 0
AreMembers places wanted members = (members ≡ wanted) × AreWithin places members

-- members with others put under their names, one after another
abbrev pub put_all : Members → Members → Members
put_all [] members = members
put_all (m ∷ more) members = put_all more (put_under members m.0 m.1)

-- The cells of a heap change, and nothing else does.
pub record Fills (places : List ℕ) (change : List (Cell ℕ) → List (Cell ℕ)) (old new : HeapView) : Type 0 where
  pub goes_on : IsOpen places new
  pub are : contents new.cells ≡ change (contents old.cells)
  pub rest : new ≡ record old { cells = new.cells }

-- the cells with these members of the one at a place
abbrev pub filled : ℕ → Members → List (Cell ℕ) → List (Cell ℕ)
filled place members [] = []
filled zero members (c ∷ cs) = with_members members c ∷ cs
filled (suc n) members (c ∷ cs) = c ∷ filled n members cs

-- the members of the prototype of a kind of error (ECMA-262, 20.5.3 and 20.5.6.3)
abbrev pub prototype_members : ErrorKind → Members
prototype_members kind = (codes "name", member (Str (kind_name kind))) ∷ (codes "message", member (Str [])) ∷ []

module _ (places : List ℕ) where
  -- the cells with the members of the prototype and the function of a kind of error
  abbrev pub with_error : ErrorKind → List (Cell ℕ) → List (Cell ℕ)
  with_error kind cells =
      filled (natives_place + 4 + kind_number kind) (member_at (supply_of places) (codes "prototype") (place_of (prototype_of_kind kind)))
      (filled (place_of (prototype_of_kind kind)) (prototype_members kind) cells)

  abbrev pub with_errors : List ErrorKind → List (Cell ℕ) → List (Cell ℕ)
  with_errors [] cells = cells
  with_errors (kind ∷ kinds) cells = with_errors kinds (with_error kind cells)

  -- with those of the global object
  abbrev pub with_global : WorldKind → List (Cell ℕ) → List (Cell ℕ)
  with_global kind cells = filled (place_of Global) (global_members (supply_of places) kind) cells

  -- with those of the console
  abbrev pub with_console : List (Cell ℕ) → List (Cell ℕ)
  with_console cells = filled console_place (members_from (supply_of places) natives_place (codes "log" ∷ codes "info" ∷ codes "warn" ∷ codes "error" ∷ [])) cells

  -- with those of the module, where the kind of world has one
  abbrev pub with_module : WorldKind → List (Cell ℕ) → List (Cell ℕ)
  with_module Main cells = filled module_place (members_from (supply_of places) (module_place + 1) (module_names Main)) cells
  with_module Preload cells = filled module_place (members_from (supply_of places) (module_place + 1) (module_names Preload)) cells
  with_module Page cells = cells

  -- with all members
  abbrev pub with_all : WorldKind → List (Cell ℕ) → List (Cell ℕ)
  with_all kind cells = with_module kind (with_console (with_global kind (with_errors error_kinds cells)))
