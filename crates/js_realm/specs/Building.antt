-- The cells of a realm, made without their members.
use Rattle.std.specs.Prelude.{◌≡◌, ℕ, zero, suc, ◌+◌, List, [], ◌∷◌, ◌++◌, length, map, Option, Some, true, slice_index, nat_eq}
use Rattle.std.specs.Option.{option_map_or}
use Rattle.world_kind.specs.declared.WorldKind.{WorldKind}
use Rattle.world_kind.specs.declared.WorldKind.TheVariants.{Main, Preload, Page}
use Rattle.world_heap.specs.declared.value.Property.{Property}
use Rattle.world_heap.specs.declared.cell.Cell.{Cell}
use Rattle.world_heap.specs.declared.cell.Cell.TheVariants.{Native}
use Rattle.world_heap.specs.Bodies.{body_of, with_body}
use Rattle.world_heap.specs.BuiltIns.{plain_object}
use Rattle.world_heap.specs.Heaps.{IsNoEnv}
use Rattle.world_heap.specs.Maps.{keys}
use Rattle.world_heap.specs.Views.{Bounds, HeapView, PoolView}
use Rattle.world_heap.specs.Starting.{empty_heap}
use Rattle.js_semantics.specs.Realm.{realm_cells, realm_length}

abbrev pub Members : Type 0
Members = List (List ℕ × Property ℕ)

-- the cells of a heap without their locations
abbrev pub contents : List (ℕ × Cell ℕ) → List (Cell ℕ)
contents [] = []
contents (c ∷ cs) = c.1 ∷ contents cs

-- the location of the n-th cell, where these are the locations of the cells
abbrev pub supply_of : List ℕ → ℕ → Option ℕ
supply_of places n = Some (slice_index places n)

-- a cell with these members in place of its own
abbrev pub with_members : Members → Cell ℕ → Cell ℕ
with_members members cell = option_map_or (λ b. with_body cell (record b { properties = members })) (body_of cell) cell

-- the built-in cells without their members
abbrev pub bare_cells : (ℕ → Option ℕ) → WorldKind → List (Cell ℕ)
bare_cells supply kind = map (with_members []) (realm_cells supply kind)

-- a built-in function without members, by its prototype and its number
abbrev pub bare_function : ℕ → ℕ → Cell ℕ
bare_function proto id = Native (record { proto = Some proto; properties = []; extensible = true }) id []

-- so many cells, each by its number from 0 on
abbrev pub numbered : (ℕ → Cell ℕ) → ℕ → List (Cell ℕ)
numbered cell zero = []
numbered cell (suc n) = numbered cell n ++ cell n ∷ []

-- how many cells the module of a kind of world has, with that of the module itself
abbrev pub module_length : WorldKind → ℕ
module_length Main = 5
module_length Preload = 3
module_length Page = 0

-- the cells behind the global object: the console, the built-in functions, and the module
abbrev pub later_cells : (root function : ℕ) → WorldKind → List (Cell ℕ)
later_cells root function kind =
    (plain_object (Some root) ∷ []) ++ numbered (bare_function function) 12 ++ numbered (λ n. plain_object (Some root)) (module_length kind)

-- Built-in cells are added behind the others, at some locations.
pub record Adds (cells : List (Cell ℕ)) (old new : HeapView) : Type 0 where
  pub locs : List ℕ
  pub places : keys new.cells ≡ keys old.cells ++ locs
  pub many : length locs ≡ length cells
  pub are : contents new.cells ≡ contents old.cells ++ cells
  pub rest : new ≡ record old { cells = new.cells; base = old.base + length cells }
  pub kept : (loc : ℕ) → IsNoEnv nat_eq old.cells loc → IsNoEnv nat_eq new.cells loc

-- a heap that has the built-in cells without their members
pub record IsBare (limits : Bounds) (pool : PoolView) (kind : WorldKind) (heap : HeapView) : Type 0 where
  pub are : contents heap.cells ≡ bare_cells (supply_of (keys heap.cells)) kind
  pub rest : heap ≡ record (empty_heap limits pool) { cells = heap.cells; base = realm_length kind }
