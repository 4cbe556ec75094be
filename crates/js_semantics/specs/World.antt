-- What a script reads and changes as it runs: its realm and heap (ECMA-262, 9.3), and what a world may use and has used.
use Rattle.std.specs.Prelude.{ℕ, ◌+◌, List, Option, Some, None, Bool, nat_lt, nat_eq, if◌then◌else◌, slice_get, option_map}
use Rattle.world_kind.specs.declared.WorldKind.{WorldKind}
use Rattle.world_heap.specs.declared.cell.Cell.{Cell}
use Rattle.world_heap.specs.declared.value.Value.{Value}
use Rattle.world_heap.specs.declared.value.Value.TheVariants.{Undefined, Null, Bool as Boolean, Num, Str, Ref}
use Rattle.world_heap.specs.declared.builtin.BuiltIn.{BuiltIn}
use Rattle.world_heap.specs.BuiltIns.{place_of}
use Rattle.world_heap.specs.Maps.{find, put}
use Rattle.world_heap.specs.Views.{Bounds, HeapView}
use Rattle.js_tree.specs.declared.node.Node.{Node}

-- the cells with their locations, in the order in which they were made
abbrev pub Heap : Type 0 → Type 0
Heap L = List (L × Cell L)

pub record World (L : Type 0) : Type 0 where
  pub heap : Heap L
  -- how many calls of closures are active
  pub depth : ℕ
  -- how many units were counted
  pub units : ℕ
  pub limits : Bounds
  pub kind : WorldKind
  -- the script
  pub tree : List Node
  -- whether the script was loaded
  pub loaded : Bool
  -- the location of the n-th cell, as long as cells may be made
  pub supply : ℕ → Option L
  -- whether two locations are the same
  pub same : L → L → Bool

-- the first locations, one for each cell that may be made
abbrev pub limited : {L : Type 0} → ℕ → (ℕ → L) → ℕ → Option L
limited cells supply n = if nat_lt n cells then Some (supply n) else None

module _ {L : Type 0} where
  -- the location of a built-in cell
  abbrev pub built_in : BuiltIn → World L → Option L
  built_in name w = option_map (λ c. c.0) (slice_get w.heap (place_of name))

  -- the cell at a location
  abbrev pub cell_at : L → World L → Option (Cell L)
  cell_at loc w = find w.same w.heap loc

  -- the cell that a value refers to
  abbrev pub cell_of : Value L → World L → Option (Cell L)
  cell_of Undefined w = None
  cell_of Null w = None
  cell_of (Boolean b) w = None
  cell_of (Num n) w = None
  cell_of (Str t) w = None
  cell_of (Ref loc) w = cell_at loc w

  -- the world with another cell at a location
  abbrev pub with_cell : L → Cell L → World L → World L
  with_cell loc cell w = record w { heap = put w.same w.heap loc cell }

-- a world that has this heap, with its counts and limits
abbrev pub over : HeapView → World ℕ → World ℕ
over view w = record w { heap = view.cells; units = view.counts.units; limits = view.limits; same = nat_eq }
