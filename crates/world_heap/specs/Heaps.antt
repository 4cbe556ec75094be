-- A heap: the list of its cells in the order in which they were made, each with its location, and what holds of it
-- (ECMA-262, 10.1: objects with their prototypes and properties; 9.1: environments; 25.1: buffers and views).
use Rattle.std.specs.Prelude.{◌≡◌, ℕ, zero, suc, ◌+◌, ◌≤◌, Bool, true, false, List, length, Option, Some, None, IsSomeAnd}
use Rattle.std.specs.Option.{option_and_then, option_map_or}
use Rattle.world_heap.specs.Maps.{keys, find, stands}
use Rattle.world_heap.specs.Over.{ListOver, CellOver}
use Rattle.world_heap.specs.declared.cell.Cell.{Cell}
use Rattle.world_heap.specs.declared.cell.Cell.TheVariants.{Object, Array, Closure, Native, Far, Error, Map, Set, Promise, Port, Buffer, View, Symbol, Env}

module _ {L : Type 0} where
  -- the prototype of a cell, where it has one
  abbrev pub proto_of : Cell L → Option L
  proto_of (Object b) = b.proto
  proto_of (Array p vs f) = p
  proto_of (Closure b n e r) = b.proto
  proto_of (Native b i vs) = b.proto
  proto_of (Far b n) = b.proto
  proto_of (Error b k) = b.proto
  proto_of (Map b es) = b.proto
  proto_of (Set b vs) = b.proto
  proto_of (Promise b s rs) = b.proto
  proto_of (Port b n h ms cs) = b.proto
  proto_of (Buffer b bs) = b.proto
  proto_of (View b l o n) = b.proto
  proto_of (Symbol t) = None
  proto_of (Env o bs) = None

  -- whether a cell is an environment
  abbrev pub is_env : Cell L → Bool
  is_env (Object b) = false
  is_env (Array p vs f) = false
  is_env (Closure b n e r) = false
  is_env (Native b i vs) = false
  is_env (Far b n) = false
  is_env (Error b k) = false
  is_env (Map b es) = false
  is_env (Set b vs) = false
  is_env (Promise b s rs) = false
  is_env (Port b n h ms cs) = false
  is_env (Buffer b bs) = false
  is_env (View b l o n) = false
  is_env (Symbol t) = false
  is_env (Env o bs) = true

  -- how many bytes a buffer has; no other cell has any
  abbrev pub buffer_length : Cell L → Option ℕ
  buffer_length (Object b) = None
  buffer_length (Array p vs f) = None
  buffer_length (Closure b n e r) = None
  buffer_length (Native b i vs) = None
  buffer_length (Far b n) = None
  buffer_length (Error b k) = None
  buffer_length (Map b es) = None
  buffer_length (Set b vs) = None
  buffer_length (Promise b s rs) = None
  buffer_length (Port b n h ms cs) = None
  buffer_length (Buffer b bs) = Some (length bs)
  buffer_length (View b l o n) = None
  buffer_length (Symbol t) = None
  buffer_length (Env o bs) = None

  -- the places that a cell takes when it is added: its own, and one for each property, element, entry, reaction and
  -- binding that it has then
  abbrev pub places_of : Cell L → ℕ
  places_of (Object b) = 1 + length b.properties
  places_of (Array p vs f) = 1 + length vs
  places_of (Closure b n e r) = 1 + length b.properties
  places_of (Native b i vs) = 1 + length b.properties
  places_of (Far b n) = 1 + length b.properties
  places_of (Error b k) = 1 + length b.properties
  places_of (Map b es) = 1 + length b.properties + length es
  places_of (Set b vs) = 1 + length b.properties + length vs
  places_of (Promise b s rs) = 1 + length b.properties + length rs
  places_of (Port b n h ms cs) = 1 + length b.properties
  places_of (Buffer b bs) = 1 + length b.properties
  places_of (View b l o n) = 1 + length b.properties
  places_of (Symbol t) = 1
  places_of (Env o bs) = 1 + length bs

  -- the units that a cell takes when it is added: one for each byte of a buffer
  abbrev pub units_of : Cell L → ℕ
  units_of (Object b) = 0
  units_of (Array p vs f) = 0
  units_of (Closure b n e r) = 0
  units_of (Native b i vs) = 0
  units_of (Far b n) = 0
  units_of (Error b k) = 0
  units_of (Map b es) = 0
  units_of (Set b vs) = 0
  units_of (Promise b s rs) = 0
  units_of (Port b n h ms cs) = 0
  units_of (Buffer b bs) = length bs
  units_of (View b l o n) = 0
  units_of (Symbol t) = 0
  units_of (Env o bs) = 0

  module _ (same : L → L → Bool) (cells : List (L × Cell L)) where
    -- the location of a cell that is no environment
    abbrev pub IsNoEnv : L → Type 0
    IsNoEnv l = IsSomeAnd (find same cells l) (λ c. is_env c ≡ false)

    -- the location of a cell
    abbrev pub IsCell : L → Type 0
    IsCell l = stands same (keys cells) l ≡ true

    -- the location of a buffer with so many bytes from the offset on
    abbrev pub IsWithin : L → ℕ → ℕ → Type 0
    IsWithin l offset count = IsSomeAnd (find same cells l) (λ c. IsSomeAnd (buffer_length c) (λ bytes. offset + count ≤ bytes))

    -- A cell that may stand in this heap: its locations stand, none of its values or prototypes is an environment, its
    -- numbers are in range, an error's kind is one of the seven, a buffer has at most 1,048,576 bytes, and a view lies
    -- within its buffer.
    abbrev pub Fits : Cell L → Type 0
    Fits c = CellOver IsNoEnv IsCell IsWithin c

    -- whether the chain of prototypes from a location on ends within so many cells
    abbrev pub ends : ℕ → L → Bool
    ends zero l = false
    ends (suc n) l = option_map_or (ends n) (option_and_then proto_of (find same cells l)) true

  -- A heap whose cells fit, and whose chains of prototypes all end, so that none comes back to a cell in it.
  pub record IsWell (same : L → L → Bool) (cells : List (L × Cell L)) : Type 0 where
    pub fits : ListOver (λ c. Fits same cells c.1) cells
    pub end : (l : L) → IsCell same cells l → (n : ℕ) × (ends same cells n l ≡ true)
