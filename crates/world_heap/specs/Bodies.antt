-- The part that all objects have: prototype, properties, and whether they can be extended (ECMA-262, 10.1).
use Rattle.std.specs.Prelude.{◌≡◌, ℕ, List, Option, Some, None, slice_set, nat_eq}
use Rattle.std.specs.Option.{option_and_then, option_map_or}
use Rattle.world_heap.specs.Maps.{find, put}
use Rattle.world_heap.specs.declared.cell.Binding.{Binding}
use Rattle.world_heap.specs.declared.cell.Body.{Body}
use Rattle.world_heap.specs.declared.cell.Cell.{Cell}
use Rattle.world_heap.specs.declared.cell.Cell.TheVariants.{Object, Array, Closure, Native, Far, Error, Map, Set, Promise, Port, Buffer, View, Symbol, Env}

module _ {L : Type 0} where
  -- the body of a cell; arrays, symbols and environments have none
  abbrev pub body_of : Cell L → Option (Body L)
  body_of (Object b) = Some b
  body_of (Array p vs f) = None
  body_of (Closure b n e r) = Some b
  body_of (Native b i vs) = Some b
  body_of (Far b n) = Some b
  body_of (Error b k) = Some b
  body_of (Map b es) = Some b
  body_of (Set b vs) = Some b
  body_of (Promise b s rs) = Some b
  body_of (Port b n h ms cs) = Some b
  body_of (Buffer b bs) = Some b
  body_of (View b l o n) = Some b
  body_of (Symbol t) = None
  body_of (Env o bs) = None

  -- the cell with another body, where it has one
  abbrev pub with_body : Cell L → Body L → Cell L
  with_body (Object b) d = Object d
  with_body (Array p vs f) d = Array p vs f
  with_body (Closure b n e r) d = Closure d n e r
  with_body (Native b i vs) d = Native d i vs
  with_body (Far b n) d = Far d n
  with_body (Error b k) d = Error d k
  with_body (Map b es) d = Map d es
  with_body (Set b vs) d = Set d vs
  with_body (Promise b s rs) d = Promise d s rs
  with_body (Port b n h ms cs) d = Port d n h ms cs
  with_body (Buffer b bs) d = Buffer d bs
  with_body (View b l o n) d = View d l o n
  with_body (Symbol t) d = Symbol t
  with_body (Env o bs) d = Env o bs

  -- a buffer with another byte at a place
  abbrev pub with_byte : Cell L → ℕ → ℕ → Cell L
  with_byte (Object b) at byte = Object b
  with_byte (Array p vs f) at byte = Array p vs f
  with_byte (Closure b n e r) at byte = Closure b n e r
  with_byte (Native b i vs) at byte = Native b i vs
  with_byte (Far b n) at byte = Far b n
  with_byte (Error b k) at byte = Error b k
  with_byte (Map b es) at byte = Map b es
  with_byte (Set b vs) at byte = Set b vs
  with_byte (Promise b s rs) at byte = Promise b s rs
  with_byte (Port b n h ms cs) at byte = Port b n h ms cs
  with_byte (Buffer b bs) at byte = Buffer b (slice_set bs at byte)
  with_byte (View b l o n) at byte = View b l o n
  with_byte (Symbol t) at byte = Symbol t
  with_byte (Env o bs) at byte = Env o bs

  -- an environment with another binding at a place
  abbrev pub with_binding : Cell L → ℕ → Binding L → Cell L
  with_binding (Env o bs) at binding = Env o (slice_set bs at binding)
  with_binding other at binding = other

-- the location of a cell with a body
abbrev pub HasBody : List (ℕ × Cell ℕ) → ℕ → Type 0
HasBody cells l = (b : Body ℕ) × (option_and_then body_of (find nat_eq cells l) ≡ Some b)

-- the heap with another body in the cell at a location
abbrev pub rebodied : List (ℕ × Cell ℕ) → ℕ → Body ℕ → List (ℕ × Cell ℕ)
rebodied cells l b = option_map_or (λ c. put nat_eq cells l (with_body c b)) (find nat_eq cells l) cells

-- the heap with another byte in the buffer at a location
abbrev pub rewritten : List (ℕ × Cell ℕ) → ℕ → ℕ → ℕ → List (ℕ × Cell ℕ)
rewritten cells l at byte = option_map_or (λ c. put nat_eq cells l (with_byte c at byte)) (find nat_eq cells l) cells

-- the heap with another binding at a place of the environment at a location
abbrev pub bound_at : List (ℕ × Cell ℕ) → ℕ → ℕ → Binding ℕ → List (ℕ × Cell ℕ)
bound_at cells l at binding = option_map_or (λ c. put nat_eq cells l (with_binding c at binding)) (find nat_eq cells l) cells
