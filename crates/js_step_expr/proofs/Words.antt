-- The words for the types of values are short.
use Rattle.std.proofs.Common.{ℕ, ◌<◌, length, Option, Some, None, arith}
use Rattle.world_heap.specs.declared.value.Value.{Value}
use Rattle.world_heap.specs.declared.value.Value.TheVariants.{Undefined, Null, Bool as Boolean, Num, Str, Ref}
use Rattle.world_heap.specs.declared.cell.Cell.{Cell}
use Rattle.world_heap.specs.declared.cell.Cell.TheVariants.{Object, Array, Closure, Native, Far, Error, Map, Set, Promise, Port, Buffer, View, Symbol, Env}
use Rattle.js_semantics.specs.World.{World, cell_at}
use Rattle.js_semantics.specs.Expressions.{object_type, type_word}

object_short : (cell : Option (Cell ℕ)) → length (object_type cell) < 128
object_short None = omega arith
object_short (Some (Object b)) = omega arith
object_short (Some (Array p vs f)) = omega arith
object_short (Some (Closure b n e r)) = omega arith
object_short (Some (Native b i vs)) = omega arith
object_short (Some (Far b n)) = omega arith
object_short (Some (Error b k)) = omega arith
object_short (Some (Map b es)) = omega arith
object_short (Some (Set b vs)) = omega arith
object_short (Some (Promise b s rs)) = omega arith
object_short (Some (Port b n h ms cs)) = omega arith
object_short (Some (Buffer b bs)) = omega arith
object_short (Some (View b l o n)) = omega arith
object_short (Some (Symbol t)) = omega arith
object_short (Some (Env o bs)) = omega arith

pub word_short : (v : Value ℕ) (w : World ℕ) → length (type_word v w) < 128
word_short Undefined w = omega arith
word_short Null w = omega arith
word_short (Boolean b) w = omega arith
word_short (Num z) w = omega arith
word_short (Str t) w = omega arith
word_short (Ref loc) w = object_short (cell_at loc w)
