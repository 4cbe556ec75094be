-- The numbers that the process ends with.
use Rattle.std.specs.Prelude.{ℕ}
use Rattle.heap_times.specs.declared.failure.Failure.{Failure}
use Rattle.heap_times.specs.declared.failure.Failure.TheVariants.{Memory, Words, Sink, Full}

abbrev pub code_of : Failure → ℕ
code_of Memory = 1
code_of Words = 2
code_of Sink = 8
code_of Full = 11
