-- The numbers that the process ends with.
use Rattle.std.specs.Prelude.{ℕ}
use Rattle.front_times.specs.declared.failure.Failure.{Failure}
use Rattle.front_times.specs.declared.failure.Failure.TheVariants.{Memory, Words, Folder, Absent, Sink, TooLong}

abbrev pub code_of : Failure → ℕ
code_of Memory = 1
code_of Words = 2
code_of Folder = 3
code_of Absent = 4
code_of Sink = 8
code_of TooLong = 11
