-- The words that name the kinds of work.
use Rattle.std.specs.Prelude.{ℕ, List, Option, Some, None, if◌then◌else◌, codes, nat_eq}
use Rattle.std.specs.Cmp.Lexicographic.{pointwise}
use Rattle.heap_times.specs.declared.asked.Kind.{Kind}
use Rattle.heap_times.specs.declared.asked.Kind.TheVariants.{Add, Read, Find, Oldest, End}

abbrev pub kind_of : List ℕ → Option Kind
kind_of word = if pointwise nat_eq word (codes "add") then Some Add
    else if pointwise nat_eq word (codes "read") then Some Read
    else if pointwise nat_eq word (codes "find") then Some Find
    else if pointwise nat_eq word (codes "oldest") then Some Oldest
    else if pointwise nat_eq word (codes "end") then Some End
    else None
