-- The line that tells what a text is: the size of its tree (ECMA-262, 16.1), or its first fault.
use Rattle.std.specs.Prelude.{ℕ, List, [], ◌∷◌, ◌++◌, length, codes, decimal, Result, Ok, Err}
use Rattle.js_tree.specs.Nodes.{Nodes}
use Rattle.js_source.specs.declared.fault.SourceFault.{SourceFault}
use Rattle.js_source.specs.declared.fault.SourceFault.TheVariants.{At, Memory}
use Rattle.js_source.specs.Kinds.{word_of}

-- `ok` and the number of nodes, or a fault's place and kind; want of memory has no line
abbrev pub line_of : Result Nodes SourceFault → List ℕ
line_of (Ok nodes) = codes "ok " ++ (decimal (length nodes) ++ 10 ∷ [])
line_of (Err (At place kind)) = decimal place ++ (32 ∷ word_of kind ++ 10 ∷ [])
line_of (Err Memory) = []
