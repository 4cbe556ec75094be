use Rattle.std.proofs.Common.{◌≡◌, ◌++◌, map, take}
use Rattle.js_scope.proofs.names.push_declared.Given as goal

-- what is added so far
abbrev pub invariant-pairs : goal.invariant-pairs
invariant-pairs l = l.out.items ≡ l.initial.out.items ++ map (λ pair. pair.bind.0) (take l.pair-index l.pairs)
