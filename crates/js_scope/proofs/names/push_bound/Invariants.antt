use Rattle.std.proofs.Common.{◌≡◌, ◌++◌, map, take}
use Rattle.js_scope.proofs.names.push_bound.Given as goal

-- what is added so far
abbrev pub invariant-parts : goal.invariant-parts
invariant-parts l = l.out.items ≡ l.initial.out.items ++ map (λ part. part.bind.0) (take l.part-index l.parts)
