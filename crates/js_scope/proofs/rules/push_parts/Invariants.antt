use Rattle.std.proofs.Common.{◌≡◌, ◌++◌, map, reverse, vec_len}
use Rattle.js_scope.specs.Rules.{within}
use Rattle.js_scope.proofs.rules.push_parts.Given as goal

-- what is still to be added, after what was
abbrev pub invariant-parts : goal.invariant-parts
invariant-parts l = l.waiting.items ++ reverse (map (within l.place l.node) l.parts.items) ≡ l.initial.waiting.items ++ reverse (map (within l.place l.node) l.initial.parts.items)

abbrev pub decreases-parts : goal.decreases-parts
decreases-parts l = vec_len l.parts
