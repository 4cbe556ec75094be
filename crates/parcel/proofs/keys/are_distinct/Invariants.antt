use Rattle.std.proofs.Common.{◌≡◌, map, length}
use Rattle.parcel.specs.Keys.{are_distinct}
use Rattle.parcel.proofs.keys.are_distinct.Given as goal

abbrev pub decreases-keys : goal.decreases-keys
decreases-keys l = length l.rest

-- The rest of the keys gives the answer.
abbrev pub invariant-keys : goal.invariant-keys
invariant-keys l =
    are_distinct (map (λ property. property.0) l.rest) ≡ are_distinct (map (λ property. property.0) l.properties)
