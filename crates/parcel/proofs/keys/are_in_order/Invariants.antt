use Rattle.std.proofs.Common.{◌≡◌, map, drop, Some}
use Rattle.parcel.specs.Keys.{are_in_order}
use Rattle.parcel.proofs.keys.are_in_order.Given as goal

-- The rest of the keys gives the answer.
abbrev pub invariant-keys : goal.invariant-keys
invariant-keys l =
    are_in_order l.least (map (λ property. property.0) (drop l.key-index l.properties))
    ≡ are_in_order (Some 0) (map (λ property. property.0) l.properties)
