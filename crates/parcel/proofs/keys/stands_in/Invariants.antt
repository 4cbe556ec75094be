use Rattle.std.proofs.Common.{◌≡◌, map, nat_eq, drop}
use Rattle.std.specs.Cmp.Lexicographic.{pointwise}
use Rattle.std.specs.List.{list_any}
use Rattle.parcel.proofs.keys.stands_in.Given as goal

-- The rest of the keys gives the answer.
abbrev pub invariant-keys : goal.invariant-keys
invariant-keys l =
    list_any (pointwise nat_eq l.key) (map (λ property. property.0) (drop l.other-index l.properties))
    ≡ list_any (pointwise nat_eq l.key) (map (λ property. property.0) l.properties)
