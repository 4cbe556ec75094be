use Rattle.std.proofs.Common.{◌≡◌, length, take}
use Rattle.proto_props.proofs.writing.shorten.Given as goal

abbrev pub invariant-items : goal.invariant-items
invariant-items l = take l.count l.items ≡ take l.count l.initial.items

abbrev pub decreases-items : goal.decreases-items
decreases-items l = length l.items
