use Rattle.std.proofs.Common.{◌≡◌, ℕ, take, nat_eq}
use Rattle.std.specs.List.{list_any}
use Rattle.js_scope.proofs.names.set_of.Given as goal

-- the ids so far are in the set, and no others
abbrev pub invariant-ids : goal.invariant-ids
invariant-ids l = (q : ℕ) → list_any (nat_eq q) l.set.keys ≡ list_any (nat_eq q) (take l.id-index l.ids)
