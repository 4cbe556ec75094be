use Rattle.std.proofs.Common.{◌≡◌, length, nat_lt}
use Rattle.std.specs.List.{list_all}
use Rattle.js_tree.specs.Children.{all_of}
use Rattle.js_tree.proofs.order.all_below.Given as goal

-- What is left tells what the whole tells.
abbrev pub invariant-ids : goal.invariant-ids
invariant-ids l = list_all (λ child. nat_lt child l.count) (all_of l.ids) ≡ list_all (λ child. nat_lt child l.count) (all_of l.rest)

abbrev pub decreases-ids : goal.decreases-ids
decreases-ids l = length l.rest
