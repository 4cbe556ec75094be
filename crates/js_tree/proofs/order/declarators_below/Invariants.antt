use Rattle.std.proofs.Common.{◌≡◌, length, nat_lt}
use Rattle.std.specs.List.{list_all}
use Rattle.js_tree.specs.Children.{of_declarators}
use Rattle.js_tree.proofs.order.declarators_below.Given as goal

-- What is left tells what the whole tells.
abbrev pub invariant-pairs : goal.invariant-pairs
invariant-pairs l = list_all (λ child. nat_lt child l.count) (of_declarators l.pairs) ≡ list_all (λ child. nat_lt child l.count) (of_declarators l.rest)

abbrev pub decreases-pairs : goal.decreases-pairs
decreases-pairs l = length l.rest
