use Rattle.std.proofs.Common.{◌≡◌, length, nat_lt}
use Rattle.std.specs.List.{list_all}
use Rattle.js_tree.specs.Children.{of_properties}
use Rattle.js_tree.proofs.order.properties_below.Given as goal

-- What is left tells what the whole tells.
abbrev pub invariant-parts : goal.invariant-parts
invariant-parts l = list_all (λ child. nat_lt child l.count) (of_properties l.parts) ≡ list_all (λ child. nat_lt child l.count) (of_properties l.rest)

abbrev pub decreases-parts : goal.decreases-parts
decreases-parts l = length l.rest
