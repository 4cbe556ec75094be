use Rattle.std.proofs.Common.{sym, ap}
use Rattle.world_heap.specs.declared.value.Value.TheVariants.{Bool as Boolean}
use Rattle.js_semantics.specs.Expressions.{compute}
use Rattle.js_step_expr.proofs.membership.has_key.Goals as goal

pub returns-clause-is : goal.returns-clause-is
unfolding compute
returns-clause-is c w k = ap (λ b. k (Boolean b)) (sym (c.has_property.ensures w))

pub returns-clause-closed : goal.returns-clause-closed
returns-clause-closed c = tt
