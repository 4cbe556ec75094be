use Rattle.std.proofs.Common.{sym}
use Rattle.js_primary.proofs.composed.keyed_value.Goals as goal

pub returns-in-Some-clause-is : goal.returns-in-Some-clause-is
returns-in-Some-clause-is c nodes = rw (sym (rw c.in-Some.is at c.in_ok-text.ensures)) (c.property_value.ensures.is nodes)
