use Rattle.js_primary.proofs.Composing.{read_gives}
use Rattle.js_primary.proofs.composed.property_value.Goals as goal

pub returns-in-Value-clause-is : goal.returns-in-Value-clause-is
returns-in-Value-clause-is c nodes k = read_gives nodes c.args.of.now c.args.key.now c.in-Value.value c.args.state.now k (c.is_read_plainly.ensures c.if-not-is_read_plainly.false).1 (rw c.in-Value.is at c.in_ok-value.ensures.is)
