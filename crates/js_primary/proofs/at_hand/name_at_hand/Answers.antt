use Rattle.js_primary.specs.AtHand.{name_at_hand}
use Rattle.js_primary.proofs.at_hand.name_at_hand.Goals as goal

pub returns-in-Name-clause-is : goal.returns-in-Name-clause-is
unfolding name_at_hand
returns-in-Name-clause-is c nodes supply = rw c.in-Name.is (c.bound.ensures.is nodes supply)

pub returns-in-Name-clause-closed : goal.returns-in-Name-clause-closed
returns-in-Name-clause-closed c nodes closed = c.bound.ensures.closed nodes closed
