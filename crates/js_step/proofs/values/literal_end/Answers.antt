use Rattle.js_step.proofs.values.literal_end.Goals as goal

pub returns-then-spread-clause-closed : goal.returns-then-spread-clause-closed
returns-then-spread-clause-closed c closed frame value = let fit = rw c.in-Element.is at frame in c.element_spread.ensures.closed closed fit.0 fit.1 fit.2 value

pub returns-else-spread-clause-closed : goal.returns-else-spread-clause-closed
returns-else-spread-clause-closed c closed frame value = let fit = rw c.in-Element.is at frame in c.element_value.ensures.closed closed fit.0 fit.1 fit.2 value

pub returns-in-Member-clause-closed : goal.returns-in-Member-clause-closed
returns-in-Member-clause-closed c closed frame value = let fit = rw c.in-Member.is at frame in c.members_from.ensures.closed closed fit.0 fit.1

pub returns-in-MemberKey-clause-closed : goal.returns-in-MemberKey-clause-closed
returns-in-MemberKey-clause-closed c closed frame value = let fit = rw c.in-MemberKey.is at frame in c.member_keyed.ensures.closed closed fit.0 fit.1

pub returns-in-PropertyValue-clause-closed : goal.returns-in-PropertyValue-clause-closed
returns-in-PropertyValue-clause-closed c closed frame value = c.property_value.ensures.closed closed value
