use Rattle.js_patterns.proofs.binding.pattern_frame.Goals as goal

pub returns-in-PropertyDefault-clause-closed : goal.returns-in-PropertyDefault-clause-closed
returns-in-PropertyDefault-clause-closed c closed frame value = let fit = rw c.in-PropertyDefault.is at frame in c.property_defaulted.ensures.closed closed fit.0 fit.1 value

pub returns-in-PropertyBound-clause-closed : goal.returns-in-PropertyBound-clause-closed
returns-in-PropertyBound-clause-closed c closed frame value = let fit = rw c.in-PropertyBound.is at frame in c.bind_properties.ensures.closed closed fit.0 fit.1

pub returns-in-ElementDefault-clause-closed : goal.returns-in-ElementDefault-clause-closed
returns-in-ElementDefault-clause-closed c closed frame value = let fit = rw c.in-ElementDefault.is at frame in c.element_defaulted.ensures.closed closed fit.0 fit.1 value

pub returns-in-ElementBound-clause-closed : goal.returns-in-ElementBound-clause-closed
returns-in-ElementBound-clause-closed c closed frame value = let fit = rw c.in-ElementBound.is at frame in c.bind_elements.ensures.closed closed fit.0 fit.1
