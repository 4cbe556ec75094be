use Rattle.js_step_access.proofs.writing.assign_place.Goals as goal

pub returns-clause-closed : goal.returns-clause-closed
returns-clause-closed c closed place value = c.write_place.ensures.closed closed place value (rw c.in_ok-result_value.ensures value)
