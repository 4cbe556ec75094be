use Rattle.std.proofs.lemmas.Result.{err_from_is_err_and}
use Rattle.std.proofs.Common.{sym, true≢false}
use Rattle.js_step_access.proofs.writing.write_place.Goals as goal

pub returns-in-Some-clause-closed : goal.returns-in-Some-clause-closed
returns-in-Some-clause-closed c closed place value result_value = c.write_name.ensures.closed closed value result_value

pub returns-in-None-clause-closed : goal.returns-in-None-clause-closed
returns-in-None-clause-closed c closed place value result_value = absurd (true≢false (sym (c.in-None.ensures.named (rw c.in-Name.is at place).0)))

pub returns-in_err-text-in-Property-clause-closed : goal.returns-in_err-text-in-Property-clause-closed
returns-in_err-text-in-Property-clause-closed c closed place value result_value =
    let p = err_from_is_err_and c.from_residual.result c.from_residual.ensures.1 in rw (p.1, p.2) (c.in_err-text-in-Property.ensures.named c.args.state.now.heap.cells (rw c.in-Property.is at place).1)

pub returns-in_ok-text-in-Property-clause-closed : goal.returns-in_ok-text-in-Property-clause-closed
returns-in_ok-text-in-Property-clause-closed c closed place value result_value = c.set.ensures.closed closed (rw c.in-Property.is at place).0 value result_value
