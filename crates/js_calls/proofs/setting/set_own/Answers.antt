use Rattle.std.proofs.lemmas.Result.{err_from_is_err_and}
use Rattle.std.proofs.Common.{arith}
use Rattle.js_names.specs.Patterns.{nodes_of}
use Rattle.js_semantics.specs.Prog.{give}
use Rattle.js_calls.proofs.Storing.{not_set, set_ok}
use Rattle.js_machine.proofs.Closing.{lasts_on, value_grown}
use Rattle.js_calls.proofs.setting.set_own.Goals as goal

pub returns-in-Ok-clause-does : goal.returns-in-Ok-clause-does
returns-in-Ok-clause-does c plain =
    set_ok (nodes_of c.args.tree.now) 4 c.args.loc c.args.key c.args.value (give c.args.result_value) c.args.state.now c.write.new.state c.settle.new.state c.in-Ok.done c.settle.result plain (rw c.in-Ok.is at c.in_ok-done.ensures.does) (rw c.in_ok-argument.ensures at c.settle.ensures.does)

pub returns-in-Err-clause-does : goal.returns-in-Err-clause-does
returns-in-Err-clause-does c plain =
    rw c.stopped.ensures (not_set (nodes_of c.args.tree.now) 4 c.args.loc c.args.key c.args.value (give c.args.result_value) c.args.state.now c.write.new.state c.in-Err.stop (omega arith) plain (rw c.in-Err.is at c.in_ok-done.ensures.does))

pub returns-in_err-done-clause-closed : goal.returns-in_err-done-clause-closed
returns-in_err-done-clause-closed c closed loc value result_value =
    let p = err_from_is_err_and c.from_residual-in_err-done.result c.from_residual-in_err-done.ensures.1 in rw (p.1, p.2) (c.in_err-done.ensures.closed (nodes_of c.args.tree.now) closed loc value)

pub returns-in-Ok-clause-closed : goal.returns-in-Ok-clause-closed
returns-in-Ok-clause-closed c closed loc value result_value =
    let nodes = nodes_of c.args.tree.now in
    let old = c.args.state.now in
    let mid = c.write.new.state in
    let went = c.in_ok-done.ensures.closed nodes closed loc value in
    let still = value_grown nodes old.heap.cells mid.heap.cells went.grows in
    lasts_on nodes old mid c.settle.new.state c.settle.result went
    (c.settle.ensures.closed went.closed (went.grows.no_env c.args.loc loc) (rw c.in_ok-argument.ensures (still c.args.value value)) (still c.args.result_value result_value))
