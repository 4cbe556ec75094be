use Rattle.std.proofs.lemmas.Result.{err_from_is_err_and}
use Rattle.js_names.specs.Patterns.{nodes_of}
use Rattle.js_semantics.specs.Prog.{give}
use Rattle.js_calls.proofs.Rebinding.{written_ok}
use Rattle.js_calls.proofs.assigning.write_name.Goals as goal

pub returns-clause-does : goal.returns-clause-does
returns-clause-does c =
    written_ok (nodes_of c.args.tree.now) 4 c.args.env c.args.name.now c.args.value (give c.args.result_value) c.in_ok-target.target c.args.state.now c.write.new.state c.write.result (λ supply. c.in_ok-target.ensures.is (nodes_of c.args.tree.now) supply) c.write.ensures.does

pub returns-in_err-target-clause-closed : goal.returns-in_err-target-clause-closed
returns-in_err-target-clause-closed c closed value result_value =
    let p = err_from_is_err_and c.from_residual.result c.from_residual.ensures.1 in rw (p.1, p.2) (c.in_err-target.ensures.closed (nodes_of c.args.tree.now) closed)

pub returns-clause-closed : goal.returns-clause-closed
returns-clause-closed c closed value result_value = c.write.ensures.closed closed (c.in_ok-target.ensures.closed (nodes_of c.args.tree.now) closed) value result_value
