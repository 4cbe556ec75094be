use Rattle.std.proofs.lemmas.Result.{err_from_is_err_and}
use Rattle.js_names.specs.Patterns.{nodes_of}
use Rattle.js_calls.proofs.Called.{called_ok}
use Rattle.js_calls.proofs.calling.enter_body.Goals as goal

pub returns-clause-does : goal.returns-clause-does
returns-clause-does c n le =
    called_ok (nodes_of c.args.tree.now) n _ c.args.state.now c.push_call.new.state c.all_parameters.new.state c.args.frame c.all_parameters.result le c.in_ok-push_call.ensures.frames c.in_ok-push_call.ensures.rest c.all_parameters.ensures.does

pub returns-in_err-push_call-clause-closed : goal.returns-in_err-push_call-clause-closed
returns-in_err-push_call-clause-closed c closed arguments scope frame =
    let p = err_from_is_err_and c.from_residual.result c.from_residual.ensures.1 in rw (p.1, p.2) (c.in_err-push_call.ensures.closed (nodes_of c.args.tree.now) closed frame)
