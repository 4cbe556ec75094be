use Rattle.std.proofs.Common.{Some, None, ◌∙◌, sym}
use Rattle.js_natives.proofs.Saying.{error_ok}
use Rattle.std.proofs.lemmas.Result.{err_from_is_err_and}
use Rattle.js_natives.proofs.errors.row_error.Goals as goal

pub returns-in-Some-clause-does : goal.returns-in-Some-clause-does
returns-in-Some-clause-does c nodes = error_ok nodes 6 c.args.error c.args.arguments.now (Some c.in-Some.message) c.args.state.now c.error_of.new.state c.error_of.result (sym c.in-Some.is ∙ c.in_ok-given.ensures) (c.error_of.ensures.does nodes)

pub returns-in-None-clause-does : goal.returns-in-None-clause-does
returns-in-None-clause-does c nodes = error_ok nodes 6 c.args.error c.args.arguments.now None c.args.state.now c.throw.new.self c.throw.result (sym c.in-None.is ∙ c.in_ok-given.ensures) (c.throw.ensures.many nodes)

pub returns-in_err-given-clause-closed : goal.returns-in_err-given-clause-closed
returns-in_err-given-clause-closed c nodes closed =
    let p = err_from_is_err_and c.from_residual.result c.from_residual.ensures.1 in rw (p.1, p.2) (c.in_err-given.ensures)

pub returns-in-Some-clause-closed : goal.returns-in-Some-clause-closed
returns-in-Some-clause-closed c nodes closed = c.error_of.ensures.closed nodes closed

pub returns-in-None-clause-closed : goal.returns-in-None-clause-closed
returns-in-None-clause-closed c nodes closed = c.throw.ensures.closed nodes closed
