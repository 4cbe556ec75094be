use Rattle.std.proofs.lemmas.Result.{err_from_is_err_and}
use Rattle.js_names.specs.Patterns.{nodes_of}
use Rattle.js_step_expr.proofs.template.template_part.Goals as goal

pub returns-in_err-joined-in-Some-clause-closed : goal.returns-in_err-joined-in-Some-clause-closed
returns-in_err-joined-in-Some-clause-closed c closed scope value =
    let p = err_from_is_err_and c.from_residual-in_err-joined-in-Some.result c.from_residual-in_err-joined-in-Some.ensures.1 in rw (p.1, p.2) c.in_err-joined-in-Some.ensures.closed

pub returns-in_ok-joined-in-Some-clause-closed : goal.returns-in_ok-joined-in-Some-clause-closed
returns-in_ok-joined-in-Some-clause-closed c closed scope value = c.template_from.ensures.closed closed scope

pub returns-in-None-clause-closed : goal.returns-in-None-clause-closed
returns-in-None-clause-closed c closed scope value = c.throw.ensures.closed (nodes_of c.args.tree.now) closed
