use Rattle.js_names.specs.Patterns.{nodes_of}
use Rattle.js_machine.specs.Frames.{after_rest}
use Rattle.js_calls.proofs.Lookups.{name_ok}
use Rattle.js_step_expr.specs.Left.{undeclared}
use Rattle.std.proofs.lemmas.Result.{err_from_is_err_and}
use Rattle.std.proofs.Common.{sym, true≢false}
use Rattle.js_step_access.proofs.naming.read_name.Goals as goal

pub returns-in_ok-meant-in-Some-clause-does : goal.returns-in_ok-meant-in-Some-clause-does
returns-in_ok-meant-in-Some-clause-does c =
    rw (← c.in-Some.ensures.is) (name_ok (nodes_of c.args.tree.now) 6 c.args.env c.in-Some.name.now (undeclared c.args.frame) (λ v. after_rest (nodes_of c.args.tree.now) c.args.frame v) c.in_ok-meant-in-Some.meant c.args.state.now c.read_meant.new.state c.read_meant.result (λ supply. c.in_ok-meant-in-Some.ensures.is (nodes_of c.args.tree.now) supply) c.read_meant.ensures.does)

pub returns-in-None-clause-closed : goal.returns-in-None-clause-closed
returns-in-None-clause-closed c closed named env frame = absurd (true≢false (sym (c.in-None.ensures.named named)))

pub returns-in_err-meant-in-Some-clause-closed : goal.returns-in_err-meant-in-Some-clause-closed
returns-in_err-meant-in-Some-clause-closed c closed named env frame =
    let p = err_from_is_err_and c.from_residual.result c.from_residual.ensures.1 in rw (p.1, p.2) (c.in_err-meant-in-Some.ensures.closed (nodes_of c.args.tree.now) closed)

pub returns-in_ok-meant-in-Some-clause-closed : goal.returns-in_ok-meant-in-Some-clause-closed
returns-in_ok-meant-in-Some-clause-closed c closed named env frame = c.read_meant.ensures.closed closed (c.in_ok-meant-in-Some.ensures.closed (nodes_of c.args.tree.now) closed) frame
