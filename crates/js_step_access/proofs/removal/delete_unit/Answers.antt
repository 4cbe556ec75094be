use Rattle.js_step_access.proofs.Removals.{unit_ok}
use Rattle.std.proofs.lemmas.Result.{err_from_is_err_and}
use Rattle.js_step_access.proofs.removal.delete_unit.Goals as goal

pub returns-clause-does : goal.returns-clause-does
returns-clause-does c nodes = unit_ok nodes c.args.text.now c.args.key.now c.in_ok-kept.kept _ _ _ c.in_ok-kept.ensures (c.settle.ensures.does nodes)

pub returns-in_err-kept-clause-closed : goal.returns-in_err-kept-clause-closed
returns-in_err-kept-clause-closed c nodes closed =
    let p = err_from_is_err_and c.from_residual.result c.from_residual.ensures.1 in rw (p.1, p.2) c.in_err-kept.ensures

pub returns-clause-closed : goal.returns-clause-closed
returns-clause-closed c nodes closed = c.settle.ensures.closed nodes closed
