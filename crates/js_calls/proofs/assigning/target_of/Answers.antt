use Rattle.std.proofs.lemmas.Result.{err_from_is_err_and}
use Rattle.std.proofs.Common.{sym, ◌∙◌}
use Rattle.js_machine.specs.Does.{world_of}
use Rattle.js_semantics.specs.Access.{global_holder}
use Rattle.js_semantics.specs.Environments.{binding_of}
use Rattle.js_calls.proofs.Rebinding.{target_held, target_global, target_nowhere}
use Rattle.js_calls.proofs.Meanings.{target_fits}
use Rattle.js_calls.proofs.assigning.target_of.Goals as goal

pub returns-in-Some-clause-is : goal.returns-in-Some-clause-is
returns-in-Some-clause-is c nodes supply =
    let w = world_of nodes supply c.args.state.now in
    target_held (binding_of c.args.env c.args.name.now w) (global_holder c.args.name.now w) (c.in-Some.found.0, c.in-Some.found.1.now) c.binding_target.result (c.in-Some.ensures w) c.binding_target.ensures

pub returns-in-Some-2-clause-is : goal.returns-in-Some-2-clause-is
returns-in-Some-2-clause-is c nodes supply =
    let w = world_of nodes supply c.args.state.now in
    target_global (binding_of c.args.env c.args.name.now w) (global_holder c.args.name.now w) c.in-Some-2.global (c.in-None.ensures w) (sym c.in-Some-2.is ∙ c.in_ok-global-in-None.ensures.is nodes supply)

pub returns-in-None-2-clause-is : goal.returns-in-None-2-clause-is
returns-in-None-2-clause-is c nodes supply =
    let w = world_of nodes supply c.args.state.now in
    target_nowhere (binding_of c.args.env c.args.name.now w) (global_holder c.args.name.now w) (c.in-None.ensures w) (sym c.in-None-2.is ∙ c.in_ok-global-in-None.ensures.is nodes supply)

pub returns-in-Some-clause-closed : goal.returns-in-Some-clause-closed
returns-in-Some-clause-closed c nodes closed =
    rw c.binding_target.ensures (target_fits c.args.state.now.heap.cells c.in-Some.found.0 c.in-Some.found.1.now.value c.in-Some.found.1.now.fixed)

pub returns-in-Some-2-clause-closed : goal.returns-in-Some-2-clause-closed
returns-in-Some-2-clause-closed c nodes closed = rw c.in-Some-2.is at (c.in_ok-global-in-None.ensures.closed nodes closed)

pub returns-in_err-global-in-None-clause-closed : goal.returns-in_err-global-in-None-clause-closed
returns-in_err-global-in-None-clause-closed c nodes closed =
    let p = err_from_is_err_and c.from_residual.result c.from_residual.ensures.1 in rw (p.1, p.2) (c.in_err-global-in-None.ensures.closed nodes closed)
