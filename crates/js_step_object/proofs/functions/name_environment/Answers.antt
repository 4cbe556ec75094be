use Rattle.std.proofs.Common.{◌≡◌, refl, Some, [], ◌∷◌, true, ap}
use Rattle.js_semantics.specs.Environments.{env_cell, unready}
use Rattle.js_step_object.proofs.Going.{alloc_ok, alloc_err}
use Rattle.std.proofs.lemmas.Result.{err_from_is_err_and}
use Rattle.js_step_object.proofs.Lasting.{made_lasts, made_stands, name_fits, stop_lasts}
use Rattle.js_step_object.proofs.functions.name_environment.Goals as goal

pub returns-in-Ok-clause-does : goal.returns-in-Ok-clause-does
returns-in-Ok-clause-does c nodes =
    let bindings : c.in_ok-bindings.bindings ≡ unready true c.args.name.now ∷ [] = c.in_ok-bindings.ensures in
    alloc_ok nodes (env_cell (Some c.args.env) (unready true c.args.name.now ∷ [])) (env_cell (Some c.args.env) c.in_ok-bindings.bindings) c.args.state.now c.make_environment.new.self _ c.in-Ok.loc refl (ap (λ bs. env_cell (Some c.args.env) bs) bindings) c.in_ok-loc.ensures c.in-Ok.is

pub returns-in-Err-clause-does : goal.returns-in-Err-clause-does
returns-in-Err-clause-does c nodes =
    let bindings : c.in_ok-bindings.bindings ≡ unready true c.args.name.now ∷ [] = c.in_ok-bindings.ensures in
    alloc_err nodes (env_cell (Some c.args.env) (unready true c.args.name.now ∷ [])) (env_cell (Some c.args.env) c.in_ok-bindings.bindings) c.args.state.now c.make_environment.new.self _ c.in-Err.stop c.stopped.result (ap (λ bs. env_cell (Some c.args.env) bs) bindings) c.in_ok-loc.ensures c.in-Err.is c.stopped.ensures

pub returns-in_err-bindings-clause-closed : goal.returns-in_err-bindings-clause-closed
returns-in_err-bindings-clause-closed c nodes closed env =
    let p = err_from_is_err_and c.from_residual.result c.from_residual.ensures.1 in rw (p.1, p.2) (c.in_err-bindings.ensures)

pub returns-in_err-loc-clause-closed : goal.returns-in_err-loc-clause-closed
returns-in_err-loc-clause-closed c nodes closed env =
    let p = err_from_is_err_and c.from_residual-in_err-loc.result c.from_residual-in_err-loc.ensures.1 in rw (p.1, p.2) (c.in_err-loc.ensures (name_fits c.args.state.now.heap.cells c.args.env c.args.name.now c.in_ok-bindings.bindings c.in_ok-bindings.ensures env))

pub returns-in-Ok-clause-closed : goal.returns-in-Ok-clause-closed
returns-in-Ok-clause-closed c nodes closed env =
    made_lasts nodes (env_cell (Some c.args.env) c.in_ok-bindings.bindings) c.args.state.now c.make_environment.new.self _ c.in_ok-loc.ensures c.in-Ok.loc c.in-Ok.is closed (name_fits c.args.state.now.heap.cells c.args.env c.args.name.now c.in_ok-bindings.bindings c.in_ok-bindings.ensures env)

pub returns-in-Err-clause-closed : goal.returns-in-Err-clause-closed
returns-in-Err-clause-closed c nodes closed env =
    stop_lasts nodes (env_cell (Some c.args.env) c.in_ok-bindings.bindings) c.args.state.now c.make_environment.new.self _ c.in_ok-loc.ensures c.in-Err.stop c.in-Err.is closed

pub returns-in-Ok-clause-fits : goal.returns-in-Ok-clause-fits
returns-in-Ok-clause-fits c nodes closed =
    made_stands nodes (env_cell (Some c.args.env) c.in_ok-bindings.bindings) c.args.state.now c.make_environment.new.self _ c.in_ok-loc.ensures c.in-Ok.loc c.in-Ok.is
