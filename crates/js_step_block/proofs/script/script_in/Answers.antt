use Rattle.std.proofs.Common.{refl, arith, None}
use Rattle.js_step_stmt.proofs.Making.{made_ok, made_err}
use Rattle.js_names.specs.Patterns.{nodes_of}
use Rattle.std.specs.Prelude.{slice_get}
use Rattle.js_semantics.specs.Statements.{fill_functions, run_items}
use Rattle.js_machine.specs.Parts.{items_of}
use Rattle.std.proofs.lemmas.Result.{err_from_is_err_and}
use Rattle.js_semantics.specs.Environments.{env_cell}
use Rattle.js_machine.proofs.Closing.{lasts_on, made_cell, value_grown}
use Rattle.js_step_stmt.proofs.Fitting.{made_lasts, stop_lasts}
use Rattle.js_step_block.proofs.script.script_in.Goals as goal

pub returns-in-Ok-clause-does : goal.returns-in-Ok-clause-does
returns-in-Ok-clause-does c = made_ok (nodes_of c.args.tree.now) 6 _ (λ env. fill_functions (items_of (slice_get (nodes_of c.args.tree.now) c.args.node.0)) env (run_items (items_of (slice_get (nodes_of c.args.tree.now) c.args.node.0)) (record { env = env; receiver = c.args.receiver }))) _ _ _ c.in-Ok.env _ _ refl c.in-Ok.is c.in_ok-env.ensures c.filled.ensures.does

pub returns-in-Err-clause-does : goal.returns-in-Err-clause-does
returns-in-Err-clause-does c = made_err (nodes_of c.args.tree.now) 6 _ (λ env. fill_functions (items_of (slice_get (nodes_of c.args.tree.now) c.args.node.0)) env (run_items (items_of (slice_get (nodes_of c.args.tree.now) c.args.node.0)) (record { env = env; receiver = c.args.receiver }))) _ _ c.in-Err.stop _ _ (omega arith) c.in-Err.is c.in_ok-env.ensures c.stopped.ensures

pub returns-in_err-env-clause-closed : goal.returns-in_err-env-clause-closed
returns-in_err-env-clause-closed c closed bindings receiver =
    let p = err_from_is_err_and c.from_residual.result c.from_residual.ensures.1 in rw (p.1, p.2) (c.in_err-env.ensures (tt, bindings))

pub returns-in-Ok-clause-closed : goal.returns-in-Ok-clause-closed
returns-in-Ok-clause-closed c closed bindings receiver =
    let nodes = nodes_of c.args.tree.now in
    let old = c.args.state.now in
    let mid = c.make_environment.new.self in
    let went = made_lasts nodes None c.args.bindings old mid _ c.in_ok-env.ensures c.in-Ok.env c.in-Ok.is closed tt bindings in
    let here = made_cell (env_cell None c.args.bindings) old mid c.in-Ok.env (rw c.in-Ok.is at c.in_ok-env.ensures) in
    lasts_on nodes old mid c.filled.new.state c.filled.result went (c.filled.ensures.closed went.closed (here, value_grown nodes old.heap.cells mid.heap.cells went.grows c.args.receiver receiver))

pub returns-in-Err-clause-closed : goal.returns-in-Err-clause-closed
returns-in-Err-clause-closed c closed bindings receiver =
    stop_lasts (nodes_of c.args.tree.now) None c.args.bindings c.args.state.now c.make_environment.new.self _ c.in_ok-env.ensures c.in-Err.stop c.in-Err.is closed
