use Rattle.std.proofs.Common.{sym, ap, ◌∙◌}
use Rattle.js_step_stmt.proofs.Choosing.{copied_true}
use Rattle.js_machine.proofs.Doing.{does_read_ok}
use Rattle.js_semantics.specs.Statements.{run_next, copied_cell}
use Rattle.js_semantics.specs.Environments.{bindings_at}
use Rattle.js_semantics.specs.World.{cell_at}
use Rattle.js_semantics.specs.Prog.{End, Enter, For}
use Rattle.js_step_stmt.proofs.Fitting.{env_fits}
use Rattle.js_step_stmt.proofs.turns.copied_turn.Goals as goal

pub returns-in-Some-clause-does : goal.returns-in-Some-clause-does
returns-in-Some-clause-does c nodes = rw (copied_true c.args.turn.copied c.args.scope (λ env. run_next c.args.then env (Enter (For c.args.turn.copied c.args.turn.test c.args.turn.next c.args.turn.body env) (λ o. End o))) c.if-turn.true) (does_read_ok nodes 6 (λ w. copied_cell (bindings_at (cell_at c.args.scope.env w)) c.args.scope (λ env. run_next c.args.then env (Enter (For c.args.turn.copied c.args.turn.test c.args.turn.next c.args.turn.body env) (λ o. End o)))) _ _ _ _ (λ supply. ap (λ f. copied_cell f c.args.scope (λ env. run_next c.args.then env (Enter (For c.args.turn.copied c.args.turn.test c.args.turn.next c.args.turn.body env) (λ o. End o)))) (sym c.in_ok-found.ensures ∙ c.in-Some.is)) (c.in_copy.ensures.does nodes))

pub returns-in-None-clause-does : goal.returns-in-None-clause-does
returns-in-None-clause-does c nodes = rw (copied_true c.args.turn.copied c.args.scope (λ env. run_next c.args.then env (Enter (For c.args.turn.copied c.args.turn.test c.args.turn.next c.args.turn.body env) (λ o. End o))) c.if-turn.true) (does_read_ok nodes 6 (λ w. copied_cell (bindings_at (cell_at c.args.scope.env w)) c.args.scope (λ env. run_next c.args.then env (Enter (For c.args.turn.copied c.args.turn.test c.args.turn.next c.args.turn.body env) (λ o. End o)))) _ _ _ _ (λ supply. ap (λ f. copied_cell f c.args.scope (λ env. run_next c.args.then env (Enter (For c.args.turn.copied c.args.turn.test c.args.turn.next c.args.turn.body env) (λ o. End o)))) (sym c.in_ok-found.ensures ∙ c.in-None.is)) (c.step_then.ensures.does nodes))

pub returns-in-Some-clause-closed : goal.returns-in-Some-clause-closed
returns-in-Some-clause-closed c nodes closed scope =
    let held = rw c.in-Some.is at (env_fits c.args.state.now.heap.cells closed.well c.args.scope.env _ c.in_ok-found.ensures) in
    c.in_copy.ensures.closed nodes closed held.0 held.1 scope
