use Rattle.std.proofs.Common.{sym, ap, Some, false}
use Rattle.js_semantics.specs.Prog.{alloc, End, Enter, Node as NodeRequest}
use Rattle.js_semantics.specs.Environments.{env_cell}
use Rattle.js_machine.proofs.Doing.{does_read_ok}
use Rattle.js_semantics.specs.Statements.{inside}
use Rattle.js_semantics.specs.Access.{bind_value}
use Rattle.js_names.specs.Patterns.{nodes_of}
use Rattle.js_step_stmt.proofs.Fitting.{unready_fit}
use Rattle.js_step_stmt.proofs.attempt.handle.Goals as goal

pub returns-in_ok-bindings-in-Some-clause-does : goal.returns-in_ok-bindings-in-Some-clause-does
returns-in_ok-bindings-in-Some-clause-does c = rw c.in-Some.is (does_read_ok (nodes_of c.args.tree.now) 6 _ _ _ _ _ (λ supply. ap (λ bs. alloc (env_cell (Some c.args.scope.env) bs) (λ env. bind_value c.in-Some.pattern c.args.value (inside env c.args.scope) (Enter (NodeRequest c.args.handler (inside env c.args.scope)) (λ o. End o)))) (sym c.in_ok-bindings-in-Some.ensures)) (c.handle_in.ensures.does (nodes_of c.args.tree.now)))

pub returns-in_ok-bindings-in-Some-clause-closed : goal.returns-in_ok-bindings-in-Some-clause-closed
returns-in_ok-bindings-in-Some-clause-closed c closed value scope = c.handle_in.ensures.closed (nodes_of c.args.tree.now) closed (unready_fit c.args.state.now.heap.cells false _ _ c.in_ok-bindings-in-Some.ensures) value scope

pub returns-in-None-clause-closed : goal.returns-in-None-clause-closed
returns-in-None-clause-closed c closed value scope = c.jump.ensures.closed (nodes_of c.args.tree.now) closed scope
