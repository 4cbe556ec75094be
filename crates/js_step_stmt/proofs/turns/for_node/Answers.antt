use Rattle.js_step_stmt.proofs.Choosing.{for_let, for_const, for_other}
use Rattle.js_names.specs.Patterns.{nodes_of}
use Rattle.js_step_stmt.proofs.Fitting.{declared_fit}
use Rattle.js_step_stmt.proofs.turns.for_node.Goals as goal

pub returns-in_ok-bindings-in-Let-clause-does : goal.returns-in_ok-bindings-in-Let-clause-does
returns-in_ok-bindings-in-Let-clause-does c = rw (for_let (nodes_of c.args.tree.now) c.args.first c.in_ok-bindings-in-Let.bindings c.args.turn.test c.args.turn.next c.args.turn.body c.args.scope c.in-Let.field-0 c.args.node.now c.declares-copied.result c.requires.node c.in-Let.is c.in_ok-bindings-in-Let.ensures c.declares-copied.ensures) (c.declared_first.ensures.does (nodes_of c.args.tree.now))

pub returns-in_ok-bindings-in-Const-clause-does : goal.returns-in_ok-bindings-in-Const-clause-does
returns-in_ok-bindings-in-Const-clause-does c = rw (for_const (nodes_of c.args.tree.now) c.args.first c.in_ok-bindings-in-Const.bindings c.args.turn.test c.args.turn.next c.args.turn.body c.args.scope c.in-Const.field-0 c.args.node.now c.args.turn.copied c.requires.node c.in-Const.is c.in_ok-bindings-in-Const.ensures c.requires.turn) (c.declared_first-in-Const.ensures.does (nodes_of c.args.tree.now))

pub returns-in_default-clause-does : goal.returns-in_default-clause-does
returns-in_default-clause-does c = rw (for_other (nodes_of c.args.tree.now) c.args.first c.args.turn.test c.args.turn.next c.args.turn.body c.args.scope c.args.node.now c.in_default.not-Let c.in_default.not-Const) (rw c.requires.turn at (c.first_of.ensures.does (nodes_of c.args.tree.now)))

pub returns-in_ok-bindings-in-Let-clause-closed : goal.returns-in_ok-bindings-in-Let-clause-closed
returns-in_ok-bindings-in-Let-clause-closed c closed scope = c.declared_first.ensures.closed (nodes_of c.args.tree.now) closed (declared_fit c.args.state.now.heap.cells (nodes_of c.args.tree.now) c.args.first _ c.in_ok-bindings-in-Let.ensures) scope

pub returns-in_ok-bindings-in-Const-clause-closed : goal.returns-in_ok-bindings-in-Const-clause-closed
returns-in_ok-bindings-in-Const-clause-closed c closed scope = c.declared_first-in-Const.ensures.closed (nodes_of c.args.tree.now) closed (declared_fit c.args.state.now.heap.cells (nodes_of c.args.tree.now) c.args.first _ c.in_ok-bindings-in-Const.ensures) scope

pub returns-in_default-clause-closed : goal.returns-in_default-clause-closed
returns-in_default-clause-closed c closed scope = c.first_of.ensures.closed (nodes_of c.args.tree.now) closed scope
