use Rattle.js_names.specs.Patterns.{nodes_of}
use Rattle.js_step_stmt.proofs.dispatch.statement_end.Goals as goal

pub returns-in-Expression-clause-closed : goal.returns-in-Expression-clause-closed
returns-in-Expression-clause-closed c closed frame value = c.expression_end.ensures.closed (nodes_of c.args.tree.now) closed value

pub returns-in-If-clause-closed : goal.returns-in-If-clause-closed
returns-in-If-clause-closed c closed frame value = c.if_end.ensures.closed (nodes_of c.args.tree.now) closed (rw c.in-If.is at frame) value

pub returns-in-Return-clause-closed : goal.returns-in-Return-clause-closed
returns-in-Return-clause-closed c closed frame value = c.return_end.ensures.closed (nodes_of c.args.tree.now) closed value

pub returns-in-Throw-clause-closed : goal.returns-in-Throw-clause-closed
returns-in-Throw-clause-closed c closed frame value = c.throw_end.ensures.closed (nodes_of c.args.tree.now) closed value

pub returns-in-WhileTest-clause-closed : goal.returns-in-WhileTest-clause-closed
returns-in-WhileTest-clause-closed c closed frame value = c.while_tested.ensures.closed (nodes_of c.args.tree.now) closed (rw c.in-WhileTest.is at frame) value

pub returns-in-DoTest-clause-closed : goal.returns-in-DoTest-clause-closed
returns-in-DoTest-clause-closed c closed frame value = c.do_tested.ensures.closed (nodes_of c.args.tree.now) closed (rw c.in-DoTest.is at frame) value

pub returns-in-ForFirst-clause-closed : goal.returns-in-ForFirst-clause-closed
returns-in-ForFirst-clause-closed c closed frame value = c.for_start.ensures.closed (nodes_of c.args.tree.now) closed (rw c.in-ForFirst.is at frame)

pub returns-in-ForTest-clause-closed : goal.returns-in-ForTest-clause-closed
returns-in-ForTest-clause-closed c closed frame value = c.for_tested.ensures.closed (nodes_of c.args.tree.now) closed (rw c.in-ForTest.is at frame) value

pub returns-in-ForNext-clause-closed : goal.returns-in-ForNext-clause-closed
returns-in-ForNext-clause-closed c closed frame value = c.enter_for.ensures.closed (nodes_of c.args.tree.now) closed (rw c.in-ForNext.is at frame)

pub returns-in-ForOfBound-clause-closed : goal.returns-in-ForOfBound-clause-closed
returns-in-ForOfBound-clause-closed c closed frame value = let fit = rw c.in-ForOfBound.is at frame in c.of_bound.ensures.closed (nodes_of c.args.tree.now) closed fit.0 fit.1 fit.2 value

pub returns-in-HandlerBound-clause-closed : goal.returns-in-HandlerBound-clause-closed
returns-in-HandlerBound-clause-closed c closed frame value = c.jump.ensures.closed (nodes_of c.args.tree.now) closed (rw c.in-HandlerBound.is at frame)
