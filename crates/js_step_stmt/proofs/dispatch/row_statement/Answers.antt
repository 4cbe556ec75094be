use Rattle.js_machine.specs.Parts.{declarators_of}
use Rattle.js_semantics.specs.Rows.{row_of}
use Rattle.js_semantics.specs.Statements.{row_declare}
use Rattle.js_names.specs.Patterns.{nodes_of}
use Rattle.js_step_stmt.proofs.dispatch.row_statement.Goals as goal

pub returns-in-Let-clause-does : goal.returns-in-Let-clause-does
unfolding row_of row_declare declarators_of
returns-in-Let-clause-does c = rw c.in-Let.is (rw (c.requires.stands, c.in-Let.is) at c.declare_pairs.ensures.does)

pub returns-in-Const-clause-does : goal.returns-in-Const-clause-does
unfolding row_of row_declare declarators_of
returns-in-Const-clause-does c = rw c.in-Const.is (rw (c.requires.stands, c.in-Const.is) at c.declare_pairs-in-Const.ensures.does)

pub returns-in-FunDecl-clause-closed : goal.returns-in-FunDecl-clause-closed
returns-in-FunDecl-clause-closed c closed scope = c.done.ensures.closed (nodes_of c.args.tree.now) closed

pub returns-in-If-clause-closed : goal.returns-in-If-clause-closed
returns-in-If-clause-closed c closed scope = c.row_if.ensures.closed (nodes_of c.args.tree.now) closed scope

pub returns-in-While-clause-closed : goal.returns-in-While-clause-closed
returns-in-While-clause-closed c closed scope = c.row_while.ensures.closed (nodes_of c.args.tree.now) closed scope

pub returns-in-DoWhile-clause-closed : goal.returns-in-DoWhile-clause-closed
returns-in-DoWhile-clause-closed c closed scope = c.row_do_while.ensures.closed (nodes_of c.args.tree.now) closed scope

pub returns-in-ForOf-clause-closed : goal.returns-in-ForOf-clause-closed
returns-in-ForOf-clause-closed c closed scope = c.row_for_of.ensures.closed (nodes_of c.args.tree.now) closed scope

pub returns-in-Return-clause-closed : goal.returns-in-Return-clause-closed
returns-in-Return-clause-closed c closed scope = c.row_return.ensures.closed (nodes_of c.args.tree.now) closed scope

pub returns-in-Break-clause-closed : goal.returns-in-Break-clause-closed
returns-in-Break-clause-closed c closed scope = c.give.ensures.closed (nodes_of c.args.tree.now) closed tt

pub returns-in-Continue-clause-closed : goal.returns-in-Continue-clause-closed
returns-in-Continue-clause-closed c closed scope = c.give-in-Continue.ensures.closed (nodes_of c.args.tree.now) closed tt

pub returns-in-Throw-clause-closed : goal.returns-in-Throw-clause-closed
returns-in-Throw-clause-closed c closed scope = c.row_throw.ensures.closed (nodes_of c.args.tree.now) closed scope

pub returns-in-Try-clause-closed : goal.returns-in-Try-clause-closed
returns-in-Try-clause-closed c closed scope = c.row_try.ensures.closed (nodes_of c.args.tree.now) closed scope

pub returns-in-Empty-clause-closed : goal.returns-in-Empty-clause-closed
returns-in-Empty-clause-closed c closed scope = c.done-in-Empty.ensures.closed (nodes_of c.args.tree.now) closed

pub returns-in-ExprStmt-clause-closed : goal.returns-in-ExprStmt-clause-closed
returns-in-ExprStmt-clause-closed c closed scope = c.row_expression.ensures.closed (nodes_of c.args.tree.now) closed scope
