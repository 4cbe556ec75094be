use Rattle.js_names.specs.Patterns.{nodes_of}
use Rattle.js_step.proofs.operators.row_operator.Goals as goal

pub returns-in-Seq-clause-closed : goal.returns-in-Seq-clause-closed
returns-in-Seq-clause-closed c closed scope = c.row_seq.ensures.closed (nodes_of c.args.tree.now) closed scope

pub returns-in-Cond-clause-closed : goal.returns-in-Cond-clause-closed
returns-in-Cond-clause-closed c closed scope = c.row_cond.ensures.closed (nodes_of c.args.tree.now) closed scope

pub returns-in-And-clause-closed : goal.returns-in-And-clause-closed
returns-in-And-clause-closed c closed scope = c.row_and.ensures.closed (nodes_of c.args.tree.now) closed scope

pub returns-in-Or-clause-closed : goal.returns-in-Or-clause-closed
returns-in-Or-clause-closed c closed scope = c.row_or.ensures.closed (nodes_of c.args.tree.now) closed scope

pub returns-in-Nullish-clause-closed : goal.returns-in-Nullish-clause-closed
returns-in-Nullish-clause-closed c closed scope = c.row_nullish.ensures.closed (nodes_of c.args.tree.now) closed scope

pub returns-in-Assign-clause-closed : goal.returns-in-Assign-clause-closed
returns-in-Assign-clause-closed c closed scope = c.row_assign.ensures.closed closed scope

pub returns-in-AssignOp-clause-closed : goal.returns-in-AssignOp-clause-closed
returns-in-AssignOp-clause-closed c closed scope = c.row_assign_with.ensures.closed closed scope

pub returns-in-Update-clause-closed : goal.returns-in-Update-clause-closed
returns-in-Update-clause-closed c closed scope = c.row_update.ensures.closed closed scope

pub returns-in-Binary-clause-closed : goal.returns-in-Binary-clause-closed
returns-in-Binary-clause-closed c closed scope = c.row_binary.ensures.closed closed scope

pub returns-in-Unary-clause-closed : goal.returns-in-Unary-clause-closed
returns-in-Unary-clause-closed c closed scope = c.row_unary.ensures.closed (nodes_of c.args.tree.now) closed scope

pub returns-in-Typeof-clause-closed : goal.returns-in-Typeof-clause-closed
returns-in-Typeof-clause-closed c closed scope = c.row_typeof.ensures.closed closed scope

pub returns-in-Delete-clause-closed : goal.returns-in-Delete-clause-closed
returns-in-Delete-clause-closed c closed scope = c.row_delete.ensures.closed closed scope
