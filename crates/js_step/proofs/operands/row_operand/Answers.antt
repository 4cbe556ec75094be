use Rattle.js_names.specs.Patterns.{nodes_of}
use Rattle.js_semantics.specs.Rows.{row_of}
use Rattle.js_machine.specs.Parts.{items_of, name_of, parts_of, texts_of}
use Rattle.js_primary.proofs.Numbers.{literal_fits}
use Rattle.js_step.proofs.operands.row_operand.Goals as goal

pub returns-in-Name-clause-does : goal.returns-in-Name-clause-does
unfolding row_of name_of
returns-in-Name-clause-does c = rw c.in-Name.is (rw (c.requires.stands, c.in-Name.is) at c.row_name.ensures.does)

pub returns-in-Template-clause-does : goal.returns-in-Template-clause-does
unfolding row_of texts_of parts_of
returns-in-Template-clause-does c = rw c.in-Template.is (rw (c.requires.stands, c.in-Template.is) at c.row_template.ensures.does)

pub returns-in-ArrayLit-clause-does : goal.returns-in-ArrayLit-clause-does
unfolding row_of items_of
returns-in-ArrayLit-clause-does c = rw c.in-ArrayLit.is (rw (c.requires.stands, c.in-ArrayLit.is) at c.row_array.ensures.does)

pub returns-in-ObjectLit-clause-does : goal.returns-in-ObjectLit-clause-does
unfolding row_of items_of
returns-in-ObjectLit-clause-does c = rw c.in-ObjectLit.is (rw (c.requires.stands, c.in-ObjectLit.is) at c.row_object.ensures.does)

pub returns-in-Dot-clause-does : goal.returns-in-Dot-clause-does
unfolding row_of name_of
returns-in-Dot-clause-does c = rw c.in-Dot.is (rw (c.requires.stands, c.in-Dot.is) at c.row_dot.ensures.does)

pub returns-in-Call-clause-does : goal.returns-in-Call-clause-does
unfolding row_of items_of
returns-in-Call-clause-does c = rw c.in-Call.is (rw (c.requires.stands, c.in-Call.is) at c.row_call.ensures.does)

pub returns-in-New-clause-does : goal.returns-in-New-clause-does
unfolding row_of items_of
returns-in-New-clause-does c = rw c.in-New.is (rw (c.requires.stands, c.in-New.is) at (c.row_new.ensures.does (nodes_of c.args.tree.now)))

pub returns-in-Name-clause-closed : goal.returns-in-Name-clause-closed
returns-in-Name-clause-closed c closed scope = c.row_name.ensures.closed closed (rw (c.requires.stands, c.in-Name.is) tt) scope

pub returns-in-This-clause-closed : goal.returns-in-This-clause-closed
returns-in-This-clause-closed c closed scope = c.row_this.ensures.closed (nodes_of c.args.tree.now) closed scope

pub returns-in-Null-clause-closed : goal.returns-in-Null-clause-closed
returns-in-Null-clause-closed c closed scope = c.row_literal.ensures.closed (nodes_of c.args.tree.now) closed tt

pub returns-in-Bool-clause-closed : goal.returns-in-Bool-clause-closed
returns-in-Bool-clause-closed c closed scope = c.row_literal-in-Bool.ensures.closed (nodes_of c.args.tree.now) closed tt

pub returns-in-Num-clause-closed : goal.returns-in-Num-clause-closed
returns-in-Num-clause-closed c closed scope = c.row_literal-in-Num.ensures.closed (nodes_of c.args.tree.now) closed (literal_fits c.args.state.now.heap.cells _ c.in-Num.number c.number_value.ensures)

pub returns-in-Str-clause-closed : goal.returns-in-Str-clause-closed
returns-in-Str-clause-closed c closed scope = c.row_text.ensures.closed (nodes_of c.args.tree.now) closed

pub returns-in-Template-clause-closed : goal.returns-in-Template-clause-closed
returns-in-Template-clause-closed c closed scope = c.row_template.ensures.closed closed scope

pub returns-in-ArrayLit-clause-closed : goal.returns-in-ArrayLit-clause-closed
returns-in-ArrayLit-clause-closed c closed scope = c.row_array.ensures.closed closed scope

pub returns-in-ObjectLit-clause-closed : goal.returns-in-ObjectLit-clause-closed
returns-in-ObjectLit-clause-closed c closed scope = c.row_object.ensures.closed closed scope

pub returns-in-Fun-clause-closed : goal.returns-in-Fun-clause-closed
returns-in-Fun-clause-closed c closed scope = c.row_fun.ensures.closed (nodes_of c.args.tree.now) closed scope

pub returns-in-Arrow-clause-closed : goal.returns-in-Arrow-clause-closed
returns-in-Arrow-clause-closed c closed scope = c.row_arrow.ensures.closed (nodes_of c.args.tree.now) closed scope

pub returns-in-Dot-clause-closed : goal.returns-in-Dot-clause-closed
returns-in-Dot-clause-closed c closed scope = c.row_dot.ensures.closed closed (rw (c.requires.stands, c.in-Dot.is) tt) scope

pub returns-in-Index-clause-closed : goal.returns-in-Index-clause-closed
returns-in-Index-clause-closed c closed scope = c.row_index.ensures.closed closed scope

pub returns-in-Call-clause-closed : goal.returns-in-Call-clause-closed
returns-in-Call-clause-closed c closed scope = c.row_call.ensures.closed closed scope

pub returns-in-New-clause-closed : goal.returns-in-New-clause-closed
returns-in-New-clause-closed c closed scope = c.row_new.ensures.closed (nodes_of c.args.tree.now) closed scope
