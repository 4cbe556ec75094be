use Rattle.js_semantics.specs.Statements.{script_of}
use Rattle.js_machine.specs.Parts.{items_of}
use Rattle.js_names.specs.Patterns.{nodes_of}
use Rattle.js_step_block.proofs.script.row_script.Goals as goal

pub returns-in-Script-clause-does : goal.returns-in-Script-clause-does
unfolding script_of items_of
returns-in-Script-clause-does c = rw (c.in-Some.ensures, c.in-Script.is) (rw (c.in-Some.ensures, c.in-Script.is) at c.script_items.ensures.does)

pub returns-in-Script-clause-closed : goal.returns-in-Script-clause-closed
returns-in-Script-clause-closed c closed = c.script_items.ensures.closed closed

pub returns-in_default-clause-closed : goal.returns-in_default-clause-closed
returns-in_default-clause-closed c closed = c.done.ensures.closed (nodes_of c.args.tree.now) closed

pub returns-in-None-clause-closed : goal.returns-in-None-clause-closed
returns-in-None-clause-closed c closed = c.done-in-None.ensures.closed (nodes_of c.args.tree.now) closed
