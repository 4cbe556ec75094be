use Rattle.js_names.specs.Patterns.{nodes_of}
use Rattle.js_semantics.specs.Rows.{row_of}
use Rattle.js_machine.specs.Parts.{items_of}
use Rattle.js_step.proofs.nodes.row_kind.Goals as goal

pub returns-in-Block-clause-does : goal.returns-in-Block-clause-does
unfolding row_of items_of
returns-in-Block-clause-does c = rw c.in-Block.is (rw (c.requires, c.in-Block.is) at c.row_block.ensures.does)

pub returns-in-Block-clause-closed : goal.returns-in-Block-clause-closed
returns-in-Block-clause-closed c closed scope = c.row_block.ensures.closed closed scope

pub returns-in_default-clause-closed : goal.returns-in_default-clause-closed
returns-in_default-clause-closed c closed scope = c.done.ensures.closed (nodes_of c.args.tree.now) closed
