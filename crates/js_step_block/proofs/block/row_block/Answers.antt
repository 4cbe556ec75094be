use Rattle.std.proofs.Common.{refl, sym, ap, ◌∙◌}
use Rattle.js_machine.proofs.Doing.{does_read_ok}
use Rattle.js_names.specs.Patterns.{nodes_of}
use Rattle.std.specs.Prelude.{slice_get}
use Rattle.js_step_block.proofs.Made.{not_empty, block_named}
use Rattle.js_semantics.specs.Statements.{row_block, enter_block}
use Rattle.js_machine.specs.Parts.{items_of}
use Rattle.js_step_block.proofs.Lasting.{bindings_fit}
use Rattle.js_step_block.proofs.block.row_block.Goals as goal

pub returns-then-is_empty-clause-does : goal.returns-then-is_empty-clause-does
unfolding row_block
returns-then-is_empty-clause-does c = does_read_ok (nodes_of c.args.tree.now) 6 _ _ _ _ _ (λ supply. ap (λ bs. enter_block bs (items_of (slice_get (nodes_of c.args.tree.now) c.args.node.0)) c.args.scope) (sym (rw c.items_of.ensures at c.in_ok-bindings.ensures) ∙ c.if-is_empty.ensures.0 refl)) c.run_items.ensures.does

pub returns-else-is_empty-clause-does : goal.returns-else-is_empty-clause-does
unfolding row_block
returns-else-is_empty-clause-does c = does_read_ok (nodes_of c.args.tree.now) 6 _ _ _ _ _ (λ supply. ap (λ bs. enter_block bs (items_of (slice_get (nodes_of c.args.tree.now) c.args.node.0)) c.args.scope) (sym (rw c.items_of.ensures at c.in_ok-bindings.ensures)) ∙ block_named _ (items_of (slice_get (nodes_of c.args.tree.now) c.args.node.0)) c.args.scope (not_empty _ c.if-is_empty.ensures.1)) c.block_in.ensures.does

pub returns-then-is_empty-clause-closed : goal.returns-then-is_empty-clause-closed
returns-then-is_empty-clause-closed c closed scope = c.run_items.ensures.closed closed scope

pub returns-else-is_empty-clause-closed : goal.returns-else-is_empty-clause-closed
returns-else-is_empty-clause-closed c closed scope =
    c.block_in.ensures.closed closed (bindings_fit c.args.state.now.heap.cells (nodes_of c.args.tree.now) (items_of (slice_get (nodes_of c.args.tree.now) c.args.node.0)) c.in_ok-bindings.bindings (rw c.items_of.ensures at c.in_ok-bindings.ensures)) scope
