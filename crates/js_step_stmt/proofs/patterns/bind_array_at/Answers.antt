use Rattle.std.proofs.Common.{sym, ◌∙◌}
use Rattle.js_step_stmt.proofs.Choosing.{array_is, array_not}
use Rattle.js_machine.proofs.Doing.{does_read_ok}
use Rattle.js_semantics.specs.Statements.{bind_array_at}
use Rattle.js_semantics.specs.World.{cell_at}
use Rattle.js_machine.specs.Parts.{elements_of}
use Rattle.js_names.specs.Patterns.{nodes_of}
use Rattle.std.specs.Prelude.{slice_get}
use Rattle.js_step_stmt.proofs.patterns.bind_array_at.Goals as goal

pub returns-then-is_array-clause-does : goal.returns-then-is_array-clause-does
returns-then-is_array-clause-does c = does_read_ok (nodes_of c.args.tree.now) 6 (λ w. bind_array_at (cell_at c.args.loc w) (elements_of (slice_get (nodes_of c.args.tree.now) c.args.node.0)) c.args.loc c.args.scope) _ _ _ _ (λ supply. array_is _ _ _ _ (sym c.is_array.ensures ∙ c.if-is_array.true)) c.bind_elements.ensures.does

pub returns-else-is_array-clause-does : goal.returns-else-is_array-clause-does
returns-else-is_array-clause-does c = does_read_ok (nodes_of c.args.tree.now) 6 (λ w. bind_array_at (cell_at c.args.loc w) (elements_of (slice_get (nodes_of c.args.tree.now) c.args.node.0)) c.args.loc c.args.scope) _ _ _ _ (λ supply. array_not _ _ _ _ (sym c.is_array.ensures ∙ c.if-is_array.false)) (c.throw.ensures.many (nodes_of c.args.tree.now))

pub returns-else-is_array-clause-closed : goal.returns-else-is_array-clause-closed
returns-else-is_array-clause-closed c closed loc scope = c.throw.ensures.closed (nodes_of c.args.tree.now) closed
