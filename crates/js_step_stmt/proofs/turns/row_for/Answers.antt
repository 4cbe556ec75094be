use Rattle.std.proofs.Common.{refl}
use Rattle.js_machine.proofs.Doing.{does_read_ok}
use Rattle.js_semantics.specs.Statements.{row_for}
use Rattle.js_names.specs.Patterns.{nodes_of}
use Rattle.js_step_stmt.proofs.turns.row_for.Goals as goal

pub returns-in-Some-clause-does : goal.returns-in-Some-clause-does
unfolding row_for
returns-in-Some-clause-does c = rw c.in-Some.is (does_read_ok (nodes_of c.args.tree.now) 6 _ _ _ _ _ (λ supply. refl) c.for_from.ensures.does)

pub returns-in-None-clause-closed : goal.returns-in-None-clause-closed
returns-in-None-clause-closed c closed scope = c.for_start.ensures.closed (nodes_of c.args.tree.now) closed scope
