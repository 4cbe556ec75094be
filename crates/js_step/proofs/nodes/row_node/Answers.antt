use Rattle.std.specs.Prelude.{Some, None}
use Rattle.js_names.specs.Patterns.{nodes_of}
use Rattle.js_semantics.specs.Rows.{row_of}
use Rattle.js_step.proofs.Entering.{node_ok}
use Rattle.js_step.proofs.nodes.row_node.Goals as goal

pub returns-in-Some-clause-does : goal.returns-in-Some-clause-does
returns-in-Some-clause-does c = node_ok (nodes_of c.args.tree.now) c.args.id c.args.scope (Some c.in-Some.node.now) _ _ _ c.in-Some.ensures c.row_kind.ensures.does

pub returns-in-None-clause-does : goal.returns-in-None-clause-does
unfolding row_of
returns-in-None-clause-does c = node_ok (nodes_of c.args.tree.now) c.args.id c.args.scope None _ _ _ c.in-None.ensures (c.done.ensures.does (nodes_of c.args.tree.now))

pub returns-in-Some-clause-closed : goal.returns-in-Some-clause-closed
returns-in-Some-clause-closed c closed scope = c.row_kind.ensures.closed closed scope

pub returns-in-None-clause-closed : goal.returns-in-None-clause-closed
returns-in-None-clause-closed c closed scope = c.done.ensures.closed (nodes_of c.args.tree.now) closed
