use Rattle.js_names.specs.Patterns.{nodes_of}
use Rattle.js_semantics.specs.Statements.{pattern_of}
use Rattle.js_patterns.proofs.Destructuring.{row_ok}
use Rattle.js_patterns.proofs.binding.bind_pattern.Goals as goal

pub returns-in-Some-clause-row : goal.returns-in-Some-clause-row
returns-in-Some-clause-row c = row_ok (nodes_of c.args.tree.now) c.args.node c.args.value c.args.scope _ _ _ (rw c.in-Some.ensures (c.bind_kind.ensures.does c.in-Some.ensures))

pub returns-in-None-clause-row : goal.returns-in-None-clause-row
unfolding pattern_of
returns-in-None-clause-row c = row_ok (nodes_of c.args.tree.now) c.args.node c.args.value c.args.scope _ _ _ (rw c.in-None.ensures (c.done.ensures.does (nodes_of c.args.tree.now)))

pub returns-in-Some-clause-closed : goal.returns-in-Some-clause-closed
returns-in-Some-clause-closed c closed value scope = c.bind_kind.ensures.closed closed value scope

pub returns-in-None-clause-closed : goal.returns-in-None-clause-closed
returns-in-None-clause-closed c closed value scope = c.done.ensures.closed (nodes_of c.args.tree.now) closed
