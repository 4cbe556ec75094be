use Rattle.js_names.specs.Patterns.{nodes_of}
use Rattle.js_step.proofs.frames.frame_end.Goals as goal

pub returns-in-Leave-clause-does : goal.returns-in-Leave-clause-does
returns-in-Leave-clause-does c = rw c.in-Leave.is (c.leave.ensures.does (nodes_of c.args.tree.now))

pub returns-in-OnValue-clause-closed : goal.returns-in-OnValue-clause-closed
returns-in-OnValue-clause-closed c closed frame outcome = c.value_end.ensures.closed closed (rw c.in-OnValue.is at frame) outcome

pub returns-in-After-clause-closed : goal.returns-in-After-clause-closed
returns-in-After-clause-closed c closed frame outcome = c.after_end.ensures.closed closed (rw c.in-After.is at frame) outcome

pub returns-in-Leave-clause-closed : goal.returns-in-Leave-clause-closed
returns-in-Leave-clause-closed c closed frame outcome = c.leave.ensures.closed (nodes_of c.args.tree.now) closed outcome

pub returns-in-WhileBody-clause-closed : goal.returns-in-WhileBody-clause-closed
returns-in-WhileBody-clause-closed c closed frame outcome = c.while_body_end.ensures.closed closed (rw c.in-WhileBody.is at frame) outcome
