use Rattle.js_names.specs.Patterns.{nodes_of}
use Rattle.js_step.proofs.frames.rare_frame_end.Goals as goal

pub returns-in-Script-clause-closed : goal.returns-in-Script-clause-closed
returns-in-Script-clause-closed c closed frame outcome = c.script_end.ensures.closed (nodes_of c.args.tree.now) closed outcome

pub returns-in-DoBody-clause-closed : goal.returns-in-DoBody-clause-closed
returns-in-DoBody-clause-closed c closed frame outcome = c.do_body_end.ensures.closed (nodes_of c.args.tree.now) closed (rw c.in-DoBody.is at frame) outcome

pub returns-in-ForBody-clause-closed : goal.returns-in-ForBody-clause-closed
returns-in-ForBody-clause-closed c closed frame outcome = c.for_body_end.ensures.closed (nodes_of c.args.tree.now) closed (rw c.in-ForBody.is at frame) outcome

pub returns-in-ForOfBody-clause-closed : goal.returns-in-ForOfBody-clause-closed
returns-in-ForOfBody-clause-closed c closed frame outcome = let fit = rw c.in-ForOfBody.is at frame in c.of_body_end.ensures.closed closed fit.0 fit.1 outcome

pub returns-in-Catch-clause-closed : goal.returns-in-Catch-clause-closed
returns-in-Catch-clause-closed c closed frame outcome = c.caught.ensures.closed closed (rw c.in-Catch.is at frame) outcome

pub returns-in-Last-clause-closed : goal.returns-in-Last-clause-closed
returns-in-Last-clause-closed c closed frame outcome = c.at_last.ensures.closed (nodes_of c.args.tree.now) closed (rw c.in-Last.is at frame) outcome

pub returns-in-Replaced-clause-closed : goal.returns-in-Replaced-clause-closed
returns-in-Replaced-clause-closed c closed frame outcome = c.replaced_by.ensures.closed (nodes_of c.args.tree.now) closed (rw c.in-Replaced.is at frame) outcome
