use Rattle.js_names.specs.Patterns.{nodes_of}
use Rattle.js_step_access.proofs.naming.read_meant.Goals as goal

pub returns-in-Held-clause-closed : goal.returns-in-Held-clause-closed
returns-in-Held-clause-closed c closed meant frame = c.hand.ensures.closed (nodes_of c.args.tree.now) closed frame (rw c.in-Held.is at meant)

pub returns-in-Unready-clause-closed : goal.returns-in-Unready-clause-closed
returns-in-Unready-clause-closed c closed meant frame = c.throw.ensures.closed (nodes_of c.args.tree.now) closed

pub returns-in-Global-clause-closed : goal.returns-in-Global-clause-closed
returns-in-Global-clause-closed c closed meant frame = c.get.ensures.closed closed (rw c.in-Global.is at meant) frame

pub returns-in-Nowhere-clause-closed : goal.returns-in-Nowhere-clause-closed
returns-in-Nowhere-clause-closed c closed meant frame = c.read_nothing.ensures.closed (nodes_of c.args.tree.now) closed frame
