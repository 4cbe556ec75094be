use Rattle.js_names.specs.Patterns.{nodes_of}
use Rattle.std.proofs.Common.{sym, true≢false}
use Rattle.js_step_access.proofs.usage.remove.Goals as goal

pub returns-in-Some-clause-closed : goal.returns-in-Some-clause-closed
returns-in-Some-clause-closed c closed base key = c.delete.ensures.closed (nodes_of c.args.tree.now) closed base

pub returns-in-None-clause-closed : goal.returns-in-None-clause-closed
returns-in-None-clause-closed c closed base key = absurd (true≢false (sym (c.in-None.ensures.named c.args.state.now.heap.cells key)))
