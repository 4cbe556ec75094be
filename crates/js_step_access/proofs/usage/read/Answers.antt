use Rattle.std.proofs.Common.{sym, true≢false}
use Rattle.js_step_access.proofs.usage.read.Goals as goal

pub returns-in-Some-clause-closed : goal.returns-in-Some-clause-closed
returns-in-Some-clause-closed c closed base key frame = c.get.ensures.closed closed base frame

pub returns-in-None-clause-closed : goal.returns-in-None-clause-closed
returns-in-None-clause-closed c closed base key frame = absurd (true≢false (sym (c.in-None.ensures.named c.args.state.now.heap.cells key)))
