use Rattle.std.proofs.Common.{arith}
use Rattle.js_names.specs.Patterns.{nodes_of}
use Rattle.js_calls.proofs.Called.{ended_none, none_allowed}
use Rattle.js_calls.proofs.calling.call_last.Goals as goal

pub returns-clause-some : goal.returns-clause-some
returns-clause-some c = rw (ended_none (nodes_of c.args.tree.now)) at (c.call.ensures.does 4 (none_allowed 4 (omega arith)))

pub returns-clause-many : goal.returns-clause-many
returns-clause-many c = rw (ended_none (nodes_of c.args.tree.now)) at (c.call.ensures.does 6 (none_allowed 6 (omega arith)))
