use Rattle.js_names.specs.Patterns.{nodes_of}
use Rattle.js_calls.proofs.Called.{ended_some, light_allowed, some_allowed}
use Rattle.js_calls.proofs.calling.call_over.Goals as goal

pub returns-clause-some : goal.returns-clause-some
returns-clause-some c light = rw (ended_some (nodes_of c.args.tree.now) c.args.frame) at (c.call.ensures.does 4 (light_allowed c.args.frame light))

pub returns-clause-many : goal.returns-clause-many
returns-clause-many c = rw (ended_some (nodes_of c.args.tree.now) c.args.frame) at (c.call.ensures.does 6 (some_allowed c.args.frame))
