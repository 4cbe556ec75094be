use Rattle.js_names.specs.Patterns.{nodes_of}
use Rattle.js_machine.proofs.Closing.{stays_closed}
use Rattle.js_calls.proofs.in_place.bind_pattern.Goals as goal

pub returns-in-Some-clause-does : goal.returns-in-Some-clause-does
returns-in-Some-clause-does c p = c.bind_name.ensures.does (nodes_of c.args.tree.now) c.args.pattern p c.in-Some.ensures

pub returns-in-Some-clause-closed : goal.returns-in-Some-clause-closed
returns-in-Some-clause-closed c closed value = c.bind_name.ensures.closed (nodes_of c.args.tree.now) closed value

pub returns-in-None-clause-closed : goal.returns-in-None-clause-closed
returns-in-None-clause-closed c closed value = stays_closed (nodes_of c.args.tree.now) c.args.state.now closed
