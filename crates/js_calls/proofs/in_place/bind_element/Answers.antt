use Rattle.js_names.specs.Patterns.{nodes_of}
use Rattle.js_machine.proofs.Closing.{stays_closed}
use Rattle.js_calls.proofs.Placing.{not_defaulted_ok}
use Rattle.js_calls.proofs.in_place.bind_element.Goals as goal

pub returns-in-None-clause-does : goal.returns-in-None-clause-does
returns-in-None-clause-does c p = not_defaulted_ok (nodes_of c.args.tree.now) c.args.element c.args.value c.args.scope.now p c.args.state.now c.bind_pattern.new.state c.bind_pattern.result c.in-None.ensures (c.bind_pattern.ensures.does p)

pub returns-in-Some-clause-closed : goal.returns-in-Some-clause-closed
returns-in-Some-clause-closed c closed value = stays_closed (nodes_of c.args.tree.now) c.args.state.now closed

pub returns-in-None-clause-closed : goal.returns-in-None-clause-closed
returns-in-None-clause-closed c closed value = c.bind_pattern.ensures.closed closed value
