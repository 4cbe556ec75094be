use Rattle.js_names.specs.Patterns.{nodes_of}
use Rattle.js_machine.specs.Frames.{after_rest}
use Rattle.js_calls.proofs.Reading.{value_ok}
use Rattle.js_calls.proofs.property.take_up.Goals as goal

pub returns-in-Value-clause-does : goal.returns-in-Value-clause-does
returns-in-Value-clause-does c is =
    rw c.in-Value.is (value_ok (nodes_of c.args.tree.now) 6 c.args.state.now.heap.cells c.args.of c.in-Value.value c.args.key.now (λ v. after_rest (nodes_of c.args.tree.now) c.args.frame v) c.makes_unit-made.result c.args.state.now c.give_made.new.state c.give_made.result c.makes_unit-made.ensures (rw c.in-Value.is at is) (c.give_made.ensures.does (nodes_of c.args.tree.now)))

pub returns-in-Absent-clause-closed : goal.returns-in-Absent-clause-closed
returns-in-Absent-clause-closed c closed got of frame = c.hand.ensures.closed (nodes_of c.args.tree.now) closed frame tt

pub returns-in-Refused-clause-closed : goal.returns-in-Refused-clause-closed
returns-in-Refused-clause-closed c closed got of frame = c.throw.ensures.closed (nodes_of c.args.tree.now) closed

pub returns-in-Value-clause-closed : goal.returns-in-Value-clause-closed
returns-in-Value-clause-closed c closed got of frame = c.give_made.ensures.closed (nodes_of c.args.tree.now) closed (rw c.in-Value.is at got) frame
