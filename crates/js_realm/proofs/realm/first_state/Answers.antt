use Rattle.js_machine.proofs.Closing.{closed_fresh}
use Rattle.js_realm.proofs.realm.first_state.Goals as goal

pub returns-clause-closed : goal.returns-clause-closed
returns-clause-closed c nodes = closed_fresh nodes c.args.kind c.in_ok-heap.heap c.new.result c.new.ensures.fresh c.in_ok-heap.ensures.well c.in_ok-heap.ensures.stands
