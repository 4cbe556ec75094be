use Rattle.js_names.specs.Patterns.{nodes_of}
use Rattle.js_machine.proofs.Receiving.{received_any}
use Rattle.js_machine.proofs.state.State.receive.Goals as goal

pub returns-clause-receives : goal.returns-clause-receives
returns-clause-receives c =
    received_any (nodes_of c.args.tree.now) c.args.fresh c.args.delivery c.args.self.now c.refill.new.self c.load.new.self c.load.result c.requires (c.refill.ensures c.args.delivery) c.load.ensures.does

pub returns-clause-closed : goal.returns-clause-closed
returns-clause-closed c nodes closed = (rw (c.refill.ensures c.args.delivery) at (c.load.ensures.closed nodes)) closed
