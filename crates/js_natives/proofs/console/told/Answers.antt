use Rattle.std.proofs.Common.{arith}
use Rattle.world_heap.specs.declared.value.Value.TheVariants.{Undefined}
use Rattle.world_log.specs.declared.entry.Product.TheVariants.{Console}
use Rattle.js_semantics.specs.declared.outcome.Outcome.TheVariants.{Normal}
use Rattle.js_natives.proofs.Making.{does_tell}
use Rattle.js_machine.specs.declared.state.Control.TheVariants as controls
use Rattle.js_machine.proofs.Closing.{closed_control}
use Rattle.js_natives.proofs.console.told.Goals as goal

pub returns-clause-does : goal.returns-clause-does
returns-clause-does c nodes = does_tell nodes 6 (Normal Undefined) (Console c.args.level c.args.text) c.args.state.now _ (omega arith) c.turn_to.ensures

pub returns-clause-closed : goal.returns-clause-closed
returns-clause-closed c nodes closed = rw c.turn_to.ensures (closed_control nodes c.args.state.now (controls.Give (Normal Undefined)) closed tt)
