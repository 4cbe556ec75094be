use Rattle.js_step_stmt.proofs.Ending.{does_tell}
use Rattle.js_semantics.specs.declared.mode.Mode.TheVariants.{Idle}
use Rattle.world_log.specs.declared.entry.Product.TheVariants.{Uncaught}
use Rattle.js_step_stmt.proofs.script.told.Goals as goal

pub returns-clause-does : goal.returns-clause-does
returns-clause-does c nodes = does_tell nodes Idle (Uncaught c.args.text) c.args.state.now _ c.turn_to.ensures
