use Rattle.js_step_stmt.proofs.Ending.{does_rest}
use Rattle.js_semantics.specs.declared.mode.Mode.TheVariants.{Idle}
use Rattle.js_step_stmt.proofs.script.rested.Goals as goal

pub returns-clause-does : goal.returns-clause-does
returns-clause-does c nodes = does_rest nodes Idle c.args.state.now _ c.turn_to.ensures
