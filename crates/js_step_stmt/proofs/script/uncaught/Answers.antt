use Rattle.std.proofs.Common.{sym, ap}
use Rattle.js_machine.proofs.Doing.{does_read_ok}
use Rattle.js_semantics.specs.declared.mode.Mode.TheVariants.{Idle}
use Rattle.world_log.specs.declared.entry.Product.TheVariants.{Uncaught}
use Rattle.js_semantics.specs.Prog.{count_units, Make}
use Rattle.js_semantics.specs.Run.{at_rest}
use Rattle.js_machine.specs.Does.{world_of}
use Rattle.std.specs.Prelude.{length}
use Rattle.js_step_stmt.proofs.script.uncaught.Goals as goal

pub returns-clause-does : goal.returns-clause-does
returns-clause-does c nodes = does_read_ok nodes 2 _ _ _ _ _ (λ supply. ap (λ t. count_units (length t) (Make (Uncaught t) (at_rest Idle))) (sym (c.in_ok-text.ensures (world_of nodes supply c.args.state.now)))) (c.counted.ensures.does nodes)

pub returns-clause-closed : goal.returns-clause-closed
returns-clause-closed c nodes closed value = c.counted.ensures.closed nodes closed
