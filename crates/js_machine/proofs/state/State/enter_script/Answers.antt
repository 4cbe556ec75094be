use Rattle.std.proofs.Common.{refl, arith}
use Rattle.js_semantics.specs.Prog.{Script}
use Rattle.js_machine.proofs.state.State.enter_script.Goals as goal

pub returns-clause-does : goal.returns-clause-does
returns-clause-does c nodes = c.go.ensures.does nodes 2 (Script c.args.root) (omega arith) (record { row_is = λ k. refl; costs = refl })

pub returns-clause-closed : goal.returns-clause-closed
returns-clause-closed c nodes closed = c.go.ensures.closed nodes closed tt tt
