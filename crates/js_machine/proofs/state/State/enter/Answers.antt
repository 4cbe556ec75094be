use Rattle.std.proofs.Common.{refl, arith}
use Rattle.js_semantics.specs.Prog.{Node as NodeRequest}
use Rattle.js_machine.proofs.state.State.enter.Goals as goal

pub returns-clause-few : goal.returns-clause-few
returns-clause-few c nodes = c.go.ensures.does nodes 2 (NodeRequest c.args.node c.args.scope) (omega arith) (record { row_is = λ k. refl; costs = refl })

pub returns-clause-some : goal.returns-clause-some
returns-clause-some c nodes = c.go.ensures.does nodes 4 (NodeRequest c.args.node c.args.scope) (omega arith) (record { row_is = λ k. refl; costs = refl })

pub returns-clause-many : goal.returns-clause-many
returns-clause-many c nodes = c.go.ensures.does nodes 6 (NodeRequest c.args.node c.args.scope) (omega arith) (record { row_is = λ k. refl; costs = refl })
