use Rattle.std.proofs.Common.{arith}
use Rattle.js_names.specs.Patterns.{nodes_of}
use Rattle.js_machine.specs.Frames.{value_rest}
use Rattle.js_step.proofs.Passing.{passed_ok}
use Rattle.js_step.proofs.frames.value_end.Goals as goal

pub returns-in-Normal-clause-closed : goal.returns-in-Normal-clause-closed
returns-in-Normal-clause-closed c closed frame outcome = c.value_frame.ensures.closed closed frame (rw c.in-Normal.is at outcome)

pub returns-in_default : goal.returns-in_default
returns-in_default c =
    let nodes = nodes_of c.args.tree.now in
    record {
      does = passed_ok nodes 6 (λ v. value_rest nodes c.args.frame v) c.args.outcome _ _ _ c.in_default.not-Normal (omega arith) (c.give.ensures.few nodes);
      closed = λ closed frame outcome. c.give.ensures.closed nodes closed outcome;
    }
