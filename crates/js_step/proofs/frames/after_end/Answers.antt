use Rattle.std.proofs.Common.{◌+◌}
use Rattle.js_names.specs.Patterns.{nodes_of}
use Rattle.js_machine.specs.declared.frame.Frame.TheVariants.{After}
use Rattle.js_machine.specs.Does.{weight}
use Rattle.js_machine.specs.Frames.{after_rest}
use Rattle.js_step.proofs.Passing.{after_enough, passed_ok}
use Rattle.js_step.proofs.frames.after_end.Goals as goal

pub returns-in-Normal-clause-closed : goal.returns-in-Normal-clause-closed
returns-in-Normal-clause-closed c closed frame outcome = c.after_frame.ensures.closed closed frame (rw c.in-Normal.is at outcome)

pub returns-in_default : goal.returns-in_default
returns-in_default c =
    let nodes = nodes_of c.args.tree.now in
    record {
      does = passed_ok nodes (weight (After c.args.frame) + 1) (λ v. after_rest nodes c.args.frame v) c.args.outcome _ _ _ c.in_default.not-Normal (after_enough c.args.frame) (c.give.ensures.few nodes);
      closed = λ closed frame outcome. c.give.ensures.closed nodes closed outcome;
    }
