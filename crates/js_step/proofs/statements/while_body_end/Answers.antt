use Rattle.js_names.specs.Patterns.{nodes_of}
use Rattle.js_step.proofs.statements.while_body_end.Goals as goal

pub returns-in_default : goal.returns-in_default
returns-in_default c =
    let nodes = nodes_of c.args.tree.now in
    record {
      does = c.while_body_end.ensures.does nodes;
      closed = λ closed scope outcome. c.while_body_end.ensures.closed nodes closed scope outcome;
    }
