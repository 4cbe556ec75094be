use Rattle.js_names.specs.Patterns.{nodes_of}
use Rattle.js_semantics.specs.Prog.{give}
use Rattle.js_machine.proofs.Doing.{does_move_ok}
use Rattle.js_step_expr.proofs.Applied.{moves_instance}
use Rattle.js_step_access.proofs.binary.both_operands.Goals as goal

pub returns-in-InstanceOf-clause-does : goal.returns-in-InstanceOf-clause-does
returns-in-InstanceOf-clause-does c =
    let nodes = nodes_of c.args.tree.now in
    rw c.in-InstanceOf.is (does_move_ok nodes 6 _ _ c.args.state.now c.args.state.now _ _ (moves_instance nodes c.args.left c.args.right (λ v. give v) c.args.state.now) c.instance_of.ensures.does)

pub returns-in-InstanceOf-clause-closed : goal.returns-in-InstanceOf-clause-closed
returns-in-InstanceOf-clause-closed c closed left right = c.instance_of.ensures.closed closed left right tt

pub returns-in_default-clause-closed : goal.returns-in_default-clause-closed
returns-in_default-clause-closed c closed left right = c.binary_right.ensures.closed (nodes_of c.args.tree.now) closed left right
