use Rattle.std.proofs.Common.{sym}
use Rattle.std.proofs.lemmas.Result.{err_from_is_err_and}
use Rattle.js_names.specs.Patterns.{nodes_of}
use Rattle.js_primary.proofs.Composing.{binary_works, both_work, dot_works, index_works, leaf_works, node_works}
use Rattle.js_primary.proofs.composed.+composed.Goals as goal

pub binary-returns-in-Some-2-clause-does : goal.binary-returns-in-Some-2-clause-does
binary-returns-in-Some-2-clause-does t c =
    let nodes = nodes_of c.args.tree.now in
    binary_works nodes c.args.operator c.args.left c.args.right c.args.scope.now c.in-Some.first c.in-Some.second c.in-Some-2.value c.args.state.now c.operands.new.state
    (rw c.in-Some.is at c.in_ok-first.ensures.does) (rw c.in-Some-2.is at (c.in_ok-value-in-Some.ensures.is nodes))

pub composed-returns-in-Some-clause-does : goal.composed-returns-in-Some-clause-does
composed-returns-in-Some-clause-does t c =
    node_works (nodes_of c.args.tree.now) c.args.node c.args.scope.now c.args.here.now c.in-Some.value c.args.state.now c.row.new.state c.requires c.if-state-eq0.false (rw c.in-Some.is at c.in_ok-value.ensures.does)

pub dot-returns-in-Some-2-clause-does : goal.dot-returns-in-Some-2-clause-does
dot-returns-in-Some-2-clause-does t c =
    let nodes = nodes_of c.args.tree.now in
    dot_works nodes c.args.object c.args.name.now c.args.scope.now c.in-Some.base c.in-Some-2.value c.args.state.now c.operand.new.state
    (rw c.in-Some.is at c.in_ok-base.ensures.does) (rw c.in-Some-2.is at (c.in_ok-value-in-Some.ensures.is nodes))

pub index-returns-in-Some-2-clause-does : goal.index-returns-in-Some-2-clause-does
index-returns-in-Some-2-clause-does t c =
    let nodes = nodes_of c.args.tree.now in
    index_works nodes c.args.object c.args.key c.args.scope.now c.in-Some.base c.in-Some.at c.in-Some-2.value c.args.state.now c.operands.new.state
    (rw c.in-Some.is at c.in_ok-base.ensures.does) (rw c.in-Some-2.is at (c.in_ok-value-in-Some.ensures.is nodes))

pub operand-returns-in_err-value-in-Some-clause-closed : goal.operand-returns-in_err-value-in-Some-clause-closed
operand-returns-in_err-value-in-Some-clause-closed t c closed scope =
    let p = err_from_is_err_and c.from_residual.result c.from_residual.ensures.1 in rw (p.1, p.2) (c.in_err-value-in-Some.ensures.closed (nodes_of c.args.tree.now) closed scope)

pub operand-returns-then-take_step-clause-does : goal.operand-returns-then-take_step-clause-does
operand-returns-then-take_step-clause-does t c =
    let nodes = nodes_of c.args.tree.now in
    leaf_works nodes c.args.node c.args.scope.now c.in-Some-2.value c.args.state.now c.take_step.new.state
    (λ supply. rw c.in-Some.ensures (sym (rw c.in-Some-2.is at (c.in_ok-value-in-Some.ensures.is nodes supply)))) (rw c.if-take_step.true at c.take_step.ensures)

pub operand-returns-then-take_step-clause-closed : goal.operand-returns-then-take_step-clause-closed
operand-returns-then-take_step-clause-closed t c closed scope = rw c.in-Some-2.is at (c.in_ok-value-in-Some.ensures.closed (nodes_of c.args.tree.now) closed scope)

pub operands-returns-in-Some-2-clause-does : goal.operands-returns-in-Some-2-clause-does
operands-returns-in-Some-2-clause-does t c =
    both_work (nodes_of c.args.tree.now) c.args.left c.args.right c.args.scope.now c.in-Some.first c.in-Some-2.second c.args.state.now c.operand.new.state c.operand-in-Some.new.state
    (rw c.in-Some.is at c.in_ok-first.ensures.does) (rw c.in-Some-2.is at c.in_ok-second-in-Some.ensures.does)
