use Rattle.js_names.specs.Patterns.{nodes_of}
use Rattle.js_tree.specs.declared.node.BinaryOperator.TheVariants.{Add}
use Rattle.js_semantics.specs.Expressions.{apply}
use Rattle.js_primary.proofs.Summing.{sum_comes, sum_fits, sum_taken}
use Rattle.js_primary.proofs.taking.take_sum.Goals as goal

pub returns-in-Some-clause-does : goal.returns-in-Some-clause-does
returns-in-Some-clause-does c =
    let nodes = nodes_of c.args.tree.now in
    let old = c.args.state.now in
    let mid = c.operands.new.state in
    sum_taken nodes (λ k. apply Add c.in-Some.first c.in-Some.second k) c.args.node c.args.scope.now old mid c.settle_sum.new.state c.settle_sum.result
    (λ k. sum_comes nodes c.args.node c.args.scope.now c.args.left c.args.right c.in-Some.first c.in-Some.second old mid k c.requires c.if-state-eq0.false (rw c.in-Some.is at c.in_ok-first.ensures.does))
    c.settle_sum.ensures.taken (c.settle_sum.ensures.does nodes)

pub returns-in-Some-clause-closed : goal.returns-in-Some-clause-closed
returns-in-Some-clause-closed c closed scope =
    let nodes = nodes_of c.args.tree.now in
    sum_fits nodes c.in-Some.first c.in-Some.second c.args.state.now c.operands.new.state c.settle_sum.new.state c.settle_sum.result
    (rw c.in-Some.is at c.in_ok-first.ensures.does).1 closed (rw c.in-Some.is at (c.in_ok-first.ensures.closed closed scope)) (c.settle_sum.ensures.closed nodes)
