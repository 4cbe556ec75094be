use Rattle.std.proofs.Common.{◌≡◌, ◌<◌, ◌≤◌, ◌+◌, ◌^◌, length, arith}
use Rattle.js_tree.specs.Nodes.{node_at, StandsBelow, IsTree}
use Rattle.js_tree.proofs.Below.{refused, one_more, all_stand}
use Rattle.js_tree.proofs.tree.Tree.from_nodes.Goals as goal

pub returns-then-not-children_below : goal.returns-then-not-children_below
returns-then-not-children_below c ordered = absurd (refused c.args.nodes.items c.nodes.at c.index.result.now (omega arith) c.index.ensures
    (let k = c.children_below.ensures in let m = c.if-not-children_below.true in cc) ordered)

pub nodes-preserved : goal.nodes-preserved
nodes-preserved c = one_more c.args.nodes.items c.nodes.at c.index.result.now (omega arith) c.index.ensures
    (let k = c.children_below.ensures in let m = c.if-not-children_below.false in cc) c.nodes.invariant

pub invariant_of-result : goal.invariant_of-result
invariant_of-result c = (omega arith, all_stand c.args.nodes.items c.nodes.at (omega arith) c.nodes.invariant)
