use Rattle.std.proofs.Common.{◌≡◌, ◌<◌, ℕ, length, ap, subst, arith, length-append, sym}
use Rattle.js_tree.specs.Nodes.{Nodes, StandsBelow}
use Rattle.js_tree.proofs.Ordered.{IsTree-push, length-pushed}
use Rattle.js_tree.proofs.tree.Tree.add.Goals as goal

pub invariant_of-self-2 : goal.invariant_of-self-2
invariant_of-self-2 c =
    let view = c.self.view_is in
    rw c.in_ok-push.ensures.items (
      omega (arith, length-pushed c.self.inside.nodes.items (c.args.node, c.args.place), ap length view, c.requires.few),
      IsTree-push c.self.inside.nodes.items c.args.node c.args.place c.self.invariant.1
          (subst (λ (nodes : Nodes). StandsBelow (length nodes) c.args.node) (sym view) c.requires.children),
    )
