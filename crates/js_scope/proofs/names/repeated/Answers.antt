use Rattle.std.proofs.Common.{◌∙◌, ap, sym, ◌++◌, nat_eq, arith}
use Rattle.std.specs.List.{list_any}
use Rattle.js_scope.specs.Names.{repeated_in}
use Rattle.js_scope.proofs.Found.{taken_turn, taken_last}
use Rattle.js_scope.proofs.Trees.{stands_in}
use Rattle.js_scope.proofs.names.repeated.Goals as goal

pub push_repeats-requires-clause-stands : goal.push_repeats-requires-clause-stands
push_repeats-requires-clause-stands c = stands_in c.args.tree.now c.requires c.nodes.id c.node.result.now c.node.ensures.value

pub nodes-preserved : goal.nodes-preserved
nodes-preserved c =
    let nodes = c.args.tree.now in
    c.in_ok-push_repeats.ensures ∙ (ap (λ xs. xs ++ repeated_in nodes c.node.result.now) c.nodes.invariant ∙ sym (taken_turn nodes c.nodes.id c.node.result.now (repeated_in nodes) c.node.ensures.value))

pub returns : goal.returns
returns c = λ id. c.in_ok-set.ensures id ∙ ap (list_any (nat_eq id)) (c.as_slice.ensures.value ∙ taken_last c.args.tree.now c.nodes.id (omega arith) c.nodes.again.items c.nodes.invariant)
