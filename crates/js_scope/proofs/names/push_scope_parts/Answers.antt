use Rattle.std.proofs.Common.{length, sym}
use Rattle.js_scope.proofs.Trees.{body_below, function_below, below_from_stands}
use Rattle.js_scope.proofs.names.push_scope_parts.Goals as goal

pub push_function_parts-requires : goal.push_function_parts-requires
push_function_parts-requires c =
    let n = length c.args.tree.now in
    let f = c.in-Some.function.now in
    body_below n f (function_below n c.args.node.now f (sym c.in-Some.ensures) (below_from_stands n c.args.node.now c.requires))
