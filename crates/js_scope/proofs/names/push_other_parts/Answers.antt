use Rattle.std.proofs.Common.{length}
use Rattle.js_scope.proofs.Trees.{handler_below}
use Rattle.js_scope.proofs.names.push_other_parts.Goals as goal

pub push_catch_parts-requires : goal.push_catch_parts-requires
push_catch_parts-requires c =
    let t = c.in-Try in
    handler_below (length c.args.tree.now) c.args.node.now t.block t.bind t.handler t.last t.is c.requires
