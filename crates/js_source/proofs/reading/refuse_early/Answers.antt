use Rattle.std.proofs.Common.{Err, subst}
use Rattle.js_scope.specs.Faults.{faults, Checked}
use Rattle.js_source.proofs.Early.{first_within}
use Rattle.js_source.proofs.reading.refuse_early.Goals as goal

pub place-requires : goal.place-requires
place-requires c =
    let nodes = c.args.tree.now in
    let first = subst (λ fault. Checked (Err fault) (faults nodes)) c.in-Err-At.field-0-is c.in-Err-At.ensures in
    first_within nodes (c.in-Err-At.node.0, c.in-Err-At.kind) first
