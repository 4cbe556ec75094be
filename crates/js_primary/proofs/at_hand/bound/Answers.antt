use Rattle.std.proofs.Common.{ap, ◌∙◌}
use Rattle.std.proofs.lemmas.Result.{err_from_is_err_and}
use Rattle.js_semantics.specs.Access.{global_holder}
use Rattle.js_semantics.specs.Environments.{binding_of}
use Rattle.js_machine.specs.Does.{world_of}
use Rattle.js_primary.specs.AtHand.{held}
use Rattle.js_primary.proofs.Evaluating.{held_fits, held_is}
use Rattle.js_primary.proofs.at_hand.bound.Goals as goal

pub returns-clause-is : goal.returns-clause-is
returns-clause-is c nodes supply =
    let w = world_of nodes supply c.args.state.now in
    let name = c.args.name.now in
    c.held.ensures ∙ ap held (c.in_ok-meant.ensures.is nodes supply) ∙ held_is (binding_of c.args.env name w) (global_holder name w)

pub returns-in_err-meant-clause-closed : goal.returns-in_err-meant-clause-closed
returns-in_err-meant-clause-closed c nodes closed =
    let p = err_from_is_err_and c.from_residual.result c.from_residual.ensures.1 in rw (p.1, p.2) (c.in_err-meant.ensures.closed nodes closed)

pub returns-clause-closed : goal.returns-clause-closed
returns-clause-closed c nodes closed = rw c.held.ensures (held_fits c.args.state.now.heap.cells c.in_ok-meant.meant (c.in_ok-meant.ensures.closed nodes closed))
