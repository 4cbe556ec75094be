use Rattle.js_iterate.proofs.Walks.{found_makes}
use Rattle.std.proofs.lemmas.Result.{err_from_is_err_and}
use Rattle.js_iterate.proofs.Lasting.{walked_fits}
use Rattle.js_iterate.proofs.walking.walk_loc.Goals as goal

pub returns-clause-does : goal.returns-clause-does
returns-clause-does c nodes = found_makes nodes c.args.loc c.in_ok-found.found c.args.state.now c.walk_found.new.state c.walk_found.result c.in_ok-found.ensures (c.walk_found.ensures.does nodes)

pub returns-in_err-found-clause-closed : goal.returns-in_err-found-clause-closed
returns-in_err-found-clause-closed c nodes closed stands =
    let p = err_from_is_err_and c.from_residual.result c.from_residual.ensures.1 in rw (p.1, p.2) (c.in_err-found.ensures)

pub returns-clause-closed : goal.returns-clause-closed
returns-clause-closed c nodes closed stands =
    c.walk_found.ensures.closed nodes closed (walked_fits c.args.state.now.heap.cells closed.well c.args.loc c.in_ok-found.found c.in_ok-found.ensures) stands
