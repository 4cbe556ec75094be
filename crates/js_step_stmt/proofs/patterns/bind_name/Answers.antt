use Rattle.std.proofs.Common.{refl}
use Rattle.js_machine.proofs.Changing.{does_change_ok, fill_keys}
use Rattle.js_machine.proofs.Closing.{closed_grown, lasts_on}
use Rattle.js_step_stmt.proofs.patterns.bind_name.Goals as goal

pub returns-clause-does : goal.returns-clause-does
returns-clause-does c nodes = does_change_ok nodes 6 _ _ _ _ _ _ _ refl c.in_ok-fill_name.ensures.rest c.in_ok-fill_name.ensures.is (λ w. fill_keys c.args.scope.env c.args.name.now c.args.value w) (c.done.ensures.does nodes)

pub returns-clause-closed : goal.returns-clause-closed
returns-clause-closed c nodes closed value scope =
    let mid = record c.args.state.now { heap = c.fill_name.new.heap } in
    let went = closed_grown nodes c.args.state.now mid closed (c.in_ok-fill_name.ensures.closed value) refl refl refl in
    lasts_on nodes c.args.state.now mid c.done.new.state c.done.result went (c.done.ensures.closed nodes went.closed)
