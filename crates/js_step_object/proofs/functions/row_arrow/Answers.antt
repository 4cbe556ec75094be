use Rattle.std.proofs.Common.{Some}
use Rattle.world_heap.specs.declared.value.Value.TheVariants.{Ref}
use Rattle.js_semantics.specs.Objects.{make_closure, row_arrow}
use Rattle.js_semantics.specs.Prog.{give}
use Rattle.js_step_object.proofs.Going.{then_ok, then_err}
use Rattle.std.proofs.lemmas.Result.{err_from_is_err_and}
use Rattle.js_machine.proofs.Closing.{lasts_on}
use Rattle.js_step_object.proofs.functions.row_arrow.Goals as goal

pub returns-in-Ok-clause-does : goal.returns-in-Ok-clause-does
unfolding row_arrow
returns-in-Ok-clause-does c nodes =
    then_ok nodes (λ k. make_closure c.args.node c.args.scope.env (Some c.args.scope.receiver) k) (λ loc. give (Ref loc)) c.args.state.now c.closure_of.new.state c.give.new.self _ c.in-Ok.loc c.give.result (c.in_ok-loc.ensures.does nodes) c.in-Ok.is (c.give.ensures.many nodes)

pub returns-in-Err-clause-does : goal.returns-in-Err-clause-does
unfolding row_arrow
returns-in-Err-clause-does c nodes =
    then_err nodes (λ k. make_closure c.args.node c.args.scope.env (Some c.args.scope.receiver) k) (λ loc. give (Ref loc)) c.args.state.now c.closure_of.new.state _ c.in-Err.next (c.in_ok-loc.ensures.does nodes) c.in-Err.is

pub returns-in_err-loc-clause-closed : goal.returns-in_err-loc-clause-closed
returns-in_err-loc-clause-closed c nodes closed scope =
    let p = err_from_is_err_and c.from_residual.result c.from_residual.ensures.1 in rw (p.1, p.2) (c.in_err-loc.ensures.closed nodes closed scope.0 scope.1)

pub returns-in-Ok-clause-closed : goal.returns-in-Ok-clause-closed
returns-in-Ok-clause-closed c nodes closed scope =
    let went = c.in_ok-loc.ensures.closed nodes closed scope.0 scope.1 in
    lasts_on nodes c.args.state.now c.closure_of.new.state c.give.new.self c.give.result went (c.give.ensures.closed nodes went.closed (rw c.in-Ok.is at (c.in_ok-loc.ensures.fits nodes closed)))

pub returns-in-Err-clause-closed : goal.returns-in-Err-clause-closed
returns-in-Err-clause-closed c nodes closed scope =
    c.in_ok-loc.ensures.closed nodes closed scope.0 scope.1
