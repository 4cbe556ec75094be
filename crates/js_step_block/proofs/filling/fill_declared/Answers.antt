use Rattle.std.proofs.Common.{refl}
use Rattle.js_step_block.proofs.Made.{made_then, made_ended}
use Rattle.js_machine.proofs.Changing.{moves_change, bind_keys}
use Rattle.js_machine.proofs.Doing.{moves_on}
use Rattle.js_semantics.specs.Objects.{make_function}
use Rattle.js_semantics.specs.Prog.{change}
use Rattle.js_semantics.specs.Environments.{bind_in}
use Rattle.world_heap.specs.declared.value.Value.TheVariants.{Ref}
use Rattle.std.proofs.lemmas.Result.{err_from_is_err_and}
use Rattle.js_machine.proofs.Closing.{closed_grown, goes_on}
use Rattle.js_step_block.proofs.filling.fill_declared.Goals as goal

pub returns-in_ok-bind_in-in-Ok-clause-does : goal.returns-in_ok-bind_in-in-Ok-clause-does
returns-in_ok-bind_in-in-Ok-clause-does c nodes p = moves_on nodes _ _ _ _ _ _ (made_then nodes (λ k. make_function c.args.item c.args.env k) _ _ _ c.in-Ok.function (λ loc. change (bind_in c.args.env c.args.name.now (Ref loc)) p) c.in-Ok.is (c.in_ok-function.ensures.does nodes)) (moves_change nodes (bind_in c.args.env c.args.name.now (Ref c.in-Ok.function)) p _ _ _ refl c.in_ok-bind_in-in-Ok.ensures.rest c.in_ok-bind_in-in-Ok.ensures.is (λ w. bind_keys c.args.env c.args.name.now (Ref c.in-Ok.function) w))

pub returns-in-Err-clause-does : goal.returns-in-Err-clause-does
returns-in-Err-clause-does c nodes p = made_ended nodes (λ k. make_function c.args.item c.args.env k) _ _ _ c.in-Err.next (λ loc. change (bind_in c.args.env c.args.name.now (Ref loc)) p) c.in-Err.is (c.in_ok-function.ensures.does nodes)

pub returns-in_err-function-clause-closed : goal.returns-in_err-function-clause-closed
returns-in_err-function-clause-closed c nodes closed env =
    let p = err_from_is_err_and c.from_residual.result c.from_residual.ensures.1 in rw (p.1, p.2) (c.in_err-function.ensures.closed nodes closed env)

pub returns-in_err-bind_in-in-Ok-clause-closed : goal.returns-in_err-bind_in-in-Ok-clause-closed
returns-in_err-bind_in-in-Ok-clause-closed c nodes closed env =
    let plain = rw c.in-Ok.is at (c.in_ok-function.ensures.fits nodes closed env) in
    let p = err_from_is_err_and c.from_residual-in_err-bind_in-in-Ok.result c.from_residual-in_err-bind_in-in-Ok.ensures.1 in rw (p.1, p.2) (c.in_err-bind_in-in-Ok.ensures.closed plain)

pub returns-in_ok-bind_in-in-Ok-clause-closed : goal.returns-in_ok-bind_in-in-Ok-clause-closed
returns-in_ok-bind_in-in-Ok-clause-closed c nodes closed env =
    let mid = c.make_function.new.state in
    let went = c.in_ok-function.ensures.closed nodes closed env in
    let plain = rw c.in-Ok.is at (c.in_ok-function.ensures.fits nodes closed env) in
    goes_on nodes c.args.state.now mid (record mid { heap = c.bind_in.new.heap }) went
    (closed_grown nodes mid (record mid { heap = c.bind_in.new.heap }) went.closed (c.in_ok-bind_in-in-Ok.ensures.closed plain) refl refl refl)

pub returns-in-Err-clause-closed : goal.returns-in-Err-clause-closed
returns-in-Err-clause-closed c nodes closed env = c.in_ok-function.ensures.closed nodes closed env
