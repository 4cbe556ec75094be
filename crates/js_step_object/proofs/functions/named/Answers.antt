use Rattle.std.proofs.Common.{Some, [], ◌∷◌, true}
use Rattle.world_heap.specs.declared.value.Value.TheVariants.{Ref}
use Rattle.js_semantics.specs.Environments.{bind_in, env_cell, unready}
use Rattle.js_semantics.specs.Objects.{make_function}
use Rattle.js_semantics.specs.Prog.{alloc, change, give}
use Rattle.js_step_object.proofs.Going.{then_ok, then_err}
use Rattle.std.proofs.lemmas.Result.{err_from_is_err_and}
use Rattle.js_machine.proofs.Closing.{lasts_on}
use Rattle.js_step_object.proofs.functions.named.Goals as goal

pub returns-in-Ok-clause-does : goal.returns-in-Ok-clause-does
returns-in-Ok-clause-does c nodes =
    then_ok nodes (λ k. alloc (env_cell (Some c.args.env) (unready true c.args.name.now ∷ [])) k) (λ around. make_function c.args.node around (λ loc. change (bind_in around c.args.name.now (Ref loc)) (give (Ref loc)))) c.args.state.now c.name_environment.new.state c.named_in.new.state _ c.in-Ok.around c.named_in.result (c.in_ok-around.ensures.does nodes) c.in-Ok.is (c.named_in.ensures.does nodes)

pub returns-in-Err-clause-does : goal.returns-in-Err-clause-does
returns-in-Err-clause-does c nodes =
    then_err nodes (λ k. alloc (env_cell (Some c.args.env) (unready true c.args.name.now ∷ [])) k) (λ around. make_function c.args.node around (λ loc. change (bind_in around c.args.name.now (Ref loc)) (give (Ref loc)))) c.args.state.now c.name_environment.new.state _ c.in-Err.next (c.in_ok-around.ensures.does nodes) c.in-Err.is

pub returns-in_err-around-clause-closed : goal.returns-in_err-around-clause-closed
returns-in_err-around-clause-closed c nodes closed env =
    let p = err_from_is_err_and c.from_residual.result c.from_residual.ensures.1 in rw (p.1, p.2) (c.in_err-around.ensures.closed nodes closed env)

pub returns-in-Ok-clause-closed : goal.returns-in-Ok-clause-closed
returns-in-Ok-clause-closed c nodes closed env =
    let went = c.in_ok-around.ensures.closed nodes closed env in
    lasts_on nodes c.args.state.now c.name_environment.new.state c.named_in.new.state c.named_in.result went (c.named_in.ensures.closed nodes went.closed (rw c.in-Ok.is at (c.in_ok-around.ensures.fits nodes closed)))

pub returns-in-Err-clause-closed : goal.returns-in-Err-clause-closed
returns-in-Err-clause-closed c nodes closed env =
    c.in_ok-around.ensures.closed nodes closed env
