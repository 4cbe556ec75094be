use Rattle.world_heap.specs.declared.value.Value.TheVariants.{Ref}
use Rattle.js_semantics.specs.Environments.{bind_in}
use Rattle.js_semantics.specs.Objects.{make_function}
use Rattle.js_semantics.specs.Prog.{change, give}
use Rattle.js_step_object.proofs.Going.{then_ok, then_err}
use Rattle.std.proofs.lemmas.Result.{err_from_is_err_and}
use Rattle.js_machine.proofs.Closing.{lasts_on}
use Rattle.js_step_object.proofs.functions.named_in.Goals as goal

pub returns-in-Ok-clause-does : goal.returns-in-Ok-clause-does
returns-in-Ok-clause-does c nodes =
    then_ok nodes (λ k. make_function c.args.node c.args.env k) (λ loc. change (bind_in c.args.env c.args.name.now (Ref loc)) (give (Ref loc))) c.args.state.now c.make_function.new.state c.give_named.new.state _ c.in-Ok.function c.give_named.result (c.in_ok-function.ensures.does nodes) c.in-Ok.is (c.give_named.ensures.does nodes)

pub returns-in-Err-clause-does : goal.returns-in-Err-clause-does
returns-in-Err-clause-does c nodes =
    then_err nodes (λ k. make_function c.args.node c.args.env k) (λ loc. change (bind_in c.args.env c.args.name.now (Ref loc)) (give (Ref loc))) c.args.state.now c.make_function.new.state _ c.in-Err.next (c.in_ok-function.ensures.does nodes) c.in-Err.is

pub returns-in_err-function-clause-closed : goal.returns-in_err-function-clause-closed
returns-in_err-function-clause-closed c nodes closed env =
    let p = err_from_is_err_and c.from_residual.result c.from_residual.ensures.1 in rw (p.1, p.2) (c.in_err-function.ensures.closed nodes closed env)

pub returns-in-Ok-clause-closed : goal.returns-in-Ok-clause-closed
returns-in-Ok-clause-closed c nodes closed env =
    let went = c.in_ok-function.ensures.closed nodes closed env in
    lasts_on nodes c.args.state.now c.make_function.new.state c.give_named.new.state c.give_named.result went (c.give_named.ensures.closed nodes went.closed (rw c.in-Ok.is at (c.in_ok-function.ensures.fits nodes closed env)))

pub returns-in-Err-clause-closed : goal.returns-in-Err-clause-closed
returns-in-Err-clause-closed c nodes closed env =
    c.in_ok-function.ensures.closed nodes closed env
