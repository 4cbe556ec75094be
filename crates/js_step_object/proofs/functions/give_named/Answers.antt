use Rattle.std.proofs.Common.{refl}
use Rattle.world_heap.specs.declared.value.Value.TheVariants.{Ref}
use Rattle.js_semantics.specs.Environments.{bind_in}
use Rattle.js_semantics.specs.Prog.{give}
use Rattle.js_machine.proofs.Changing.{bind_keys, does_change_ok}
use Rattle.js_machine.proofs.Closing.{closed_grown, lasts_on}
use Rattle.js_step_object.proofs.functions.give_named.Goals as goal

pub returns-clause-does : goal.returns-clause-does
returns-clause-does c nodes =
    does_change_ok nodes 6 (λ w. bind_in c.args.env c.args.name.now (Ref c.args.function) w) (give (Ref c.args.function)) c.args.state.now (record c.args.state.now { heap = c.bind_in.new.heap }) c.give.new.self c.bind_in.new.heap c.give.result refl c.in-Ok.ensures.rest c.in-Ok.ensures.is (λ w. bind_keys c.args.env c.args.name.now (Ref c.args.function) w) (c.give.ensures.many nodes)

pub returns-in-Err-clause-closed : goal.returns-in-Err-clause-closed
returns-in-Err-clause-closed c nodes closed function =
    c.in-Err.ensures.closed function

pub returns-clause-closed : goal.returns-clause-closed
returns-clause-closed c nodes closed function =
    let went = closed_grown nodes c.args.state.now (record c.args.state.now { heap = c.bind_in.new.heap }) closed (c.in-Ok.ensures.closed function) refl refl refl in
    lasts_on nodes c.args.state.now (record c.args.state.now { heap = c.bind_in.new.heap }) c.give.new.self c.give.result went (c.give.ensures.closed nodes went.closed (went.grows.no_env c.args.function function))
