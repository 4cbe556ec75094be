use Rattle.std.proofs.Common.{sym, ap, ◌∙◌}
use Rattle.js_machine.specs.declared.state.State.{State}
use Rattle.js_machine.specs.Does.{awaits_in}
use Rattle.world_machine.specs.declared.world.World.{World}
use Rattle.world_machine.proofs.Awaiting.{awaited_by}
use Rattle.world_machine.proofs.Passing.{began}
use Rattle.world_machine.proofs.Pools.{runs_in, taken_closed}
use Rattle.world_machine.proofs.world.World.begin.Goals as goal

pub take_state-state-requires : goal.take_state-state-requires
take_state-state-requires c = runs_in c.args.self.now c.args.pool c.requires.stands

pub begin-requires : goal.begin-requires
begin-requires c =
    let taken = c.take_state-state.ensures in
    ap (λ (x : State). awaits_in x.control x.loaded c.args.delivery) taken.2 ∙ sym (awaited_by c.args.self.now taken.0 c.args.delivery taken.1) ∙ c.requires.awaited

pub out_of_memory-requires : goal.out_of_memory-requires
out_of_memory-requires c =
    let taken = c.take_state-state.ensures in
    c.in-Err.ensures.closed (taken_closed c.args.self.now c.take_state-state.new.self.script taken.0 c.args.pool c.take_state-state.result taken.1 (sym (ap (λ (x : World). x.script) taken.3)) (runs_in c.args.self.now c.args.pool c.requires.stands) taken.2)

pub returns : goal.returns
returns c =
    let taken = c.take_state-state.ensures in
    let put = c.put_state-pool.ensures in
    let fits = c.in-Ok.ensures.closed (taken_closed c.args.self.now c.take_state-state.new.self.script taken.0 c.args.pool c.take_state-state.result taken.1 (sym (ap (λ (x : World). x.script) taken.3)) (runs_in c.args.self.now c.args.pool c.requires.stands) taken.2) in
    began c.args.self.now c.put_state-pool.new.self c.take_state-state.new.self.script taken.0 put.0 c.args.pool c.put_state-pool.result c.take_state-state.result c.begin.new.state
    taken.1 (ap (λ (x : World). x.machine) put.1) (sym (ap (λ (x : World). x.script) taken.3)) (ap (λ (x : World). x.script) put.1) (runs_in c.args.self.now c.args.pool c.requires.stands) taken.2 fits.closed put.2
    (record { fresh = c.args.fresh; what = c.args.delivery }) c.in-Ok.first c.in-Ok.ensures.does
