use Rattle.std.proofs.Common.{sym, ap}
use Rattle.world_machine.specs.declared.world.World.{World}
use Rattle.world_machine.proofs.Passing.{advanced, fell}
use Rattle.world_machine.proofs.Pools.{taken_closed}
use Rattle.world_machine.proofs.world.World.advance.Goals as goal

pub out_of_memory-requires : goal.out_of_memory-requires
out_of_memory-requires c =
    let taken = c.take_state-state.ensures in
    c.in-Err.ensures.closed (taken_closed c.args.self.now c.take_state-state.new.self.script taken.0 c.args.pool c.take_state-state.result taken.1 (sym (ap (λ (x : World). x.script) taken.3)) c.requires taken.2)

pub returns-clause-goes : goal.returns-clause-goes
returns-clause-goes c =
    let taken = c.take_state-state.ensures in
    let put = c.put_state-pool.ensures in
    let fits = c.in-Ok.ensures.closed (taken_closed c.args.self.now c.take_state-state.new.self.script taken.0 c.args.pool c.take_state-state.result taken.1 (sym (ap (λ (x : World). x.script) taken.3)) c.requires taken.2) in
    advanced c.args.self.now c.put_state-pool.new.self c.take_state-state.new.self.script taken.0 put.0 c.args.pool c.put_state-pool.result c.take_state-state.result c.advance.new.state
    taken.1 (ap (λ (x : World). x.machine) put.1) (sym (ap (λ (x : World). x.script) taken.3)) (ap (λ (x : World). x.script) put.1) c.requires taken.2 fits.closed put.2 c.in-Ok.next c.in-Ok.ensures.does

pub returns-clause-falls : goal.returns-clause-falls
returns-clause-falls c =
    let taken = c.take_state-state.ensures in
    let put = c.put_state-pool.ensures in
    let fits = c.in-Ok.ensures.closed (taken_closed c.args.self.now c.take_state-state.new.self.script taken.0 c.args.pool c.take_state-state.result taken.1 (sym (ap (λ (x : World). x.script) taken.3)) c.requires taken.2) in
    fell c.args.self.now c.put_state-pool.new.self c.take_state-state.new.self.script taken.0 put.0 c.args.pool c.put_state-pool.result c.take_state-state.result c.advance.new.state
    taken.1 (ap (λ (x : World). x.machine) put.1) (sym (ap (λ (x : World). x.script) taken.3)) (ap (λ (x : World). x.script) put.1) c.requires taken.2 fits.closed put.2 c.in-Ok.next c.in-Ok.ensures.does
