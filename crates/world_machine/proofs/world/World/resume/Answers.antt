use Rattle.std.proofs.Common.{◌≡◌, sym, ap, ◌∙◌, subst}
use Rattle.js_machine.specs.declared.state.State.{State}
use Rattle.js_machine.specs.Does.{awaits_in}
use Rattle.js_semantics.specs.Run.{Arrival}
use Rattle.world_machine.specs.declared.world.World.{World}
use Rattle.world_machine.specs.Yields.{EndsBy}
use Rattle.world_machine.proofs.Awaiting.{awaited_by}
use Rattle.world_machine.proofs.Coming.{last_behind, product_of-injective}
use Rattle.world_machine.proofs.Pools.{runs_in, taken_closed}
use Rattle.world_machine.proofs.Resuming.{resumed, yielded}
use Rattle.world_machine.proofs.world.World.resume.Goals as goal

pub take_state-state-requires : goal.take_state-state-requires
take_state-state-requires c = runs_in c.args.self.now c.args.pool c.requires.stands

pub resume-requires : goal.resume-requires
resume-requires c =
    let taken = c.take_state-state.ensures in
    ap (λ (x : State). awaits_in x.control x.loaded c.args.delivery) taken.2 ∙ sym (awaited_by c.args.self.now taken.0 c.args.delivery taken.1) ∙ c.requires.awaited

pub out_of_memory-requires : goal.out_of_memory-requires
out_of_memory-requires c =
    let taken = c.take_state-state.ensures in
    c.in-Err.ensures.closed (taken_closed c.args.self.now c.take_state-state.new.self.script taken.0 c.args.pool c.take_state-state.result taken.1 (sym (ap (λ (x : World). x.script) taken.3)) (runs_in c.args.self.now c.args.pool c.requires.stands) taken.2)

pub last_yield-requires : goal.last_yield-requires
last_yield-requires c =
    let taken = c.take_state-state.ensures in
    let put = c.put_state-pool.ensures in
    let ran = c.in-Ok.ensures.does in
    let fits = c.in-Ok.ensures.closed (taken_closed c.args.self.now c.take_state-state.new.self.script taken.0 c.args.pool c.take_state-state.result taken.1 (sym (ap (λ (x : World). x.script) taken.3)) (runs_in c.args.self.now c.args.pool c.requires.stands) taken.2) in
    let d : Arrival = record { fresh = c.args.fresh; what = c.args.delivery } in
    let y = yielded c.args.self.now c.put_state-pool.new.self c.take_state-state.new.self.script d taken.0 put.0 c.args.pool c.put_state-pool.result c.take_state-state.result c.resume.new.state ran.0
    taken.1 (sym (ap (λ (x : World). x.script) taken.3)) c.requires.stands taken.2 ran.2 fits.closed put.2 in
    (y.0, last_behind y.0 c.args.out.now.items ran.0 c.as_slice.result.now (c.as_slice.ensures.value ∙ ran.1) y.1)

pub returns : goal.returns
returns c =
    let taken = c.take_state-state.ensures in
    let put = c.put_state-pool.ensures in
    let ran = c.in-Ok.ensures.does in
    let fits = c.in-Ok.ensures.closed (taken_closed c.args.self.now c.take_state-state.new.self.script taken.0 c.args.pool c.take_state-state.result taken.1 (sym (ap (λ (x : World). x.script) taken.3)) (runs_in c.args.self.now c.args.pool c.requires.stands) taken.2) in
    let d : Arrival = record { fresh = c.args.fresh; what = c.args.delivery } in
    let wu = sym (ap (λ (x : World). x.script) taken.3) in
    let y = yielded c.args.self.now c.put_state-pool.new.self c.take_state-state.new.self.script d taken.0 put.0 c.args.pool c.put_state-pool.result c.take_state-state.result c.resume.new.state ran.0
    taken.1 wu c.requires.stands taken.2 ran.2 fits.closed put.2 in
    let last = last_behind y.0 c.args.out.now.items ran.0 c.as_slice.result.now (c.as_slice.ensures.value ∙ ran.1) y.1 in
    let same : y.0 ≡ c.last_yield.result = product_of-injective y.0 c.last_yield.result (sym last ∙ c.last_yield.ensures) in (
      ran.0,
      ran.1,
      resumed c.args.self.now c.put_state-pool.new.self c.take_state-state.new.self.script d taken.0 put.0 c.args.pool c.put_state-pool.result c.take_state-state.result c.resume.new.state ran.0
          taken.1 (ap (λ (x : World). x.machine) put.1) wu (ap (λ (x : World). x.script) put.1) c.requires.stands taken.2 ran.2 fits.closed put.2 c.last_yield.result (subst (λ z. EndsBy z ran.0) same y.1),
    )
