use Rattle.std.proofs.Common.{nat_eq, refl, true≢false, sym, ◌∙◌}
use Rattle.proto_props.specs.Sets.{sets}
use Rattle.js_machine.specs.declared.state.State.{State}
use Rattle.js_calls.proofs.Stored.{sets_fit, written_done}
use Rattle.world_heap.proofs.Wells.{no_env_stands}
use Rattle.js_calls.proofs.setting.write.Goals.{then-not-is_cell-via-then-not-is_cell, then-not-is_cell-via-else-not-is_cell+then-not-is_fit}
use Rattle.js_calls.proofs.setting.write.Goals as goal

pub returns-in-Ok-clause-closed : goal.returns-in-Ok-clause-closed
returns-in-Ok-clause-closed c nodes closed loc value =
    let old = c.args.state.now in
    let new : State = record old { heap = c.set_step.new.heap } in
    let change = sets nat_eq old.heap.cells c.args.loc c.args.key c.args.value in
    let carried = rw c.in-Ok.is at c.set_step.ensures.is in
    written_done nodes change old new closed (sets_fit old.heap.cells closed.well c.args.loc c.args.key c.args.value value) c.in-Ok.done (carried, c.set_step.ensures.keys, refl)

pub returns-then-not-is_cell-clause-closed : goal.returns-then-not-is_cell-clause-closed
returns-then-not-is_cell-clause-closed c nodes closed loc value =
    elim c.then-not-is_cell.branch [
      | then-not-is_cell-via-then-not-is_cell w ↦ absurd (true≢false (sym (c.is_cell.ensures.only (no_env_stands c.args.state.now.heap.cells c.args.loc loc)) ∙ w.if-not-is_cell.true))
      | then-not-is_cell-via-else-not-is_cell+then-not-is_fit w ↦ absurd (true≢false (sym (w.is_fit.ensures.only value) ∙ w.if-not-is_fit.true))
    ]
