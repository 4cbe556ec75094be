use Rattle.std.proofs.Common.{refl, sym, ap, ◌∙◌, subst, true≢false}
use Rattle.js_step_access.proofs.Removals.{removed_ok}
use Rattle.world_heap.specs.Views.{HeapView}
use Rattle.world_heap.proofs.Wells.{no_env_stands}
use Rattle.proto_props.specs.Removes.{removal_from}
use Rattle.js_names.specs.Growing.{Grows}
use Rattle.js_machine.specs.declared.state.State.{State}
use Rattle.js_machine.proofs.Closing.{closed_grown, lasts_on}
use Rattle.js_step_access.proofs.Fitting.{removal_grows}
use Rattle.js_step_access.proofs.removal.delete_at.Goals as goal

pub returns-clause-does : goal.returns-clause-does
returns-clause-does c nodes = removed_ok nodes c.args.loc c.args.key.now c.delete-gone.result c.delete-gone.new.heap _ _ _ _ refl c.delete-gone.ensures.told c.delete-gone.ensures.is c.delete-gone.ensures.keys (c.settle.ensures.does nodes)

pub returns-then-not-is_cell-clause-closed : goal.returns-then-not-is_cell-clause-closed
returns-then-not-is_cell-clause-closed c nodes closed loc = absurd (true≢false (sym (c.is_cell.ensures.only (no_env_stands c.args.state.now.heap.cells c.args.loc loc)) ∙ c.if-not-is_cell.true))

pub returns-clause-closed : goal.returns-clause-closed
returns-clause-closed c nodes closed loc =
    let old = c.args.state.now in
    let mid : State = record old { heap = c.delete-gone.new.heap } in
    let grows : Grows old.heap.cells mid.heap.cells = subst (λ cs. Grows old.heap.cells cs) (sym (ap (λ (h : HeapView). h.cells) c.delete-gone.ensures.is)) (removal_grows old.heap.cells closed.well c.args.loc c.args.key.now (removal_from old.heap.cells c.args.loc c.args.key.now)) in
    let went = closed_grown nodes old mid closed grows refl refl refl in
    lasts_on nodes old mid c.settle.new.state c.settle.result went (c.settle.ensures.closed nodes went.closed)
