use Rattle.std.proofs.Common.{◌∙◌, ap, refl, sym, true≢false, true, [], nat_eq}
use Rattle.world_heap.specs.declared.cell.Cell.TheVariants.{Closure}
use Rattle.world_heap.specs.Heaps.{IsNoEnv}
use Rattle.world_heap.specs.Over.{OptionOver}
use Rattle.js_machine.proofs.Closing.{made_as}
use Rattle.js_machine.proofs.state.State.make_closure.Goals.{else-is_prototype-via-then-is_prototype+then-is_cell+else-is_fit_option, else-is_prototype-via-then-is_prototype+else-is_cell, else-is_prototype-via-else-is_prototype}
use Rattle.js_machine.proofs.state.State.make_closure.Goals as goal

pub returns-then-is_fit_option : goal.returns-then-is_fit_option
returns-then-is_fit_option c nodes supply =
    made_as _ _ c.args.self.now c.make.new.self c.make.result
    (c.closure-cell.ensures ∙ ap (λ p. Closure (record { proto = p; properties = []; extensible = true }) c.args.node.0 c.args.env c.args.receiver) (c.built_in-proto.ensures nodes supply)) refl c.make.ensures

pub returns-else-is_prototype : goal.returns-else-is_prototype
returns-else-is_prototype c nodes supply fit =
    let there : OptionOver (IsNoEnv nat_eq c.args.self.now.heap.cells) c.built_in-proto.result = rw (c.built_in-proto.ensures nodes supply) fit.0.0 in
    elim c.else-is_prototype.branch [
      | else-is_prototype-via-then-is_prototype+then-is_cell+else-is_fit_option w ↦ absurd (true≢false (sym (w.is_fit_option.ensures.only fit.2) ∙ w.if-is_fit_option.false))
      | else-is_prototype-via-then-is_prototype+else-is_cell w ↦ absurd (true≢false (sym (w.is_cell.ensures.only fit.1) ∙ w.if-is_cell.false))
      | else-is_prototype-via-else-is_prototype w ↦ absurd (true≢false (sym (c.is_prototype.ensures.only there) ∙ w.if-is_prototype.false))
    ]
