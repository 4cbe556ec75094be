use Rattle.std.proofs.Common.{◌∙◌, ap, refl, sym, true≢false, false, nat_eq}
use Rattle.world_heap.specs.declared.cell.Cell.TheVariants.{Array}
use Rattle.world_heap.specs.Heaps.{IsNoEnv}
use Rattle.world_heap.specs.Over.{OptionOver}
use Rattle.js_machine.proofs.Closing.{made_as}
use Rattle.js_machine.proofs.state.State.make_array.Goals.{else-is_prototype-via-then-is_prototype+else-are_fit, else-is_prototype-via-else-is_prototype}
use Rattle.js_machine.proofs.state.State.make_array.Goals as goal

pub returns-then-are_fit : goal.returns-then-are_fit
returns-then-are_fit c nodes supply =
    made_as _ _ c.args.self.now c.make.new.self c.make.result (c.array.ensures ∙ ap (λ p. Array p c.args.items false) (c.built_in-proto.ensures nodes supply)) refl c.make.ensures

pub returns-else-is_prototype : goal.returns-else-is_prototype
returns-else-is_prototype c nodes supply fit =
    let there : OptionOver (IsNoEnv nat_eq c.args.self.now.heap.cells) c.built_in-proto.result = rw (c.built_in-proto.ensures nodes supply) fit.0 in
    elim c.else-is_prototype.branch [
      | else-is_prototype-via-then-is_prototype+else-are_fit w ↦ absurd (true≢false (sym (w.are_fit.ensures.only (rw w.as_slice.ensures fit.1)) ∙ w.if-are_fit.false))
      | else-is_prototype-via-else-is_prototype w ↦ absurd (true≢false (sym (c.is_prototype.ensures.only there) ∙ w.if-is_prototype.false))
    ]
