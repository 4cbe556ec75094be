use Rattle.std.proofs.Common.{Some, refl, length-set, sym, ap, ◌∙◌, ◌<◌, length}
use Rattle.std.specs.Option.{option_copied_mut}
use Rattle.std.proofs.lemmas.Option.{slice_get-get_or, slice_get_within}
use Rattle.cell_chunks.specs.Slots.{IsFilled}
use Rattle.cell_chunks.proofs.Stacks.{stack_write}
use Rattle.cell_chunks.proofs.chunks.Chunks.get_mut.Goals as goal

pub invariant_of-self-lent : goal.invariant_of-self-lent
invariant_of-self-lent g c w =
    let found : IsFilled c.self.inside.places.items c.args.slot.0 = rw (← c.self.view_is) at c.requires in
    rw (length-set) (stack_write c.self.inside.places.items c.self.inside.vacant.items c.args.slot.0 w found.0 c.self.invariant.0 found.1, c.self.invariant.1, c.self.invariant.2, c.self.invariant.3)

pub returns : goal.returns
returns g c =
    let found : IsFilled c.self.inside.places.items c.args.slot.0 = rw (← c.self.view_is) at c.requires in
    let within : c.args.slot.0 < length c.self.inside.places.items = slice_get_within c.self.inside.places.items c.args.slot.0 (Some found.0) found.1 in
    let here = slice_get-get_or c.self.inside.places.items c.args.slot.0 c.index_mut.result.now within in (
      (refl, λ w. rw (← c.self.view_is)),
      record { writes_back = tt; value = rw (← c.self.view_is) (here ∙ ap Some (sym c.index_mut.ensures.value ∙ sym c.as_mut.ensures.value ∙ ap option_copied_mut c.unwrap.ensures)) },
    )
