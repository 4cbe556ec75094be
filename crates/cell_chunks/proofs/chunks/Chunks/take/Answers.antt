use Rattle.std.proofs.Common.{◌≡◌, Some, None, length-set, sym, ap, ◌∙◌, arith}
use Rattle.std.proofs.lemmas.Option.{get_or_from_slice_get, slice_get_within}
use Rattle.cell_chunks.specs.Slots.{IsFilled}
use Rattle.cell_chunks.proofs.Stacks.{stack_vacate, vacancies-within}
use Rattle.cell_chunks.proofs.chunks.Chunks.take.Goals as goal

pub push_reserved-requires : goal.push_reserved-requires
push_reserved-requires g c =
    let found : IsFilled c.self.inside.places.items c.args.slot.0 = rw (← c.self.view_is) at c.requires in
    let less = vacancies-within c.self.inside.places.items c.args.slot.0 found.0 found.1 in
    omega (arith, less, c.self.invariant.0.counted, c.self.invariant.3)

pub index_mut-requires : goal.index_mut-requires
index_mut-requires g c =
    let found : IsFilled c.self.inside.places.items c.args.slot.0 = rw (← c.self.view_is) at c.requires in
    let less = slice_get_within c.self.inside.places.items c.args.slot.0 (Some found.0) found.1 in
    omega (arith, less)

pub unreachable-requires : goal.unreachable-requires
unreachable-requires g c =
    let found : IsFilled c.self.inside.places.items c.args.slot.0 = rw (← c.self.view_is) at c.requires in
    let there = get_or_from_slice_get c.self.inside.places.items c.args.slot.0 (Some found.0) c.index_mut.result.now found.1 in
    let none : None ≡ Some found.0 = sym c.in-None.is ∙ c.replace.ensures.value ∙ c.index_mut.ensures.value ∙ there in
    cc

pub invariant_of-self : goal.invariant_of-self
invariant_of-self g c =
    let found : IsFilled c.self.inside.places.items c.args.slot.0 = rw (← c.self.view_is) at c.requires in
    let vacated = stack_vacate c.self.inside.places.items c.self.inside.vacant.items c.args.slot.0 found.0 c.self.invariant.0 found.1 in
    rw (c.replace.ensures.after, length-set, c.push_reserved.ensures.items) (
      vacated,
      c.self.invariant.1,
      c.self.invariant.2,
      omega (arith, c.self.invariant.3, c.push_reserved.ensures.capacity),
    )

pub returns-clause-value : goal.returns-clause-value
returns-clause-value g c =
    let found : IsFilled c.self.inside.places.items c.args.slot.0 = rw (← c.self.view_is) at c.requires in
    let there = get_or_from_slice_get c.self.inside.places.items c.args.slot.0 (Some found.0) c.index_mut.result.now found.1 in
    let same = sym there ∙ sym c.index_mut.ensures.value ∙ sym c.replace.ensures.value ∙ c.in-Some.is in
    rw (← c.self.view_is) (found.1 ∙ ap Some same)
