use Rattle.std.proofs.Common.{◌≡◌, Some, None, ◌++◌, ◌∷◌, [], refl, length-set, subst, arith, slice_get}
use Rattle.cell_chunks.specs.Store.{IsStack}
use Rattle.cell_chunks.proofs.Stacks.{slice_get_same, stack_vacant, stack_fill}
use Rattle.cell_chunks.proofs.chunks.Chunks.put.Goals as goal

-- the slot that was filled was on top of the stack
stacked : (g : _) (c : goal.Joined-index_mut g) → IsStack c.self.inside.places.items (c.pop.new.self.items ++ c.in-Some.number ∷ [])
stacked g c = subst (IsStack c.self.inside.places.items) c.in-Some.ensures.items c.self.invariant.0

pub invariant_of-self-in-Some : goal.invariant_of-self-in-Some
invariant_of-self-in-Some g c =
    let filled = stack_fill c.self.inside.places.items c.pop.new.self.items c.in-Some.number c.args.value (stacked g c) in
    rw length-set (filled, c.self.invariant.1, c.self.invariant.2, omega (arith, c.self.invariant.3, c.pop.ensures.capacity))

pub returns-in-Some-clause-filled : goal.returns-in-Some-clause-filled
returns-in-Some-clause-filled g c =
    let vacant : slice_get c.self.inside.places.items c.in-Some.number ≡ Some None = stack_vacant c.self.inside.places.items c.pop.new.self.items c.in-Some.number (stacked g c) in
    rw (← c.self.view_is) (vacant, refl)

pub returns-in-Some-clause-stands : goal.returns-in-Some-clause-stands
returns-in-Some-clause-stands g c =
    let vacant : slice_get c.self.inside.places.items c.in-Some.number ≡ Some None = stack_vacant c.self.inside.places.items c.pop.new.self.items c.in-Some.number (stacked g c) in
    slice_get_same c.self.inside.places.items c.in-Some.number None (Some c.args.value) vacant
