use Rattle.std.proofs.Common.{◌≡◌, ◌∙◌, Some, sym, ap, nat_eq}
use Rattle.world_heap.specs.Maps.{find}
use Rattle.world_heap.specs.Bodies.{bound_at}
use Rattle.world_heap.specs.Views.{HeapView}
use Rattle.js_semantics.specs.World.{over}
use Rattle.js_names.specs.Places.{cells_bound}
use Rattle.js_names.proofs.Binding.{bound_binding, place_stands, world_bound, world_unbound}
use Rattle.js_names.proofs.Growing.{grows_bound}
use Rattle.js_names.proofs.bind.bind_in.Goals as goal

pub set_binding-requires-clause-stands : goal.set_binding-requires-clause-stands
set_binding-requires-clause-stands c = place_stands c.args.heap.now.cells c.args.env c.in-Some.place c.args.name.now (sym c.in-Some.ensures.place)

-- the heap with the binding
bound : (c : goal.After-set_binding) → c.set_binding.new.self ≡ record c.args.heap.now { cells = cells_bound (find nat_eq c.args.heap.now.cells c.args.env) c.args.heap.now.cells c.args.env c.args.name.now c.args.value }
bound c =
    let h = c.args.heap.now in
    let was = c.in-Some.ensures.fixed in
    c.set_binding.ensures
    ∙ (λ i. record h { cells = bound_at h.cells c.args.env c.in-Some.place (record { name = c.in-Ok.ensures i; value = Some c.args.value; fixed = sym was.2 i }) })
    ∙ ap (λ cs. record h { cells = cs }) (bound_binding h.cells c.args.env c.in-Some.place c.args.name.now c.args.value was.0 (sym c.in-Some.ensures.place) was.1)

pub returns-in-None-clause-is : goal.returns-in-None-clause-is
returns-in-None-clause-is c = λ w. world_unbound c.args.heap.now w c.args.env c.args.name.now c.args.value (sym c.in-None.ensures.place)

pub returns-in-Ok-clause-is : goal.returns-in-Ok-clause-is
returns-in-Ok-clause-is c = λ w. ap (λ (h : HeapView). over h w) (bound c) ∙ world_bound c.args.heap.now w c.args.env c.args.name.now c.args.value

pub returns-in-Ok-clause-closed : goal.returns-in-Ok-clause-closed
returns-in-Ok-clause-closed c = λ fit. rw (bound c) (grows_bound c.args.heap.now.cells c.args.env c.args.name.now c.args.value fit)
