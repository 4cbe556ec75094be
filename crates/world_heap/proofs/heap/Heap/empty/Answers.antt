use Rattle.std.proofs.Common.{◌≡◌, ◌∙◌, [], ◌+◌, ap, subst, length, unwrap_or, nat_eq, arith, ℕ, List}
use Rattle.world_heap.specs.declared.cell.Cell.{Cell}
use Rattle.world_heap.specs.Maps.{without}
use Rattle.world_heap.specs.Shelf.{values_of}
use Rattle.world_heap.specs.Views.{PoolView}
use Rattle.world_heap.specs.Bounded.{bounds_of}
use Rattle.world_heap.specs.Starting.{empty_heap}
use Rattle.world_heap.proofs.Begun.{below_absent, find-last, without-last, stands-last, pooled_open}
use Rattle.world_heap.proofs.heap.Heap.empty.Goals as goal

none : List (ℕ × Cell ℕ)
none = []

pub open-requires : goal.open-requires
open-requires c = below_absent c.pool.inside.store c.pool.inside.given c.pool.invariant.below

pub invariant_of-result : goal.invariant_of-result
unfolding none
invariant_of-result c =
    let maps = c.pool.inside.store in
    let given = c.pool.inside.given in
    let absent = below_absent maps given c.pool.invariant.below in
    rw c.in_ok-open.ensures.ok (
      pooled_open maps given c.pool.invariant,
      record {
        stands = stands-last maps given none;
        counted = ap (λ x. length (unwrap_or x [])) (find-last maps given none absent);
      },
      record { cells = omega arith; places = omega arith; units = omega arith; built_in = omega arith },
    )

pub returns : goal.returns
unfolding none
returns c =
    let maps = c.pool.inside.store in
    let given = c.pool.inside.given in
    let absent = below_absent maps given c.pool.invariant.below in
    let cells : values_of c.open.new.self given ≡ [] = ap (λ ms. values_of ms given) c.in_ok-open.ensures.ok ∙ ap (λ x. unwrap_or x []) (find-last maps given none absent) in
    let others : without nat_eq c.open.new.self given ≡ maps = ap (λ ms. without nat_eq ms given) c.in_ok-open.ensures.ok ∙ without-last maps given none absent in
    subst (λ (p : PoolView). record { owner = given; cells = values_of c.open.new.self given; others = without nat_eq c.open.new.self given; counts = record { cells = 0; places = 0; units = 0 }; limits = bounds_of c.args.limits; base = 0; given = given + 1 } ≡ empty_heap (bounds_of c.args.limits) p) c.pool.view_is
    (λ i. record { owner = given; cells = cells i; others = others i; counts = record { cells = 0; places = 0; units = 0 }; limits = bounds_of c.args.limits; base = 0; given = given + 1 })
