-- Counts within their limits.
use Rattle.std.proofs.Common.{◌≡◌, ℕ, ◌-◌, ◌^◌, ◌≤◌, false, min, None, refl, arith, nat_lt}
use Rattle.std.proofs.lemmas.Bool.Decides.{nat_tests}
use Rattle.world_heap.specs.declared.limits.Counts.{Counts}
use Rattle.world_heap.specs.Views.{Bounds}
use Rattle.world_heap.specs.Growth.{first_full}

pub no_full : (limits : Bounds) (counts : Counts) → counts.cells ≤ limits.cells → counts.places ≤ limits.places → counts.units ≤ limits.units → first_full limits counts ≡ None
no_full limits counts a b d =
    let cells : nat_lt limits.cells counts.cells ≡ false = grind (arith, nat_tests) in
    let places : nat_lt limits.places counts.places ≡ false = grind (arith, nat_tests) in
    let units : nat_lt limits.units counts.units ≡ false = grind (arith, nat_tests) in
    rw (cells, places, units) refl

-- a count below 2^64-1 that was cut there is whole
pub small : (n m : ℕ) → m ≡ min n (2 ^ 64 - 1) → m ≤ 1_000_000 → m ≡ n
small n m e h = omega (arith, e, h)
