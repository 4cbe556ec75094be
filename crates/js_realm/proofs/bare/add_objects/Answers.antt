use Rattle.std.proofs.Common.{ℕ, Some, arith}
use Rattle.world_heap.specs.BuiltIns.{plain_object}
use Rattle.js_realm.specs.Building.{numbered}
use Rattle.js_realm.proofs.Adding.{base_after, length-numbered}
use Rattle.js_realm.proofs.bare.add_objects.Goals as goal

pub add_object-requires-clause-room : goal.add_object-requires-clause-room
add_object-requires-clause-room c =
    let cell = (λ (n : ℕ). plain_object (Some c.args.proto)) in
    let base = base_after (numbered cell c.objects._done) c.args.heap.now c.objects.heap c.objects.invariant in
    omega (arith, base, length-numbered cell c.objects._done, c.objects-test.true)
