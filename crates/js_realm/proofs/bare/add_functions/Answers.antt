use Rattle.std.proofs.Common.{arith}
use Rattle.js_realm.specs.Building.{bare_function, numbered}
use Rattle.js_realm.proofs.Adding.{base_after, length-numbered}
use Rattle.js_realm.proofs.bare.add_functions.Goals as goal

pub add_function-requires-clause-room : goal.add_function-requires-clause-room
add_function-requires-clause-room c =
    let cell = (bare_function c.args.proto) in
    let base = base_after (numbered cell c.functions.id) c.args.heap.now c.functions.heap c.functions.invariant in
    omega (arith, base, length-numbered cell c.functions.id, c.functions-test.true)
