use Rattle.world_heap.specs.Bounded.{bounds_of}
use Rattle.js_realm.proofs.Beginning.{base_is, bare_then, length_is, objects_are}
use Rattle.js_realm.proofs.bare.bare_realm.Goals as goal

pub add_later-requires-clause-begun : goal.add_later-requires-clause-begun
add_later-requires-clause-begun c = base_is (bounds_of c.args.limits) c.args.pool c.in_ok-heap.heap c.in_ok-heap.ensures

pub add_later-requires-clause-cells : goal.add_later-requires-clause-cells
add_later-requires-clause-cells c = length_is (bounds_of c.args.limits) c.args.pool c.in_ok-heap.heap c.in_ok-heap.ensures

pub add_later-requires-clause-objects : goal.add_later-requires-clause-objects
add_later-requires-clause-objects c = objects_are (bounds_of c.args.limits) c.args.pool c.in_ok-heap.heap c.in_ok-heap.ensures

pub returns : goal.returns
returns c = bare_then (bounds_of c.args.limits) c.args.pool c.in_ok-heap.heap c.in_ok-heap.ensures c.args.kind c.add_later.new.heap c.in_ok-add_later.ensures
