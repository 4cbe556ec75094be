use Rattle.std.proofs.Common.{Some}
use Rattle.world_heap.specs.BuiltIns.{plain_object}
use Rattle.js_realm.specs.Building.{Adds, numbered}
use Rattle.js_realm.proofs.bare.add_objects.Given as goal

abbrev pub invariant-objects : goal.invariant-objects
invariant-objects l = Adds (numbered (λ n. plain_object (Some l.proto)) l._done) l.initial.heap l.heap
