use Rattle.js_realm.specs.Building.{Adds, bare_function, numbered}
use Rattle.js_realm.proofs.bare.add_functions.Given as goal

abbrev pub invariant-functions : goal.invariant-functions
invariant-functions l = Adds (numbered (bare_function l.proto) l.id) l.initial.heap l.heap
