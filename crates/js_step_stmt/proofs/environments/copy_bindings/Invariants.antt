use Rattle.std.proofs.Common.{◌≡◌, take}
use Rattle.js_step_stmt.proofs.environments.copy_bindings.Given as goal

abbrev pub invariant-bindings : goal.invariant-bindings
invariant-bindings l = l.copies ≡ take l.binding-index l.bindings
