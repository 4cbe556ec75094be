use Rattle.std.proofs.Common.{arith}
use Rattle.js_names.specs.Patterns.{nodes_of}
use Rattle.js_names.proofs.Naming.{declared_are}
use Rattle.js_names.proofs.declare.declared_in.Goals as goal

pub returns : goal.returns
returns c = declared_are (nodes_of c.args.tree.now) c.args.items.now c.items.item-index c.items.bindings (omega (arith, c.items-test.false)) c.items.invariant
