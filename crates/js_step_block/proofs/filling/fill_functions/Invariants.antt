use Rattle.std.proofs.Common.{drop, nat_eq}
use Rattle.world_heap.specs.Heaps.{IsCell}
use Rattle.js_names.specs.Patterns.{nodes_of}
use Rattle.js_semantics.specs.Prog.{Prog}
use Rattle.js_semantics.specs.Statements.{fill_functions}
use Rattle.js_machine.specs.Closed.{GoesOn, IsClosed}
use Rattle.js_machine.specs.Does.{Moves}
use Rattle.js_step_block.proofs.filling.fill_functions.Given as goal

abbrev pub invariant-items : goal.invariant-items
invariant-items l = record {
  does : (p : Prog _) → Moves (nodes_of l.tree) (fill_functions l.items l.env p) l.initial.state (fill_functions (drop l.item-index l.items) l.env p) l.state;
  closed : IsClosed (nodes_of l.tree) l.initial.state → IsCell nat_eq l.initial.state.heap.cells l.env → GoesOn (nodes_of l.tree) l.initial.state l.state;
}
