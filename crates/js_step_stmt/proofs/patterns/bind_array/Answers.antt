use Rattle.js_names.specs.Patterns.{nodes_of}
use Rattle.js_step_stmt.proofs.patterns.bind_array.Goals.{in-Ref, in_default+in-Str-1, in_default+in-Undefined-1}
use Rattle.js_step_stmt.proofs.patterns.bind_array.Goals as goal

pub returns-clause-closed : goal.returns-clause-closed
returns-clause-closed c closed value scope = elim c.match-value.branch [
  | in-Ref w ↦ rw (w.state-is, w.result-is) (w.bind_array_at.ensures.closed closed (rw w.in-Ref.is at value) scope)
  | in_default+in-Str-1 w ↦ rw (w.state-is, w.result-is) (w.throw.ensures.closed (nodes_of c.args.tree.now) closed)
  | in_default+in-Undefined-1 w ↦ rw (w.state-is, w.result-is) (w.throw.ensures.closed (nodes_of c.args.tree.now) closed)
]
