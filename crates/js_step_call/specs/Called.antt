-- The row of a call, by what its callee is (ECMA-262, 13.3.6).
use Rattle.std.specs.Prelude.{ℕ, List}
use Rattle.js_tree.specs.declared.node.NodeId.{NodeId}
use Rattle.js_tree.specs.declared.node.Node.{Node}
use Rattle.js_semantics.specs.declared.scope.Scope.{Scope}
use Rattle.js_semantics.specs.Prog.{Prog, eval, step}
use Rattle.js_machine.specs.declared.frame.Use.TheVariants as uses
use Rattle.js_machine.specs.declared.frame.PropertyFrame.TheVariants as properties
use Rattle.js_machine.specs.declared.frame.CallFrame.TheVariants as calls
use Rattle.js_machine.specs.Frames.{call_rest, property_rest}
use Rattle.js_step_expr.specs.declared.targets.Target.{Target}
use Rattle.js_step_expr.specs.declared.targets.Target.TheVariants.{Dot, Index}

-- A property takes the step of its node, and its object is the receiver.
unfoldable pub call_at : List Node → NodeId → NodeId → Target → Scope ℕ → Prog ℕ
call_at nodes node callee (Dot object) scope = step (eval object scope (λ base. property_rest nodes (properties.DotObject callee (uses.Call node) scope) base))
call_at nodes node callee (Index object key) scope = step (eval object scope (λ base. property_rest nodes (properties.IndexObject key (uses.Call node) scope) base))
call_at nodes node callee _ scope = eval callee scope (λ f. call_rest nodes (calls.Callee node scope) f)
