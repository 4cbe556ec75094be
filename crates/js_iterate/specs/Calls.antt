-- A call or `new` whose arguments are being evaluated (ECMA-262, 13.3.8.1).
use Rattle.std.specs.Prelude.{ℕ, List}
use Rattle.js_tree.specs.declared.node.Node.{Node}
use Rattle.js_semantics.specs.declared.scope.Scope.{Scope}
use Rattle.js_semantics.specs.Prog.{Prog}
use Rattle.js_machine.specs.Frames.{arguments_rest}
use Rattle.js_iterate.specs.declared.arguments.Pending.{Pending}

-- what is left of it: the arguments from its place on, and what they are for
abbrev pub pending_rest : List Node → Pending ℕ → Scope ℕ → Prog ℕ
pending_rest nodes pending scope = arguments_rest nodes pending.node pending.next pending.before pending.target scope
