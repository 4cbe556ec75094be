-- What is evaluated in place of a value that may have a default (ECMA-262, 8.6.3).
use Rattle.std.specs.Prelude.{◌≡◌, ℕ, Option, Some, None}
use Rattle.world_heap.specs.declared.value.Value.{Value}
use Rattle.js_tree.specs.declared.node.NodeId.{NodeId}
use Rattle.js_semantics.specs.declared.scope.Scope.{Scope}
use Rattle.js_semantics.specs.Prog.{Prog, eval}
use Rattle.js_semantics.specs.Access.{or_default}

-- What is evaluated for a value that may be replaced by a default: the default, or nothing.
abbrev pub DefaultsTo : Option NodeId → Value ℕ → Option NodeId → Type 0
DefaultsTo default v None = (scope : Scope ℕ) (k : Value ℕ → Prog ℕ) → or_default default v scope k ≡ k v
DefaultsTo default v (Some node) = (scope : Scope ℕ) (k : Value ℕ → Prog ℕ) → or_default default v scope k ≡ eval node scope k
