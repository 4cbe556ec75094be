-- The value that is at hand for a node, for which nothing of the script runs (ECMA-262, 13.1 and 13.2).
use Rattle.std.specs.Prelude.{ℕ, Option, Some, None}
use Rattle.world_heap.specs.declared.value.Value.{Value}
use Rattle.world_heap.specs.declared.value.Value.TheVariants.{Null, Bool as Boolean, Num, Str}
use Rattle.world_heap.specs.declared.cell.Binding.{Binding}
use Rattle.js_tree.specs.declared.node.Node.{Node}
use Rattle.js_tree.specs.declared.node.Node.TheVariants as kinds
use Rattle.js_semantics.specs.declared.scope.Scope.{Scope}
use Rattle.js_semantics.specs.World.{World}
use Rattle.js_semantics.specs.Environments.{binding_of}
use Rattle.js_semantics.specs.Operators.{literal_number}
use Rattle.js_calls.specs.declared.naming.Named.{Named}
use Rattle.js_calls.specs.declared.naming.Named.TheVariants.{Held}

-- the value of a binding that was found, where it is ready (ECMA-262, 9.1.1.1.6)
abbrev pub ready : Option (ℕ × Binding ℕ) → Option (Value ℕ)
ready None = None
ready (Some found) = found.1.value

-- the value that a name stands for as a binding
unfoldable pub held : Named ℕ → Option (Value ℕ)
held (Held v) = Some v
held other = None

-- of a name, from an environment on: that of its innermost binding, where this is ready
unfoldable pub name_at_hand : Option Node → ℕ → World ℕ → Option (Value ℕ)
name_at_hand (Some (kinds.Name name)) env w = ready (binding_of env name w)
name_at_hand other env w = None

-- of a name, a literal or `this`; of no other node
unfoldable pub at_hand : Option Node → Scope ℕ → World ℕ → Option (Value ℕ)
at_hand (Some (kinds.Name name)) scope w = ready (binding_of scope.env name w)
at_hand (Some kinds.This) scope w = Some scope.receiver
at_hand (Some kinds.Null) scope w = Some Null
at_hand (Some (kinds.Bool b)) scope w = Some (Boolean b)
at_hand (Some (kinds.Num z)) scope w = Some (Num (literal_number z))
at_hand (Some (kinds.Str text)) scope w = Some (Str text)
at_hand other scope w = None
