-- Outcomes that a `try` or a script leaves as they are.
use Rattle.std.proofs.Common.{◌≡◌, ℕ, List, Option, Some, refl}
use Rattle.js_tree.specs.declared.node.NodeId.{NodeId}
use Rattle.world_heap.specs.declared.value.Value.{Value}
use Rattle.js_semantics.specs.declared.mode.Mode.TheVariants.{Idle}
use Rattle.js_semantics.specs.declared.scope.Scope.{Scope}
use Rattle.js_semantics.specs.declared.outcome.Outcome.{Outcome}
use Rattle.js_semantics.specs.declared.outcome.Outcome.TheVariants.{Normal, Return, Break, Continue, Thrown}
use Rattle.js_semantics.specs.Prog.{End}
use Rattle.js_semantics.specs.Run.{at_rest}
use Rattle.js_semantics.specs.Statements.{caught, replaced_by}
use Rattle.js_machine.specs.declared.frame.Frame.TheVariants as frames
use Rattle.js_machine.specs.Frames.{rest}
use Rattle.js_tree.specs.declared.node.Node.{Node}

pub replaced_left : (before o : Outcome ℕ) → ((v : Value ℕ) → o ≡ Normal v → ⊥) → replaced_by before o ≡ End o
replaced_left before (Normal v) other = absurd (other v refl)
replaced_left before (Return v) other = refl
replaced_left before Break other = refl
replaced_left before Continue other = refl
replaced_left before (Thrown v) other = refl

pub caught_left : (pattern handlers : Option NodeId) (handler : NodeId) (scope : Scope ℕ) (o : Outcome ℕ) → handlers ≡ Some handler → ((v : Value ℕ) → o ≡ Thrown v → ⊥) → caught pattern handlers scope o ≡ End o
caught_left pattern handlers handler scope o is other = rw is (by o other)
  where
    by : (p : Outcome ℕ) → ((v : Value ℕ) → p ≡ Thrown v → ⊥) → caught pattern (Some handler) scope p ≡ End p
    by (Normal v) h = refl
    by (Return v) h = refl
    by Break h = refl
    by Continue h = refl
    by (Thrown v) h = absurd (h v refl)

pub script_left : (nodes : List Node) (o : Outcome ℕ) → ((v : Value ℕ) → o ≡ Thrown v → ⊥) → rest nodes frames.Script o ≡ at_rest Idle
script_left nodes (Normal v) other = refl
script_left nodes (Return v) other = refl
script_left nodes Break other = refl
script_left nodes Continue other = refl
script_left nodes (Thrown v) other = absurd (other v refl)
