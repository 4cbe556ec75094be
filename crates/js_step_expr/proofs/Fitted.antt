-- What fits where a row of an operator goes on.
use Rattle.std.proofs.Common.{◌≡◌, ℕ, List, Option, Some, None, Bool, true, false, if◌then◌else◌, nat_eq, slice_get, subst}
use Rattle.world_heap.specs.declared.value.Value.{Value}
use Rattle.world_heap.specs.declared.value.Value.TheVariants.{Undefined, Null, Bool as Boolean, Num, Str, Ref}
use Rattle.world_heap.specs.declared.cell.Cell.{Cell}
use Rattle.world_heap.specs.Heaps.{IsNoEnv}
use Rattle.js_tree.specs.declared.node.NodeId.{NodeId}
use Rattle.js_tree.specs.declared.node.Node.{Node}
use Rattle.js_tree.specs.declared.node.Node.TheVariants as kinds
use Rattle.js_semantics.specs.World.{World, cell_at}
use Rattle.js_semantics.specs.Properties.{is_symbol, object_of}
use Rattle.js_machine.specs.Closed.{HasName, IsNamed, ValueFits}
use Rattle.js_step_expr.specs.declared.targets.Target.TheVariants.{Name, Dot}
use Rattle.js_step_expr.specs.Targets.{target_in}

name_has : (n : Option Node) → Name ≡ target_in n → HasName n
unfolding target_in
name_has (Some (kinds.Name name)) e = tt
name_has (Some (kinds.Dot object name)) e = tt
name_has (Some (kinds.Index object key)) e = absurd (cc e)
name_has other e = absurd (cc e)

dot_has : (object : NodeId) (n : Option Node) → Dot object ≡ target_in n → HasName n
unfolding target_in
dot_has object (Some (kinds.Name name)) e = tt
dot_has object (Some (kinds.Dot other name)) e = tt
dot_has object (Some (kinds.Index other key)) e = absurd (cc e)
dot_has object other e = absurd (cc e)

-- a reference by a name has one (ECMA-262, 6.2.5)
pub name_named : (nodes : List Node) (node : NodeId) → Name ≡ target_in (slice_get nodes node.0) → IsNamed nodes node
name_named nodes node e = name_has (slice_get nodes node.0) e

pub dot_named : (nodes : List Node) (node object : NodeId) → Dot object ≡ target_in (slice_get nodes node.0) → IsNamed nodes node
dot_named nodes node object e = dot_has object (slice_get nodes node.0) e

-- the object that a value is stands
pub object_fits : (cells : List (ℕ × Cell ℕ)) (v : Value ℕ) (w : World ℕ) (loc : ℕ) → ValueFits cells v → object_of v w ≡ Some loc → IsNoEnv nat_eq cells loc
object_fits cells Undefined w loc h e = absurd (cc e)
object_fits cells Null w loc h e = absurd (cc e)
object_fits cells (Boolean b) w loc h e = absurd (cc e)
object_fits cells (Num n) w loc h e = absurd (cc e)
object_fits cells (Str t) w loc h e = absurd (cc e)
object_fits cells (Ref l) w loc h e = by (is_symbol (cell_at l w)) e
  where
    by : (b : Bool) → (if b then None else Some l) ≡ Some loc → IsNoEnv nat_eq cells loc
    by true e = absurd (cc e)
    by false e = let same : l ≡ loc = cc e in subst (IsNoEnv nat_eq cells) same h
