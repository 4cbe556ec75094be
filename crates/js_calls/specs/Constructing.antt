-- What is constructed with `new`, by what makes it (ECMA-262, 7.2.4: IsConstructor; 10.2.2).
use Rattle.std.specs.Prelude.{ℕ, List, [], Option, Some, None, Bool, true, false, codes, slice_get}
use Rattle.world_heap.specs.declared.value.Value.{Value}
use Rattle.world_heap.specs.declared.value.Value.TheVariants.{Undefined, Ref}
use Rattle.world_heap.specs.declared.cell.Cell.{Cell}
use Rattle.world_heap.specs.declared.cell.Cell.TheVariants as cells
use Rattle.world_heap.specs.Table.{found_under}
use Rattle.js_semantics.specs.declared.fault.Fault.TheVariants.{NotAConstructor}
use Rattle.js_tree.specs.declared.node.Node.{Node}
use Rattle.js_semantics.specs.World.{World}
use Rattle.js_semantics.specs.Prog.{Prog, Enter, Read, Native as NativeRequest, alloc, on_value, throw}
use Rattle.js_semantics.specs.Access.{invoke}
use Rattle.js_semantics.specs.Natives.{is_error_function}
use Rattle.js_semantics.specs.Objects.{constructed, is_constructor, prototype_in}
use Rattle.js_calls.specs.declared.constructing.Constructor.{Constructor}
use Rattle.js_calls.specs.declared.constructing.Constructor.TheVariants.{Closure, Native, Nothing}

-- what the closure of a node makes, where its function is a constructor
unfoldable pub closure_maker : Bool → ℕ → ℕ → Constructor ℕ
closure_maker true node env = Closure node env
closure_maker false node env = Nothing

unfoldable pub native_maker : Bool → ℕ → Constructor ℕ
native_maker true id = Native id
native_maker false id = Nothing

-- what a cell makes
unfoldable pub constructor_in : List Node → Option (Cell ℕ) → Constructor ℕ
constructor_in nodes (Some (cells.Closure body node env kept)) = closure_maker (is_constructor (slice_get nodes node)) node env
constructor_in nodes (Some (cells.Native body id kept)) = native_maker (is_error_function id) id
constructor_in nodes other = Nothing

-- the prototype of the objects that it makes
unfoldable pub made_prototype : Option (Cell ℕ) → World ℕ → Option ℕ
made_prototype (Some (cells.Closure body node env kept)) w = prototype_in (found_under body.properties (codes "prototype")) w
made_prototype other w = None

-- constructs an object, and goes on with it
unfoldable pub construct_by : Constructor ℕ → Option ℕ → List (Value ℕ) → (Value ℕ → Prog ℕ) → Prog ℕ
construct_by (Closure node env) proto arguments k =
    alloc (cells.Object (record { proto = proto; properties = []; extensible = true })) (λ loc. invoke node env (Ref loc) arguments (on_value (λ v. Read (λ after. k (constructed loc v after)))))
construct_by (Native id) proto arguments k = Enter (NativeRequest id Undefined arguments) (on_value k)
construct_by Nothing proto arguments k = throw NotAConstructor
