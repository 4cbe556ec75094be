-- Cells that a row makes.
use Rattle.std.proofs.Common.{◌≡◌, ℕ, List, [], Option, Some, None, Ok, Err, true, false, codes, refl, sym, ap, subst, arith}
use Rattle.js_tree.specs.declared.node.Node.{Node}
use Rattle.js_tree.specs.declared.node.NodeId.{NodeId}
use Rattle.world_heap.specs.declared.value.Value.{Value}
use Rattle.world_heap.specs.declared.value.Value.TheVariants.{Ref}
use Rattle.world_heap.specs.declared.value.Property.TheVariants.{Data}
use Rattle.world_heap.specs.declared.builtin.BuiltIn.TheVariants.{ArrayPrototype, FunctionPrototype, ObjectPrototype}
use Rattle.world_heap.specs.declared.cell.Cell.{Cell}
use Rattle.world_heap.specs.declared.cell.Cell.TheVariants.{Array, Object, Closure}
use Rattle.world_heap.specs.Heaps.{units_of}
use Rattle.world_log.specs.declared.entry.Product.TheVariants.{Stopped}
use Rattle.world_log.specs.declared.entry.Stop.{Stop}
use Rattle.js_semantics.specs.World.{World, built_in}
use Rattle.js_semantics.specs.Prog.{Prog, Read, alloc}
use Rattle.js_semantics.specs.Access.{define, make_array}
use Rattle.js_semantics.specs.Objects.{bare, make_closure, make_function, make_object}
use Rattle.js_machine.specs.declared.state.State.{State}
use Rattle.js_machine.specs.declared.state.Next.{Next}
use Rattle.js_machine.specs.declared.state.Next.TheVariants.{Made}
use Rattle.js_machine.specs.Does.{Allocates, Does, Moves, world_of}
use Rattle.js_machine.proofs.Doing.{does_move, does_read, moves_on, moves_read}
use Rattle.js_machine.proofs.Allocating.{moves_alloc, not_alloc}
use Rattle.js_step_object.specs.Defining.{Defines, Makes}

-- a cell that the world tells
moves_make : (nodes : List Node) (f : World ℕ → Cell ℕ) (cell : Cell ℕ) (k : ℕ → Prog ℕ) (old new : State) (loc : ℕ) → units_of cell ≡ 0 → ((supply : ℕ → ℕ) → f (world_of nodes supply old) ≡ cell) → Allocates cell old new (Ok loc) → Moves nodes (Read (λ w. alloc (f w) k)) old (k loc) new
moves_make nodes f cell k old new loc free is made =
    moves_on nodes (Read (λ w. alloc (f w) k)) (alloc cell k) (k loc) old old new (moves_read nodes (λ w. alloc (f w) k) (alloc cell k) old (λ supply. ap (λ c. alloc c k) (is supply))) (moves_alloc nodes cell k old new loc free made)

-- or the world stops
stops_make : (nodes : List Node) (f : World ℕ → Cell ℕ) (cell : Cell ℕ) (k : ℕ → Prog ℕ) (old new : State) (stop : Stop) → ((supply : ℕ → ℕ) → f (world_of nodes supply old) ≡ cell) → Allocates cell old new (Err stop) → Does nodes 2 (Read (λ w. alloc (f w) k)) old new (Made (Stopped stop))
stops_make nodes f cell k old new stop is made =
    does_read nodes 2 (λ w. alloc (f w) k) (alloc cell k) old new (Made (Stopped stop)) (λ supply. ap (λ c. alloc c k) (is supply)) (not_alloc nodes 2 cell k old new stop (omega arith) made)

pub closure_ok : (nodes : List Node) (node : NodeId) (env : ℕ) (receiver : Option (Value ℕ)) (old new : State) (loc : ℕ) → ((supply : ℕ → ℕ) → Allocates (Closure (bare FunctionPrototype (world_of nodes supply old)) node.0 env receiver) old new (Ok loc)) → Makes nodes (λ k. make_closure node env receiver k) old new (Ok loc)
unfolding make_closure
closure_ok nodes node env receiver old new loc made = λ k.
    moves_make nodes (λ w. Closure (bare FunctionPrototype w) node.0 env receiver) (Closure (bare FunctionPrototype (world_of nodes (λ m. m) old)) node.0 env receiver) k old new loc refl (λ supply. refl) (made (λ m. m))

pub closure_err : (nodes : List Node) (node : NodeId) (env : ℕ) (receiver : Option (Value ℕ)) (old new : State) (stop : Stop) (next : Next) → ((supply : ℕ → ℕ) → Allocates (Closure (bare FunctionPrototype (world_of nodes supply old)) node.0 env receiver) old new (Err stop)) → next ≡ Made (Stopped stop) → Makes nodes (λ k. make_closure node env receiver k) old new (Err next)
unfolding make_closure
closure_err nodes node env receiver old new stop next made told = λ k.
    rw told (stops_make nodes (λ w. Closure (bare FunctionPrototype w) node.0 env receiver) (Closure (bare FunctionPrototype (world_of nodes (λ m. m) old)) node.0 env receiver) k old new stop (λ supply. refl) (made (λ m. m)))

pub object_ok : (nodes : List Node) (proto : Option ℕ) (old new : State) (loc : ℕ) → ((supply : ℕ → ℕ) → proto ≡ built_in ObjectPrototype (world_of nodes supply old)) → Allocates (Object (record { proto = proto; properties = []; extensible = true })) old new (Ok loc) → Makes nodes (λ k. make_object k) old new (Ok loc)
unfolding make_object
object_ok nodes proto old new loc is made = λ k.
    moves_make nodes (λ w. Object (bare ObjectPrototype w)) (Object (record { proto = proto; properties = []; extensible = true })) k old new loc refl (λ supply. ap (λ o. Object (record { proto = o; properties = []; extensible = true })) (sym (is supply))) made

pub object_err : (nodes : List Node) (proto : Option ℕ) (old new : State) (stop : Stop) (next : Next) → ((supply : ℕ → ℕ) → proto ≡ built_in ObjectPrototype (world_of nodes supply old)) → Allocates (Object (record { proto = proto; properties = []; extensible = true })) old new (Err stop) → next ≡ Made (Stopped stop) → Makes nodes (λ k. make_object k) old new (Err next)
unfolding make_object
object_err nodes proto old new stop next is made told = λ k.
    rw told (stops_make nodes (λ w. Object (bare ObjectPrototype w)) (Object (record { proto = proto; properties = []; extensible = true })) k old new stop (λ supply. ap (λ o. Object (record { proto = o; properties = []; extensible = true })) (sym (is supply))) made)

-- a function with its prototype object
module _ (nodes : List Node) (node : NodeId) (env : ℕ) (old mid late new : State) (loc proto : ℕ) (closed : Makes nodes (λ k. make_closure node env None k) old mid (Ok loc)) where
  pub function_first : (next : Next) → Makes nodes (λ k. make_object k) mid new (Err next) → Makes nodes (λ k. make_function node env k) old new (Err next)
  unfolding make_function
  function_first next made = λ k.
      let inner : ℕ → ℕ → Prog ℕ = λ l o. define l (codes "prototype") (λ before. Data (Ref o) true false false) (k l) in
      does_move nodes 2 (make_function node env k) (make_object (inner loc)) old mid new next (closed (λ l. make_object (inner l))) (made (inner loc))

  pub function_ok : Makes nodes (λ k. make_object k) mid late (Ok proto) → Defines nodes loc (codes "prototype") (Data (Ref proto) true false false) late new None → Makes nodes (λ k. make_function node env k) old new (Ok loc)
  unfolding make_function
  function_ok made defined = λ k.
      let inner : ℕ → ℕ → Prog ℕ = λ l o. define l (codes "prototype") (λ before. Data (Ref o) true false false) (k l) in
      moves_on nodes (make_function node env k) (make_object (inner loc)) (k loc) old mid new (closed (λ l. make_object (inner l)))
      (moves_on nodes (make_object (inner loc)) (inner loc proto) (k loc) mid late new (made (inner loc)) (defined (λ before. Data (Ref proto) true false false) refl (k loc)))

  pub function_last : (next : Next) → Makes nodes (λ k. make_object k) mid late (Ok proto) → Defines nodes loc (codes "prototype") (Data (Ref proto) true false false) late new (Some next) → Makes nodes (λ k. make_function node env k) old new (Err next)
  unfolding make_function
  function_last next made defined = λ k.
      let inner : ℕ → ℕ → Prog ℕ = λ l o. define l (codes "prototype") (λ before. Data (Ref o) true false false) (k l) in
      does_move nodes 2 (make_function node env k) (make_object (inner loc)) old mid new next (closed (λ l. make_object (inner l)))
      (does_move nodes 2 (make_object (inner loc)) (inner loc proto) mid late new next (made (inner loc)) (defined (λ before. Data (Ref proto) true false false) refl (k loc)))

-- no closure is made
pub function_none : (nodes : List Node) (node : NodeId) (env : ℕ) (old new : State) (next : Next) → Makes nodes (λ k. make_closure node env None k) old new (Err next) → Makes nodes (λ k. make_function node env k) old new (Err next)
unfolding make_function
function_none nodes node env old new next h = λ k. h (λ loc. make_object (λ proto. define loc (codes "prototype") (λ before. Data (Ref proto) true false false) (k loc)))

-- an array without elements
pub array_ok : (nodes : List Node) (items : List (Value ℕ)) (old new : State) (loc : ℕ) → items ≡ [] → ((supply : ℕ → ℕ) → Allocates (Array (built_in ArrayPrototype (world_of nodes supply old)) items false) old new (Ok loc)) → Makes nodes (λ k. make_array [] k) old new (Ok loc)
unfolding make_array
array_ok nodes items old new loc none made = λ k.
    moves_make nodes (λ w. Array (built_in ArrayPrototype w) [] false) (Array (built_in ArrayPrototype (world_of nodes (λ m. m) old)) [] false) k old new loc refl (λ supply. refl) (subst (λ vs. Allocates (Array (built_in ArrayPrototype (world_of nodes (λ m. m) old)) vs false) old new (Ok loc)) none (made (λ m. m)))

pub array_err : (nodes : List Node) (items : List (Value ℕ)) (old new : State) (stop : Stop) (next : Next) → items ≡ [] → ((supply : ℕ → ℕ) → Allocates (Array (built_in ArrayPrototype (world_of nodes supply old)) items false) old new (Err stop)) → next ≡ Made (Stopped stop) → Makes nodes (λ k. make_array [] k) old new (Err next)
unfolding make_array
array_err nodes items old new stop next none made told = λ k.
    rw told (stops_make nodes (λ w. Array (built_in ArrayPrototype w) [] false) (Array (built_in ArrayPrototype (world_of nodes (λ m. m) old)) [] false) k old new stop (λ supply. refl) (subst (λ vs. Allocates (Array (built_in ArrayPrototype (world_of nodes (λ m. m) old)) vs false) old new (Err stop)) none (made (λ m. m))))
