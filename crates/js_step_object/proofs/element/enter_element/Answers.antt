use Rattle.std.proofs.Common.{List, ℕ, drop, refl}
use Rattle.std.specs.Prelude.{slice_get}
use Rattle.world_heap.specs.declared.value.Value.{Value}
use Rattle.world_heap.specs.declared.value.Value.TheVariants.{Ref}
use Rattle.js_names.specs.Patterns.{nodes_of}
use Rattle.js_semantics.specs.Prog.{Prog, give}
use Rattle.js_semantics.specs.Iteration.{elements_into, push_items, values_of}
use Rattle.js_machine.specs.Parts.{items_of}
use Rattle.js_machine.proofs.Doing.{does_read_ok}
use Rattle.js_step_object.proofs.Pushing.{element_is}
use Rattle.js_step_object.proofs.element.enter_element.Goals as goal

pub returns-in-None-clause-does : goal.returns-in-None-clause-does
returns-in-None-clause-does c =
    let nodes = nodes_of c.args.tree.now in
    let k : List (Value ℕ) → Prog ℕ = λ vs. push_items c.args.array vs (elements_into c.args.array (drop c.args.next (items_of (slice_get nodes c.args.node.0))) c.args.scope (give (Ref c.args.array))) in
    does_read_ok nodes 6 (λ w. values_of (slice_get w.tree c.args.element.0) c.args.element c.args.scope k) (values_of (slice_get nodes c.args.element.0) c.args.element c.args.scope k) c.args.state.now c.enter_one.new.state c.enter_one.result (λ supply. refl)
    (rw (element_is (slice_get nodes c.args.element.0) c.args.element c.args.scope k, ← c.spread_of.ensures, c.in-None.is) (c.enter_one.ensures.does nodes))

pub returns-in-Some-clause-does : goal.returns-in-Some-clause-does
returns-in-Some-clause-does c =
    let nodes = nodes_of c.args.tree.now in
    let k : List (Value ℕ) → Prog ℕ = λ vs. push_items c.args.array vs (elements_into c.args.array (drop c.args.next (items_of (slice_get nodes c.args.node.0))) c.args.scope (give (Ref c.args.array))) in
    does_read_ok nodes 6 (λ w. values_of (slice_get w.tree c.args.element.0) c.args.element c.args.scope k) (values_of (slice_get nodes c.args.element.0) c.args.element c.args.scope k) c.args.state.now c.enter_spread.new.state c.enter_spread.result (λ supply. refl)
    (rw (element_is (slice_get nodes c.args.element.0) c.args.element c.args.scope k, ← c.spread_of.ensures, c.in-Some.is) (c.enter_spread.ensures.does nodes))

pub returns-in-None-clause-closed : goal.returns-in-None-clause-closed
returns-in-None-clause-closed c closed array unfrozen scope =
    c.enter_one.ensures.closed (nodes_of c.args.tree.now) closed array unfrozen scope

pub returns-in-Some-clause-closed : goal.returns-in-Some-clause-closed
returns-in-Some-clause-closed c closed array unfrozen scope =
    c.enter_spread.ensures.closed (nodes_of c.args.tree.now) closed array unfrozen scope
