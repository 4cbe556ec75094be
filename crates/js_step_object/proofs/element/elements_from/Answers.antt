use Rattle.std.proofs.Common.{◌≡◌, ◌∷◌, drop, IfOk, sym, subst}
use Rattle.std.specs.Prelude.{slice_get}
use Rattle.world_heap.specs.declared.value.Value.TheVariants.{Ref}
use Rattle.js_names.specs.Patterns.{nodes_of}
use Rattle.js_semantics.specs.Iteration.{elements_into}
use Rattle.js_semantics.specs.Prog.{give}
use Rattle.js_machine.specs.Does.{Does}
use Rattle.js_machine.specs.Parts.{items_of}
use Rattle.js_step_object.proofs.element.elements_from.Goals as goal

pub returns-in-Some-clause-does : goal.returns-in-Some-clause-does
returns-in-Some-clause-does c =
    let nodes = nodes_of c.args.tree.now in
    let list : drop c.args.at (items_of (slice_get nodes c.args.node.0)) ≡ c.in-Some.element ∷ drop c.in-Some.next (items_of (slice_get nodes c.args.node.0)) = cc (c.items_of.ensures, c.in-Some.ensures.0) in
    subst (λ elements. IfOk c.enter_element.result (λ next. Does nodes 6 (elements_into c.args.array elements c.args.scope (give (Ref c.args.array))) c.args.state.now c.enter_element.new.state next)) (sym list) c.enter_element.ensures.does

pub returns-in-Some-clause-closed : goal.returns-in-Some-clause-closed
returns-in-Some-clause-closed c closed array unfrozen scope =
    c.enter_element.ensures.closed closed array unfrozen scope

pub returns-in-None-clause-closed : goal.returns-in-None-clause-closed
returns-in-None-clause-closed c closed array unfrozen scope =
    c.give.ensures.closed (nodes_of c.args.tree.now) closed array
