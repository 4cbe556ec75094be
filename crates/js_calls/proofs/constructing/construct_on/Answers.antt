use Rattle.std.proofs.Common.{arith, ℕ, [], true, refl}
use Rattle.js_names.specs.Patterns.{nodes_of}
use Rattle.js_machine.specs.declared.frame.AfterFrame.TheVariants.{Constructed}
use Rattle.js_calls.proofs.Called.{light_allowed}
use Rattle.js_calls.proofs.Constructed.{no_object, object_ok}
use Rattle.world_heap.specs.declared.cell.Cell.{Cell}
use Rattle.world_heap.specs.declared.cell.Cell.TheVariants.{Object}
use Rattle.js_names.proofs.Growing.{cell_grown}
use Rattle.js_machine.proofs.Closing.{closed_made, lasts_on, made_no_env, values_grown}
use Rattle.js_calls.proofs.constructing.construct_on.Goals as goal

pub returns-in-Ok-clause-does : goal.returns-in-Ok-clause-does
returns-in-Ok-clause-does c =
    object_ok (nodes_of c.args.tree.now) c.args.arguments c.args.node c.args.env c.args.proto c.args.state.now c.make_object.new.self c.invoke.new.state c.in-Ok.object c.invoke.result (rw c.in-Ok.is at c.in_ok-object.ensures) (c.invoke.ensures.does 4 (light_allowed (Constructed c.in-Ok.object) (omega arith)))

pub returns-in-Err-clause-does : goal.returns-in-Err-clause-does
returns-in-Err-clause-does c =
    rw c.stopped.ensures (no_object (nodes_of c.args.tree.now) c.args.arguments c.args.node c.args.env c.args.proto c.args.state.now c.make_object.new.self c.in-Err.stop (rw c.in-Err.is at c.in_ok-object.ensures))

pub returns-in-Ok-clause-closed : goal.returns-in-Ok-clause-closed
returns-in-Ok-clause-closed c closed env proto arguments =
    let nodes = nodes_of c.args.tree.now in
    let old = c.args.state.now in
    let mid = c.make_object.new.self in
    let cell : Cell ℕ = Object (record { proto = c.args.proto; properties = []; extensible = true }) in
    let made = rw c.in-Ok.is at c.in_ok-object.ensures in
    let went = closed_made cell old mid c.in-Ok.object made nodes closed (proto, tt) in
    let object = made_no_env cell old mid c.in-Ok.object made refl in
    lasts_on nodes old mid c.invoke.new.state c.invoke.result went
    (c.invoke.ensures.closed went.closed (cell_grown old.heap.cells mid.heap.cells went.grows c.args.env env, object, values_grown nodes old.heap.cells mid.heap.cells went.grows c.args.arguments arguments) object)
