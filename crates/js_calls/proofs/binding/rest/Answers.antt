use Rattle.std.proofs.Common.{ℕ, false, nat_eq, refl}
use Rattle.std.proofs.lemmas.Result.{err_from_is_err_and}
use Rattle.world_heap.specs.declared.builtin.BuiltIn.TheVariants.{ArrayPrototype}
use Rattle.world_heap.specs.declared.cell.Cell.{Cell}
use Rattle.world_heap.specs.declared.cell.Cell.TheVariants.{Array}
use Rattle.world_heap.specs.Heaps.{Fits}
use Rattle.js_semantics.specs.World.{built_in}
use Rattle.js_machine.specs.Closed.{ValueFits}
use Rattle.js_machine.specs.Does.{world_of}
use Rattle.js_machine.proofs.Closing.{built_in_fits, closed_made, closed_stopped, lasts_on, made_no_env, scope_grown}
use Rattle.js_calls.proofs.Fitting.{drop_fits}
use Rattle.js_calls.proofs.Defaulted.{rest_made, rest_not_made}
use Rattle.js_calls.proofs.binding.rest.Goals as goal

pub returns-in_ok-inner-in-Ok-clause-does : goal.returns-in_ok-inner-in-Ok-clause-does
returns-in_ok-inner-in-Ok-clause-does c nodes is some =
    rest_made nodes c.args.node c.args.at c.args.arguments.now c.args.scope c.args.pattern c.in_ok-items.items c.args.state.now c.make_array.new.self c.bind_part.new.state c.in-Ok.array c.bind_part.result is some c.in_ok-items.ensures (λ supply. rw c.in-Ok.is at (c.in_ok-array.ensures nodes supply)) (rw c.in_ok-inner-in-Ok.ensures at (c.bind_part.ensures.few nodes))

pub returns-in-Err-clause-does : goal.returns-in-Err-clause-does
returns-in-Err-clause-does c nodes is some =
    rw c.stopped.ensures (rest_not_made nodes c.args.node c.args.at c.args.arguments.now c.args.scope c.args.pattern c.in_ok-items.items c.args.state.now c.make_array.new.self c.in-Err.stop is some c.in_ok-items.ensures (λ supply. rw c.in-Err.is at (c.in_ok-array.ensures nodes supply)))

pub returns-in_ok-inner-in-Ok-clause-closed : goal.returns-in_ok-inner-in-Ok-clause-closed
returns-in_ok-inner-in-Ok-clause-closed c nodes closed arguments scope =
    let old = c.args.state.now in
    let mid = c.make_array.new.self in
    let cell : Cell ℕ = Array (built_in ArrayPrototype (world_of nodes (λ n. n) old)) c.in_ok-items.items false in
    let made = rw c.in-Ok.is at (c.in_ok-array.ensures nodes (λ n. n)) in
    let fit : Fits nat_eq old.heap.cells cell = (built_in_fits nodes (λ n. n) old ArrayPrototype closed, rw c.in_ok-items.ensures (drop_fits (ValueFits old.heap.cells) c.args.at c.args.arguments.now arguments)) in
    let went = closed_made cell old mid c.in-Ok.array made nodes closed fit in
    let inside = scope_grown nodes old.heap.cells mid.heap.cells went.grows c.args.scope scope in
    lasts_on nodes old mid c.bind_part.new.state c.bind_part.result went
    (c.bind_part.ensures.closed nodes went.closed inside (made_no_env cell old mid c.in-Ok.array made refl) (rw c.in_ok-inner-in-Ok.ensures inside))

pub returns-in-Err-clause-closed : goal.returns-in-Err-clause-closed
returns-in-Err-clause-closed c nodes closed arguments scope =
    let old = c.args.state.now in
    closed_stopped nodes (Array (built_in ArrayPrototype (world_of nodes (λ n. n) old)) c.in_ok-items.items false) old c.make_array.new.self c.in-Err.stop closed (rw c.in-Err.is at (c.in_ok-array.ensures nodes (λ n. n)))

pub returns-in_err-array-clause-closed : goal.returns-in_err-array-clause-closed
returns-in_err-array-clause-closed c nodes closed arguments scope =
    let old = c.args.state.now in
    let p = err_from_is_err_and c.from_residual-in_err-array.result c.from_residual-in_err-array.ensures.1 in
    rw (p.1, p.2) (c.in_err-array.ensures nodes (λ n. n) (built_in_fits nodes (λ n. n) old ArrayPrototype closed, rw c.in_ok-items.ensures (drop_fits (ValueFits old.heap.cells) c.args.at c.args.arguments.now arguments)))
