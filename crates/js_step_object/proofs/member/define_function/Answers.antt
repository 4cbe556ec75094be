use Rattle.std.proofs.Common.{None, sym, nat_eq}
use Rattle.js_semantics.specs.Access.{define}
use Rattle.js_semantics.specs.Objects.{make_closure}
use Rattle.js_semantics.specs.Prog.{done}
use Rattle.js_step_object.specs.Members.{member_property}
use Rattle.js_step_object.proofs.Going.{comes_ok, comes_ended, then_does, then_err, then_ok}
use Rattle.std.proofs.lemmas.Result.{err_from_is_err_and}
use Rattle.world_heap.specs.Heaps.{IsNoEnv}
use Rattle.world_heap.specs.Over.{PropertyOver}
use Rattle.js_step_object.specs.Defining.{standing}
use Rattle.js_machine.proofs.Closing.{goes_on, lasts_on}
use Rattle.js_step_object.proofs.Lasting.{member_fits, standing_fits}
use Rattle.js_step_object.proofs.member.define_function.Goals as goal

pub returns-in-Err-clause-does : goal.returns-in-Err-clause-does
returns-in-Err-clause-does c nodes =
    then_err nodes (λ k. make_closure c.args.node c.args.env None k) (λ f. define c.args.object c.args.key (λ old. member_property c.args.part f old) done) c.args.state.now c.closure_of.new.state _ c.in-Err.next (c.in_ok-function.ensures.does nodes) c.in-Err.is

pub returns-in-None-clause-does : goal.returns-in-None-clause-does
returns-in-None-clause-does c nodes =
    then_ok nodes (λ k. make_closure c.args.node c.args.env None k) (λ f. define c.args.object c.args.key (λ old. member_property c.args.part f old) done) c.args.state.now c.closure_of.new.state c.done.new.state _ c.in-Ok.function c.done.result (c.in_ok-function.ensures.does nodes) c.in-Ok.is
    (comes_ok nodes (λ p. define c.args.object c.args.key (λ old. member_property c.args.part c.in-Ok.function old) p) done c.closure_of.new.state c.define.new.state c.done.new.state _ c.done.result (c.in_ok-define.ensures.does nodes (λ old. member_property c.args.part c.in-Ok.function old) (sym c.property_of-property.ensures)) c.in-None.is (c.done.ensures.does nodes))

pub returns-in-Some-clause-does : goal.returns-in-Some-clause-does
returns-in-Some-clause-does c nodes =
    then_does nodes (λ k. make_closure c.args.node c.args.env None k) (λ f. define c.args.object c.args.key (λ old. member_property c.args.part f old) done) c.args.state.now c.closure_of.new.state c.define.new.state _ c.in-Ok.function c.in-Some.next (c.in_ok-function.ensures.does nodes) c.in-Ok.is
    (comes_ended nodes (λ p. define c.args.object c.args.key (λ old. member_property c.args.part c.in-Ok.function old) p) done c.closure_of.new.state c.define.new.state _ c.in-Some.next (c.in_ok-define.ensures.does nodes (λ old. member_property c.args.part c.in-Ok.function old) (sym c.property_of-property.ensures)) c.in-Some.is)

pub returns-in_err-function-clause-closed : goal.returns-in_err-function-clause-closed
returns-in_err-function-clause-closed c nodes closed env =
    let p = err_from_is_err_and c.from_residual.result c.from_residual.ensures.1 in rw (p.1, p.2) (c.in_err-function.ensures.closed nodes closed env tt)

pub returns-in-Err-clause-closed : goal.returns-in-Err-clause-closed
returns-in-Err-clause-closed c nodes closed env =
    c.in_ok-function.ensures.closed nodes closed env tt

pub returns-in_err-define-clause-closed : goal.returns-in_err-define-clause-closed
returns-in_err-define-clause-closed c nodes closed env =
    let went = c.in_ok-function.ensures.closed nodes closed env tt in
    let cells = c.closure_of.new.state.heap.cells in
    let plain = rw c.in-Ok.is at (c.in_ok-function.ensures.fits nodes closed) in
    let fit : PropertyOver (IsNoEnv nat_eq cells) c.property_of-property.result = rw c.property_of-property.ensures (member_fits (IsNoEnv nat_eq cells) c.args.part c.in-Ok.function (standing cells c.args.object c.args.key) plain (standing_fits cells c.args.object c.args.key went.closed.well)) in
    let p = err_from_is_err_and c.from_residual-in_err-define.result c.from_residual-in_err-define.ensures.1 in rw (p.1, p.2) (c.in_err-define.ensures.closed nodes went.closed fit)

pub returns-in-None-clause-closed : goal.returns-in-None-clause-closed
returns-in-None-clause-closed c nodes closed env =
    let went = c.in_ok-function.ensures.closed nodes closed env tt in
    let cells = c.closure_of.new.state.heap.cells in
    let plain = rw c.in-Ok.is at (c.in_ok-function.ensures.fits nodes closed) in
    let fit : PropertyOver (IsNoEnv nat_eq cells) c.property_of-property.result = rw c.property_of-property.ensures (member_fits (IsNoEnv nat_eq cells) c.args.part c.in-Ok.function (standing cells c.args.object c.args.key) plain (standing_fits cells c.args.object c.args.key went.closed.well)) in
    let on = c.in_ok-define.ensures.closed nodes went.closed fit in
    lasts_on nodes c.args.state.now c.closure_of.new.state c.done.new.state c.done.result went
    (lasts_on nodes c.closure_of.new.state c.define.new.state c.done.new.state c.done.result on (c.done.ensures.closed nodes on.closed))

pub returns-in-Some-clause-closed : goal.returns-in-Some-clause-closed
returns-in-Some-clause-closed c nodes closed env =
    let went = c.in_ok-function.ensures.closed nodes closed env tt in
    let cells = c.closure_of.new.state.heap.cells in
    let plain = rw c.in-Ok.is at (c.in_ok-function.ensures.fits nodes closed) in
    let fit : PropertyOver (IsNoEnv nat_eq cells) c.property_of-property.result = rw c.property_of-property.ensures (member_fits (IsNoEnv nat_eq cells) c.args.part c.in-Ok.function (standing cells c.args.object c.args.key) plain (standing_fits cells c.args.object c.args.key went.closed.well)) in
    let on = c.in_ok-define.ensures.closed nodes went.closed fit in
    goes_on nodes c.args.state.now c.closure_of.new.state c.define.new.state went on
