use Rattle.std.proofs.Common.{None, Some, Ok, Err, true, false, codes}
use Rattle.world_heap.specs.declared.value.Value.TheVariants.{Ref}
use Rattle.world_heap.specs.declared.value.Property.TheVariants.{Data}
use Rattle.js_semantics.specs.Objects.{make_closure, make_object}
use Rattle.js_step_object.proofs.Going.{is_made, is_defined}
use Rattle.js_step_object.proofs.Making.{function_none, function_first, function_ok, function_last}
use Rattle.std.proofs.lemmas.Result.{err_from_is_err_and}
use Rattle.js_machine.proofs.Closing.{goes_on}
use Rattle.js_step_object.proofs.functions.make_function.Goals as goal

pub returns-in-Err-clause-does : goal.returns-in-Err-clause-does
returns-in-Err-clause-does c nodes =
    let closed = is_made nodes (λ k. make_closure c.args.node c.args.env None k) c.args.state.now c.closure_of.new.state _ (Err c.in-Err.next) (c.in_ok-function.ensures.does nodes) c.in-Err.is in
    function_none nodes c.args.node c.args.env c.args.state.now c.closure_of.new.state c.in-Err.next closed

pub returns-in-Err-2-clause-does : goal.returns-in-Err-2-clause-does
returns-in-Err-2-clause-does c nodes =
    let closed = is_made nodes (λ k. make_closure c.args.node c.args.env None k) c.args.state.now c.closure_of.new.state _ (Ok c.in-Ok.function) (c.in_ok-function.ensures.does nodes) c.in-Ok.is in
    let made = is_made nodes (λ k. make_object k) c.closure_of.new.state c.plain_object.new.state _ (Err c.in-Err-2.next) (c.in_ok-proto.ensures.does nodes) c.in-Err-2.is in
    function_first nodes c.args.node c.args.env c.args.state.now c.closure_of.new.state c.closure_of.new.state c.plain_object.new.state c.in-Ok.function c.in-Ok.function closed c.in-Err-2.next made

pub returns-in-None-clause-does : goal.returns-in-None-clause-does
returns-in-None-clause-does c nodes =
    let closed = is_made nodes (λ k. make_closure c.args.node c.args.env None k) c.args.state.now c.closure_of.new.state _ (Ok c.in-Ok.function) (c.in_ok-function.ensures.does nodes) c.in-Ok.is in
    let made = is_made nodes (λ k. make_object k) c.closure_of.new.state c.plain_object.new.state _ (Ok c.in-Ok-2.proto) (c.in_ok-proto.ensures.does nodes) c.in-Ok-2.is in
    let leads = is_defined nodes c.in-Ok.function (codes "prototype") (Data (Ref c.in-Ok-2.proto) true false false) c.plain_object.new.state c.lead_to.new.state _ None (c.in_ok-lead_to.ensures.does nodes) c.in-None.is in
    function_ok nodes c.args.node c.args.env c.args.state.now c.closure_of.new.state c.plain_object.new.state c.lead_to.new.state c.in-Ok.function c.in-Ok-2.proto closed made leads

pub returns-in-Some-clause-does : goal.returns-in-Some-clause-does
returns-in-Some-clause-does c nodes =
    let closed = is_made nodes (λ k. make_closure c.args.node c.args.env None k) c.args.state.now c.closure_of.new.state _ (Ok c.in-Ok.function) (c.in_ok-function.ensures.does nodes) c.in-Ok.is in
    let made = is_made nodes (λ k. make_object k) c.closure_of.new.state c.plain_object.new.state _ (Ok c.in-Ok-2.proto) (c.in_ok-proto.ensures.does nodes) c.in-Ok-2.is in
    let leads = is_defined nodes c.in-Ok.function (codes "prototype") (Data (Ref c.in-Ok-2.proto) true false false) c.plain_object.new.state c.lead_to.new.state _ (Some c.in-Some.next) (c.in_ok-lead_to.ensures.does nodes) c.in-Some.is in
    function_last nodes c.args.node c.args.env c.args.state.now c.closure_of.new.state c.plain_object.new.state c.lead_to.new.state c.in-Ok.function c.in-Ok-2.proto closed c.in-Some.next made leads

pub returns-in_err-function-clause-closed : goal.returns-in_err-function-clause-closed
returns-in_err-function-clause-closed c nodes closed env =
    let p = err_from_is_err_and c.from_residual.result c.from_residual.ensures.1 in rw (p.1, p.2) (c.in_err-function.ensures.closed nodes closed env tt)

pub returns-in-Err-clause-closed : goal.returns-in-Err-clause-closed
returns-in-Err-clause-closed c nodes closed env =
    c.in_ok-function.ensures.closed nodes closed env tt

pub returns-in_err-proto-clause-closed : goal.returns-in_err-proto-clause-closed
returns-in_err-proto-clause-closed c nodes closed env =
    let went = c.in_ok-function.ensures.closed nodes closed env tt in
    let p = err_from_is_err_and c.from_residual-in_err-proto.result c.from_residual-in_err-proto.ensures.1 in rw (p.1, p.2) (c.in_err-proto.ensures.closed nodes went.closed)

pub returns-in-Err-2-clause-closed : goal.returns-in-Err-2-clause-closed
returns-in-Err-2-clause-closed c nodes closed env =
    let went = c.in_ok-function.ensures.closed nodes closed env tt in
    goes_on nodes c.args.state.now c.closure_of.new.state c.plain_object.new.state went (c.in_ok-proto.ensures.closed nodes went.closed)

pub returns-in_err-lead_to-clause-closed : goal.returns-in_err-lead_to-clause-closed
returns-in_err-lead_to-clause-closed c nodes closed env =
    let went = c.in_ok-function.ensures.closed nodes closed env tt in
    let on = c.in_ok-proto.ensures.closed nodes went.closed in
    let p = err_from_is_err_and c.from_residual-in_err-lead_to.result c.from_residual-in_err-lead_to.ensures.1 in rw (p.1, p.2) (c.in_err-lead_to.ensures.closed nodes on.closed (rw c.in-Ok-2.is at (c.in_ok-proto.ensures.fits nodes went.closed)))

pub returns-in-None-clause-closed : goal.returns-in-None-clause-closed
returns-in-None-clause-closed c nodes closed env =
    let went = c.in_ok-function.ensures.closed nodes closed env tt in
    let on = c.in_ok-proto.ensures.closed nodes went.closed in
    let far = c.in_ok-lead_to.ensures.closed nodes on.closed (rw c.in-Ok-2.is at (c.in_ok-proto.ensures.fits nodes went.closed)) in
    goes_on nodes c.args.state.now c.closure_of.new.state c.lead_to.new.state went (goes_on nodes c.closure_of.new.state c.plain_object.new.state c.lead_to.new.state on far)

pub returns-in-Some-clause-closed : goal.returns-in-Some-clause-closed
returns-in-Some-clause-closed c nodes closed env =
    let went = c.in_ok-function.ensures.closed nodes closed env tt in
    let on = c.in_ok-proto.ensures.closed nodes went.closed in
    let far = c.in_ok-lead_to.ensures.closed nodes on.closed (rw c.in-Ok-2.is at (c.in_ok-proto.ensures.fits nodes went.closed)) in
    goes_on nodes c.args.state.now c.closure_of.new.state c.lead_to.new.state went (goes_on nodes c.closure_of.new.state c.plain_object.new.state c.lead_to.new.state on far)

pub returns-in-None-clause-fits : goal.returns-in-None-clause-fits
returns-in-None-clause-fits c nodes closed env =
    let went = c.in_ok-function.ensures.closed nodes closed env tt in
    let on = c.in_ok-proto.ensures.closed nodes went.closed in
    let far = c.in_ok-lead_to.ensures.closed nodes on.closed (rw c.in-Ok-2.is at (c.in_ok-proto.ensures.fits nodes went.closed)) in
    far.grows.no_env c.in-Ok.function (on.grows.no_env c.in-Ok.function (rw c.in-Ok.is at (c.in_ok-function.ensures.fits nodes closed)))
