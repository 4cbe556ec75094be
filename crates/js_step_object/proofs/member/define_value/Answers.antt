use Rattle.std.proofs.Common.{refl}
use Rattle.js_semantics.specs.Access.{define}
use Rattle.js_semantics.specs.Prog.{done}
use Rattle.js_semantics.specs.Properties.{plain}
use Rattle.js_step_object.proofs.Going.{comes_ok, comes_ended}
use Rattle.std.proofs.lemmas.Result.{err_from_is_err_and}
use Rattle.js_machine.proofs.Closing.{lasts_on}
use Rattle.js_step_object.proofs.member.define_value.Goals as goal

pub returns-in-None-clause-does : goal.returns-in-None-clause-does
returns-in-None-clause-does c nodes =
    comes_ok nodes (λ p. define c.args.object c.args.key (λ old. plain c.args.value) p) done c.args.state.now c.define.new.state c.done.new.state _ c.done.result (c.in_ok-define.ensures.does nodes (λ old. plain c.args.value) refl) c.in-None.is (c.done.ensures.does nodes)

pub returns-in-Some-clause-does : goal.returns-in-Some-clause-does
returns-in-Some-clause-does c nodes =
    comes_ended nodes (λ p. define c.args.object c.args.key (λ old. plain c.args.value) p) done c.args.state.now c.define.new.state _ c.in-Some.next (c.in_ok-define.ensures.does nodes (λ old. plain c.args.value) refl) c.in-Some.is

pub returns-in_err-define-clause-closed : goal.returns-in_err-define-clause-closed
returns-in_err-define-clause-closed c nodes closed fit =
    let p = err_from_is_err_and c.from_residual.result c.from_residual.ensures.1 in rw (p.1, p.2) (c.in_err-define.ensures.closed nodes closed fit)

pub returns-in-None-clause-closed : goal.returns-in-None-clause-closed
returns-in-None-clause-closed c nodes closed fit =
    let went = c.in_ok-define.ensures.closed nodes closed fit in
    lasts_on nodes c.args.state.now c.define.new.state c.done.new.state c.done.result went (c.done.ensures.closed nodes went.closed)

pub returns-in-Some-clause-closed : goal.returns-in-Some-clause-closed
returns-in-Some-clause-closed c nodes closed fit =
    c.in_ok-define.ensures.closed nodes closed fit
