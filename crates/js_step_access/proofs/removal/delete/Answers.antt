use Rattle.std.proofs.Common.{true, refl}
use Rattle.js_semantics.specs.Properties.{delete_step}
use Rattle.js_semantics.specs.Prog.{throw}
use Rattle.js_semantics.specs.declared.fault.Fault.TheVariants.{NotAnObject}
use Rattle.js_step_access.specs.Removing.{removed}
use Rattle.js_step_access.proofs.Removals.{delete_ok}
use Rattle.js_step_access.proofs.removal.delete.Goals as goal

pub returns-in-Undefined-clause-does : goal.returns-in-Undefined-clause-does
unfolding delete_step
returns-in-Undefined-clause-does c nodes = rw c.in-Undefined.is (delete_ok nodes _ c.args.key.now (throw NotAnObject) _ _ _ (λ w. refl) (c.throw.ensures.many nodes))

pub returns-in-Null-clause-does : goal.returns-in-Null-clause-does
unfolding delete_step
returns-in-Null-clause-does c nodes = rw c.in-Null.is (delete_ok nodes _ c.args.key.now (throw NotAnObject) _ _ _ (λ w. refl) (c.throw-in-Null.ensures.many nodes))

pub returns-in-Bool-clause-does : goal.returns-in-Bool-clause-does
unfolding delete_step
returns-in-Bool-clause-does c nodes = rw c.in-Bool.is (delete_ok nodes _ c.args.key.now (removed true) _ _ _ (λ w. refl) (c.settle.ensures.does nodes))

pub returns-in-Num-clause-does : goal.returns-in-Num-clause-does
unfolding delete_step
returns-in-Num-clause-does c nodes = rw c.in-Num.is (delete_ok nodes _ c.args.key.now (removed true) _ _ _ (λ w. refl) (c.settle-in-Num.ensures.does nodes))

pub returns-in-Undefined-clause-closed : goal.returns-in-Undefined-clause-closed
returns-in-Undefined-clause-closed c nodes closed of = c.throw.ensures.closed nodes closed

pub returns-in-Null-clause-closed : goal.returns-in-Null-clause-closed
returns-in-Null-clause-closed c nodes closed of = c.throw-in-Null.ensures.closed nodes closed

pub returns-in-Bool-clause-closed : goal.returns-in-Bool-clause-closed
returns-in-Bool-clause-closed c nodes closed of = c.settle.ensures.closed nodes closed

pub returns-in-Num-clause-closed : goal.returns-in-Num-clause-closed
returns-in-Num-clause-closed c nodes closed of = c.settle-in-Num.ensures.closed nodes closed

pub returns-in-Str-clause-closed : goal.returns-in-Str-clause-closed
returns-in-Str-clause-closed c nodes closed of = c.delete_unit.ensures.closed nodes closed

pub returns-in-Ref-clause-closed : goal.returns-in-Ref-clause-closed
returns-in-Ref-clause-closed c nodes closed of = c.delete_at.ensures.closed nodes closed (rw c.in-Ref.is at of)
