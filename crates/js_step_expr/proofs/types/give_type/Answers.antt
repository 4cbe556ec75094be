use Rattle.std.proofs.Common.{sym, ap}
use Rattle.world_heap.specs.declared.value.Value.TheVariants.{Str}
use Rattle.js_semantics.specs.Prog.{give}
use Rattle.js_machine.specs.Does.{world_of}
use Rattle.js_machine.proofs.Doing.{does_read_ok}
use Rattle.std.proofs.lemmas.Result.{err_from_is_err_and}
use Rattle.js_step_expr.proofs.types.give_type.Goals as goal

pub returns-clause-few : goal.returns-clause-few
returns-clause-few c nodes = does_read_ok nodes 2 _ _ _ _ _ (λ supply. ap (λ t. give (Str t)) (sym (c.in_ok-text.ensures.is (world_of nodes supply c.args.state.now)))) (c.give.ensures.few nodes)

pub returns-clause-some : goal.returns-clause-some
returns-clause-some c nodes = does_read_ok nodes 4 _ _ _ _ _ (λ supply. ap (λ t. give (Str t)) (sym (c.in_ok-text.ensures.is (world_of nodes supply c.args.state.now)))) (c.give.ensures.some nodes)

pub returns-clause-many : goal.returns-clause-many
returns-clause-many c nodes = does_read_ok nodes 6 _ _ _ _ _ (λ supply. ap (λ t. give (Str t)) (sym (c.in_ok-text.ensures.is (world_of nodes supply c.args.state.now)))) (c.give.ensures.many nodes)

pub returns-in_err-text-clause-closed : goal.returns-in_err-text-clause-closed
returns-in_err-text-clause-closed c nodes closed value =
    let p = err_from_is_err_and c.from_residual.result c.from_residual.ensures.1 in rw (p.1, p.2) c.in_err-text.ensures.closed

pub returns-clause-closed : goal.returns-clause-closed
returns-clause-closed c nodes closed value = c.give.ensures.closed nodes closed tt
