use Rattle.world_heap.specs.declared.value.Value.TheVariants.{Ref}
use Rattle.std.proofs.Common.{[], ◌∷◌}
use Rattle.js_semantics.specs.Iteration.{push_item}
use Rattle.js_iterate.proofs.Turns.{then_comes, not_comes}
use Rattle.std.proofs.lemmas.Result.{err_from_is_err_and}
use Rattle.js_iterate.proofs.Lasting.{ended_with, made_with}
use Rattle.js_machine.proofs.Closing.{lasts_on}
use Rattle.js_iterate.specs.Closed.{IsMade}
use Rattle.js_iterate.proofs.filling.push_entry.Goals as goal

pub returns-in-Ok-clause-does : goal.returns-in-Ok-clause-does
returns-in-Ok-clause-does c nodes =
    then_comes nodes c.in_ok-pair.pair (c.args.entry.now.key ∷ c.args.entry.now.value ∷ []) (λ pair p. push_item c.args.array (Ref pair) p) c.args.state.now c.new_array.new.state c.push.new.state _ c.in-Ok.loc c.push.result c.in_ok-pair.ensures (c.in_ok-loc.ensures.does nodes) c.in-Ok.is (c.push.ensures.does nodes)

pub returns-in-Err-clause-does : goal.returns-in-Err-clause-does
returns-in-Err-clause-does c nodes =
    not_comes nodes c.in_ok-pair.pair (c.args.entry.now.key ∷ c.args.entry.now.value ∷ []) (λ pair p. push_item c.args.array (Ref pair) p) c.args.state.now c.new_array.new.state _ c.in-Err.next c.in_ok-pair.ensures (c.in_ok-loc.ensures.does nodes) c.in-Err.is

pub returns-in_err-pair-clause-closed : goal.returns-in_err-pair-clause-closed
returns-in_err-pair-clause-closed c nodes closed unfrozen fit =
    let p = err_from_is_err_and c.from_residual.result c.from_residual.ensures.1 in rw (p.1, p.2) (c.in_err-pair.ensures)

pub returns-in_err-loc-clause-closed : goal.returns-in_err-loc-clause-closed
returns-in_err-loc-clause-closed c nodes closed unfrozen fit =
    let p = err_from_is_err_and c.from_residual-in_err-loc.result c.from_residual-in_err-loc.ensures.1 in rw (p.1, p.2) (c.in_err-loc.ensures.closed nodes closed (rw c.in_ok-pair.ensures (fit.0, (fit.1, tt))))

pub returns-in-Ok-clause-closed : goal.returns-in-Ok-clause-closed
returns-in-Ok-clause-closed c nodes closed unfrozen fit =
    let (went, fits) = made_with IsMade nodes c.args.state.now c.new_array.new.state _ c.in-Ok.loc c.in-Ok.is (c.in_ok-loc.ensures.closed nodes closed (rw c.in_ok-pair.ensures (fit.0, (fit.1, tt)))) in
    lasts_on nodes c.args.state.now c.new_array.new.state c.push.new.state c.push.result went (c.push.ensures.closed nodes went.closed (went.grows.open_array c.args.array unfrozen) fits.0)

pub returns-in-Err-clause-closed : goal.returns-in-Err-clause-closed
returns-in-Err-clause-closed c nodes closed unfrozen fit =
    ended_with IsMade nodes c.args.state.now c.new_array.new.state _ c.in-Err.next c.in-Err.is (c.in_ok-loc.ensures.closed nodes closed (rw c.in_ok-pair.ensures (fit.0, (fit.1, tt))))
