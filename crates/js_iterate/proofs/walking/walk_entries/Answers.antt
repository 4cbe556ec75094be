use Rattle.std.proofs.Common.{[]}
use Rattle.js_semantics.specs.Iteration.{push_entries}
use Rattle.js_iterate.proofs.Turns.{fill_ok, fill_ended, fill_not}
use Rattle.std.proofs.lemmas.Result.{err_from_is_err_and}
use Rattle.js_iterate.proofs.Lasting.{ended_with, entries_grown, made_with}
use Rattle.js_machine.proofs.Closing.{goes_on}
use Rattle.js_iterate.specs.Closed.{IsMade}
use Rattle.js_iterate.proofs.walking.walk_entries.Goals as goal

pub returns-in-Err-clause-does : goal.returns-in-Err-clause-does
returns-in-Err-clause-does c nodes =
    fill_not nodes c.new-empty.result [] (λ array p. push_entries array c.args.entries.now p) c.args.state.now c.new_array.new.state c.new_array.new.state _ c.new-empty.ensures (c.in_ok-array.ensures.does nodes) c.in-Err.next c.in-Err.is

pub returns-in-None-clause-does : goal.returns-in-None-clause-does
returns-in-None-clause-does c nodes =
    fill_ok nodes c.new-empty.result [] (λ array p. push_entries array c.args.entries.now p) c.args.state.now c.new_array.new.state c.push_entries.new.state _ c.new-empty.ensures (c.in_ok-array.ensures.does nodes) c.in-Ok.array _ c.in-Ok.is (c.in_ok-push_entries.ensures.does nodes) c.in-None.is

pub returns-in-Some-clause-does : goal.returns-in-Some-clause-does
returns-in-Some-clause-does c nodes =
    fill_ended nodes c.new-empty.result [] (λ array p. push_entries array c.args.entries.now p) c.args.state.now c.new_array.new.state c.push_entries.new.state _ c.new-empty.ensures (c.in_ok-array.ensures.does nodes) c.in-Ok.array _ c.in-Some.next c.in-Ok.is (c.in_ok-push_entries.ensures.does nodes) c.in-Some.is

pub returns-in_err-array-clause-closed : goal.returns-in_err-array-clause-closed
returns-in_err-array-clause-closed c nodes closed fit =
    let p = err_from_is_err_and c.from_residual.result c.from_residual.ensures.1 in rw (p.1, p.2) (c.in_err-array.ensures.closed nodes closed (rw c.new-empty.ensures tt))

pub returns-in-Err-clause-closed : goal.returns-in-Err-clause-closed
returns-in-Err-clause-closed c nodes closed fit =
    ended_with IsMade nodes c.args.state.now c.new_array.new.state _ c.in-Err.next c.in-Err.is (c.in_ok-array.ensures.closed nodes closed (rw c.new-empty.ensures tt))

pub returns-in_err-push_entries-clause-closed : goal.returns-in_err-push_entries-clause-closed
returns-in_err-push_entries-clause-closed c nodes closed fit =
    let (went, fits) = made_with IsMade nodes c.args.state.now c.new_array.new.state _ c.in-Ok.array c.in-Ok.is (c.in_ok-array.ensures.closed nodes closed (rw c.new-empty.ensures tt)) in
    let p = err_from_is_err_and c.from_residual-in_err-push_entries.result c.from_residual-in_err-push_entries.ensures.1 in rw (p.1, p.2) (c.in_err-push_entries.ensures.closed nodes went.closed fits.1 (entries_grown c.args.state.now.heap.cells c.new_array.new.state.heap.cells went.grows c.args.entries.now fit))

pub returns-in-None-clause-closed : goal.returns-in-None-clause-closed
returns-in-None-clause-closed c nodes closed fit =
    let (went, fits) = made_with IsMade nodes c.args.state.now c.new_array.new.state _ c.in-Ok.array c.in-Ok.is (c.in_ok-array.ensures.closed nodes closed (rw c.new-empty.ensures tt)) in
    let on = c.in_ok-push_entries.ensures.closed nodes went.closed fits.1 (entries_grown c.args.state.now.heap.cells c.new_array.new.state.heap.cells went.grows c.args.entries.now fit) in
    (goes_on nodes c.args.state.now c.new_array.new.state c.push_entries.new.state went on, on.grows.no_env c.in-Ok.array fits.0)

pub returns-in-Some-clause-closed : goal.returns-in-Some-clause-closed
returns-in-Some-clause-closed c nodes closed fit =
    let (went, fits) = made_with IsMade nodes c.args.state.now c.new_array.new.state _ c.in-Ok.array c.in-Ok.is (c.in_ok-array.ensures.closed nodes closed (rw c.new-empty.ensures tt)) in
    goes_on nodes c.args.state.now c.new_array.new.state c.push_entries.new.state went (c.in_ok-push_entries.ensures.closed nodes went.closed fits.1 (entries_grown c.args.state.now.heap.cells c.new_array.new.state.heap.cells went.grows c.args.entries.now fit))
