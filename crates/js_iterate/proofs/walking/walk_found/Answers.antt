use Rattle.js_iterate.proofs.Walks.{found_values, found_entries, found_nothing}
use Rattle.js_machine.proofs.Closing.{stays_closed}
use Rattle.js_iterate.proofs.walking.walk_found.Goals as goal

pub returns-in-Values-clause-does : goal.returns-in-Values-clause-does
returns-in-Values-clause-does c nodes = found_values nodes c.args.loc c.args.found.now _ c.as_slice.result.now c.args.state.now c.walk_values.new.state c.walk_values.result c.in-Values.is c.as_slice.ensures (c.walk_values.ensures.does nodes)

pub returns-in-Entries-clause-does : goal.returns-in-Entries-clause-does
returns-in-Entries-clause-does c nodes = found_entries nodes c.args.loc c.args.found.now _ c.as_slice-in-Entries.result.now c.args.state.now c.walk_entries.new.state c.walk_entries.result c.in-Entries.is c.as_slice-in-Entries.ensures (c.walk_entries.ensures.does nodes)

pub returns-in-Nothing-clause-does : goal.returns-in-Nothing-clause-does
returns-in-Nothing-clause-does c nodes = found_nothing nodes c.args.loc c.args.found.now c.args.state.now c.refuse.new.state c.refuse.result c.in-Nothing.is (c.refuse.ensures.does nodes)

pub returns-in-Itself-clause-closed : goal.returns-in-Itself-clause-closed
returns-in-Itself-clause-closed c nodes closed fit stands =
    (stays_closed nodes c.args.state.now closed, stands)

pub returns-in-Values-clause-closed : goal.returns-in-Values-clause-closed
returns-in-Values-clause-closed c nodes closed fit stands =
    c.walk_values.ensures.closed nodes closed (rw c.as_slice.ensures (rw c.in-Values.is at fit))

pub returns-in-Entries-clause-closed : goal.returns-in-Entries-clause-closed
returns-in-Entries-clause-closed c nodes closed fit stands =
    c.walk_entries.ensures.closed nodes closed (rw c.as_slice-in-Entries.ensures (rw c.in-Entries.is at fit))

pub returns-in-Nothing-clause-closed : goal.returns-in-Nothing-clause-closed
returns-in-Nothing-clause-closed c nodes closed fit stands =
    c.refuse.ensures.closed nodes closed
