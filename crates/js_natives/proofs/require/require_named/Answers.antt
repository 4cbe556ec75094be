use Rattle.std.proofs.Common.{ap}
use Rattle.js_natives.specs.Arguments.{named}
use Rattle.js_natives.proofs.Saying.{does_same}
use Rattle.js_natives.proofs.require.require_named.Goals as goal

pub returns-in-Some-clause-does : goal.returns-in-Some-clause-does
returns-in-Some-clause-does c nodes = does_same nodes 6 _ _ c.args.state.now c.at_location.new.state c.at_location.result (ap (λ m. named c.args.state.now.kind m c.args.name.now) c.in-Some.is) (c.at_location.ensures.does nodes)

pub returns-in-None-clause-does : goal.returns-in-None-clause-does
returns-in-None-clause-does c nodes = does_same nodes 6 _ _ c.args.state.now c.missing.new.state c.missing.result (ap (λ m. named c.args.state.now.kind m c.args.name.now) c.in-None.is) (c.missing.ensures.does nodes)

pub returns-in-Some-clause-closed : goal.returns-in-Some-clause-closed
returns-in-Some-clause-closed c nodes closed plain = c.at_location.ensures.closed nodes closed (λ named. rw c.in-Some.is at (plain named))

pub returns-in-None-clause-closed : goal.returns-in-None-clause-closed
returns-in-None-clause-closed c nodes closed plain = c.missing.ensures.closed nodes closed
