use Rattle.js_natives.proofs.require.missing.Goals as goal

pub returns-in-Ok-clause-does : goal.returns-in-Ok-clause-does
returns-in-Ok-clause-does c nodes = rw c.in-Ok.ensures at (c.throw_message.ensures.does nodes)

pub returns-in-Ok-clause-closed : goal.returns-in-Ok-clause-closed
returns-in-Ok-clause-closed c nodes closed = c.throw_message.ensures.closed nodes closed

pub returns-in-Err-clause-closed : goal.returns-in-Err-clause-closed
returns-in-Err-clause-closed c nodes closed = c.in-Err.ensures
