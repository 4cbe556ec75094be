use Rattle.js_natives.proofs.Saying.{console_ok}
use Rattle.js_natives.proofs.console.row_console.Goals as goal

pub returns-clause-does : goal.returns-clause-does
returns-clause-does c nodes = console_ok nodes 6 c.args.level c.args.arguments.now c.in_ok-text.text c.args.state.now c.counted.new.state c.counted.result c.in_ok-text.ensures (c.counted.ensures.does nodes)

pub returns-clause-closed : goal.returns-clause-closed
returns-clause-closed c nodes closed = c.counted.ensures.closed nodes closed
