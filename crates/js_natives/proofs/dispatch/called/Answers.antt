use Rattle.std.proofs.Common.{Some, ap}
use Rattle.js_semantics.specs.Natives.{native_row}
use Rattle.js_semantics.specs.Realm.{module_of}
use Rattle.js_natives.proofs.Saying.{does_same}
use Rattle.js_natives.proofs.dispatch.called.Goals as goal

pub returns-in-Console-clause-does : goal.returns-in-Console-clause-does
returns-in-Console-clause-does c nodes receiver = does_same nodes 6 _ _ c.args.state.now c.row_console.new.state c.row_console.result (ap (λ f. native_row module_of (Some f) receiver c.args.arguments.now) c.in-Console.is) (c.row_console.ensures.does nodes)

pub returns-in-Error-clause-does : goal.returns-in-Error-clause-does
returns-in-Error-clause-does c nodes receiver = does_same nodes 6 _ _ c.args.state.now c.row_error.new.state c.row_error.result (ap (λ f. native_row module_of (Some f) receiver c.args.arguments.now) c.in-Error.is) (c.row_error.ensures.does nodes)

pub returns-in-Require-clause-does : goal.returns-in-Require-clause-does
returns-in-Require-clause-does c nodes receiver = does_same nodes 6 _ _ c.args.state.now c.row_require.new.state c.row_require.result (ap (λ f. native_row module_of (Some f) receiver c.args.arguments.now) c.in-Require.is) (c.row_require.ensures.does nodes)

pub returns-in-Console-clause-closed : goal.returns-in-Console-clause-closed
returns-in-Console-clause-closed c nodes closed = c.row_console.ensures.closed nodes closed

pub returns-in-Error-clause-closed : goal.returns-in-Error-clause-closed
returns-in-Error-clause-closed c nodes closed = c.row_error.ensures.closed nodes closed

pub returns-in-Require-clause-closed : goal.returns-in-Require-clause-closed
returns-in-Require-clause-closed c nodes closed = c.row_require.ensures.closed nodes closed
