use Rattle.std.proofs.Common.{Some, None}
use Rattle.js_natives.proofs.Saying.{require_ok}
use Rattle.js_natives.proofs.require.row_require.Goals as goal

pub returns-in-Some-clause-does : goal.returns-in-Some-clause-does
returns-in-Some-clause-does c nodes =
    require_ok nodes 6 c.args.arguments.now (Some c.in-Some.name.now) c.args.state.now c.require_module.new.state c.require_module.result c.in-Some.ensures (c.require_module.ensures.does nodes)

pub returns-in-None-clause-does : goal.returns-in-None-clause-does
returns-in-None-clause-does c nodes =
    require_ok nodes 6 c.args.arguments.now None c.args.state.now c.throw.new.self c.throw.result c.in-None.ensures (c.throw.ensures.many nodes)

pub returns-in-Some-clause-closed : goal.returns-in-Some-clause-closed
returns-in-Some-clause-closed c nodes closed = c.require_module.ensures.closed nodes closed

pub returns-in-None-clause-closed : goal.returns-in-None-clause-closed
returns-in-None-clause-closed c nodes closed = c.throw.ensures.closed nodes closed
