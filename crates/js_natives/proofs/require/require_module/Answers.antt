use Rattle.js_natives.proofs.Saying.{named_ok}
use Rattle.js_natives.proofs.Lasting.{module_fits}
use Rattle.js_natives.proofs.require.require_module.Goals as goal

pub returns-clause-does : goal.returns-clause-does
returns-clause-does c nodes = named_ok nodes 6 c.module_in-electron.result c.args.name.now c.args.state.now c.require_named.new.state c.require_named.result c.module_in-electron.ensures (c.require_named.ensures.does nodes)

pub returns-clause-closed : goal.returns-clause-closed
returns-clause-closed c nodes closed =
    c.require_named.ensures.closed nodes closed (λ named. rw c.module_in-electron.ensures (module_fits nodes c.args.name.now c.args.state.now closed named))
