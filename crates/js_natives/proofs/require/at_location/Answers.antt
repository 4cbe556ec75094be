use Rattle.std.proofs.Common.{◌∙◌, sym}
use Rattle.js_natives.proofs.Saying.{does_same, named_then, named_else}
use Rattle.js_natives.proofs.require.at_location.Goals as goal

pub returns-then-is_module-clause-does : goal.returns-then-is_module-clause-does
returns-then-is_module-clause-does c nodes = does_same nodes 6 _ _ c.args.state.now c.give.new.self c.give.result (named_then c.args.state.now.kind c.args.loc c.args.name.now (sym c.is_module.ensures ∙ c.if-is_module.true)) (c.give.ensures.many nodes)

pub returns-else-is_module-clause-does : goal.returns-else-is_module-clause-does
returns-else-is_module-clause-does c nodes = does_same nodes 6 _ _ c.args.state.now c.missing.new.state c.missing.result (named_else c.args.state.now.kind c.args.loc c.args.name.now (sym c.is_module.ensures ∙ c.if-is_module.false)) (c.missing.ensures.does nodes)

pub returns-then-is_module-clause-closed : goal.returns-then-is_module-clause-closed
returns-then-is_module-clause-closed c nodes closed plain = c.give.ensures.closed nodes closed (plain (sym c.is_module.ensures ∙ c.if-is_module.true))

pub returns-else-is_module-clause-closed : goal.returns-else-is_module-clause-closed
returns-else-is_module-clause-closed c nodes closed plain = c.missing.ensures.closed nodes closed
