use Rattle.std.proofs.Common.{sym, ◌∙◌}
use Rattle.js_names.specs.Patterns.{nodes_of}
use Rattle.js_calls.proofs.Defaulted.{body_entered}
use Rattle.js_calls.proofs.binding.last.Goals as goal

pub returns-in-Some-clause-does : goal.returns-in-Some-clause-does
returns-in-Some-clause-does c is = c.rest.ensures.does (nodes_of c.args.tree.now) is (sym c.rest_parameter.ensures ∙ c.in-Some.is)

pub returns-clause-does : goal.returns-clause-does
returns-clause-does c is =
    body_entered (nodes_of c.args.tree.now) c.args.node c.args.at c.args.arguments c.args.scope c.body_of.result c.args.state.now c.jump.new.self c.jump.result is (sym c.rest_parameter.ensures ∙ c.in-None.is) c.body_of.ensures (c.jump.ensures.few (nodes_of c.args.tree.now))

pub returns-in-Some-clause-closed : goal.returns-in-Some-clause-closed
returns-in-Some-clause-closed c closed arguments scope = c.rest.ensures.closed (nodes_of c.args.tree.now) closed arguments scope

pub returns-clause-closed : goal.returns-clause-closed
returns-clause-closed c closed arguments scope = c.jump.ensures.closed (nodes_of c.args.tree.now) closed scope
