use Rattle.js_names.specs.Patterns.{nodes_of}
use Rattle.js_calls.proofs.Defaulted.{default_bound, default_lost}
use Rattle.js_calls.proofs.binding.parameter_default.Goals as goal

pub returns-in-Some-clause-does : goal.returns-in-Some-clause-does
returns-in-Some-clause-does c =
    default_bound (nodes_of c.args.tree.now) c.args.node c.args.at c.args.arguments c.args.scope _ _ c.args.value c.args.state.now c.bind_parameter.new.state c.bind_parameter.result c.in-Some.ensures.0 c.in-Some.ensures.1 (c.bind_parameter.ensures.many (nodes_of c.args.tree.now))

pub returns-in-None-clause-does : goal.returns-in-None-clause-does
returns-in-None-clause-does c =
    default_lost (nodes_of c.args.tree.now) c.args.node c.args.at c.args.arguments c.args.scope c.args.value c.args.state.now c.give.new.self c.give.result c.in-None.ensures (c.give.ensures.many (nodes_of c.args.tree.now))

pub returns-in-Some-clause-closed : goal.returns-in-Some-clause-closed
returns-in-Some-clause-closed c closed arguments scope value = c.bind_parameter.ensures.closed (nodes_of c.args.tree.now) closed value arguments scope

pub returns-in-None-clause-closed : goal.returns-in-None-clause-closed
returns-in-None-clause-closed c closed arguments scope value = c.give.ensures.closed (nodes_of c.args.tree.now) closed tt
