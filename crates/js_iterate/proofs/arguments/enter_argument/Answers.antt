use Rattle.std.proofs.Common.{◌++◌, sym, ◌∙◌}
use Rattle.js_names.specs.Patterns.{nodes_of}
use Rattle.js_machine.specs.Frames.{arguments_rest}
use Rattle.js_iterate.proofs.Walks.{does_argument}
use Rattle.js_iterate.proofs.arguments.enter_argument.Goals as goal

pub returns-in-None-clause-does : goal.returns-in-None-clause-does
returns-in-None-clause-does c =
    does_argument (nodes_of c.args.tree.now) c.args.argument c.args.scope (λ vs. arguments_rest (nodes_of c.args.tree.now) c.args.pending.node c.args.next (c.args.pending.before ++ vs) c.args.pending.target c.args.scope) _ c.args.state.now c.enter_one.new.state c.enter_one.result (sym c.in-None.is ∙ c.spread_of.ensures) (c.enter_one.ensures.does (nodes_of c.args.tree.now))

pub returns-in-Some-clause-does : goal.returns-in-Some-clause-does
returns-in-Some-clause-does c =
    does_argument (nodes_of c.args.tree.now) c.args.argument c.args.scope (λ vs. arguments_rest (nodes_of c.args.tree.now) c.args.pending.node c.args.next (c.args.pending.before ++ vs) c.args.pending.target c.args.scope) _ c.args.state.now c.enter_spread.new.state c.enter_spread.result (sym c.in-Some.is ∙ c.spread_of.ensures) (c.enter_spread.ensures.does (nodes_of c.args.tree.now))

pub returns-in-None-clause-closed : goal.returns-in-None-clause-closed
returns-in-None-clause-closed c closed pending scope =
    c.enter_one.ensures.closed (nodes_of c.args.tree.now) closed pending scope

pub returns-in-Some-clause-closed : goal.returns-in-Some-clause-closed
returns-in-Some-clause-closed c closed pending scope =
    c.enter_spread.ensures.closed (nodes_of c.args.tree.now) closed pending scope
