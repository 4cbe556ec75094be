use Rattle.std.proofs.Common.{◌≡◌, ◌∷◌, drop, IfOk, sym, subst}
use Rattle.std.specs.Prelude.{slice_get}
use Rattle.js_names.specs.Patterns.{nodes_of}
use Rattle.js_semantics.specs.Iteration.{arguments_from}
use Rattle.js_machine.specs.Does.{Does}
use Rattle.js_machine.specs.Frames.{target_call}
use Rattle.js_machine.specs.Parts.{items_of}
use Rattle.js_iterate.proofs.arguments.arguments_on.Goals as goal

pub returns-in-Some-clause-does : goal.returns-in-Some-clause-does
returns-in-Some-clause-does c =
    let nodes = nodes_of c.args.tree.now in
    let list : drop c.args.pending.next (items_of (slice_get nodes c.args.pending.node.0)) ≡ c.in-Some.argument ∷ drop c.in-Some.next (items_of (slice_get nodes c.args.pending.node.0)) = cc (c.items_of.ensures, c.in-Some.ensures.0) in
    subst (λ arguments. IfOk c.enter_argument.result (λ next. Does nodes 4 (arguments_from c.args.pending.before arguments c.args.scope (λ vs. target_call nodes c.args.pending.target vs)) c.args.state.now c.enter_argument.new.state next)) (sym list) c.enter_argument.ensures.does

pub returns-in-Some-clause-closed : goal.returns-in-Some-clause-closed
returns-in-Some-clause-closed c closed pending scope =
    c.enter_argument.ensures.closed closed pending scope

pub returns-in-None-clause-closed : goal.returns-in-None-clause-closed
returns-in-None-clause-closed c closed pending scope =
    c.finish.ensures.closed closed pending.1 pending.0
