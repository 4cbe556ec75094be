use Rattle.std.proofs.Common.{◌-◌, ap, ◌∙◌}
use Rattle.js_names.specs.Patterns.{nodes_of}
use Rattle.js_machine.proofs.Receiving.{loaded_ok}
use Rattle.js_machine.proofs.state.State.load.Goals as goal

pub returns-clause-does : goal.returns-clause-does
returns-clause-does c =
    loaded_ok c.args.tree.now c.saturating_sub.result c.args.self.now c.enter_script.new.self c.enter_script.result (c.saturating_sub.ensures ∙ ap (λ n. n - 1) c.len.ensures) (c.enter_script.ensures.does (nodes_of c.args.tree.now))

pub returns-clause-closed : goal.returns-clause-closed
returns-clause-closed c nodes closed = c.enter_script.ensures.closed nodes closed
