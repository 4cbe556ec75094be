use Rattle.std.proofs.Common.{◌+◌, refl, arith}
use Rattle.js_names.specs.Patterns.{nodes_of}
use Rattle.js_machine.specs.Does.{weight}
use Rattle.js_machine.proofs.Stepping.{took_up_ok}
use Rattle.js_step.proofs.Closing.{popped_fits, popped_rows}
use Rattle.js_step.proofs.stepping.take_up.Goals as goal

pub returns-in-Some-clause-does : goal.returns-in-Some-clause-does
returns-in-Some-clause-does c = took_up_ok (nodes_of c.args.tree.now) (weight c.in-Some.frame + 1) _ _ _ c.in-Some.frame c.args.outcome _ refl c.in-Some.ensures.items refl (omega arith) c.frame_end.ensures.does

pub returns-in-Some-clause-closed : goal.returns-in-Some-clause-closed
returns-in-Some-clause-closed c closed outcome =
    let nodes = nodes_of c.args.tree.now in
    let s = c.args.state.now in
    let below = popped_rows nodes s _ c.in-Some.frame c.in-Some.ensures.items closed in
    c.frame_end.ensures.closed (record { well = closed.well; realm = closed.realm; frames = below; control = closed.control }) (popped_fits nodes s _ c.in-Some.frame c.in-Some.ensures.items closed) outcome
