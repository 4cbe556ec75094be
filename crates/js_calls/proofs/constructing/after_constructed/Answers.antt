use Rattle.js_machine.specs.Does.{world_of}
use Rattle.js_calls.proofs.Constructed.{constructed_ok}
use Rattle.js_calls.proofs.Meanings.{constructed_fits}
use Rattle.js_calls.proofs.constructing.after_constructed.Goals as goal

pub returns-clause-does : goal.returns-clause-does
returns-clause-does c nodes =
    constructed_ok nodes c.args.object c.args.value c.constructed-made.result c.args.state.now c.give.new.self c.give.result (λ supply. c.constructed-made.ensures (world_of nodes supply c.args.state.now)) (c.give.ensures.few nodes)

pub returns-clause-closed : goal.returns-clause-closed
returns-clause-closed c nodes closed object value =
    let w = world_of nodes (λ n. n) c.args.state.now in
    c.give.ensures.closed nodes closed (rw (c.constructed-made.ensures w) (constructed_fits c.args.state.now.heap.cells w c.args.object c.args.value object value))
