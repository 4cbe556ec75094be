use Rattle.std.proofs.Common.{refl, false}
use Rattle.js_semantics.specs.declared.mode.Mode.TheVariants.{Idle}
use Rattle.js_machine.specs.declared.state.Control.TheVariants.{Wait}
use Rattle.js_machine.specs.declared.state.State.{State}
use Rattle.js_machine.proofs.Receiving.{fresh_alone}
use Rattle.js_machine.proofs.state.State.new.Goals as goal

pub returns-clause-traces : goal.returns-clause-traces
returns-clause-traces c nodes supply ds is =
    let state : State = record { alloc = c.args.alloc; heap = c.args.heap; frames = c.new.result; control = Wait Idle; steps = 0; depth = 0; kind = c.args.kind; loaded = false } in
    fresh_alone nodes supply ds c.args.kind c.args.heap state (refl, c.new.ensures.items, refl, refl, refl, refl, refl) is
