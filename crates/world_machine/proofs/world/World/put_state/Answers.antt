use Rattle.world_machine.proofs.world.World.put_state.Goals as goal

pub returns : goal.returns
returns c = (
  c.part-machine.result.0,
  λ i. record { script = c.args.self.now.script; machine = c.replace.ensures.after i },
  c.part-machine.ensures,
)
