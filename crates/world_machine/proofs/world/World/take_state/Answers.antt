use Rattle.std.proofs.Common.{◌≡◌, None, sym, ◌∙◌}
use Rattle.world_machine.proofs.Pools.{running_at, running_in}
use Rattle.world_machine.proofs.world.World.take_state.Goals as goal

pub join-requires : goal.join-requires
join-requires c = (running_at c.args.self.now c.args.pool c.in-Some.machine (sym c.take.ensures.value ∙ c.in-Some.is) c.requires).owned

pub unreachable-requires : goal.unreachable-requires
unreachable-requires c =
    let at = running_in c.args.self.now c.args.pool c.requires in
    let none : c.args.self.now.machine ≡ None = sym c.take.ensures.value ∙ c.in-None.is in
    cc (none, at.1)

pub returns : goal.returns
returns c = (
  c.in-Some.machine,
  sym c.take.ensures.value ∙ c.in-Some.is,
  c.join.ensures,
  λ i. record { script = c.args.self.now.script; machine = c.take.ensures.after i },
)
