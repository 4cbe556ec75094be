use Rattle.std.proofs.Common.{sym, subst}
use Rattle.world_heap.specs.Views.{PoolView}
use Rattle.world_machine.specs.World.{IsEnded, IsIn}
use Rattle.app_engine.proofs.Living.{last_stands, one_less, some_live}
use Rattle.app_engine.proofs.kept.Kept.end_last.Goals as goal

pub end-requires : goal.end-requires
end-requires c =
    subst (λ (p : PoolView). IsIn c.in-Some.last.world p) (sym c.replace-pool.ensures.value)
    (last_stands c.args.self.now c.requires.0 c.requires.1 c.pop.new.self c.in-Some.last c.in-Some.ensures c.requires.2)

pub unreachable-requires : goal.unreachable-requires
unreachable-requires c = some_live c.args.self.now c.requires.0 c.requires.1 c.requires.2 c.in-None.ensures.0

pub returns-clause-keeps : goal.returns-clause-keeps
returns-clause-keeps c =
    one_less c.args.self.now c.in-Some.last c.pop.new.self c.end.result
    (subst (λ (p : PoolView). IsEnded c.in-Some.last.world p c.end.result) c.replace-pool.ensures.value c.end.ensures) c.in-Some.ensures
