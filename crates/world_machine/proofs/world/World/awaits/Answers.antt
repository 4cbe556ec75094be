use Rattle.std.proofs.Common.{sym, ◌∙◌, subst, ◌∷◌}
use Rattle.world_log.specs.declared.entry.Entry.TheVariants as entry
use Rattle.world_machine.specs.World.{Takes}
use Rattle.world_machine.proofs.Awaiting.{awaited_by, awaited_none, taken_exactly}
use Rattle.world_machine.proofs.world.World.awaits.Goals as goal

pub returns-in-Some-clause-is : goal.returns-in-Some-clause-is
returns-in-Some-clause-is c = c.awaits.ensures ∙ sym (awaited_by c.args.self.now c.in-Some.machine c.args.what c.in-Some.is)

pub returns-in-Some-clause-exact : goal.returns-in-Some-clause-exact
returns-in-Some-clause-exact c pool coming fresh ds h k =
    subst (λ t. Takes t (entry.Delivery fresh c.args.what) (coming (record { fresh = fresh; what = c.args.what } ∷ ds)))
    (awaited_by c.args.self.now c.in-Some.machine c.args.what c.in-Some.is ∙ sym c.awaits.ensures)
    (taken_exactly c.args.self.now pool coming fresh c.args.what ds h k)

pub returns-in-None-clause-is : goal.returns-in-None-clause-is
returns-in-None-clause-is c = sym (awaited_none c.args.self.now c.args.what c.in-None.is)

pub returns-in-None-clause-exact : goal.returns-in-None-clause-exact
returns-in-None-clause-exact c pool coming fresh ds h k =
    subst (λ t. Takes t (entry.Delivery fresh c.args.what) (coming (record { fresh = fresh; what = c.args.what } ∷ ds)))
    (awaited_none c.args.self.now c.args.what c.in-None.is)
    (taken_exactly c.args.self.now pool coming fresh c.args.what ds h k)
