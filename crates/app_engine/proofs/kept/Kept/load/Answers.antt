use Rattle.app_engine.proofs.Living.{one_more}
use Rattle.app_engine.proofs.kept.Kept.load.Goals as goal

pub returns-in-Err-load_world-clause-front : goal.returns-in-Err-load_world-clause-front
returns-in-Err-load_world-clause-front g c = rw c.in-Ok.ensures at c.load_world.ensures.front

pub returns-in-Err-push-clause-front : goal.returns-in-Err-push-clause-front
returns-in-Err-push-clause-front g c = rw c.in-Ok.ensures at c.load_world.ensures.front

pub returns-clause-ok : goal.returns-clause-ok
returns-clause-ok g c = rw c.in-Ok.ensures at c.in-Ok-load_world.ensures.ok

pub returns-clause-stopped : goal.returns-clause-stopped
returns-clause-stopped g c = rw c.in-Ok.ensures at c.in-Ok-load_world.ensures.stopped

pub returns-clause-keeps : goal.returns-clause-keeps
returns-clause-keeps g c = λ owed k.
    one_more c.args.self.now c.replace-pool.result _ _ c.args.name _ _ c.replace-pool.ensures.value
    (rw c.in-Ok.ensures at c.in-Ok-load_world.ensures.joins) c.in-Ok-push.ensures.ok owed k

pub returns-clause-front : goal.returns-clause-front
returns-clause-front g c = rw c.in-Ok.ensures at c.load_world.ensures.front
