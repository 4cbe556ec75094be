use Rattle.app_engine.proofs.Joining.{joins}
use Rattle.app_engine.proofs.loading.load_world.Goals as goal

pub returns-in-Err-run_task-clause-front : goal.returns-in-Err-run_task-clause-front
returns-in-Err-run_task-clause-front g c = c.run_task.ensures.front _ c.in-Ok.ensures.comes

pub returns-clause-joins : goal.returns-clause-joins
returns-clause-joins g c =
    let ran = c.in-Ok-run_task.ensures.ran in joins _ _ _ _ _ _ _ _ c.in-Ok.ensures ran.1 ran.2

pub returns-clause-ok : goal.returns-clause-ok
returns-clause-ok g c = c.in-Ok-run_task.ensures.ok _ c.in-Ok.ensures.comes

pub returns-clause-stopped : goal.returns-clause-stopped
returns-clause-stopped g c = c.in-Ok-run_task.ensures.stopped _ c.in-Ok.ensures.comes

pub returns-clause-front : goal.returns-clause-front
returns-clause-front g c = c.run_task.ensures.front _ c.in-Ok.ensures.comes
