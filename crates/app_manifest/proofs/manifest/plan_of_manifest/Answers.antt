use Rattle.app_manifest.proofs.Said.{said_of-read, said_of-refused}
use Rattle.app_manifest.proofs.manifest.plan_of_manifest.Goals as goal

pub returns-in-Ok : goal.returns-in-Ok
returns-in-Ok c = rw (said_of-read _ _ c.in-Ok.ensures.ok.0 c.in-Ok.ensures.ok.1) c.plan_of_value.ensures

pub returns-else-is_memory : goal.returns-else-is_memory
returns-else-is_memory c =
    said_of-refused c.args.bytes.now (c.in-Err.ensures.err (λ m. cc (c.is_memory.ensures.1 m, c.if-is_memory.false)))
