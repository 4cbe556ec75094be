use Rattle.app_manifest.proofs.Empty.{never}
use Rattle.app_manifest.proofs.reading.empty_script.Goals as goal

pub unreachable-requires : goal.unreachable-requires
unreachable-requires c =
    never c.in-Err-At.field-0 c.in-Err-At.field-0-0 c.in-Err-At.field-0-1 c.in-Err-At.field-0-is c.in-Err-At.ensures.exact
