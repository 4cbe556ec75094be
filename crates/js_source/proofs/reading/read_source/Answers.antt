use Rattle.js_source.proofs.Root.{parsed_ends}
use Rattle.js_source.proofs.reading.read_source.Goals as goal

pub returns-clause-root : goal.returns-clause-root
returns-clause-root c = parsed_ends c.as_slice.result.now c.in-Ok-parse.tree c.in-Ok-parse.ensures
