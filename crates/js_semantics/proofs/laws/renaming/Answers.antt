use Rattle.js_semantics.proofs.Relocating.{alone_same}
use Rattle.js_semantics.proofs.laws.renaming.Goals as goal

pub returns : goal.returns
returns c = alone_same
