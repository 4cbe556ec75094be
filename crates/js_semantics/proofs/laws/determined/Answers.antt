use Rattle.js_semantics.proofs.Relocating.{alone_one}
use Rattle.js_semantics.proofs.laws.determined.Goals as goal

pub returns : goal.returns
returns c = alone_one
