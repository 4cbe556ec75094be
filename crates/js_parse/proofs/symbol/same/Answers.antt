use Rattle.std.proofs.Common.{rules}
use Rattle.js_parse.specs.Symbols.{same}
use Rattle.js_parse.proofs.symbol.same.Goals as goal

pub returns : goal.returns
unfolding same
returns c = search rules
