use Rattle.std.proofs.Common.{◌≤◌, sym, arith}
use Rattle.std.proofs.lemmas.List.{get_or_past}
use Rattle.js_parse.specs.Symbols.{marks, of_mark}
use Rattle.js_parse.specs.declared.symbol.Symbol.TheVariants as s
use Rattle.js_parse.proofs.symbol.of_mark.Goals as goal

pub returns : goal.returns
unfolding of_mark
returns c = let past : 43 ≤ c.args.mark = omega arith in sym (get_or_past marks c.args.mark s.End past)
