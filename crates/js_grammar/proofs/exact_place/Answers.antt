use Rattle.std.proofs.Common.{[], ◌^◌, suc, arith}
use Rattle.grammar.specs.Grammar.{entry}
use Rattle.grammar.proofs.Limits.{exact-place}
use Rattle.js_grammar.specs.Script.{script_language, script, nesting}
use Rattle.js_grammar.specs.Scripts.{read_script}
use Rattle.js_grammar.proofs.Tables.{tails, examples}
use Rattle.js_grammar.proofs.Passes.{script-fits, script-opens, script-apart}
use Rattle.js_grammar.proofs.exact_place.Goals as goal

pub returns : goal.returns
unfolding read_script
returns c = λ tokens left deep few e.
    exact-place script_language (entry [] tails) script-fits examples script-opens script-apart (2 ^ 64) (suc nesting) script (omega arith) tokens (deep, left) few e
