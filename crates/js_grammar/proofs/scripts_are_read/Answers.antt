use Rattle.std.proofs.Common.{[], ◌^◌, suc, refl}
use Rattle.grammar.specs.Grammar.{entry}
use Rattle.grammar.proofs.Laws.{read-sound}
use Rattle.grammar.proofs.Complete.{read-complete}
use Rattle.js_grammar.specs.Script.{script_language, script, nesting}
use Rattle.js_grammar.specs.Scripts.{IsScript, read_script}
use Rattle.js_grammar.proofs.Tables.{tails}
use Rattle.js_grammar.proofs.Passes.{script-fits, script-apart}
use Rattle.js_grammar.proofs.scripts_are_read.Goals as goal

pub returns : goal.returns
unfolding IsScript read_script
returns c = λ tokens tree few. (
  λ e. read-sound script_language (2 ^ 64) (suc nesting) script tokens (tree, []) e,
  λ d. read-complete script_language (entry [] tails) script-fits (2 ^ 64) (script-apart (2 ^ 64)) (suc nesting) script tokens [] tree d refl few,
)
