use Rattle.std.proofs.Common.{◌^◌, suc, subst}
use Rattle.grammar.specs.Grammar.{Derives}
use Rattle.grammar.proofs.Laws.{read-sound}
use Rattle.js_grammar.specs.Script.{script_language, script, nesting}
use Rattle.js_grammar.specs.Scripts.{read_script}
use Rattle.js_grammar.proofs.Ends.{script-ended}
use Rattle.js_grammar.proofs.scripts_are_read_to_the_end.Goals as goal

pub returns : goal.returns
unfolding read_script
returns c = λ tokens rest tree n e.
    let d = read-sound script_language (2 ^ 64) (suc nesting) script tokens (tree, rest) e in
    script-ended nesting n.0 rest n.1 tree n.3 (subst (λ m. Derives script_language (suc nesting) script m rest tree) n.2 d)
