use Rattle.std.proofs.Common.{[], suc}
use Rattle.grammar.specs.Grammar.{entry}
use Rattle.grammar.proofs.Limits.{one-tree}
use Rattle.js_grammar.specs.Script.{script_language, script, nesting}
use Rattle.js_grammar.specs.Scripts.{IsScript}
use Rattle.js_grammar.proofs.Tables.{tails}
use Rattle.js_grammar.proofs.Passes.{script-fits, script-apart}
use Rattle.js_grammar.proofs.one_tree.Goals as goal

pub returns : goal.returns
unfolding IsScript
returns c = λ tokens a b one two. one-tree script_language (entry [] tails) script-fits script-apart (suc nesting) script tokens a b one two
