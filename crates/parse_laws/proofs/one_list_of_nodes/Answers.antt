use Rattle.std.proofs.Common.{suc, ap, []}
use Rattle.grammar.specs.Grammar.{entry}
use Rattle.grammar.proofs.Limits.{one-tree}
use Rattle.js_grammar.specs.Script.{script_language, script, nesting}
use Rattle.js_grammar.specs.Scripts.{IsScript}
use Rattle.js_grammar.proofs.Tables.{tails}
use Rattle.js_grammar.proofs.Passes.{script-fits, script-apart}
use Rattle.parse_laws.specs.Trees.{nodes_of}
use Rattle.parse_laws.proofs.one_list_of_nodes.Goals as goal

pub returns : goal.returns
unfolding IsScript
returns c = λ tokens a b x y. ap (λ tree. nodes_of nesting tree) (one-tree script_language (entry [] tails) script-fits script-apart (suc nesting) script tokens a b x y)
