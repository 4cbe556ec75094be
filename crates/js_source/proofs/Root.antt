-- The root of what the grammar reads is a script.
use Rattle.std.proofs.Common.{◌≡◌, ℕ, List, [], Ok, Err}
use Rattle.js_tree.specs.declared.node.NodeId.{NodeId}
use Rattle.js_tree.specs.declared.node.Node.TheVariants.{Script}
use Rattle.js_tree.specs.Nodes.{Nodes}
use Rattle.js_token.specs.declared.token.Token.{Token}
use Rattle.js_parse.specs.declared.part.Part.{Part}
use Rattle.js_parse.specs.declared.part.Found.{Found}
use Rattle.js_parse.specs.declared.symbol.Symbol.TheVariants as s
use Rattle.js_parse.specs.Input.{Input, Outcome, Parser, add, and_then, place}
use Rattle.js_parse.specs.Statements.{script, items}
use Rattle.js_parse.specs.Nesting.{part_at}
use Rattle.js_parse.specs.Parsing.{limit, shown, parsed}
use Rattle.js_source.specs.Source.{HasRoot}

-- what is added last stands last
added_last : (at : ℕ) (found : Outcome (List NodeId)) (nodes : Nodes) → shown (and_then found (λ ids. add (Script ids) at)) ≡ Ok nodes → HasRoot nodes
unfolding add
added_last at (Err e) nodes k = absurd cc
added_last at (Ok q) nodes k = (q.1.1, q.0, at, cc)

script_ends : (part : Part → Parser Found) (i : Input) (nodes : Nodes) → shown (script part i) ≡ Ok nodes → HasRoot nodes
unfolding script
script_ends part i nodes e = added_last (place i) (items part s.End i) nodes e

pub parsed_ends : (tokens : List Token) (nodes : Nodes) → parsed tokens ≡ Ok nodes → HasRoot nodes
unfolding parsed
parsed_ends tokens nodes e = script_ends (part_at limit) (tokens, []) nodes e
