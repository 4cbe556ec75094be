-- The tree of a script, or why there is none (ECMA-262, 16.1).
use Rattle.std.specs.Prelude.{◌≡◌, ℕ, List, [], Result, Ok, Err}
use Rattle.js_tree.specs.declared.node.NodeId.{NodeId}
use Rattle.js_tree.specs.Nodes.{Nodes}
use Rattle.js_token.specs.declared.token.Token.{Token}
use Rattle.js_parse.specs.declared.fault.Fault.{Fault}
use Rattle.js_parse.specs.declared.fault.Fault.TheVariants as fault
use Rattle.js_parse.specs.declared.fault.ParseFault.{ParseFault}
use Rattle.js_parse.specs.declared.fault.ParseFault.TheVariants as answer
use Rattle.js_parse.specs.Input.{Input, Outcome}
use Rattle.js_parse.specs.Statements.{script}
use Rattle.js_parse.specs.Nesting.{part_at}

-- how many levels may nest
abbrev pub limit : ℕ
limit = 200

abbrev pub fault_shown : Fault → ParseFault
fault_shown (fault.Token at sure) = answer.Token at
fault_shown (fault.Deep at) = answer.Deep at
fault_shown fault.Memory = answer.Memory

abbrev pub shown : Outcome NodeId → Result Nodes ParseFault
shown (Ok p) = Ok p.1.1
shown (Err e) = Err (fault_shown e)

-- the nodes of the script that the tokens spell, or its first fault
unfoldable pub parsed : List Token → Result Nodes ParseFault
parsed tokens = shown (script (part_at limit) (tokens, []))

-- What is answered: that, unless memory fails.
abbrev pub Parses : Result Nodes ParseFault → Result Nodes ParseFault → Type 0
Parses outcome (Ok tree) = outcome ≡ Ok tree
Parses outcome (Err (answer.Token at)) = outcome ≡ Err (answer.Token at)
Parses outcome (Err (answer.Deep at)) = outcome ≡ Err (answer.Deep at)
Parses outcome (Err answer.Memory) = Unit {0}
