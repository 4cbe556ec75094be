use Rattle.std.proofs.Common.{◌≡◌, ◌+◌, ◌-◌, ◌*◌}
use Rattle.js_parse.specs.Grammar.{chain, chain_from, operand, below}
use Rattle.js_parse.specs.Nesting.{part_at}
use Rattle.js_parse.proofs.grammar.Grammar.+operators.Given as goal

abbrev pub decreases-chain : goal.decreases-chain
decreases-chain g l = 3 * l.level - 1

abbrev pub decreases-operand : goal.decreases-operand
decreases-operand g l = 3 * l.level + 1

abbrev pub decreases-operations : goal.decreases-operations
decreases-operations g l = 3 * l.level

abbrev pub invariant-chain-operators : goal.invariant-chain-operators
invariant-chain-operators g l =
    chain (operand (part_at l.self.depth) l.allow_in (below l.level)) l.level l.allow_in l.place l.fn.first l.fn.reader
    ≡ chain_from (operand (part_at l.self.depth) l.allow_in (below l.level)) l.level l.allow_in l.place (l._turn-end - l._turn) l.left l.reader
