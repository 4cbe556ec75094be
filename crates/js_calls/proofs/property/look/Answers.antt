use Rattle.std.proofs.Common.{nat_eq, sym, ◌∙◌}
use Rattle.world_heap.specs.Heaps.{IsCell, IsNoEnv}
use Rattle.world_heap.specs.Over.{value_more}
use Rattle.world_heap.proofs.Wells.{no_env_stands}
use Rattle.js_calls.proofs.property.look.Goals as goal

pub returns-else-stands-clause-closed : goal.returns-else-stands-clause-closed
returns-else-stands-clause-closed c of =
    let cells = c.args.heap.now.cells in
    let stands = c.stands.ensures.only (value_more (IsNoEnv nat_eq cells) (IsCell nat_eq cells) (no_env_stands cells) c.args.of.now of) in
    absurd (cc)
