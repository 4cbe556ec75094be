use Rattle.std.proofs.Common.{subst, nat_eq}
use Rattle.world_heap.specs.Heaps.{IsNoEnv}
use Rattle.world_heap.specs.Views.{HeapView}
use Rattle.std.proofs.Common.{sym}
use Rattle.proto_props.proofs.Pushes.{no_env_push}
use Rattle.proto_props.proofs.tests.added.Goals as goal

pub returns-in-Ok-clause-kept : goal.returns-in-Ok-clause-kept
returns-in-Ok-clause-kept c = λ l h.
    let done = c.in-Ok.ensures in
    subst (λ (v : HeapView). IsNoEnv nat_eq v.cells l) (sym done.3) (no_env_push c.args.heap.now.cells c.in-Ok.loc c.args.cell done.1 l h)
