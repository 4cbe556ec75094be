use Rattle.std.proofs.Common.{◌≡◌, [], subst, sym}
use Rattle.std.specs.List.{IsDistinct}
use Rattle.world_heap.specs.Table.{HasDistinctNames}
use Rattle.world_heap.proofs.table.Table.len.Goals as goal

pub returns-in-None-clause-distinct : goal.returns-in-None-clause-distinct
unfolding IsDistinct
returns-in-None-clause-distinct g c =
    let none : c.args.self.now ≡ [] = cc (c.self.view_is, c.in-None.is) in
    subst HasDistinctNames (sym none) _
