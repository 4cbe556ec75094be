use Rattle.std.proofs.Common.{◌≡◌, ◌∙◌, ◌++◌, ap, map, decimal, arith}
use Rattle.std.proofs.lemmas.List.{take_all}
use Rattle.world_heap.specs.Keys.{ordered_names}
use Rattle.world_heap.proofs.keys.ordered.Goals as goal

pub returns : goal.returns
unfolding ordered_names
returns c =
    let items = c.deref-index-items.result.now in
    let all = take_all c.indices.index-index items (omega arith) in
    let names : c.indices.names.items ≡ map decimal items = c.indices.invariant ∙ ap (map decimal) all in
    c.in_ok-append.ensures.items ∙ ap (λ ns. ns ++ c.in_ok-indices.others.items) (names ∙ ap (map decimal) (c.deref-index-items.ensures.value ∙ c.in_ok-indices.ensures.0))
    ∙ ap (λ ns. map decimal (Rattle.world_heap.specs.Keys.ascending (Rattle.world_heap.specs.Keys.indices_of (Rattle.std.specs.Map.keys_of c.args.table.now))) ++ ns) c.in_ok-indices.ensures.1
