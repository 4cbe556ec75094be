use Rattle.std.proofs.Common.{◌∙◌, ◌++◌, ◌∷◌, [], ap, sym, take, arith, option_to_list, is_none, if◌then◌else◌}
use Rattle.std.specs.Map.{keys_of}
use Rattle.std.proofs.lemmas.List.{take_all}
use Rattle.std.proofs.lemmas.Map.Entries.{length-keys_of}
use Rattle.wl_text.specs.Number.{index_of}
use Rattle.world_heap.specs.Keys.{ascending, indices_of, others_of}
use Rattle.world_heap.proofs.Sorting.{sorted_is, take_got, indices-push, others-push}
use Rattle.world_heap.proofs.keys.sorted_out.Goals as goal

pub names-preserved : goal.names-preserved
names-preserved c =
    let names = keys_of c.args.table.now in
    let name = c.name.result.now in
    let more = take_got names c.names.at name c.name.ensures in
    record {
      indices = c.in_ok-sort_out.ensures.indices ∙ ap (λ ns. ns ++ option_to_list (index_of name)) c.names.invariant.indices
          ∙ sym (ap indices_of more ∙ indices-push (take c.names.at names) name);
      others = c.in_ok-sort_out.ensures.others ∙ ap (λ ns. ns ++ (if is_none (index_of name) then name ∷ [] else [])) c.names.invariant.others
          ∙ sym (ap others_of more ∙ others-push (take c.names.at names) name);
    }

pub returns : goal.returns
returns c =
    let names = keys_of c.args.table.now in
    let all = take_all c.names.at names (omega (arith, length-keys_of c.args.table.now, c.len-at-end.ensures, c.names-test.false)) in (
      sorted_is c.names.indices.items c.sort_unstable.new.self.items c.sort_unstable.ensures.permutation c.sort_unstable.ensures.sorted
          ∙ ap ascending (c.names.invariant.indices ∙ ap indices_of all),
      c.names.invariant.others ∙ ap others_of all,
    )
