use Rattle.std.proofs.Common.{◌∙◌, Some, [], ap, sym, slice_index, unwrap_or}
use Rattle.std.specs.Option.{option_map_or}
use Rattle.std.proofs.lemmas.Option.{unwrap_or-slice_get}
use Rattle.proto_props.specs.Gets.{bytes_of}
use Rattle.proto_props.proofs.get.byte_of.Goals as goal

pub returns-in-Buffer : goal.returns-in-Buffer
returns-in-Buffer c =
    let found = c.cell.ensures.found ∙ ap Some c.in-Buffer.is in
    c.unwrap_or.ensures ∙ ap (λ o. unwrap_or o 0) (c.copied.ensures ∙ c.get.ensures.value) ∙ unwrap_or-slice_get c.in-Buffer.bytes c.args.at 0
    ∙ sym (ap (λ o. slice_index (option_map_or bytes_of o []) c.args.at) found)
