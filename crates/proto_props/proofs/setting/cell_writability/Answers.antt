use Rattle.std.proofs.Common.{◌∙◌, sym, ap, nat_eq}
use Rattle.proto_props.specs.Gets.{own_property}
use Rattle.proto_props.specs.Sets.{writability}
use Rattle.proto_props.proofs.setting.cell_writability.Goals as goal

pub returns-in-Array : goal.returns-in-Array
returns-in-Array c = λ cells.
    c.array_writability.ensures cells c.in-Array.proto ∙ sym (ap (λ x. writability (own_property nat_eq cells x c.args.key.now)) c.in-Array.is)
