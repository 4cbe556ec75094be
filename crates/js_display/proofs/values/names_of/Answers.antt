use Rattle.std.proofs.Common.{◌≡◌, ◌∙◌, ap, []}
use Rattle.std.specs.Option.{option_map_or}
use Rattle.world_heap.specs.declared.cell.Cell.TheVariants.{Object}
use Rattle.world_heap.specs.Keys.{own_keys}
use Rattle.world_heap.proofs.Wells.{found_stands}
use Rattle.js_display.proofs.Lines.{if_ok}
use Rattle.js_display.proofs.values.names_of.Goals as goal

pub keys-requires : goal.keys-requires
keys-requires c = found_stands c.args.heap.now.cells c.args.loc (Object c.args.body.now) c.requires

pub returns : goal.returns
returns c = if_ok c.keys.result (λ names e. e ∙ ap (λ o. option_map_or own_keys o []) c.requires) c.keys.ensures
