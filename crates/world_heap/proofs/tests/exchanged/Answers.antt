use Rattle.std.proofs.Common.{◌∙◌, None, refl, sym, ap, subst}
use Rattle.world_heap.specs.declared.cell.Cell.TheVariants.{Symbol}
use Rattle.world_heap.specs.Maps.{keys, Stands, keys-put}
use Rattle.world_heap.specs.Views.{HeapView}
use Rattle.world_heap.proofs.Wells.{well_put, found_stands}
use Rattle.world_heap.proofs.tests.exchanged.Goals as goal

pub replace-requires-clause-stands : goal.replace-requires-clause-stands
replace-requires-clause-stands c = found_stands c.args.heap.now.cells c.args.loc (Symbol None) c.requires

pub replace-requires-clause-keeps : goal.replace-requires-clause-keeps
replace-requires-clause-keeps c = λ well.
    well_put c.args.heap.now.cells c.args.loc (Symbol c.args.text) (Symbol None) c.requires (record { env = refl; proto = refl; bytes = refl }) well tt

pub returns : goal.returns
returns c =
    let same = ap (λ (v : HeapView). keys v.cells) c.replace.ensures.is ∙ keys-put c.args.heap.now.cells c.args.loc (Symbol c.args.text) in
    subst (λ ks. Stands ks c.args.loc) (sym same) (found_stands c.args.heap.now.cells c.args.loc (Symbol None) c.requires)
