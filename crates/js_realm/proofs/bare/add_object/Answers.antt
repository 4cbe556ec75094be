use Rattle.std.proofs.Common.{◌∷◌, [], Some, ap, ◌∙◌}
use Rattle.world_heap.specs.declared.cell.Cell.TheVariants.{Object}
use Rattle.world_heap.specs.BuiltIns.{plain_object}
use Rattle.world_heap.specs.Starting.{with_built_in}
use Rattle.js_realm.proofs.Adding.{adds_one}
use Rattle.js_realm.proofs.bare.add_object.Goals as goal

pub returns : goal.returns
returns c =
    let loc = c.in_ok-add_built_in.field-0 in
    adds_one c.args.heap.now c.add_built_in.new.self loc (plain_object (Some c.args.proto))
    (c.in_ok-add_built_in.ensures.added ∙ ap (λ b. with_built_in c.args.heap.now ((loc, Object b) ∷ [])) c.bare_body.ensures)
    c.add_built_in.ensures.kept
