use Rattle.std.proofs.Common.{◌∷◌, [], Some, true, ap, ◌∙◌}
use Rattle.world_heap.specs.declared.cell.Cell.TheVariants.{Native}
use Rattle.world_heap.specs.Starting.{with_built_in}
use Rattle.js_realm.specs.Building.{bare_function}
use Rattle.js_realm.proofs.Adding.{adds_one}
use Rattle.js_realm.proofs.bare.add_function.Goals as goal

pub returns : goal.returns
returns c =
    let loc = c.in_ok-add_built_in.field-0 in
    adds_one c.args.heap.now c.add_built_in.new.self loc (bare_function c.args.proto c.args.id)
    (c.in_ok-add_built_in.ensures.added ∙ ap (λ b. with_built_in c.args.heap.now ((loc, Native b c.args.id c.new.result) ∷ [])) c.bare_body.ensures
    ∙ ap (λ kept. with_built_in c.args.heap.now ((loc, Native (record { proto = Some c.args.proto; properties = []; extensible = true }) c.args.id kept) ∷ [])) c.new.ensures)
    c.add_built_in.ensures.kept
