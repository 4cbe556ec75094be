use Rattle.std.proofs.Common.{◌≡◌, ◌∙◌, false, refl, sym, ap, subst, nat_eq}
use Rattle.world_heap.specs.declared.cell.Body.{Body}
use Rattle.world_heap.specs.Over.{BodyOver}
use Rattle.world_heap.specs.Heaps.{IsNoEnv}
use Rattle.world_heap.specs.Bodies.{HasBody, rebodied}
use Rattle.world_heap.specs.Views.{HeapView}
use Rattle.proto_props.specs.Bared.{bare}
use Rattle.proto_props.specs.Freezes.{frozen_body, cells_frozen}
use Rattle.proto_props.proofs.Exchanges.{rebodied_body, rebodied_twice, body_over, well_back, frozen_fits, body_frozen}
use Rattle.proto_props.proofs.frozen.freeze_body.Goals as goal

pub replace_body-requires-clause-stands : goal.replace_body-requires-clause-stands
replace_body-requires-clause-stands c =
    let cells = c.args.heap.now.cells in
    let b = c.bared-body.result in
    subst (λ (v : HeapView). HasBody v.cells c.args.loc) (sym c.bared-body.ensures.is) (bare b, rebodied_body cells c.args.loc b c.bared-body.ensures.was (bare b))

pub replace_body-requires-clause-keeps : goal.replace_body-requires-clause-keeps
replace_body-requires-clause-keeps c = λ well.
    let cells = c.args.heap.now.cells in
    let b = c.bared-body.result in
    let d : Body _ = frozen_body b in
    let is = ap (λ (v : HeapView). v.cells) c.bared-body.ensures.is in
    let over = body_over cells c.args.loc b c.bared-body.ensures.was c.bared-body.ensures.well in
    let fit : BodyOver (IsNoEnv nat_eq cells) d = (over.0, frozen_fits (IsNoEnv nat_eq cells) b.properties over.1) in
    rw c.harden.ensures (rw is (well_back cells c.args.loc b c.bared-body.ensures.was d refl fit (rw is at well)))

pub returns : goal.returns
returns c =
    let cells = c.args.heap.now.cells in
    let b = c.bared-body.result in
    let d : Body _ = frozen_body b in
    let is = ap (λ (v : HeapView). v.cells) c.bared-body.ensures.is in
    let new : rebodied c.bared-body.new.heap.cells c.args.loc (record b { properties = c.harden.new.table; extensible = false }) ≡ cells_frozen cells c.args.loc =
    (λ i. rebodied (is i) c.args.loc (record b { properties = c.harden.ensures i; extensible = false }))
    ∙ rebodied_twice cells c.args.loc b c.bared-body.ensures.was (bare b) d
    ∙ sym (body_frozen cells c.args.loc b c.bared-body.ensures.was) in
    c.replace_body.ensures.is ∙ (λ i. record (c.bared-body.ensures.is i) { cells = new i })
