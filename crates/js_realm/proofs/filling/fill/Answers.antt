use Rattle.std.proofs.Common.{◌≡◌, nat_eq, ap, sym, subst, ◌∙◌, Some, None, true}
use Rattle.std.proofs.lemmas.List.{get_or_read}
use Rattle.std.specs.Option.{option_and_then, option_copied}
use Rattle.world_heap.specs.Bodies.{body_of, rebodied}
use Rattle.world_heap.specs.Heaps.{IsCell, IsWell}
use Rattle.world_heap.specs.Maps.{find}
use Rattle.world_heap.specs.Views.{HeapView}
use Rattle.std.specs.Prelude.{is_some}
use Rattle.js_realm.proofs.Listing.{object_found}
use Rattle.js_realm.proofs.Changing.{fills_one, stands, well_filled}
use Rattle.js_realm.proofs.filling.fill.Goals as goal

pub cell-requires : goal.cell-requires
cell-requires c =
    let at = get_or_read c.args.places.now c.args.place c.index-places-place.result c.requires.place c.index-places-place.is 0 in
    subst (IsCell nat_eq c.args.heap.now.cells) (sym at) (stands c.args.places.now c.args.heap.now c.requires.heap c.args.place c.requires.place)

pub unreachable-requires : goal.unreachable-requires
unreachable-requires c =
    let none : body_of c.cell.result.now ≡ None = sym c.body.ensures ∙ ap option_copied c.in-None.is in
    let some : is_some (body_of c.cell.result.now) ≡ true =
    object_found c.args.heap.now.cells c.index-places-place.result c.cell.result.now c.requires.heap.objects c.cell.ensures.found in
    absurd (cc (ap is_some none))

pub replace_body-requires-clause-stands : goal.replace_body-requires-clause-stands
replace_body-requires-clause-stands c =
    (c.in-Some.body.now, ap (option_and_then body_of) c.cell.ensures.found ∙ sym c.body.ensures ∙ ap option_copied c.in-Some.is)

pub replace_body-requires-clause-keeps : goal.replace_body-requires-clause-keeps
replace_body-requires-clause-keeps c =
    let at = get_or_read c.args.places.now c.args.place c.index-places-place.result c.requires.place c.index-places-place.is 0 in
    let b = c.in-Some.body.now in
    subst (λ l. IsWell nat_eq c.args.heap.now.cells → IsWell nat_eq (rebodied c.args.heap.now.cells l (record b { properties = c.args.members }))) (sym at)
    (well_filled c.args.places.now c.args.heap.now c.requires.heap c.args.place c.requires.place c.cell.result.now b c.args.members
    (rw at at c.cell.ensures.found) (sym c.body.ensures ∙ ap option_copied c.in-Some.is) c.cell.ensures.fits c.requires.members)

pub returns-clause-does : goal.returns-clause-does
returns-clause-does c =
    let at = get_or_read c.args.places.now c.args.place c.index-places-place.result c.requires.place c.index-places-place.is 0 in
    let b = c.in-Some.body.now in
    let found = ap (option_and_then body_of) c.cell.ensures.found ∙ sym c.body.ensures ∙ ap option_copied c.in-Some.is in
    fills_one c.args.places.now c.args.heap.now c.requires.heap c.args.place c.requires.place b c.args.members c.replace_body.new.self
    (subst (λ l. option_and_then body_of (find nat_eq c.args.heap.now.cells l) ≡ Some b) at found)
    (c.replace_body.ensures.is ∙ ap (λ l. record c.args.heap.now { cells = rebodied c.args.heap.now.cells l (record b { properties = c.args.members }) }) at)

pub returns-clause-well : goal.returns-clause-well
returns-clause-well c =
    let at = get_or_read c.args.places.now c.args.place c.index-places-place.result c.requires.place c.index-places-place.is 0 in
    let b = c.in-Some.body.now in
    let filled = well_filled c.args.places.now c.args.heap.now c.requires.heap c.args.place c.requires.place c.cell.result.now b c.args.members
    (rw at at c.cell.ensures.found) (sym c.body.ensures ∙ ap option_copied c.in-Some.is) c.cell.ensures.fits c.requires.members c.cell.ensures.well in
    subst (IsWell nat_eq) (sym (ap (λ (h : HeapView). h.cells) c.replace_body.ensures.is ∙ ap (λ l. rebodied c.args.heap.now.cells l (record b { properties = c.args.members })) at)) filled
