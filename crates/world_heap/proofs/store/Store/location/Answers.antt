use Rattle.std.proofs.Common.{◌∙◌, sym, ap, subst, slice_get}
use Rattle.world_heap.specs.declared.store.Region.{Region}
use Rattle.world_heap.specs.Maps.{keys}
use Rattle.world_heap.specs.Shelf.{values_of}
use Rattle.world_heap.specs.Stored.{IsAt}
use Rattle.world_heap.proofs.Regions.{at_position, at_absent}
use Rattle.world_heap.proofs.Storing.{keys_is, none_is}
use Rattle.world_heap.proofs.store.Store.location.Goals as goal

pub returns-in-Some : goal.returns-in-Some
returns-in-Some g c =
    let slots = c.self.inside.chunks in
    let regions = c.self.inside.regions.items in
    let at : IsAt c.as_slice.result.now c.args.owner c.in-Some.place = at_position c.as_slice.result.now c.args.owner c.in-Some.place (sym c.region_place.ensures ∙ c.in-Some.is) in
    let here : IsAt regions c.args.owner c.in-Some.place = subst (λ rs. IsAt rs c.args.owner c.in-Some.place) c.as_slice.ensures.value at in
    let locations = keys_is slots regions c.self.invariant.0 c.args.owner c.in-Some.place c.index.result.now here in
    c.copied.ensures ∙ c.get.ensures.value ∙ ap (λ (r : Region). slice_get r.own c.args.at) c.index.ensures
    ∙ ap (λ ks. slice_get ks c.args.at) (sym locations) ∙ ap (λ ms. slice_get (keys (values_of ms c.args.owner)) c.args.at) c.self.view_is

pub returns-in-None : goal.returns-in-None
returns-in-None g c =
    let absent = at_absent c.as_slice.result.now c.args.owner (sym c.region_place.ensures ∙ c.in-None.is) in
    let nothing = none_is c.self.inside.chunks c.self.inside.regions.items c.args.owner (rw c.as_slice.ensures.value at absent) in
    ap (λ cs. slice_get (keys cs) c.args.at) (sym nothing) ∙ ap (λ ms. slice_get (keys (values_of ms c.args.owner)) c.args.at) c.self.view_is
