use Rattle.std.proofs.Common.{◌∙◌, arith, subst, sym}
use Rattle.world_heap.specs.Bounded.{bounds_of}
use Rattle.world_heap.specs.Stored.{IsDistinct}
use Rattle.js_realm.specs.Building.{IsBare}
use Rattle.js_realm.proofs.Supplying.{open_bare, places_are, realm_filled, realm_rest, realm_stands}
use Rattle.js_realm.proofs.realm.new_realm.Goals as goal

pub fill_realm-requires-clause-heap : goal.fill_realm-requires-clause-heap
fill_realm-requires-clause-heap c =
    let bare = subst (IsBare (bounds_of c.args.limits) c.args.pool c.args.kind) (sym c.with_distinct_places-heap.ensures.same) c.in_ok-bare_realm.ensures in
    let at = c.deref.ensures.value ∙ c.in_ok-places.ensures in
    open_bare (bounds_of c.args.limits) c.args.pool c.args.kind c.with_distinct_places-heap.result c.deref.result.now bare at (subst IsDistinct (sym at) c.with_distinct_places-heap.ensures.distinct)

pub fill_realm-requires-clause-places : goal.fill_realm-requires-clause-places
fill_realm-requires-clause-places c =
    let bare = subst (IsBare (bounds_of c.args.limits) c.args.pool c.args.kind) (sym c.with_distinct_places-heap.ensures.same) c.in_ok-bare_realm.ensures in
    let at = c.deref.ensures.value ∙ c.in_ok-places.ensures in
    omega (arith, places_are (bounds_of c.args.limits) c.args.pool c.args.kind c.with_distinct_places-heap.result c.deref.result.now bare at)

pub returns-clause-realm : goal.returns-clause-realm
returns-clause-realm c =
    let bare = subst (IsBare (bounds_of c.args.limits) c.args.pool c.args.kind) (sym c.with_distinct_places-heap.ensures.same) c.in_ok-bare_realm.ensures in
    let at = c.deref.ensures.value ∙ c.in_ok-places.ensures in
    realm_filled (bounds_of c.args.limits) c.args.pool c.args.kind c.with_distinct_places-heap.result c.deref.result.now bare at c.fill_realm.new.heap c.in_ok-fill_realm.ensures.does

pub returns-clause-rest : goal.returns-clause-rest
returns-clause-rest c =
    let bare = subst (IsBare (bounds_of c.args.limits) c.args.pool c.args.kind) (sym c.with_distinct_places-heap.ensures.same) c.in_ok-bare_realm.ensures in
    let at = c.deref.ensures.value ∙ c.in_ok-places.ensures in
    realm_rest (bounds_of c.args.limits) c.args.pool c.args.kind c.with_distinct_places-heap.result c.deref.result.now bare at c.fill_realm.new.heap c.in_ok-fill_realm.ensures.does

pub returns-clause-well : goal.returns-clause-well
returns-clause-well c = c.in_ok-fill_realm.ensures.well

pub returns-clause-stands : goal.returns-clause-stands
returns-clause-stands c =
    let bare = subst (IsBare (bounds_of c.args.limits) c.args.pool c.args.kind) (sym c.with_distinct_places-heap.ensures.same) c.in_ok-bare_realm.ensures in
    let at = c.deref.ensures.value ∙ c.in_ok-places.ensures in
    realm_stands (bounds_of c.args.limits) c.args.pool c.args.kind c.with_distinct_places-heap.result c.deref.result.now bare at c.fill_realm.new.heap c.in_ok-fill_realm.ensures.does
