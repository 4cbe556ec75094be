use Rattle.std.proofs.Common.{◌<◌, ◌∙◌, length, sym, subst, arith}
use Rattle.std.proofs.lemmas.Option.{get_or_from_slice_get, slice_get-get_or}
use Rattle.world_heap.specs.BuiltIns.{place_of}
use Rattle.world_heap.specs.Maps.{keys, Stands}
use Rattle.js_realm.proofs.Listing.{length-keys, stands_at}
use Rattle.js_realm.proofs.bare.built_in_at.Goals as goal

pub unreachable-requires : goal.unreachable-requires
unreachable-requires c =
    let ks = keys c.args.heap.now.cells in
    let n = place_of c.args.name in
    let within : n < length ks = omega (arith, length-keys c.args.heap.now.cells, c.requires) in
    absurd (cc (slice_get-get_or ks n 0 within, c.built_in.ensures, c.in-None.is))

pub returns-clause-is : goal.returns-clause-is
returns-clause-is c = sym (get_or_from_slice_get (keys c.args.heap.now.cells) (place_of c.args.name) c.in-Some.loc 0 (sym c.built_in.ensures ∙ c.in-Some.is))

pub returns-clause-stands : goal.returns-clause-stands
returns-clause-stands c =
    let ks = keys c.args.heap.now.cells in
    let n = place_of c.args.name in
    let within : n < length ks = omega (arith, length-keys c.args.heap.now.cells, c.requires) in
    subst (Stands ks) (get_or_from_slice_get ks n c.in-Some.loc 0 (sym c.built_in.ensures ∙ c.in-Some.is)) (stands_at ks n within)
