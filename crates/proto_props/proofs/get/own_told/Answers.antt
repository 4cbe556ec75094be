use Rattle.std.proofs.Common.{◌∙◌, ap, nat_eq, subst, sym, rules}
use Rattle.std.specs.Option.{option_copied}
use Rattle.world_heap.specs.Heaps.{Fits, IsCell, IsNoEnv, IsWithin}
use Rattle.world_heap.proofs.Bodying.{fits_body}
use Rattle.proto_props.proofs.Turns.{within_stands}
use Rattle.proto_props.proofs.get.own_told.Goals as goal

pub byte_of-byte-requires : goal.byte_of-byte-requires
byte_of-byte-requires c =
    let fit = subst (Fits nat_eq c.args.heap.now.cells) c.in-View.is c.requires in
    within_stands c.args.heap.now.cells c.in-View.buffer c.in-View.offset c.in-View.length fit.1

pub returns-in-None-index_of-clause-fits : goal.returns-in-None-index_of-clause-fits
returns-in-None-index_of-clause-fits c =
    let fit = subst (Fits nat_eq c.args.heap.now.cells) c.in-View.is c.requires in
    c.body_told.ensures.fits c.args.heap.now.cells fit.0.1

pub returns-in-Some-body : goal.returns-in-Some-body
returns-in-Some-body c =
    let cells = c.args.heap.now.cells in
    let over = fits_body (IsNoEnv nat_eq cells) (IsCell nat_eq cells) (IsWithin nat_eq cells) c.args.cell.now c.in-Some-body.body.now (sym c.body.ensures ∙ ap option_copied c.in-Some-body.is) c.requires in
    record { is = search rules; fits = c.body_told-in-Some-body.ensures.fits cells over.1 }
