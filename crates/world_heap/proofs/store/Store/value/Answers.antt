use Rattle.std.proofs.Common.{◌≡◌, Some, sym, subst, nat_eq}
use Rattle.world_heap.specs.Maps.{find}
use Rattle.world_heap.specs.Shelf.{values_of, IsAmong}
use Rattle.world_heap.proofs.Storing.{among_filled, among_find}
use Rattle.world_heap.proofs.store.Store.value.Goals as goal

pub get-requires : goal.get-requires
get-requires g c =
    among_filled c.self.inside.chunks c.self.inside.regions.items c.self.invariant.0 c.requires.0 c.args.loc (subst (λ ms. IsAmong ms c.requires.0 c.args.loc) (sym c.self.view_is) c.requires.1)

pub returns : goal.returns
returns g c = λ owner among.
    subst (λ ms. find nat_eq (values_of ms owner) c.args.loc ≡ Some c.get.result.now) c.self.view_is
    (among_find c.self.inside.chunks c.self.inside.regions.items c.self.invariant.0 owner c.args.loc c.get.result.now (subst (λ ms. IsAmong ms owner c.args.loc) (sym c.self.view_is) among) c.get.ensures)
