use Rattle.std.proofs.Common.{◌++◌, ◌∷◌, [], Some, None, sym, ap, ◌∙◌, subst, arith, set, length, nat_eq}
use Rattle.std.proofs.lemmas.List.{set-get_or}
use Rattle.world_heap.specs.declared.store.Region.{Region}
use Rattle.world_heap.specs.Maps.{keys, put, Stands}
use Rattle.world_heap.specs.Shelf.{values_of, Apart}
use Rattle.world_heap.specs.Stored.{IsAt, IsStored, IsMarked, owners, maps}
use Rattle.world_heap.proofs.Regions.{keys-maps, at_owner, at_within, maps-more}
use Rattle.world_heap.proofs.Storing.{stored_room, stored_add, apart_add, add_is, set_back}
use Rattle.world_heap.proofs.Marking.{room_marked, added_marked}
use Rattle.world_heap.proofs.store.Store.add.Goals as goal

pub region_at-at-requires : goal.region_at-at-requires
region_at-at-requires g c =
    let owned = ap keys (sym c.self.view_is) ∙ keys-maps c.self.inside.chunks c.self.inside.regions.items ∙ ap owners (sym c.as_slice.ensures.value) in
    subst (λ ks. Stands ks c.args.owner) owned c.requires

pub index_mut-requires : goal.index_mut-requires
index_mut-requires g c =
    let at = subst (λ rs. IsAt rs c.args.owner c.region_at-at.result) c.as_slice.ensures.value c.region_at-at.ensures in
    let within = at_within c.self.inside.regions.items c.args.owner c.region_at-at.result at in
    omega (arith, within, c.as_slice.ensures.len, ap length c.as_slice.ensures.value)

pub invariant_of-self : goal.invariant_of-self
invariant_of-self g c =
    let regions = c.self.inside.regions.items in
    let marks = room_marked c.self.inside.chunks c.self.inside.marks.items regions c.in_err-make_room.ensures.more.0 c.make_room.new.marks.items c.in_err-make_room.ensures.same (rw c.in_err-make_room.ensures.more.1 at c.in_err-make_room.ensures.long) c.self.invariant.1 in (
      subst (λ xs. IsStored xs regions) (sym c.in_err-make_room.ensures.more.1) (stored_room c.self.inside.chunks regions c.self.invariant.0 c.in_err-make_room.ensures.more.0),
      subst (λ xs. IsMarked xs c.make_room.new.marks.items regions) (sym c.in_err-make_room.ensures.more.1) marks,
    )

pub invariant_of-self-in-Ok-push : goal.invariant_of-self-in-Ok-push
invariant_of-self-in-Ok-push g c =
    let slots = c.make_room.new.chunks in
    let regions = c.self.inside.regions.items in
    let stored = subst (λ xs. IsStored xs regions) (sym c.in_ok-make_room.ensures.more.1) (stored_room c.self.inside.chunks regions c.self.invariant.0 c.in_ok-make_room.ensures.more.0) in
    let at = subst (λ rs. IsAt rs c.args.owner c.region_at-at.result) c.as_slice.ensures.value c.region_at-at.ensures in
    let region : Region = record { owner = c.index_mut.result.now.owner; own = c.push.new.self } in
    let owner = ap (λ (r : Region). r.owner) c.index_mut.ensures.value ∙ at_owner regions c.args.owner c.region_at-at.result c.index_mut.result.now at in
    let own = c.in-Ok-push.ensures.ok ∙ ap (λ (r : Region). r.own ++ c.in-Ok.slot.0 ∷ []) c.index_mut.ensures.value in
    let marks = room_marked c.self.inside.chunks c.self.inside.marks.items regions c.in_ok-make_room.ensures.more.0 c.make_room.new.marks.items c.in_ok-make_room.ensures.same (rw c.in_ok-make_room.ensures.more.1 at c.in_ok-make_room.ensures.long) c.self.invariant.1 in
    let marked = subst (λ xs. IsMarked xs c.make_room.new.marks.items regions) (sym c.in_ok-make_room.ensures.more.1) marks in
    subst (λ xs. IsStored xs (set regions c.region_at-at.result region) × IsMarked xs (set c.make_room.new.marks.items c.in-Ok.slot.0 (Some c.args.owner)) (set regions c.region_at-at.result region)) (sym c.in-Ok.ensures.filled.1) (
      stored_add slots regions stored c.args.owner c.region_at-at.result c.in-Ok.slot.0 c.index_mut.result.now region c.args.value at c.in-Ok.ensures.filled.0 owner own,
      added_marked slots c.make_room.new.marks.items regions c.in-Ok.slot.0 c.args.owner c.region_at-at.result c.index_mut.result.now region c.args.value stored c.in-Ok.ensures.filled.0 at owner own marked,
    )

pub invariant_of-self-in-Err-push : goal.invariant_of-self-in-Err-push
invariant_of-self-in-Err-push g c =
    let regions = c.self.inside.regions.items in
    let stored = subst (λ xs. IsStored xs regions) (sym c.in_ok-make_room.ensures.more.1) (stored_room c.self.inside.chunks regions c.self.invariant.0 c.in_ok-make_room.ensures.more.0) in
    let slots = c.take.ensures.vacated ∙ ap (λ xs. set xs c.in-Ok.slot.0 None) c.in-Ok.ensures.filled.1 ∙ set_back c.make_room.new.chunks c.in-Ok.slot.0 (Some c.args.value) c.in-Ok.ensures.filled.0 in
    let same = ap (λ n. set regions c.region_at-at.result n) c.index_mut.ensures.value ∙ set-get_or regions c.region_at-at.result c.index_mut.result.now in
    let marks = room_marked c.self.inside.chunks c.self.inside.marks.items regions c.in_ok-make_room.ensures.more.0 c.make_room.new.marks.items c.in_ok-make_room.ensures.same (rw c.in_ok-make_room.ensures.more.1 at c.in_ok-make_room.ensures.long) c.self.invariant.1 in
    let marked = subst (λ xs. IsMarked xs c.make_room.new.marks.items regions) (sym c.in_ok-make_room.ensures.more.1) marks in
    rw (slots, c.in-Err-push.ensures.err, same) (stored, marked)

pub returns-in-Ok-push-clause-added : goal.returns-in-Ok-push-clause-added
returns-in-Ok-push-clause-added g c =
    let slots = c.make_room.new.chunks in
    let regions = c.self.inside.regions.items in
    let stored = subst (λ xs. IsStored xs regions) (sym c.in_ok-make_room.ensures.more.1) (stored_room c.self.inside.chunks regions c.self.invariant.0 c.in_ok-make_room.ensures.more.0) in
    let at = subst (λ rs. IsAt rs c.args.owner c.region_at-at.result) c.as_slice.ensures.value c.region_at-at.ensures in
    let region : Region = record { owner = c.index_mut.result.now.owner; own = c.push.new.self } in
    let owner = ap (λ (r : Region). r.owner) c.index_mut.ensures.value ∙ at_owner regions c.args.owner c.region_at-at.result c.index_mut.result.now at in
    let own = c.in-Ok-push.ensures.ok ∙ ap (λ (r : Region). r.own ++ c.in-Ok.slot.0 ∷ []) c.index_mut.ensures.value in
    let view = ap (λ xs. maps xs regions) c.in_ok-make_room.ensures.more.1 ∙ maps-more c.self.inside.chunks c.in_ok-make_room.ensures.more.0 regions ∙ c.self.view_is in
    ap (λ xs. maps xs (set regions c.region_at-at.result region)) c.in-Ok.ensures.filled.1
    ∙ add_is slots regions stored c.args.owner c.region_at-at.result c.in-Ok.slot.0 c.index_mut.result.now region c.args.value at c.in-Ok.ensures.filled.0 owner own
    ∙ ap (λ ms. put nat_eq ms c.args.owner (values_of ms c.args.owner ++ (c.in-Ok.slot.0, c.args.value) ∷ [])) view

pub returns-in-Ok-push-clause-apart : goal.returns-in-Ok-push-clause-apart
returns-in-Ok-push-clause-apart g c =
    let slots = c.make_room.new.chunks in
    let regions = c.self.inside.regions.items in
    let stored = subst (λ xs. IsStored xs regions) (sym c.in_ok-make_room.ensures.more.1) (stored_room c.self.inside.chunks regions c.self.invariant.0 c.in_ok-make_room.ensures.more.0) in
    let at = subst (λ rs. IsAt rs c.args.owner c.region_at-at.result) c.as_slice.ensures.value c.region_at-at.ensures in
    let region : Region = record { owner = c.index_mut.result.now.owner; own = c.push.new.self } in
    let owner = ap (λ (r : Region). r.owner) c.index_mut.ensures.value ∙ at_owner regions c.args.owner c.region_at-at.result c.index_mut.result.now at in
    let own = c.in-Ok-push.ensures.ok ∙ ap (λ (r : Region). r.own ++ c.in-Ok.slot.0 ∷ []) c.index_mut.ensures.value in
    let view = ap (λ xs. maps xs regions) c.in_ok-make_room.ensures.more.1 ∙ maps-more c.self.inside.chunks c.in_ok-make_room.ensures.more.0 regions ∙ c.self.view_is in
    subst (λ ms. Apart ms c.in-Ok.slot.0) view (apart_add slots regions stored c.args.owner c.region_at-at.result c.in-Ok.slot.0 c.index_mut.result.now region c.args.value at c.in-Ok.ensures.filled.0 owner own)

pub returns-in-Err-push-clause-err : goal.returns-in-Err-push-clause-err
returns-in-Err-push-clause-err g c =
    let regions = c.self.inside.regions.items in
    let slots = c.take.ensures.vacated ∙ ap (λ xs. set xs c.in-Ok.slot.0 None) c.in-Ok.ensures.filled.1 ∙ set_back c.make_room.new.chunks c.in-Ok.slot.0 (Some c.args.value) c.in-Ok.ensures.filled.0 in
    let same = ap (λ n. set regions c.region_at-at.result n) c.index_mut.ensures.value ∙ set-get_or regions c.region_at-at.result c.index_mut.result.now in
    let view = ap (λ xs. maps xs regions) c.in_ok-make_room.ensures.more.1 ∙ maps-more c.self.inside.chunks c.in_ok-make_room.ensures.more.0 regions ∙ c.self.view_is in
    rw (slots, c.in-Err-push.ensures.err, same) view
