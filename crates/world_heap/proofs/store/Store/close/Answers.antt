use Rattle.std.proofs.Common.{Some, ◌++◌, refl, sym, ap, ◌∙◌, subst, arith, remove, length, nat_eq}
use Rattle.std.proofs.lemmas.Option.{slice_get_within}
use Rattle.world_heap.specs.declared.store.Region.{Region}
use Rattle.world_heap.specs.Maps.{keys, without, Stands}
use Rattle.world_heap.specs.Stored.{IsHeld, IsAt, all_own, owners, maps}
use Rattle.world_heap.proofs.Regions.{keys-maps, at_within, maps-remove, distinct-remove}
use Rattle.world_heap.proofs.Storing.{held_apart, held_less, last_filled, last_alone, last_apart}
use Rattle.world_heap.proofs.Marking.{marked_remove, vacated_marked}
use Rattle.world_heap.proofs.store.Store.close.Goals as goal

pub region_at-at-requires : goal.region_at-at-requires
region_at-at-requires g c =
    let owned = ap keys (sym c.self.view_is) ∙ keys-maps c.self.inside.chunks c.self.inside.regions.items ∙ ap owners (sym c.as_slice.ensures.value) in
    subst (λ ks. Stands ks c.args.owner) owned c.requires

pub remove-region-requires : goal.remove-region-requires
remove-region-requires g c =
    let at = subst (λ rs. IsAt rs c.args.owner c.region_at-at.result) c.as_slice.ensures.value c.region_at-at.ensures in
    let within = at_within c.self.inside.regions.items c.args.owner c.region_at-at.result at in
    omega (arith, within, c.as_slice.ensures.len, ap length c.as_slice.ensures.value)

pub values-init : goal.values-init
values-init g c =
    let slots = c.self.inside.chunks in
    let regions = c.self.inside.regions.items in
    let at = subst (λ rs. IsAt rs c.args.owner c.region_at-at.result) c.as_slice.ensures.value c.region_at-at.ensures in
    let own = ap (λ (r : Region). r.own) c.remove-region.ensures.value in
    rw c.remove-region.ensures.items (record {
      held = subst (λ ks. IsHeld slots (ks ++ all_own (remove regions c.region_at-at.result))) (sym own) (held_apart slots regions c.self.invariant.0 c.args.owner c.region_at-at.result c.remove-region.result at);
      distinct = distinct-remove regions c.region_at-at.result c.self.invariant.0.distinct;
      kept = refl;
      marks = record {
        long = c.self.invariant.1.long;
        marked = marked_remove c.self.inside.marks.items regions c.region_at-at.result c.self.invariant.1.marked;
        bare = c.self.invariant.1.bare;
      };
    })

pub take-requires : goal.take-requires
take-requires g c =
    let slots = c.values.self-inside.chunks in
    let regions = c.values.self-inside.regions.items in
    last_filled slots regions c.pop.new.self c.in-Some.loc (subst (λ ks. IsHeld slots (ks ++ all_own regions)) c.in-Some.ensures c.values.invariant.held)

pub values-preserved : goal.values-preserved
values-preserved g c =
    let slots = c.values.self-inside.chunks in
    let regions = c.values.self-inside.regions.items in
    let held = subst (λ ks. IsHeld slots (ks ++ all_own regions)) c.in-Some.ensures c.values.invariant.held in
    rw c.take.ensures.vacated (record {
      held = held_less slots regions c.pop.new.self c.in-Some.loc held c.take.result c.take.ensures.value;
      distinct = c.values.invariant.distinct;
      kept = last_alone slots regions c.pop.new.self c.in-Some.loc held ∙ c.values.invariant.kept;
      marks = vacated_marked slots c.values.self-inside.marks.items regions c.in-Some.loc (slice_get_within slots c.in-Some.loc (Some c.take.result) c.take.ensures.value) (last_apart slots regions c.pop.new.self c.in-Some.loc held) c.values.invariant.marks;
    })

pub index_mut-requires : goal.index_mut-requires
index_mut-requires g c =
    let slots = c.values.self-inside.chunks in
    let within = slice_get_within slots c.in-Some.loc (Some c.take.result) c.take.ensures.value in
    omega (arith, within, c.values.invariant.marks.long)

pub invariant_of-self : goal.invariant_of-self
invariant_of-self g c = (
  record {
    held = subst (λ ks. IsHeld c.values.self-inside.chunks (ks ++ all_own c.values.self-inside.regions.items)) c.in_default.ensures.0 c.values.invariant.held;
    distinct = c.values.invariant.distinct;
  },
  c.values.invariant.marks,
)

pub returns : goal.returns
returns g c =
    let at = subst (λ rs. IsAt rs c.args.owner c.region_at-at.result) c.as_slice.ensures.value c.region_at-at.ensures in
    c.values.invariant.kept ∙ ap (maps c.self.inside.chunks) c.remove-region.ensures.items
    ∙ maps-remove c.self.inside.chunks c.self.inside.regions.items c.args.owner c.region_at-at.result at
    ∙ ap (λ ms. without nat_eq ms c.args.owner) c.self.view_is
