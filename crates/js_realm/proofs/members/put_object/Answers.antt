use Rattle.std.proofs.Common.{get_or, ap, ◌∙◌}
use Rattle.std.proofs.lemmas.List.{get_or_read}
use Rattle.world_heap.specs.declared.value.Value.TheVariants.{Ref}
use Rattle.world_heap.specs.Table.{put_under}
use Rattle.js_semantics.specs.Properties.{member}
use Rattle.js_realm.proofs.Listing.{stands_at}
use Rattle.js_realm.proofs.Changing.{puts_one}
use Rattle.js_realm.proofs.members.put_object.Goals as goal

pub returns : goal.returns
returns c = puts_one c.args.places.now c.args.name.now (member (Ref (get_or c.args.places.now c.args.place 0))) c.args.members.now c.put.new.members (stands_at c.args.places.now c.args.place c.requires.place)
    (c.in_ok-put.ensures ∙ ap (λ p. put_under c.args.members.now c.args.name.now p) (c.member.ensures ∙ ap (λ l. member (Ref l)) (get_or_read c.args.places.now c.args.place c.index-places-place.result c.requires.place c.index-places-place.is 0)))
