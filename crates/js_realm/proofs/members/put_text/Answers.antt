use Rattle.std.proofs.Common.{ap, ◌∙◌}
use Rattle.world_heap.specs.declared.value.Value.TheVariants.{Str}
use Rattle.world_heap.specs.Table.{put_under}
use Rattle.js_semantics.specs.Properties.{member}
use Rattle.js_realm.proofs.Changing.{puts_one}
use Rattle.js_realm.proofs.members.put_text.Goals as goal

pub returns : goal.returns
returns c = puts_one c.args.places.now c.args.name.now (member (Str c.args.text.now)) c.args.members.now c.put.new.members tt
    (c.in_ok-put.ensures ∙ ap (λ p. put_under c.args.members.now c.args.name.now p) (c.member.ensures ∙ ap (λ t. member (Str t)) c.in_ok-text.ensures))
