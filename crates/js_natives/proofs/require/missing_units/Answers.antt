use Rattle.std.proofs.Common.{◌∙◌}
use Rattle.js_natives.proofs.Saying.{message_is}
use Rattle.js_natives.proofs.require.missing_units.Goals as goal

pub returns : goal.returns
returns c = message_is c.args.name.now c.as_slice-2.result.now c.in_ok-list.list.items c.extend_from_slice.new.self.items c.push.new.self.items c.truncate.new.self.items (c.in_ok-list.ensures.items ∙ c.as_slice.ensures) c.as_slice-2.ensures.value c.in_ok-extend_from_slice.ensures.items c.in_ok-push.ensures.items c.truncate.ensures.items
