use Rattle.std.proofs.Common.{◌≡◌}
use Rattle.serde_json.specs.View.{members_view}
use Rattle.app_manifest.specs.Manifest.{unknown_member}
use Rattle.app_manifest.proofs.keys.refuse_unknown_member.Given as goal

-- The first unknown key is that of the rest.
abbrev pub invariant-members : goal.invariant-members
invariant-members l = unknown_member l.place (members_view l.fn.members.entries) ≡ unknown_member l.place (members_view l.key-iterator)
