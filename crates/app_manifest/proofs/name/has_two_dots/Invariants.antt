use Rattle.std.proofs.Common.{◌≡◌, length}
use Rattle.app_manifest.specs.Names.{has_two_dots}
use Rattle.app_manifest.proofs.name.has_two_dots.Given as goal

-- What is left has two dots where the text has.
abbrev pub invariant-bytes : goal.invariant-bytes
invariant-bytes l = has_two_dots l.rest ≡ has_two_dots l.text

abbrev pub decreases-bytes : goal.decreases-bytes
decreases-bytes l = length l.rest
