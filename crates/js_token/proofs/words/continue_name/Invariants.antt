use Rattle.std.proofs.Common.{◌≡◌, length}
use Rattle.std.specs.Char.Utf16.{utf16_chars}
use Rattle.js_token.specs.Words.{continue_name}
use Rattle.js_token.proofs.words.continue_name.Given as goal

abbrev pub invariant-name : goal.invariant-name
invariant-name l = continue_name (utf16_chars l.units) ≡ continue_name (utf16_chars l.left)

abbrev pub decreases-name : goal.decreases-name
decreases-name l = length l.left
