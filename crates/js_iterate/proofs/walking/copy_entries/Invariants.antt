use Rattle.std.proofs.Common.{◌≡◌, take}
use Rattle.js_iterate.proofs.walking.copy_entries.Given as goal

abbrev pub invariant-entries : goal.invariant-entries
invariant-entries l = l.copies ≡ take l.entry-index l.entries
