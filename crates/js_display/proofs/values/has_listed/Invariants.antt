use Rattle.std.proofs.Common.{◌≡◌, drop}
use Rattle.js_display.specs.Levels.{listed_under, is_any}
use Rattle.js_display.proofs.values.has_listed.Given as goal

abbrev pub invariant-names : goal.invariant-names
invariant-names l = is_any (listed_under l.properties (drop l.name-index l.names)) ≡ is_any (listed_under l.properties l.names)
