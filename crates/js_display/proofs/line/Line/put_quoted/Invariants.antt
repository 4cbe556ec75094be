use Rattle.std.proofs.Common.{◌≡◌, drop, ◌++◌, ◌∷◌, []}
use Rattle.std.specs.List.{flat_map}
use Rattle.wl_text.specs.Text.{quoted_unit}
use Rattle.js_display.specs.Line.{more}
use Rattle.js_display.proofs.line.Line.put_quoted.Given as goal

-- The line with what is quoted of the rest behind it is what the line with all of it was.
abbrev pub invariant-units : goal.invariant-units
invariant-units l = more (flat_map quoted_unit (drop l.unit-index l.unit-items) ++ 34 ∷ []) l.self ≡ more (34 ∷ flat_map quoted_unit l.unit-items ++ 34 ∷ []) l.fn.self
