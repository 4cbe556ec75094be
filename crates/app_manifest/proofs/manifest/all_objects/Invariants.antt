use Rattle.std.proofs.Common.{◌≡◌, drop}
use Rattle.serde_json.specs.View.{items_view}
use Rattle.app_manifest.specs.Manifest.{all_objects}
use Rattle.app_manifest.proofs.manifest.all_objects.Given as goal

-- All are objects where the rest are.
abbrev pub invariant-values : goal.invariant-values
invariant-values l = all_objects (items_view l.fn.values) ≡ all_objects (items_view (drop l.value-index l.values))
