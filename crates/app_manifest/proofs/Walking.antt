-- Lemmas on walks over the windows and the members of a manifest.
use Rattle.std.proofs.Common.{◌≡◌, ℕ, suc, ◌+◌, ◌<◌, List, [], ◌∷◌, ◌++◌, length, drop, Option, Some, None, refl, sym, ap, ◌∙◌}
use Rattle.std.proofs.lemmas.List.{drop_more, drop_all}
use Rattle.serde_json.specs.View.{view, items_view}
use Rattle.serde_json.specs.declared.value.Value.{Value}
use Rattle.app_manifest.specs.Manifest.{count}

-- There are as many items as values.
pub count_is : (values : List Value) → count (items_view values) ≡ length values
count_is [] = refl
count_is (value ∷ values) = ap (λ n. suc n) (count_is values)
