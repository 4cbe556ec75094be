-- The listed properties, name by name.
use Rattle.std.proofs.Common.{◌≡◌, ◌∙◌, ℕ, zero, suc, ◌+◌, ◌<◌, Bool, true, false, List, [], ◌∷◌, ◌++◌, length, drop, get_or, slice_get, nat_eq, Option, Some, None, refl, sym, ap, arith, if◌then◌else◌}
use Rattle.std.specs.Cmp.Lexicographic.{pointwise}
use Rattle.std.specs.Map.{keys_of}
use Rattle.std.proofs.lemmas.List.{drop_more}
use Rattle.world_heap.specs.declared.cell.Body.{Body}
use Rattle.world_heap.specs.Keys.{ordered_names}
use Rattle.js_semantics.specs.Properties.{in_key_order}
use Rattle.std.proofs.lemmas.List.Concat.{flat_map-cons}
use Rattle.std.specs.Option.{option_map_or}
use Rattle.std.specs.List.{flat_map}
use Rattle.world_heap.specs.declared.value.Property.{Property}
use Rattle.world_heap.specs.Table.{found_under}
use Rattle.js_semantics.specs.Display.{only_listed, is_listed, listed}
use Rattle.js_display.specs.Levels.{if_listed, listed_at, listed_under}

abbrev pub before : List ℕ → Option (Property ℕ) → List (List ℕ × Property ℕ) → List (List ℕ × Property ℕ)
before name None es = es
before name (Some p) es = (name, p) ∷ es

one_more : (name : List ℕ) (p : Option (Property ℕ)) (es : List (List ℕ × Property ℕ))
    → only_listed (option_map_or (λ v. (name, v) ∷ []) p [] ++ es) ≡ before name (if_listed p) (only_listed es)
one_more name None es = refl
one_more name (Some p) es =
    elim (is_listed p) as (λ b. (if b then (name, p) ∷ only_listed es else only_listed es) ≡ before name (if b then Some p else None) (only_listed es)) [
      | true ↦ refl
      | false ↦ refl
    ]

-- what is listed from a name on
pub listed_next : (entries : List (List ℕ × Property ℕ)) (name : List ℕ) (names : List (List ℕ))
    → listed_under entries (name ∷ names) ≡ before name (listed_at entries name) (listed_under entries names)
listed_next entries name names =
    ap only_listed (flat_map-cons (λ key. option_map_or (λ v. (key, v) ∷ []) (found_under entries key) []) name names)
    ∙ one_more name (found_under entries name) (flat_map (λ key. option_map_or (λ v. (key, v) ∷ []) (found_under entries key) []) names)

-- what is listed from a place on
pub listed_here : (entries : List (List ℕ × Property ℕ)) (names : List (List ℕ)) (i : ℕ) (name : List ℕ) (p : Option (Property ℕ))
    → i < length names → name ≡ get_or names i name → listed_at entries name ≡ p
    → listed_under entries (drop i names) ≡ before name p (listed_under entries (drop (i + 1) names))
listed_here entries names i name p h is q =
    ap (listed_under entries) (drop_more names i name h ∙ ap (λ n. n ∷ drop (i + 1) names) (sym is))
    ∙ listed_next entries name (drop (i + 1) names)
    ∙ ap (λ o. before name o (listed_under entries (drop (i + 1) names))) q

pub listed_is : (b : Body ℕ) → listed b ≡ listed_under b.properties (ordered_names (keys_of b.properties))
unfolding in_key_order
listed_is b = refl

-- a name that is another is passed over
passed : (entries : List (List ℕ × Property ℕ)) (at : ℕ) (name key : List ℕ) → slice_get (keys_of entries) at ≡ Some key
    → pointwise nat_eq name key ≡ false → found_under (drop at entries) name ≡ found_under (drop (suc at) entries) name
passed [] at name key g d = absurd (cc)
passed (e ∷ es) zero name key g d =
    let same : e.0 ≡ key = cc in
    let other : pointwise nat_eq name e.0 ≡ false = ap (pointwise nat_eq name) same ∙ d in
    ap (λ t. if t then Some e.1 else found_under es name) other
passed (e ∷ es) (suc at) name key g d = passed es at name key g d

pub found_next : (entries : List (List ℕ × Property ℕ)) (at : ℕ) (name key : List ℕ) → slice_get (keys_of entries) at ≡ Some key
    → pointwise nat_eq name key ≡ false → found_under (drop at entries) name ≡ found_under (drop (at + 1) entries) name
found_next entries at name key g d =
    let next : suc at ≡ at + 1 = omega arith in
    passed entries at name key g d ∙ ap (λ n. found_under (drop n entries) name) next
