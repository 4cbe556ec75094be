-- What the calls that read a manifest answer: as the definitions, but for memory, which may run out everywhere.
use Rattle.std.specs.Prelude.{◌≡◌, ℕ, List, Bool, true, false, Option, Some, None, Result, Ok, Err, codes}
use Rattle.world_heap.specs.Bounded.{bounds_of}
use Rattle.app_manifest.specs.Manifest.{Said}
use Rattle.app_manifest.specs.declared.plan.ManifestFault.{ManifestFault}
use Rattle.app_manifest.specs.declared.plan.ManifestFault.TheVariants.{Json, Shape, Memory}
use Rattle.app_manifest.specs.declared.plan.Plan.{Plan}

-- The key is the first that is broken.
abbrev pub IsBroken : Option (List ℕ) → ManifestFault → Type 0
IsBroken broken (Shape key) = broken ≡ Some key
IsBroken broken Json = ⊥
IsBroken broken Memory = Unit {0}

-- No key is broken, and this is what is said; or the first broken key is told.
abbrev pub Says : {A B : Type 0} → (A → B) → Result A ManifestFault → Option (List ℕ) → B → Type 0
Says seen (Ok it) broken told = (broken ≡ None) × (seen it ≡ told)
Says seen (Err fault) broken told = IsBroken broken fault

-- No key is broken, or the first that is broken is told.
abbrev pub Passes : Result (Unit {0}) ManifestFault → Option (List ℕ) → Type 0
Passes (Ok done) broken = broken ≡ None
Passes (Err fault) broken = IsBroken broken fault

abbrev pub itself : {A : Type 0} → A → A
itself a = a

-- The name that a value is, where the test says that it is one.
abbrev pub Names : Option (List ℕ) → Bool → List ℕ → Type 0
Names None good text = good ≡ false
Names (Some name) good text = (good ≡ true) × (name ≡ text)

-- what a plan says
abbrev pub said_by : Plan → Said
said_by plan = record { main = plan.main; windows = plan.windows; limits = bounds_of plan.limits }

-- The plan of a manifest, or why there is none.
abbrev pub PlanAnswers : Result Plan ManifestFault → Result Said ManifestFault → Type 0
PlanAnswers (Ok plan) told = told ≡ Ok (said_by plan)
PlanAnswers (Err (Shape key)) told = told ≡ Err (Shape key)
PlanAnswers (Err Json) told = told ≡ Err Json
PlanAnswers (Err Memory) told = Unit {0}
