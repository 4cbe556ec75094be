-- Lemmas on the first refusal of the files of an application.
use Rattle.std.proofs.Common.{◌≡◌, ℕ, ◌≤◌, List, [], ◌∷◌, ◌++◌, map, Option, Some, None, ap, sym, ◌∙◌, refl, inl, inr, ◌⊎◌, subst, min, ◌+◌, ◌-◌, ◌^◌, arith}
use Rattle.std.specs.Prelude.{IfSome}
use Rattle.wl_causes.specs.Causes.{Rose}
use Rattle.wl_causes.specs.Reading.{Files}
use Rattle.app_manifest.specs.App.{Check, IsReached, first_refusal}
use Rattle.app_manifest.specs.Clauses.{Stops}
use Rattle.app_manifest.specs.declared.app.AppFault.{AppFault}
use Rattle.app_manifest.specs.declared.app.AppFault.TheVariants.{Folder, Absent, TooLong, Json, Shape, Script, Memory}

-- What stands behind files that aren't refused is refused first.
pub refusal-behind : {F : Type 0} (xs ys : List (Check F)) → first_refusal xs ≡ None → first_refusal (xs ++ ys) ≡ first_refusal ys
refusal-behind [] ys e = refl
refusal-behind ((file, None) ∷ xs) ys e = refusal-behind xs ys e
refusal-behind ((file, Some fault) ∷ xs) ys e = absurd (cc)

-- What is refused first stays so, whatever follows.
pub refusal-front : {F : Type 0} (xs ys : List (Check F)) (fault : F) → first_refusal xs ≡ Some fault → first_refusal (xs ++ ys) ≡ Some fault
refusal-front [] ys fault e = absurd (cc)
refusal-front ((file, None) ∷ xs) ys fault e = refusal-front xs ys fault e
refusal-front ((file, Some other) ∷ xs) ys fault e = e

pub reached-behind : {F : Type 0} (xs ys : List (Check F)) (file : List ℕ) → first_refusal xs ≡ None → IsReached ys file → IsReached (xs ++ ys) file
reached-behind [] ys file e h = h
reached-behind ((name, None) ∷ xs) ys file e h = inr (refl, reached-behind xs ys file e h)
reached-behind ((name, Some fault) ∷ xs) ys file e h = absurd (cc)

pub reached-front : {F : Type 0} (xs ys : List (Check F)) (file : List ℕ) → IsReached xs file → IsReached (xs ++ ys) file
reached-front [] ys file h = absurd h
reached-front ((name, refusal) ∷ xs) ys file (inl e) = inl e
reached-front ((name, refusal) ∷ xs) ys file (inr (none, h)) = inr (none, reached-front xs ys file h)

-- The count rose from what it was before, too.
pub Rose-after : (a b c : ℕ) → a ≤ b → Rose b c → Rose a c
Rose-after a b c le rose = omega (arith, le, rose)

module _ (app : List ℕ) (cs ds : Files → List (Check AppFault)) where
  -- A fact about the checks of both.
  over : (files : Option Files) (P Q : Files → Type 0) → ((f : Files) → P f → Q f) → IfSome files P → IfSome files Q
  over None P Q step h = tt
  over (Some f) P Q step h = step f h

  module _ (files : Option Files) (A : Type 0) where
    pub stops-front : (fault : AppFault) → Stops app files cs A fault → Stops app files (λ f. cs f ++ ds f) A fault
    stops-front Memory h = tt
    stops-front (Folder file) (rose, named, h) = (rose, named, over files _ _ (λ f. reached-front (cs f) (ds f) file) h)
    stops-front (Absent file) h = over files _ _ (λ f. refusal-front (cs f) (ds f) (Absent file)) h
    stops-front (TooLong file limit) h = over files _ _ (λ f. refusal-front (cs f) (ds f) (TooLong file limit)) h
    stops-front (Json file) h = over files _ _ (λ f. refusal-front (cs f) (ds f) (Json file)) h
    stops-front (Shape file key) h = over files _ _ (λ f. refusal-front (cs f) (ds f) (Shape file key)) h
    stops-front (Script file place kind) h = over files _ _ (λ f. refusal-front (cs f) (ds f) (Script file place kind)) h

    both : (P Q R : Files → Type 0) → ((f : Files) → P f → Q f → R f) → IfSome files P → IfSome files Q → IfSome files R
    both P Q R step p q = by files p q
      where
        by : (given : Option Files) → IfSome given P → IfSome given Q → IfSome given R
        by None p q = tt
        by (Some f) p q = step f p q

    module _ (passed : IfSome files (λ f. first_refusal (cs f) ≡ None)) where
      behind : (fault : AppFault) → IfSome files (λ f. first_refusal (ds f) ≡ Some fault) → IfSome files (λ f. first_refusal (cs f ++ ds f) ≡ Some fault)
      behind fault h = both _ _ _ (λ f none some. refusal-behind (cs f) (ds f) none ∙ some) passed h

      pub stops-behind : (fault : AppFault) → Stops app files ds A fault → Stops app files (λ f. cs f ++ ds f) A fault
      stops-behind Memory h = tt
      stops-behind (Folder file) (rose, named, h) = (rose, named, both _ _ _ (λ f none reached. reached-behind (cs f) (ds f) file none reached) passed h)
      stops-behind (Absent file) h = behind (Absent file) h
      stops-behind (TooLong file limit) h = behind (TooLong file limit) h
      stops-behind (Json file) h = behind (Json file) h
      stops-behind (Shape file key) h = behind (Shape file key) h
      stops-behind (Script file place kind) h = behind (Script file place kind) h

    module _ (B : Type 0) (step : A → B) (same : IfSome files (λ f. cs f ≡ ds f)) where
      along : (fault : AppFault) → IfSome files (λ f. first_refusal (cs f) ≡ Some fault) → IfSome files (λ f. first_refusal (ds f) ≡ Some fault)
      along fault h = both _ _ _ (λ f e some. ap first_refusal (sym e) ∙ some) same h

      -- The same checks, and a weaker word of the folder's fault.
      pub stops-along : (fault : AppFault) → Stops app files cs A fault → Stops app files ds B fault
      stops-along Memory h = tt
      stops-along (Folder file) (rose, named, h) = (step rose, named, both _ _ _ (λ f e reached. subst (λ checks. IsReached checks file) e reached) same h)
      stops-along (Absent file) h = along (Absent file) h
      stops-along (TooLong file limit) h = along (TooLong file limit) h
      stops-along (Json file) h = along (Json file) h
      stops-along (Shape file key) h = along (Shape file key) h
      stops-along (Script file place kind) h = along (Script file place kind) h
