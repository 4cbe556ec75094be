-- Lemmas on reading window after window.
use Rattle.std.proofs.Common.{◌≡◌, ℕ, ◌+◌, ◌<◌, List, [], ◌∷◌, ◌++◌, length, map, flat_map, take, drop, get_or, Option, Some, None, ap, sym, ◌∙◌, refl, subst, append-nil}
use Rattle.std.specs.Prelude.{IfSome}
use Rattle.std.proofs.lemmas.Grind.{flat_map-append}
use Rattle.std.proofs.lemmas.List.{map-append, take_more, drop_more, take-append-drop}
use Rattle.wl_causes.specs.Reading.{Files}
use Rattle.app_manifest.specs.App.{first_refusal, script_checks, window_scripts, window_texts}
use Rattle.app_manifest.specs.Clauses.{Reads, Stops, window_read}
use Rattle.app_manifest.specs.declared.app.AppFault.{AppFault}
use Rattle.app_manifest.specs.declared.app.WindowApp.{WindowApp}
use Rattle.app_manifest.specs.declared.plan.WindowPlan.{WindowPlan}
use Rattle.app_manifest.proofs.Scripts.{over, all, stops-before, stops-later, reads-more}

-- Nothing was read yet.
pub start : (files : Option Files) (app : List ℕ) (plans : List WindowPlan) (windows : List WindowApp) → windows ≡ []
    → Reads files app (flat_map window_scripts (take 0 plans)) (λ f. map (window_texts f app) (take 0 plans)) (map window_read windows)
unfolding script_checks
start files app plans windows e = all files _ (λ f. (refl, ap (map window_read) e))

module _ (files : Option Files) (app : List ℕ) (plans : List WindowPlan) (at : ℕ) (plan : WindowPlan) (within : at < length plans)
    (is : plan ≡ get_or plans at plan) where
  taken : take (at + 1) plans ≡ take at plans ++ plan ∷ []
  taken = take_more plans at plan within ∙ ap (λ p. take at plans ++ p ∷ []) (sym is)

  one : flat_map window_scripts (plan ∷ []) ≡ window_scripts plan
  one = append-nil (window_scripts plan)

  named : flat_map window_scripts (take (at + 1) plans) ≡ flat_map window_scripts (take at plans) ++ window_scripts plan
  named =
      ap (flat_map window_scripts) taken ∙ flat_map-append window_scripts (take at plans) (plan ∷ [])
      ∙ ap (λ x. flat_map window_scripts (take at plans) ++ x) one

  told : (f : Files) → map (window_texts f app) (take (at + 1) plans) ≡ map (window_texts f app) (take at plans) ++ window_texts f app plan ∷ []
  told f = ap (map (window_texts f app)) taken ∙ map-append (window_texts f app) (take at plans) (plan ∷ [])

  -- One window more was read.
  pub turn : (windows : List WindowApp)
      → Reads files app (flat_map window_scripts (take at plans)) (λ f. map (window_texts f app) (take at plans)) (map window_read windows)
      → (window : WindowApp) → Reads files app (window_scripts plan) (λ f. window_texts f app plan) (window_read window)
      → (more : List WindowApp) → more ≡ windows ++ window ∷ []
      → Reads files app (flat_map window_scripts (take (at + 1) plans)) (λ f. map (window_texts f app) (take (at + 1) plans)) (map window_read more)
  turn windows passed window read more e =
      over files _ _ step (reads-more files app (flat_map window_scripts (take at plans)) (window_scripts plan) _ _ passed
      (λ front last. front ++ last ∷ []) (λ f. window_texts f app plan) (window_read window) read)
    where
      step : (f : Files)
          → (first_refusal (script_checks f app (flat_map window_scripts (take at plans) ++ window_scripts plan)) ≡ None)
          × (map window_read windows ++ window_read window ∷ [] ≡ map (window_texts f app) (take at plans) ++ window_texts f app plan ∷ [])
          → (first_refusal (script_checks f app (flat_map window_scripts (take (at + 1) plans))) ≡ None)
          × (map window_read more ≡ map (window_texts f app) (take (at + 1) plans))
      step f (none, same) = (
        ap (λ names. first_refusal (script_checks f app names)) named ∙ none,
        ap (map window_read) e ∙ map-append window_read windows (window ∷ []) ∙ same ∙ sym (told f),
      )

  split : flat_map window_scripts plans ≡ flat_map window_scripts (take at plans) ++ (window_scripts plan ++ flat_map window_scripts (drop (at + 1) plans))
  split =
      ap (flat_map window_scripts) (sym (take-append-drop at plans)) ∙ flat_map-append window_scripts (take at plans) (drop at plans)
      ∙ ap (λ rest. flat_map window_scripts (take at plans) ++ flat_map window_scripts rest)
      (drop_more plans at plan within ∙ ap (λ p. p ∷ drop (at + 1) plans) (sym is))

  -- A window stops the reading.
  pub stops : {T : Type 0} (known : Files → T) (it : T) → Reads files app (flat_map window_scripts (take at plans)) known it
      → (A B : Type 0) → (A → B) → (fault : AppFault) → Stops app files (λ f. script_checks f app (window_scripts plan)) A fault
      → Stops app files (λ f. script_checks f app (flat_map window_scripts plans)) B fault
  stops known it passed A B step fault h =
      subst (λ names. Stops app files (λ f. script_checks f app names) B fault) (sym split)
      (stops-later files app (flat_map window_scripts (take at plans)) (window_scripts plan ++ flat_map window_scripts (drop (at + 1) plans))
      known it passed A B step fault
      (stops-before files app (window_scripts plan) (flat_map window_scripts (drop (at + 1) plans)) A A (λ x. x) fault h))
