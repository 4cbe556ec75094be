-- Lemmas on the scripts of an application.
use Rattle.std.proofs.Common.{◌≡◌, ℕ, List, [], ◌∷◌, ◌++◌, length, map, flat_map, true, Option, Some, None, option_map, Result, Ok, Err, ap, sym, ◌∙◌, refl, inl, inr, subst, ◌≤◌, Bool, false, nat_lt, if◌then◌else◌, arith}
use Rattle.std.proofs.lemmas.Bool.Decides.{nat_tests}
use Rattle.js_source.specs.Source.{source_of}
use Rattle.std.specs.Prelude.{IfSome}
use Rattle.std.specs.Option.{option_map_or, unwrap_or}
use Rattle.std.proofs.lemmas.List.{map-append}
use Rattle.wl_causes.specs.Reading.{Files}
use Rattle.app_manifest.specs.Names.{is_file_name}
use Rattle.app_manifest.specs.Manifest.{Said, said_of}
use Rattle.app_manifest.specs.App.{Check, IsReached, Texts, required, optional, said_or_default, said_refusal, source_refusal, first_refusal, file_of, manifest_name, manifest_refusal, script_refusal, script_checks, bytes_at, scripts, preload_scripts, window_scripts, window_texts, app_said, app_checks, app_texts, app_of, texts_said, texts_if_said, checks_if_said}
use Rattle.app_manifest.specs.Clauses.{IsNamed, Reads, Refuses, Stops, StopsAt}
use Rattle.app_manifest.specs.declared.app.AppFault.{AppFault}
use Rattle.app_manifest.specs.declared.app.AppFault.TheVariants.{Folder, Absent, TooLong, Json, Shape, Script, Memory}
use Rattle.app_manifest.specs.declared.plan.WindowPlan.{WindowPlan}
use Rattle.app_manifest.proofs.Stopping.{refusal-behind, stops-front, stops-behind, stops-along}

pub over : (files : Option Files) (P Q : Files → Type 0) → ((f : Files) → P f → Q f) → IfSome files P → IfSome files Q
over None P Q step h = tt
over (Some f) P Q step h = step f h

pub all : (files : Option Files) (P : Files → Type 0) → ((f : Files) → P f) → IfSome files P
all None P h = tt
all (Some f) P h = h f

pub both : (files : Option Files) (P Q R : Files → Type 0) → ((f : Files) → P f → Q f → R f) → IfSome files P → IfSome files Q → IfSome files R
both None P Q R step p q = tt
both (Some f) P Q R step p q = step f p q

module _ (app file : List ℕ) (files : Option Files) (refusal : Files → Option AppFault) (A : Type 0) where
  one : (fault : AppFault) → IfSome files (λ f. refusal f ≡ Some fault) → IfSome files (λ f. first_refusal ((file, refusal f) ∷ []) ≡ Some fault)
  one fault h = over files _ _ (λ f e. ap (λ r. first_refusal ((file, r) ∷ [])) e) h

  -- The one file of a list stops the reading.
  pub stops-at : IsNamed app file → (fault : AppFault) → StopsAt files refusal file A fault → Stops app files (λ f. (file, refusal f) ∷ []) A fault
  stops-at named Memory h = tt
  stops-at named (Folder name) (rose, e) = (rose, subst (IsNamed app) (sym e) named, all files _ (λ f. inl (sym e)))
  stops-at named (Absent name) h = one (Absent name) h
  stops-at named (TooLong name limit) h = one (TooLong name limit) h
  stops-at named (Json name) h = one (Json name) h
  stops-at named (Shape name key) h = one (Shape name key) h
  stops-at named (Script name place kind) h = one (Script name place kind) h

-- ---- one file

otherwise : {X : Type 0} (test : Bool) (x y : X) → test ≡ false → (if test then x else y) ≡ y
otherwise true x y e = absurd (cc)
otherwise false x y e = refl

-- A file that is there and not too long is refused for what it holds.
required-some : (file : List ℕ) (limit : ℕ) (contents : List ℕ → Option AppFault) (bytes : List ℕ) → length bytes ≤ limit
    → required file limit contents (Some bytes) ≡ contents bytes
unfolding required
required-some file limit contents bytes short =
    let fits : nat_lt limit (length bytes) ≡ false = grind (arith, nat_tests) in
    otherwise (nat_lt limit (length bytes)) (Some (TooLong file limit)) (contents bytes) fits

optional-some : (file : List ℕ) (limit : ℕ) (contents : List ℕ → Option AppFault) (bytes : List ℕ) → length bytes ≤ limit
    → optional file limit contents (Some bytes) ≡ contents bytes
unfolding optional
optional-some file limit contents bytes short =
    let fits : nat_lt limit (length bytes) ≡ false = grind (arith, nat_tests) in
    otherwise (nat_lt limit (length bytes)) (Some (TooLong file limit)) (contents bytes) fits

-- What a file holds stops the reading.
pub stops-contents : (files : Option Files) (refusal : Files → Option AppFault) (name : List ℕ) (A : Type 0) (told : Option AppFault)
    → IfSome files (λ f. refusal f ≡ told) → (fault : AppFault) → Refuses told fault → StopsAt files refusal name A fault
stops-contents files refusal name A told is Memory h = tt
stops-contents files refusal name A told is (Folder file) h = absurd h
stops-contents files refusal name A told is (Absent file) h = over files _ _ (λ f e. e ∙ h) is
stops-contents files refusal name A told is (TooLong file limit) h = over files _ _ (λ f e. e ∙ h) is
stops-contents files refusal name A told is (Json file) h = over files _ _ (λ f e. e ∙ h) is
stops-contents files refusal name A told is (Shape file key) h = over files _ _ (λ f e. e ∙ h) is
stops-contents files refusal name A told is (Script file place kind) h = over files _ _ (λ f e. e ∙ h) is

module _ (files : Option Files) (file bytes : List ℕ) (found : IfSome files (λ f. f file ≡ Some bytes)) where
  pub script-told : length bytes ≤ 262_144 → IfSome files (λ f. script_refusal f file ≡ source_refusal file (source_of bytes))
  unfolding script_refusal
  script-told short =
      over files _ _ (λ f e. ap (required file 262_144 (λ b. source_refusal file (source_of b))) e
      ∙ required-some file 262_144 (λ b. source_refusal file (source_of b)) bytes short) found

  pub script-read : length bytes ≤ 262_144 → (read : List ℕ) → read ≡ bytes → source_refusal file (source_of bytes) ≡ None
      → IfSome files (λ f. (script_refusal f file ≡ None) × (f file ≡ Some read))
  script-read short read same none =
      both files _ _ _ (λ f told e. (told ∙ none, e ∙ ap (λ b. Some b) (sym same))) (script-told short) found

  pub manifest-told : length bytes ≤ 1_048_576 → IfSome files (λ f. manifest_refusal f file ≡ said_refusal file (said_of bytes))
  unfolding manifest_refusal
  manifest-told short =
      over files _ _ (λ f e. ap (optional file 1_048_576 (λ b. said_refusal file (said_of b))) e
      ∙ optional-some file 1_048_576 (λ b. said_refusal file (said_of b)) bytes short) found

  pub manifest-read : length bytes ≤ 1_048_576 → (said : Said) → said_of bytes ≡ Ok said
      → IfSome files (λ f. (manifest_refusal f file ≡ None) × (said_or_default (f file) ≡ Ok said))
  manifest-read short said read =
      both files _ _ _ (λ f told e. (told ∙ ap (said_refusal file) read, ap said_or_default e ∙ read)) (manifest-told short) found

-- ---- one script

module _ (app name file : List ℕ) (is : file ≡ file_of app name) (files : Option Files) where
  pub stops-script : is_file_name name ≡ true → (A : Type 0) (fault : AppFault) → StopsAt files (λ f. script_refusal f file) file A fault
      → Stops app files (λ f. script_checks f app (name ∷ [])) A fault
  unfolding script_checks
  stops-script good A fault h =
      subst (λ x. Stops app files (λ f. (x, script_refusal f x) ∷ []) A fault) is
      (stops-at app file files (λ f. script_refusal f file) A (name, good, is) fault h)

  pub reads-script : (bytes : List ℕ) → IfSome files (λ f. (script_refusal f file ≡ None) × (f file ≡ Some bytes))
      → Reads files app (name ∷ []) (λ f. bytes_at f app name) bytes
  unfolding script_checks
  reads-script bytes h = over files _ _ step h
    where
      step : (f : Files) → (script_refusal f file ≡ None) × (f file ≡ Some bytes)
          → (first_refusal ((file_of app name, script_refusal f (file_of app name)) ∷ []) ≡ None) × (bytes ≡ bytes_at f app name)
      step f (none, found) = (
        ap (λ r. first_refusal ((file_of app name, r) ∷ [])) (ap (script_refusal f) (sym is) ∙ none),
        ap (λ b. unwrap_or b []) (sym found ∙ ap f is),
      )

-- ---- more scripts

checks-append : (f : Files) (app : List ℕ) (xs ys : List (List ℕ)) → script_checks f app (xs ++ ys) ≡ script_checks f app xs ++ script_checks f app ys
unfolding script_checks
checks-append f app xs ys = map-append (λ name. (file_of app name, script_refusal f (file_of app name))) xs ys

module _ (files : Option Files) (app : List ℕ) (xs ys : List (List ℕ)) where
  pub stops-before : (A B : Type 0) → (A → B) → (fault : AppFault) → Stops app files (λ f. script_checks f app xs) A fault
      → Stops app files (λ f. script_checks f app (xs ++ ys)) B fault
  stops-before A B step fault h =
      stops-along app (λ f. script_checks f app xs ++ script_checks f app ys) (λ f. script_checks f app (xs ++ ys)) files A B step
      (all files _ (λ f. sym (checks-append f app xs ys))) fault
      (stops-front app (λ f. script_checks f app xs) (λ f. script_checks f app ys) files A fault h)

  module _ {T : Type 0} (told : Files → T) (it : T) (passed : Reads files app xs told it) where
    none-refused : IfSome files (λ f. first_refusal (script_checks f app xs) ≡ None)
    none-refused = over files _ _ (λ f h. h.0) passed

    pub stops-later : (A B : Type 0) → (A → B) → (fault : AppFault) → Stops app files (λ f. script_checks f app ys) A fault
        → Stops app files (λ f. script_checks f app (xs ++ ys)) B fault
    stops-later A B step fault h =
        stops-along app (λ f. script_checks f app xs ++ script_checks f app ys) (λ f. script_checks f app (xs ++ ys)) files A B step
        (all files _ (λ f. sym (checks-append f app xs ys))) fault
        (stops-behind app (λ f. script_checks f app xs) (λ f. script_checks f app ys) files A none-refused fault h)

    pub reads-more : {U V : Type 0} (join : T → U → V) (more : Files → U) (other : U) → Reads files app ys more other
        → Reads files app (xs ++ ys) (λ f. join (told f) (more f)) (join it other)
    reads-more join more other h = both files _ _ _ step passed h
      where
        step : (f : Files) → (first_refusal (script_checks f app xs) ≡ None) × (it ≡ told f)
            → (first_refusal (script_checks f app ys) ≡ None) × (other ≡ more f)
            → (first_refusal (script_checks f app (xs ++ ys)) ≡ None) × (join it other ≡ join (told f) (more f))
        step f (none, e) (none', e') = (
          ap first_refusal (checks-append f app xs ys) ∙ (refusal-behind (script_checks f app xs) (script_checks f app ys) none ∙ none'),
          cc,
        )

-- ---- the whole

module _ (app : List ℕ) (files : Option Files) (said : Said)
    (read : IfSome files (λ f. (manifest_refusal f (file_of app manifest_name) ≡ None) × (app_said f app ≡ Ok said))) where
  abbrev first : Files → List (Check AppFault)
  first f = (file_of app manifest_name, manifest_refusal f (file_of app manifest_name)) ∷ []

  whole : (f : Files) → (manifest_refusal f (file_of app manifest_name) ≡ None) × (app_said f app ≡ Ok said)
      → first f ++ script_checks f app (scripts said) ≡ app_checks f app
  unfolding app_checks
  whole f (none, e) = ap (λ checks. (file_of app manifest_name, manifest_refusal f (file_of app manifest_name)) ∷ checks) (ap (checks_if_said f app) (sym e))

  passed-first : IfSome files (λ f. first_refusal (first f) ≡ None)
  passed-first = over files _ _ (λ f h. ap (λ r. first_refusal ((file_of app manifest_name, r) ∷ [])) h.0) read

  -- A script stops the reading.
  pub stops-scripts : (A B : Type 0) → (A → B) → (fault : AppFault) → Stops app files (λ f. script_checks f app (scripts said)) A fault
      → Stops app files (λ f. app_checks f app) B fault
  stops-scripts A B step fault h =
      stops-along app (λ f. first f ++ script_checks f app (scripts said)) (λ f. app_checks f app) files A B step
      (over files _ _ whole read) fault
      (stops-behind app first (λ f. script_checks f app (scripts said)) files A passed-first fault h)

  -- All is read.
  pub reads-all : (texts : Texts) → Reads files app (scripts said) (λ f. texts_said f app said) texts → IfSome files (λ f. app_of f app ≡ Ok texts)
  unfolding app_of app_texts
  reads-all texts h = both files _ _ _ step read h
    where
      step : (f : Files) → (manifest_refusal f (file_of app manifest_name) ≡ None) × (app_said f app ≡ Ok said)
          → (first_refusal (script_checks f app (scripts said)) ≡ None) × (texts ≡ texts_said f app said)
          → option_map_or (λ fault. Err fault) (first_refusal (app_checks f app)) (Ok (texts_if_said f app (app_said f app))) ≡ Ok texts
      step f (none, e) (none', e') =
          let checks : first_refusal (app_checks f app) ≡ None =
          ap first_refusal (sym (whole f (none, e)))
          ∙ (refusal-behind (first f) (script_checks f app (scripts said)) (ap (λ r. first_refusal ((file_of app manifest_name, r) ∷ [])) none) ∙ none') in
          ap (λ r. option_map_or (λ fault. Err fault) r (Ok (texts_if_said f app (app_said f app)))) checks
          ∙ ap (λ t. Ok t) (ap (texts_if_said f app) e ∙ sym e')

-- The manifest stops the reading.
pub stops-manifest : (app file : List ℕ) → file ≡ file_of app manifest_name → (files : Option Files) (A : Type 0) (fault : AppFault)
    → StopsAt files (λ f. manifest_refusal f file) file A fault → Stops app files (λ f. app_checks f app) A fault
unfolding app_checks is_file_name
stops-manifest app file is files A fault h =
    stops-front app (λ f. (file_of app manifest_name, manifest_refusal f (file_of app manifest_name)) ∷ [])
    (λ f. checks_if_said f app (app_said f app)) files A fault
    (subst (λ x. Stops app files (λ f. (x, manifest_refusal f x) ∷ []) A fault) is
    (stops-at app file files (λ f. manifest_refusal f file) A (manifest_name, refl, is) fault h))

-- No script is read where none is named.
pub reads-none : (files : Option Files) (app : List ℕ) (preload : Option (List ℕ)) → preload ≡ None → (bytes : List ℕ) → bytes ≡ []
    → Reads files app (preload_scripts preload) (λ f. option_map_or (bytes_at f app) preload []) bytes
unfolding script_checks
reads-none files app preload is bytes e = rw is (all files _ (λ f. (refl, e)))
