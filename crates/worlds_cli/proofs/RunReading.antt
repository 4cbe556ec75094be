-- Lemmas on the files of `run`.
use Rattle.std.proofs.Common.{◌≡◌, ℕ, List, [], ◌∷◌, ◌++◌, ◌+◌, ◌-◌, ◌^◌, ◌≤◌, length, map, min, Bool, Option, Some, None, Result, Ok, Err, ap, sym, ◌∙◌, refl, subst, option_map, arith, inl, inr, ◌⊎◌, nat_lt, true, false, if◌then◌else◌}
use Rattle.std.specs.Prelude.{IfSome}
use Rattle.std.specs.Option.{option_map_or}
use Rattle.std.proofs.lemmas.Bool.Decides.{nat_tests}
use Rattle.app_manifest.specs.App.{Check, Texts, app_of, app_checks, app_texts, first_refusal, IsReached as IsReachedIn}
use Rattle.app_manifest.specs.Clauses.{Stops as StopsApp}
use Rattle.app_manifest.specs.declared.app.AppFault.{AppFault}
use Rattle.app_manifest.specs.declared.app.AppFault.TheVariants as refusal
use Rattle.app_manifest.proofs.Stopping.{refusal-behind, refusal-front, reached-front}
use Rattle.event_script.specs.Script.{script}
use Rattle.wl_causes.specs.Causes.{Rose}
use Rattle.wl_causes.specs.Reading.{Files}
use Rattle.app_engine.specs.Log.{log_of}
use Rattle.app_engine.specs.Scripts.{application_spelled}
use Rattle.world_log.specs.Print.{printed_log}
use Rattle.worlds_cli.specs.Answer.{answer_to, checks, output, required, events_refusal, line_refusal, has_lines, is_eventful, unplayed_if, as_status, fault_status}
use Rattle.worlds_cli.specs.Clauses.{Stops, StopsAt}
use Rattle.worlds_cli.specs.Command.{Command, run}
use Rattle.worlds_cli.specs.Reading.{IsWrongLine, IsOrMemory}
use Rattle.worlds_cli.specs.declared.status.Status.{Status}
use Rattle.worlds_cli.specs.declared.status.ScriptKind.TheVariants.{NotBuilt}
use Rattle.worlds_cli.specs.declared.status.Status.TheVariants.{Done, Memory, Words, FolderFault, Absent, Json, Shape, Script, Line, SinkFault, Wire, TooLong}
use Rattle.worlds_cli.proofs.Stopping.{Checks, answer-refused, stops_at}

-- A count that rose later rose.
pub Rose-after : (before between now : ℕ) → before ≤ between → Rose between now → Rose before now
Rose-after before between now later rose = omega arith

pub Stops-then : (files : Option Files) (command : Command) (A B : Type 0) (status : Status) → (A → B)
    → Stops files command A status → Stops files command B status
Stops-then files command A B Memory f stops = tt
Stops-then files command A B (FolderFault name) f stops = (f stops.0, stops.1)
Stops-then files command A B (Absent name) f stops = stops
Stops-then files command A B (Line name number) f stops = stops
Stops-then files command A B (Json name) f stops = stops
Stops-then files command A B (Shape name key) f stops = stops
Stops-then files command A B (Wire place kind) f stops = stops
Stops-then files command A B (Script name place kind) f stops = stops
Stops-then files command A B (TooLong name limit) f stops = stops
Stops-then files command A B Done f stops = stops
Stops-then files command A B Words f stops = stops
Stops-then files command A B SinkFault f stops = stops

over : (files : Option Files) (P Q : Files → Type 0) → ((f : Files) → P f → Q f) → IfSome files P → IfSome files Q
over None P Q step h = tt
over (Some f) P Q step h = step f h

both : (files : Option Files) (P Q R : Files → Type 0) → ((f : Files) → P f → Q f → R f) → IfSome files P → IfSome files Q → IfSome files R
both None P Q R step p q = tt
both (Some f) P Q R step p q = step f p q

-- ---- the application

mapped-none : (xs : List (Check AppFault)) → first_refusal xs ≡ None → first_refusal (map as_status xs) ≡ None
mapped-none [] e = refl
mapped-none ((file, None) ∷ xs) e = mapped-none xs e
mapped-none ((file, Some fault) ∷ xs) e = absurd (cc)

mapped-some : (xs : List (Check AppFault)) (fault : AppFault) → first_refusal xs ≡ Some fault
    → first_refusal (map as_status xs) ≡ Some (fault_status fault)
mapped-some [] fault e = absurd (cc)
mapped-some ((file, None) ∷ xs) fault e = mapped-some xs fault e
mapped-some ((file, Some other) ∷ xs) fault e = ap (option_map fault_status) e

mapped-reached : (xs : List (Check AppFault)) (file : List ℕ) → IsReachedIn xs file → IsReachedIn (map as_status xs) file
mapped-reached [] file h = absurd h
mapped-reached ((name, refusal) ∷ xs) file (inl e) = inl e
mapped-reached ((name, refusal) ∷ xs) file (inr (none, h)) = inr (ap (option_map fault_status) none, mapped-reached xs file h)

-- An application that was read has no refusal, and these texts.
app-read : (f : Files) (app : List ℕ) (texts : Texts) → app_of f app ≡ Ok texts
    → (first_refusal (app_checks f app) ≡ None) × (app_texts f app ≡ texts)
unfolding app_of
app-read f app texts h = by (first_refusal (app_checks f app)) refl
  where
    by : (refusal : Option AppFault) → first_refusal (app_checks f app) ≡ refusal
        → (first_refusal (app_checks f app) ≡ None) × (app_texts f app ≡ texts)
    by None e = (e, cc (sym (ap (λ r. option_map_or (λ fault. Err fault) r (Ok (app_texts f app))) e) ∙ h))
    by (Some fault) e = absurd (cc (sym (ap (λ r. option_map_or (λ fault. Err fault) r (Ok (app_texts f app))) e) ∙ h))

module _ (files : Option Files) (app events : List ℕ) where
  abbrev behind : Files → Checks
  behind f = (events, events_refusal f events) ∷ unplayed_if (is_eventful f events) events ∷ []

  refused : (fault : AppFault) → IfSome files (λ f. first_refusal (app_checks f app) ≡ Some fault)
      → IfSome files (λ f. answer_to f (run app events) ≡ Err (fault_status fault))
  unfolding checks
  refused fault h =
      over files _ _ (λ f e. answer-refused f (run app events) (fault_status fault)
      (refusal-front (map as_status (app_checks f app)) (behind f) (fault_status fault) (mapped-some (app_checks f app) fault e))) h

  -- The application is refused.
  pub stops_app : (A : Type 0) (fault : AppFault) → StopsApp app files (λ f. app_checks f app) A fault
      → Stops files (run app events) A (fault_status fault)
  unfolding checks
  stops_app A refusal.Memory h = tt
  stops_app A (refusal.Folder file) (rose, named, h) = (
    rose,
    (
      inl named,
      over files _ _ (λ f e. reached-front (map as_status (app_checks f app)) (behind f) file (mapped-reached (app_checks f app) file e)) h,
    ),
  )
  stops_app A (refusal.Absent file) h = refused (refusal.Absent file) h
  stops_app A (refusal.TooLong file limit) h = refused (refusal.TooLong file limit) h
  stops_app A (refusal.Json file) h = refused (refusal.Json file) h
  stops_app A (refusal.Shape file key) h = refused (refusal.Shape file key) h
  stops_app A (refusal.Script file place kind) h = refused (refusal.Script file place kind) h

  module _ (texts : Texts) (read : IfSome files (λ f. app_of f app ≡ Ok texts)) where
    passed : IfSome files (λ f. first_refusal (map as_status (app_checks f app)) ≡ None)
    passed = over files _ _ (λ f e. mapped-none (app_checks f app) (app-read f app texts e).0) read

    -- The event script is refused.
    pub stops_events : (A : Type 0) (status : Status) → StopsAt (option_map (λ f. events_refusal f events) files) events A status
        → Stops files (run app events) A status
    unfolding checks
    stops_events A status stops =
        stops_at (run app events) (λ f. map as_status (app_checks f app))
        (λ f. unplayed_if (is_eventful f events) events ∷ []) events (λ f. events_refusal f events)
        (λ f. refl) files A status passed (inr refl) stops

    module _ (eventful : Bool) (heard : IfSome files (λ f. (events_refusal f events ≡ None) × (is_eventful f events ≡ eventful))) where
      first : IfSome files (λ f. first_refusal (checks f (run app events)) ≡ first_refusal (unplayed_if eventful events ∷ []))
      unfolding checks
      first = both files _ _ _ step read heard
        where
          step : (f : Files) → app_of f app ≡ Ok texts → (events_refusal f events ≡ None) × (is_eventful f events ≡ eventful)
              → first_refusal (map as_status (app_checks f app) ++ behind f) ≡ first_refusal (unplayed_if eventful events ∷ [])
          step f e (none, is) =
              refusal-behind (map as_status (app_checks f app)) (behind f) (mapped-none (app_checks f app) (app-read f app texts e).0)
              ∙ ap (λ r. first_refusal ((events, r) ∷ unplayed_if (is_eventful f events) events ∷ [])) none
              ∙ ap (λ b. first_refusal (unplayed_if b events ∷ [])) is

    -- A line has an effect, which isn't played yet.
    pub stops_unplayed : (eventful : Bool) → eventful ≡ true
        → (heard : IfSome files (λ f. (events_refusal f events ≡ None) × (is_eventful f events ≡ eventful))) (A : Type 0) (status : Status)
        → IsOrMemory status (Script events 0 NotBuilt) → Stops files (run app events) A status
    stops_unplayed eventful is heard A status (inl e) =
        subst (λ s. Stops files (run app events) A s) (sym e)
        (over files _ _ (λ f h. answer-refused f (run app events) (Script events 0 NotBuilt)
        (h ∙ ap (λ b. first_refusal (unplayed_if b events ∷ [])) is)) (first eventful heard))
    stops_unplayed eventful is heard A status (inr e) = subst (λ s. Stops files (run app events) A s) (sym e) tt

    -- All is played.
    pub accepts : (eventful : Bool) → eventful ≡ false
        → (heard : IfSome files (λ f. (events_refusal f events ≡ None) × (is_eventful f events ≡ eventful)))
        → IfSome files (λ f. answer_to f (run app events) ≡ Ok (printed_log (log_of (application_spelled texts))))
    unfolding answer_to output
    accepts eventful is heard = both files _ _ _ step read (first eventful heard)
      where
        step : (f : Files) → app_of f app ≡ Ok texts
            → first_refusal (checks f (run app events)) ≡ first_refusal (unplayed_if eventful events ∷ [])
            → answer_to f (run app events) ≡ Ok (printed_log (log_of (application_spelled texts)))
        step f e same =
            ap (λ r. option_map_or (λ s. Err s) r (Ok (output f (run app events))))
            (same ∙ ap (λ b. first_refusal (unplayed_if b events ∷ [])) is)
            ∙ ap (λ t. Ok (printed_log (log_of (application_spelled t)))) (app-read f app texts e).1

-- ---- the event script

otherwise : {X : Type 0} (test : Bool) (x y : X) → test ≡ false → (if test then x else y) ≡ y
otherwise true x y e = absurd (cc)
otherwise false x y e = refl

required-some : (file : List ℕ) (limit : ℕ) (contents : List ℕ → Option Status) (bytes : List ℕ) → length bytes ≤ limit
    → required file limit contents (Some bytes) ≡ contents bytes
unfolding required
required-some file limit contents bytes short =
    let fits : nat_lt limit (length bytes) ≡ false = grind (arith, nat_tests) in
    otherwise (nat_lt limit (length bytes)) (Some (TooLong file limit)) (contents bytes) fits

module _ (files : Option Files) (file bytes : List ℕ) (found : IfSome files (λ f. f file ≡ Some bytes)) (short : length bytes ≤ 1_048_576) where
  lines-told : IfSome files (λ f. events_refusal f file ≡ line_refusal file (script bytes))
  unfolding events_refusal
  lines-told =
      over files _ _ (λ f e. ap (required file 1_048_576 (λ b. line_refusal file (script b))) e
      ∙ required-some file 1_048_576 (λ b. line_refusal file (script b)) bytes short) found

  -- Its lines were read.
  pub lines-read : (eventful : Bool) → line_refusal file (script bytes) ≡ None → has_lines (script bytes) ≡ eventful
      → IfSome files (λ f. (events_refusal f file ≡ None) × (is_eventful f file ≡ eventful))
  unfolding is_eventful
  lines-read eventful none is =
      both files _ _ _ (λ f told e. (told ∙ none, ap (λ given. option_map_or (λ b. has_lines (script b)) given false) e ∙ is)) lines-told found

  wrong : (status : Status) → line_refusal file (script bytes) ≡ Some status
      → IfSome (option_map (λ f. events_refusal f file) files) (λ r. r ≡ Some status)
  wrong status is = by files lines-told
    where
      by : (given : Option Files) → IfSome given (λ f. events_refusal f file ≡ line_refusal file (script bytes))
          → IfSome (option_map (λ f. events_refusal f file) given) (λ r. r ≡ Some status)
      by None h = tt
      by (Some f) h = h ∙ is

  -- It has a wrong line.
  pub stops-line : (A : Type 0) (status : Status) → IsWrongLine (script bytes) file status
      → StopsAt (option_map (λ f. events_refusal f file) files) file A status
  stops-line A Memory h = tt
  stops-line A (Line name number) (e, h) = wrong (Line name number) (ap (line_refusal file) h ∙ ap (λ n. Some (Line n number)) (sym e))
  stops-line A (Script name place kind) h = absurd h
  stops-line A (FolderFault name) h = absurd h
  stops-line A (Absent name) h = absurd h
  stops-line A (Json name) h = absurd h
  stops-line A (Shape name key) h = absurd h
  stops-line A (Wire place kind) h = absurd h
  stops-line A (TooLong name limit) h = absurd h
  stops-line A Done h = absurd h
  stops-line A Words h = absurd h
  stops-line A SinkFault h = absurd h
