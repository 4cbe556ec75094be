-- Lemmas on the first refusal of a command.
use Rattle.std.proofs.Common.{◌≡◌, ℕ, List, [], ◌∷◌, ◌++◌, Option, Some, None, Result, Ok, Err, ap, sym, ◌∙◌, refl, subst, option_map, inl, inr, ◌⊎◌}
use Rattle.std.specs.Prelude.{IfSome}
use Rattle.std.specs.Option.{option_map_or}
use Rattle.app_manifest.specs.App.{Check, first_refusal, IsReached as IsReachedIn}
use Rattle.app_manifest.proofs.Stopping.{reached-behind}
use Rattle.wl_causes.specs.Reading.{Files}
use Rattle.worlds_cli.specs.Answer.{answer_to, checks, output, IsRead}
use Rattle.worlds_cli.specs.Clauses.{Stops, StopsAt, IsReached}
use Rattle.worlds_cli.specs.Command.{Command}
use Rattle.worlds_cli.specs.declared.status.Status.{Status}
use Rattle.worlds_cli.specs.declared.status.Status.TheVariants.{Done, Memory, Words, FolderFault, Absent, Json, Shape, Script, Line, SinkFault, Wire, TooLong}

abbrev pub Checks : Type 0
Checks = List (Check Status)

-- A file that follows what is accepted is reached.
reached : (front back : Checks) (file : List ℕ) (refusal : Option Status) → first_refusal front ≡ None
    → IsReachedIn (front ++ (file, refusal) ∷ back) file
reached front back file refusal none = reached-behind front ((file, refusal) ∷ back) file none (inl refl)

-- The first refusal is that of the file that follows what is accepted.
first : (front back : Checks) (file : List ℕ) (status : Status) → first_refusal front ≡ None
    → first_refusal (front ++ (file, Some status) ∷ back) ≡ Some status
first [] back file status none = refl
first ((name, Some other) ∷ front) back file status none = absurd (cc)
first ((name, None) ∷ front) back file status none = first front back file status none

-- The first refusal of a command is its answer.
pub answer-refused : (files : Files) (command : Command) (status : Status) → first_refusal (checks files command) ≡ Some status
    → answer_to files command ≡ Err status
unfolding answer_to
answer-refused files command status is = ap (λ r. option_map_or (λ s. Err s) r (Ok (output files command))) is

refuses : (files : Files) (command : Command) (front back : Checks) (file : List ℕ) (refusal : Option Status) (status : Status)
    → checks files command ≡ front ++ (file, refusal) ∷ back → first_refusal front ≡ None → refusal ≡ Some status
    → answer_to files command ≡ Err status
refuses files command front back file refusal status are none is =
    answer-refused files command status
    (ap first_refusal (are ∙ ap (λ r. front ++ (file, r) ∷ back) is) ∙ first front back file status none)

module _ (command : Command) (front back : Files → Checks) (file : List ℕ) (refusal : Files → Option Status)
    (are : (f : Files) → checks f command ≡ front f ++ (file, refusal f) ∷ back f) where
  refuses_told : (files : Option Files) (status : Status) → IfSome files (λ f. first_refusal (front f) ≡ None)
      → IfSome (option_map refusal files) (λ r. r ≡ Some status) → IfSome files (λ f. answer_to f command ≡ Err status)
  refuses_told None status none is = tt
  refuses_told (Some f) status none is = refuses f command (front f) (back f) file (refusal f) status (are f) none is

  reached_told : (files : Option Files) → IfSome files (λ f. first_refusal (front f) ≡ None)
      → IfSome files (λ f. IsReachedIn (checks f command) file)
  reached_told None none = tt
  reached_told (Some f) none = rw (are f) (reached (front f) (back f) file (refusal f) none)

  -- Where what comes before a file is accepted, its refusal is the command's.
  pub stops_at : (files : Option Files) (folder : Type 0) (status : Status)
      → IfSome files (λ f. first_refusal (front f) ≡ None) → IsRead command file
      → StopsAt (option_map refusal files) file folder status → Stops files command folder status
  stops_at files folder Memory none read stops = tt
  stops_at files folder (FolderFault name) none read stops =
      rw stops.1 (stops.0, (read, reached_told files none))
  stops_at files folder (Absent name) none read stops = refuses_told files (Absent name) none stops
  stops_at files folder (Line name number) none read stops = refuses_told files (Line name number) none stops
  stops_at files folder (Json name) none read stops = refuses_told files (Json name) none stops
  stops_at files folder (Shape name key) none read stops = refuses_told files (Shape name key) none stops
  stops_at files folder (Wire place kind) none read stops = refuses_told files (Wire place kind) none stops
  stops_at files folder (Script name place kind) none read stops = refuses_told files (Script name place kind) none stops
  stops_at files folder (TooLong name limit) none read stops = refuses_told files (TooLong name limit) none stops
  stops_at files folder Done none read stops = absurd stops
  stops_at files folder Words none read stops = absurd stops
  stops_at files folder SinkFault none read stops = absurd stops
