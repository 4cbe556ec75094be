-- Lemmas on the file of a conversion.
use Rattle.std.proofs.Common.{◌≡◌, ℕ, List, [], ◌∷◌, ◌++◌, ◌≤◌, ◌<◌, length, Option, Some, None, Result, Ok, Err, ap, sym, ◌∙◌, refl, option_map, arith, lit<, true, false, Bool, if◌then◌else◌, nat_lt}
use Rattle.std.proofs.lemmas.Bool.Decides.{nat_tests}
use Rattle.std.specs.Prelude.{IfSome}
use Rattle.std.specs.Option.{option_map_or}
use Rattle.app_manifest.specs.App.{first_refusal}
use Rattle.wl_causes.specs.Reading.{Files}
use Rattle.worlds_cli.specs.Answer.{answer_to, checks, output, required, refusal_of, text_or_none, converted, conversion_refusal}
use Rattle.worlds_cli.specs.Clauses.{Stops, StopsAt}
use Rattle.worlds_cli.specs.Command.{Command, convert}
use Rattle.worlds_cli.specs.Converting.{StopsConverting}
use Rattle.worlds_cli.specs.declared.status.Status.{Status}
use Rattle.worlds_cli.specs.declared.status.Status.TheVariants.{Done, Memory, Words, FolderFault, Absent, Json, Shape, Script, Line, SinkFault, Wire, TooLong}
use Rattle.worlds_cli.specs.declared.words.Conversion.{Conversion}
use Rattle.worlds_cli.proofs.Stopping.{stops_at}

otherwise : {X : Type 0} (test : Bool) (x y : X) → test ≡ false → (if test then x else y) ≡ y
otherwise true x y e = absurd (cc)
otherwise false x y e = refl

-- A file that is there and not too long is refused for what it holds.
required_some : (file : List ℕ) (limit : ℕ) (contents : List ℕ → Option Status) (bytes : List ℕ) → length bytes ≤ limit
    → required file limit contents (Some bytes) ≡ contents bytes
unfolding required
required_some file limit contents bytes short =
    let fits : nat_lt limit (length bytes) ≡ false = grind (arith, nat_tests) in
    otherwise (nat_lt limit (length bytes)) (Some (TooLong file limit)) (contents bytes) fits

module _ (conversion : Conversion) (file : List ℕ) where
  refusal_is : (f : Files) (bytes : List ℕ) → length bytes ≤ 4_194_304 → f file ≡ Some bytes
      → conversion_refusal conversion f file ≡ refusal_of (converted conversion file bytes)
  unfolding conversion_refusal
  refusal_is f bytes short found =
      ap (required file 4_194_304 (λ b. refusal_of (converted conversion file b))) found
      ∙ required_some file 4_194_304 (λ b. refusal_of (converted conversion file b)) bytes short

  pub stops_at_file : (files : Option Files) (A : Type 0) (status : Status)
      → StopsAt (option_map (λ f. conversion_refusal conversion f file) files) file A status
      → Stops files (convert conversion file) A status
  unfolding checks
  stops_at_file files A status stops =
      stops_at (convert conversion file) (λ f. []) (λ f. []) file (λ f. conversion_refusal conversion f file)
      (λ f. refl) files A status (accepted files) refl stops
    where
      accepted : (files : Option Files) → IfSome files (λ f. first_refusal {F = Status} [] ≡ None)
      accepted None = tt
      accepted (Some f) = refl

  module _ (bytes : List ℕ) (short : length bytes ≤ 4_194_304) where
    refused : (files : Option Files) (status : Status) → IfSome files (λ f. f file ≡ Some bytes)
        → converted conversion file bytes ≡ Err status
        → IfSome (option_map (λ f. conversion_refusal conversion f file) files) (λ r. r ≡ Some status)
    refused None status found read = tt
    refused (Some f) status found read = refusal_is f bytes short found ∙ ap refusal_of read

    -- What the file holds is refused.
    pub stops_converting : (files : Option Files) (A : Type 0) (status : Status) → IfSome files (λ f. f file ≡ Some bytes)
        → StopsConverting (converted conversion file bytes) status → Stops files (convert conversion file) A status
    stops_converting files A Memory found stops = tt
    stops_converting files A (Json name) found stops = stops_at_file files A (Json name) (refused files (Json name) found stops)
    stops_converting files A (Shape name key) found stops =
        stops_at_file files A (Shape name key) (refused files (Shape name key) found stops)
    stops_converting files A (Wire place kind) found stops =
        stops_at_file files A (Wire place kind) (refused files (Wire place kind) found stops)
    stops_converting files A Done found stops = absurd stops
    stops_converting files A Words found stops = absurd stops
    stops_converting files A (FolderFault name) found stops = absurd stops
    stops_converting files A (Absent name) found stops = absurd stops
    stops_converting files A (Line name number) found stops = absurd stops
    stops_converting files A (Script name place kind) found stops = absurd stops
    stops_converting files A SinkFault found stops = absurd stops
    stops_converting files A (TooLong name limit) found stops = absurd stops

    accepted_one : (f : Files) (line : List ℕ) → f file ≡ Some bytes → converted conversion file bytes ≡ Ok line
        → answer_to f (convert conversion file) ≡ Ok line
    unfolding answer_to checks output
    accepted_one f line found read =
        let none : conversion_refusal conversion f file ≡ None = refusal_is f bytes short found ∙ ap refusal_of read in
        let text : option_map_or (λ b. text_or_none (converted conversion file b)) (f file) [] ≡ line =
        ap (λ given. option_map_or (λ b. text_or_none (converted conversion file b)) given []) found ∙ ap text_or_none read in
        ap (λ r. option_map_or (λ s. Err s) (first_refusal ((file, r) ∷ [])) (Ok (output f (convert conversion file)))) none
        ∙ ap (λ t. Ok t) text

    -- The text of the file.
    pub accepts_converting : (files : Option Files) (line : List ℕ) → IfSome files (λ f. f file ≡ Some bytes)
        → converted conversion file bytes ≡ Ok line → IfSome files (λ f. answer_to f (convert conversion file) ≡ Ok line)
    accepts_converting None line found read = tt
    accepts_converting (Some f) line found read = accepted_one f line found read
