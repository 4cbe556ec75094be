-- Lemmas on how a command may end.
use Rattle.std.proofs.Common.{◌≡◌, ℕ, List, [], ◌∷◌, ◌++◌, Option, Some, None, Result, Ok, Err, ap, sym, ◌∙◌, refl, subst, inl, inr, ◌⊎◌}
use Rattle.std.specs.Prelude.{IfSome, Contains}
use Rattle.std.specs.Option.{option_map_or}
use Rattle.wl_causes.specs.Reading.{Files}
use Rattle.wl_causes.specs.Taking.{with_more, TakesFront}
use Rattle.wl_causes.proofs.Takes.{with_more-none, TakesFront-none}
use Rattle.worlds_cli.specs.Answer.{answer, answer_to, text_of, status_of}
use Rattle.worlds_cli.specs.Clauses.{Ends, Stops, IsRefused, IsReached, IsReachedBy, TakesPart, IsOfWriting, TellsAnswer, Refuses}
use Rattle.worlds_cli.specs.Command.{Command, command_of}
use Rattle.worlds_cli.specs.Text.{told}
use Rattle.worlds_cli.specs.declared.status.ScriptKind.{ScriptKind}
use Rattle.worlds_cli.specs.declared.status.Status.{Status}
use Rattle.worlds_cli.specs.declared.status.Status.TheVariants.{Done, Memory, Words, FolderFault, Absent, Json, Shape, Script, Line, SinkFault, Wire, TooLong}

answer_is : (files : Files) (words : List (List ℕ)) (command : Command) → command_of words ≡ Some command
    → answer files words ≡ answer_to files command
unfolding answer
answer_is files words command is = ap (λ c. option_map_or (answer_to files) c (Err Words)) is

answer_is_words : (files : Files) (words : List (List ℕ)) → command_of words ≡ None → answer files words ≡ Err Words
unfolding answer
answer_is_words files words is = ap (λ c. option_map_or (answer_to files) c (Err Words)) is

-- no bytes have but one front
no_front : (front back : List ℕ) → [] ≡ front ++ back → front ≡ []
no_front [] back e = refl
no_front (x ∷ front) back e = absurd (cc)

nothing_taken : (before now : Option (List ℕ)) → TakesFront [] before now → now ≡ before
nothing_taken before now (front, back, e, taken) =
    taken ∙ ap (λ l. with_more l before) (no_front front back e) ∙ with_more-none before

module _ (files : Option Files) (words : List (List ℕ)) (command : Command) (is : command_of words ≡ Some command)
    (folder sink : Type 0) (before now : Option (List ℕ)) where
  answered : (result : Result (List ℕ) Status) → IfSome files (λ f. answer_to f command ≡ result)
      → IfSome files (λ f. answer f words ≡ result)
  answered result told_by = by_files files told_by
    where
      by_files : (given : Option Files) → IfSome given (λ f. answer_to f command ≡ result) → IfSome given (λ f. answer f words ≡ result)
      by_files None h = tt
      by_files (Some f) h = answer_is f words command is ∙ h

  part_of : (result : Result (List ℕ) Status) → IfSome files (λ f. answer_to f command ≡ result)
      → TakesFront (text_of result) before now → TakesPart files words folder before now
  part_of result told_by front = inl (by_files files (answered result told_by))
    where
      by_files : (given : Option Files) → IfSome given (λ f. answer f words ≡ result)
          → IfSome given (λ f. TakesFront (text_of (answer f words)) before now)
      by_files None h = tt
      by_files (Some f) h = rw h front

  nothing : now ≡ before → TakesPart files words folder before now
  nothing same = inl (by_files files)
    where
      by_files : (given : Option Files) → IfSome given (λ f. TakesFront (text_of (answer f words)) before now)
      by_files None = tt
      by_files (Some f) = TakesFront-none (text_of (answer f words)) before now same

  reached : (file : List ℕ) → IsReached files command file → IsReachedBy files words file
  reached file h = (command, is, h)

  -- The text was taken whole.
  pub ends_done : (text : List ℕ) → IfSome files (λ f. answer_to f command ≡ Ok text) → now ≡ with_more text before
      → Ends files words folder sink Done before now
  ends_done text told_by taken = by_files files (answered (Ok text) told_by)
    where
      by_files : (given : Option Files) → IfSome given (λ f. answer f words ≡ Ok text)
          → IfSome given (λ f. (t : List ℕ) × (answer f words ≡ Ok t) × (now ≡ with_more t before))
      by_files None h = tt
      by_files (Some f) h = (text, h, taken)

  by_writing : (status : Status) → IsOfWriting sink status → TakesPart files words folder before now
      → Ends files words folder sink status before now
  by_writing Memory of_writing part = part
  by_writing SinkFault of_writing part = (of_writing, part)
  by_writing Done of_writing part = absurd of_writing
  by_writing Words of_writing part = absurd of_writing
  by_writing (FolderFault file) of_writing part = absurd of_writing
  by_writing (Absent file) of_writing part = absurd of_writing
  by_writing (Line file number) of_writing part = absurd of_writing
  by_writing (Json file) of_writing part = absurd of_writing
  by_writing (Shape file key) of_writing part = absurd of_writing
  by_writing (Wire place kind) of_writing part = absurd of_writing
  by_writing (Script file place kind) of_writing part = absurd of_writing
  by_writing (TooLong file limit) of_writing part = absurd of_writing

  -- A front of the text was taken.
  pub ends_writing : (text : List ℕ) (status : Status) → IfSome files (λ f. answer_to f command ≡ Ok text)
      → TakesFront text before now → IsOfWriting sink status → Ends files words folder sink status before now
  ends_writing text status told_by front of_writing = by_writing status of_writing (part_of (Ok text) told_by front)

  refused : (status : Status) → IfSome files (λ f. answer_to f command ≡ Err status) → now ≡ with_more (told status) before
      → IsRefused files words status before now
  refused status told_by taken = (answered (Err status) told_by, taken)

  -- The line that tells a refusal was taken whole.
  pub ends_told : (refusal : Status) → Stops files command folder refusal → now ≡ with_more (told refusal) before
      → Ends files words folder sink refusal before now
  unfolding told
  ends_told Memory stops taken = nothing (taken ∙ with_more-none before)
  ends_told (FolderFault file) stops taken = (stops.0, reached file stops.1, taken)
  ends_told (Absent file) stops taken = refused (Absent file) stops taken
  ends_told (Line file number) stops taken = refused (Line file number) stops taken
  ends_told (Json file) stops taken = refused (Json file) stops taken
  ends_told (Shape file key) stops taken = refused (Shape file key) stops taken
  ends_told (Wire place kind) stops taken = refused (Wire place kind) stops taken
  ends_told (Script file place kind) stops taken = refused (Script file place kind) stops taken
  ends_told (TooLong file limit) stops taken = refused (TooLong file limit) stops taken
  ends_told Done stops taken = absurd stops
  ends_told Words stops taken = absurd stops
  ends_told SinkFault stops taken = absurd stops

  part_told : (refusal : Status) → Stops files command folder refusal → TakesFront (told refusal) before now
      → TakesPart files words folder before now
  unfolding told
  part_told Memory stops front = nothing (nothing_taken before now front)
  part_told (FolderFault file) stops front = inr (stops.0, (file, reached file stops.1, front))
  part_told (Absent file) stops front = part_of (Err (Absent file)) stops front
  part_told (Line file number) stops front = part_of (Err (Line file number)) stops front
  part_told (Json file) stops front = part_of (Err (Json file)) stops front
  part_told (Shape file key) stops front = part_of (Err (Shape file key)) stops front
  part_told (Wire place kind) stops front = part_of (Err (Wire place kind)) stops front
  part_told (Script file place kind) stops front = part_of (Err (Script file place kind)) stops front
  part_told (TooLong file limit) stops front = part_of (Err (TooLong file limit)) stops front
  part_told Done stops front = absurd stops
  part_told Words stops front = absurd stops
  part_told SinkFault stops front = absurd stops

  -- A front of the line that tells a refusal was taken.
  pub ends_telling : (refusal status : Status) → Stops files command folder refusal → TakesFront (told refusal) before now
      → IsOfWriting sink status → Ends files words folder sink status before now
  ends_telling refusal status stops front of_writing = by_writing status of_writing (part_told refusal stops front)

-- A refusal was told, or a front of its line was taken.
pub ends_refused : (files : Option Files) (words : List (List ℕ)) (command : Command) → command_of words ≡ Some command
    → (folder sink : Type 0) (before now : Option (List ℕ)) (refusal status : Status) → Stops files command folder refusal
    → Refuses refusal sink status before now → Ends files words folder sink status before now
ends_refused files words command is folder sink before now refusal status stops (inl (same, taken)) =
    rw same (ends_told files words command is folder sink before now refusal stops taken)
ends_refused files words command is folder sink before now refusal status stops (inr (of_writing, front)) =
    ends_telling files words command is folder sink before now refusal status stops front of_writing

-- The words fit no command, and a front of the line that tells so was taken.
pub ends_telling_words : (files : Option Files) (words : List (List ℕ)) (folder sink : Type 0) (before now : Option (List ℕ))
    (status : Status) → command_of words ≡ None → TakesFront (told Words) before now → IsOfWriting sink status
    → Ends files words folder sink status before now
ends_telling_words files words folder sink before now status is front of_writing = ends status of_writing
  where
    by_files : (given : Option Files) → IfSome given (λ f. TakesFront (text_of (answer f words)) before now)
    by_files None = tt
    by_files (Some f) = rw (answer_is_words f words is) front

    ends : (status : Status) → IsOfWriting sink status → Ends files words folder sink status before now
    ends Memory h = inl (by_files files)
    ends SinkFault h = (h, inl (by_files files))
    ends Done h = absurd h
    ends Words h = absurd h
    ends (FolderFault file) h = absurd h
    ends (Absent file) h = absurd h
    ends (Line file number) h = absurd h
    ends (Json file) h = absurd h
    ends (Shape file key) h = absurd h
    ends (Wire place kind) h = absurd h
    ends (Script file place kind) h = absurd h
    ends (TooLong file limit) h = absurd h

-- What is told, by cases.
pub Ends-told : (files : Option Files) (words : List (List ℕ)) (folder sink : Type 0) (before now : Option (List ℕ)) (status : Status)
    → Ends files words folder sink status before now → TellsAnswer status before now
Ends-told files words folder sink before now Done h = tt
Ends-told files words folder sink before now Memory h = tt
Ends-told files words folder sink before now SinkFault h = tt
Ends-told files words folder sink before now Words h = h.1
Ends-told files words folder sink before now (FolderFault file) h = h.2
Ends-told files words folder sink before now (Absent file) h = h.1
Ends-told files words folder sink before now (Line file number) h = h.1
Ends-told files words folder sink before now (Json file) h = h.1
Ends-told files words folder sink before now (Shape file key) h = h.1
Ends-told files words folder sink before now (Wire place kind) h = h.1
Ends-told files words folder sink before now (Script file place kind) h = h.1
Ends-told files words folder sink before now (TooLong file limit) h = h.1

-- Where neither count rises, the status is the answer's, or memory ran out.
pub Ends-complete : (files : Option Files) (words : List (List ℕ)) (folder sink : Type 0) (before now : Option (List ℕ))
    (status : Status) → Ends files words folder sink status before now
    → IfSome files (λ f. (folder → ⊥) → (sink → ⊥) → (status ≡ status_of (answer f words)) ⊎ (status ≡ Memory))
Ends-complete None words folder sink before now status h = tt
Ends-complete (Some f) words folder sink before now Done h = λ _ _. inl (ap status_of (sym h.1))
Ends-complete (Some f) words folder sink before now Memory h = λ _ _. inr refl
Ends-complete (Some f) words folder sink before now SinkFault h = λ _ s. absurd (s h.0)
Ends-complete (Some f) words folder sink before now Words h = λ _ _. inl (ap status_of (sym (answer_is_words f words h.0)))
Ends-complete (Some f) words folder sink before now (FolderFault file) h = λ s _. absurd (s h.0)
Ends-complete (Some f) words folder sink before now (Absent file) h = λ _ _. inl (ap status_of (sym h.0))
Ends-complete (Some f) words folder sink before now (Line file number) h = λ _ _. inl (ap status_of (sym h.0))
Ends-complete (Some f) words folder sink before now (Json file) h = λ _ _. inl (ap status_of (sym h.0))
Ends-complete (Some f) words folder sink before now (Shape file key) h = λ _ _. inl (ap status_of (sym h.0))
Ends-complete (Some f) words folder sink before now (Wire place kind) h = λ _ _. inl (ap status_of (sym h.0))
Ends-complete (Some f) words folder sink before now (Script file place kind) h = λ _ _. inl (ap status_of (sym h.0))
Ends-complete (Some f) words folder sink before now (TooLong file limit) h = λ _ _. inl (ap status_of (sym h.0))
