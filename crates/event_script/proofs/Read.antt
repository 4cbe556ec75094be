-- Lines that stand before others.
use Rattle.std.proofs.Common.{◌≡◌, ℕ, ◌+◌, List, [], ◌∷◌, ◌++◌, Option, Some, None, Result, Ok, Err, refl, ap, sym, ◌∙◌, append_assoc}
use Rattle.std.proofs.lemmas.List.{append-nil}
use Rattle.std.specs.Str.Lines.{lines}
use Rattle.event_script.specs.declared.line.Line.{Line}
use Rattle.event_script.specs.declared.line.LineKind.{LineKind}
use Rattle.event_script.specs.Lines.{line_of}
use Rattle.event_script.specs.Script.{before, then, numbered, script}

-- lines, and then what follows them
abbrev pub behind_all : List Line → Result (List Line) ℕ → Result (List Line) ℕ
behind_all front (Ok lines) = Ok (front ++ lines)
behind_all front (Err number) = Err number

behind_before : (front : List Line) (line : Line) (rest : Result (List Line) ℕ) → behind_all front (before line rest) ≡ behind_all (front ++ line ∷ []) rest
behind_before front line (Ok lines) = ap Ok (sym (append_assoc front (line ∷ []) lines))
behind_before front line (Err number) = refl

module _ (front : List Line) (number : ℕ) (text line rest : List ℕ) (cut : lines text ≡ line ∷ lines rest) where
  -- what is left, from a line on
  left : (o : Option (Option LineKind)) → line_of line ≡ o → numbered number (lines text) ≡ then number o (numbered (number + 1) (lines rest))
  unfolding numbered
  left o e = ap (numbered number) cut ∙ ap (λ x. then number x (numbered (number + 1) (lines rest))) e

  -- A wrong line is the fault.
  pub wrong : line_of line ≡ None → behind_all front (numbered number (lines text)) ≡ Err number
  wrong e = ap (behind_all front) (left None e)

  pub silent : line_of line ≡ Some None → behind_all front (numbered (number + 1) (lines rest)) ≡ behind_all front (numbered number (lines text))
  silent e = sym (ap (behind_all front) (left (Some None) e))

  pub told : (what : LineKind) → line_of line ≡ Some (Some what) → behind_all (front ++ record { number = number; what = what } ∷ []) (numbered (number + 1) (lines rest)) ≡ behind_all front (numbered number (lines text))
  told what e = sym (ap (behind_all front) (left (Some (Some what)) e) ∙ behind_before front (record { number = number; what = what }) (numbered (number + 1) (lines rest)))

-- Where nothing is left, the lines that were read are all.
pub all_read : (front : List Line) (number : ℕ) (text : List ℕ) → lines text ≡ [] → behind_all front (numbered number (lines text)) ≡ Ok front
unfolding numbered
all_read front number text e = ap (λ x. behind_all front (numbered number x)) e ∙ ap Ok (append-nil front)

-- At first all is left.
pub none_read : (bytes : List ℕ) → behind_all [] (numbered 1 (lines bytes)) ≡ script bytes
unfolding script
none_read bytes = none_by (numbered 1 (lines bytes))
  where
    none_by : (r : Result (List Line) ℕ) → behind_all [] r ≡ r
    none_by (Ok lines) = refl
    none_by (Err number) = refl
