-- The first line of a text, and what a line does.
use Rattle.std.proofs.Common.{◌≡◌, ℕ, ◌+◌, ◌-◌, ◌<◌, ◌≤◌, Bool, true, false, cond, eqb, ltb, List, [], ◌∷◌, length, take, drop, Option, Some, None, not, get_or, length-take, refl, ap, sym, ◌∙◌, arith}
use Rattle.std.proofs.lemmas.List.Splits.{slice_split_first}
use Rattle.std.proofs.lemmas.Str.{IsUtf8-from_is_utf8, is_utf8-from_IsUtf8}
use Rattle.std.proofs.lemmas.Bool.Decides.{nat_tests}
use Rattle.std.proofs.lemmas.Bool.{ltb-true, ltb-false, ne_eqb}
use Rattle.std.proofs.lemmas.List.Sums.{prefix_len-le-length}
use Rattle.std.specs.List.{slice_split, position, position_or_len, onto_first}
use Rattle.std.specs.Option.{option_map}
use Rattle.std.specs.Str.{IsUtf8, is_utf8}
use Rattle.std.specs.Str.Lines.{lines, lines_of_parts, strip_carriage_return}
use Rattle.event_script.specs.declared.line.LineKind.{LineKind}
use Rattle.event_script.specs.Lines.{is_silent, effect, line_of}

abbrev ends : ℕ → Bool
ends b = eqb b 10

-- A text has a first part.
first_by : (b : ℕ) (c : Bool) (parts : List (List ℕ)) → (y : List ℕ) × (more : List (List ℕ)) × (parts ≡ y ∷ more) → (y : List ℕ) × (more : List (List ℕ)) × (cond c ([] ∷ parts) (onto_first b parts) ≡ y ∷ more)
first_by b true parts w = ([], parts, refl)
first_by b false parts (y, more, e) = (b ∷ y, more, ap (onto_first b) e)

first_part : (xs : List ℕ) → (y : List ℕ) × (more : List (List ℕ)) × (slice_split ends xs ≡ y ∷ more)
first_part [] = ([], [], refl)
first_part (b ∷ xs) = first_by b (ends b) (slice_split ends xs) (first_part xs)

parts_by : (x : List ℕ) (parts : List (List ℕ)) → (y : List ℕ) × (more : List (List ℕ)) × (parts ≡ y ∷ more) → lines_of_parts (x ∷ parts) ≡ strip_carriage_return x ∷ lines_of_parts parts
parts_by x parts (y, more, e) = ap (λ ps. lines_of_parts (x ∷ ps)) e ∙ ap (λ ps. strip_carriage_return x ∷ lines_of_parts ps) (sym e)

parts_more : (x : List ℕ) (xs : List ℕ) → lines_of_parts (x ∷ slice_split ends xs) ≡ strip_carriage_return x ∷ lines xs
parts_more x xs = parts_by x (slice_split ends xs) (first_part xs)

found_by : (b : Bool) (n at : ℕ) → Some at ≡ cond b (Some n) None → (b ≡ true) × (n ≡ at)
found_by true n at e = let same : n ≡ at = cc in (refl, same)
found_by false n at e = let no : ⊥ = cc in absurd no

lost_by : (b : Bool) (n : ℕ) → None ≡ cond b (Some n) None → b ≡ false
lost_by true n e = let no : ⊥ = cc in absurd no
lost_by false n e = refl

-- Up to the first LF it is a line, without the CR at its end.
pub line_before : (bytes : List ℕ) (at : ℕ) → Some at ≡ position ends bytes → lines bytes ≡ strip_carriage_return (take at bytes) ∷ lines (drop (at + 1) bytes)
line_before bytes at e =
    let found = found_by (ltb (position_or_len ends bytes) (length bytes)) (position_or_len ends bytes) at e in
    let lt = ltb-true (position_or_len ends bytes) (length bytes) found.0 in
    let first = slice_split_first ends bytes 0 lt in
    let whole = ap lines_of_parts first ∙ parts_more (take (position_or_len ends bytes) bytes) (drop (position_or_len ends bytes + 1) bytes) in
    whole ∙ ap (λ n. strip_carriage_return (take n bytes) ∷ lines (drop (n + 1) bytes)) found.1

one_by : (b : ℕ) (c : Bool) (xs : List ℕ) (n : ℕ) (parts : List (List ℕ)) → (n ≡ length xs → parts ≡ xs ∷ []) → cond (not c) (1 + n) 0 ≡ length (b ∷ xs) → cond c ([] ∷ parts) (onto_first b parts) ≡ (b ∷ xs) ∷ []
one_by b true xs n parts h e = absurd (omega arith)
one_by b false xs n parts h e = ap (onto_first b) (h (omega arith))

one_part : (xs : List ℕ) → position_or_len ends xs ≡ length xs → slice_split ends xs ≡ xs ∷ []
one_part [] e = refl
one_part (b ∷ xs) e = one_by b (ends b) xs (position_or_len ends xs) (slice_split ends xs) (one_part xs) e

alone_by : (bytes : List ℕ) → 0 < length bytes → lines_of_parts (bytes ∷ []) ≡ bytes ∷ []
alone_by bytes h = rw (ne_eqb (length bytes) 0 (λ e. omega arith)) refl

-- A text without LF that isn't empty is one line.
pub line_alone : (bytes : List ℕ) → 0 < length bytes → None ≡ position ends bytes → lines bytes ≡ bytes ∷ []
line_alone bytes h e =
    let none = lost_by (ltb (position_or_len ends bytes) (length bytes)) (position_or_len ends bytes) e in
    let ge = ltb-false (position_or_len ends bytes) (length bytes) none in
    let le = prefix_len-le-length (λ b. not (ends b)) bytes in
    ap lines_of_parts (one_part bytes (omega arith)) ∙ alone_by bytes h

-- No bytes have no lines.
pub no_lines : (bytes : List ℕ) → length bytes ≡ 0 → lines bytes ≡ []
no_lines [] e = refl
no_lines (b ∷ bytes) e = absurd (omega arith)

pub line_wrong : (line : List ℕ) → (IsUtf8 line → ⊥) → None ≡ line_of line
unfolding line_of
line_wrong line h = wrong_by line (is_utf8 line) refl h
  where
    wrong_by : (line : List ℕ) (b : Bool) → is_utf8 line ≡ b → (IsUtf8 line → ⊥) → None ≡ cond (not b) None (cond (is_silent line) (Some None) (option_map Some (effect line)))
    wrong_by line true e h = absurd (h (IsUtf8-from_is_utf8 line e))
    wrong_by line false e h = refl

utf8_line : (line : List ℕ) → IsUtf8 line → line_of line ≡ cond (is_silent line) (Some None) (option_map Some (effect line))
unfolding line_of
utf8_line line h = ap (λ b. cond (not b) None (cond (is_silent line) (Some None) (option_map Some (effect line)))) (is_utf8-from_IsUtf8 line h)

pub line_silent : (line : List ℕ) → IsUtf8 line → is_silent line ≡ true → Some None ≡ line_of line
line_silent line h e = sym (utf8_line line h ∙ ap (λ b. cond b (Some None) (option_map Some (effect line))) e)

pub line_told : (line : List ℕ) → IsUtf8 line → is_silent line ≡ false → (what : Option LineKind) → what ≡ effect line → option_map Some what ≡ line_of line
line_told line h e what k = sym (utf8_line line h ∙ (ap (λ b. cond b (Some None) (option_map Some (effect line))) e ∙ ap (option_map Some) (sym k)))

-- The line ends within the text.
pub line_within : (bytes : List ℕ) (at : ℕ) → Some at ≡ position ends bytes → at < length bytes
line_within bytes at e =
    let found = found_by (ltb (position_or_len ends bytes) (length bytes)) (position_or_len ends bytes) at e in
    let lt = ltb-true (position_or_len ends bytes) (length bytes) found.0 in
    let same = found.1 in
    omega arith

pub length-strip : (line : List ℕ) → length (strip_carriage_return line) ≤ length line
length-strip line = strip_by line (eqb (get_or line (length line - 1) 0) 13)
  where
    strip_by : (line : List ℕ) (b : Bool) → length (cond b (take (length line - 1) line) line) ≤ length line
    strip_by line true = omega (arith, length-take (length line - 1) line)
    strip_by line false = omega arith

pub some_bytes : (n : ℕ) (b : Bool) → b ≡ eqb n 0 → b ≡ false → 0 < n
some_bytes n b e k = grind (arith, nat_tests)
