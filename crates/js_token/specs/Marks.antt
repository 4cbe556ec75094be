-- The punctuators of a script (ECMA-262, 12.8), as far as scripts use them, and their numbers.
use Rattle.std.specs.Prelude.{ℕ, List, [], ◌∷◌, take, drop, Option, Some, None, nat_eq, position, codes}
use Rattle.std.specs.Option.{option_map}
use Rattle.js_token.specs.declared.characters.Placed.{Placed}
use Rattle.js_token.specs.Characters.{symbols}
use Rattle.std.specs.List.{position_or_len}
use Rattle.std.specs.Cmp.Lexicographic.{pointwise}

-- The marks, in the order of their numbers.
abbrev pub marks : List (List ℕ)
marks = codes "{" ∷ codes "}" ∷ codes "(" ∷ codes ")" ∷ codes "[" ∷ codes "]" ∷ codes ";" ∷ codes "," ∷ codes "."
    ∷ codes "..." ∷ codes "<" ∷ codes ">" ∷ codes "<=" ∷ codes ">=" ∷ codes "===" ∷ codes "!==" ∷ codes "+" ∷ codes "-"
    ∷ codes "*" ∷ codes "/" ∷ codes "%" ∷ codes "<<" ∷ codes ">>" ∷ codes ">>>" ∷ codes "&" ∷ codes "|" ∷ codes "^"
    ∷ codes "!" ∷ codes "~" ∷ codes "&&" ∷ codes "||" ∷ codes "??" ∷ codes "?" ∷ codes ":" ∷ codes "=" ∷ codes "+="
    ∷ codes "-=" ∷ codes "*=" ∷ codes "/=" ∷ codes "%=" ∷ codes "++" ∷ codes "--" ∷ codes "=>" ∷ []

-- The place of a mark's text in the list, if it is one.
unfoldable pub mark_place : List ℕ → Option ℕ
mark_place text = position (pointwise nat_eq text) marks

-- The number of a mark, as a number that computes; a text that is no mark has the number of marks.
abbrev pub mark_number : List ℕ → ℕ
mark_number text = position_or_len (pointwise nat_eq text) marks

-- the mark of so many characters at the front, and what stands behind it
abbrev pub mark_of_size : ℕ → List Placed → Option (ℕ × List Placed)
mark_of_size size chars = option_map (λ number. (number, drop size chars)) (mark_place (symbols (take size chars)))

-- the first of the two, if it is there
abbrev pub or_else : Option (ℕ × List Placed) → Option (ℕ × List Placed) → Option (ℕ × List Placed)
or_else None other = other
or_else (Some x) other = Some x

-- The longest mark at the front, and what stands behind it.
unfoldable pub mark_at : List Placed → Option (ℕ × List Placed)
mark_at chars = or_else (mark_of_size 3 chars) (or_else (mark_of_size 2 chars) (mark_of_size 1 chars))
