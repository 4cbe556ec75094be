-- What is open at a place of a script: braces, and parts of templates.
use Rattle.std.specs.Prelude.{ℕ, ◌+◌, ◌-◌, ◌==◌, Bool, true, false, List, [], ◌∷◌, Option, Some, None, reverse, if◌then◌else◌}
use Rattle.js_token.specs.declared.nesting.Part.{Part}
use Rattle.js_token.specs.declared.nesting.Nesting.{Nesting}

-- How many braces are open, and the `${` parts of templates, the innermost first, each with the place of its template
-- and the number of braces around it.
pub record Nest : Type 0 where
  pub braces : ℕ
  pub parts : List Part

abbrev pub nest : Nesting → Nest
nest n = record { braces = n.braces; parts = reverse n.parts.items }

-- nothing is open
abbrev pub outside : Nest
outside = record { braces = 0; parts = [] }

-- The start of the outermost template that is open, or of this one where none is.
abbrev pub outermost : ℕ → List Part → ℕ
outermost start [] = start
outermost start (part ∷ outer) = outermost part.start outer

-- the start of the outermost template that is open, if one is
abbrev pub open_template : List Part → Option ℕ
open_template [] = None
open_template (part ∷ outer) = Some (outermost part.start outer)

-- one more brace
abbrev pub opened : Nest → Nest
opened n = record n { braces = n.braces + 1 }

-- A `}` closes a brace, or else the innermost part, where no brace in it is open: the start of the part's template.
abbrev pub closed_in : ℕ → List Part → Option ℕ × Nest
closed_in braces [] = (None, record { braces = braces - 1; parts = [] })
closed_in braces (part ∷ outer) = if part.braces == braces
    then (Some part.start, record { braces = braces; parts = outer })
    else (None, record { braces = braces - 1; parts = part ∷ outer })

unfoldable pub closed : Nest → Option ℕ × Nest
closed n = closed_in n.braces n.parts

-- What is open behind a stretch of the text of a template that starts at the place: no more where it is the last one,
-- and else the part that follows.
abbrev pub behind_piece : ℕ → Bool → Nest → Nest
behind_piece start true n = n
behind_piece start false n = record n { parts = record { start = start; braces = n.braces } ∷ n.parts }
