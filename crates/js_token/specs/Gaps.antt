-- White space, line breaks and comments (ECMA-262, 12.2 to 12.4).
use Rattle.std.specs.Prelude.{ℕ, ◌==◌, ◌&&◌, ◌||◌, Bool, false, List, [], ◌∷◌, drop, Option, Some, None, Result, Ok, Err, if◌then◌else◌}
use Rattle.js_token.specs.declared.characters.Placed.{Placed}
use Rattle.js_token.specs.declared.token.LexFault.{LexFault}
use Rattle.js_token.specs.declared.token.LexFault.TheVariants.{At}
use Rattle.js_token.specs.declared.token.LexKind.TheVariants.{Comment}
use Rattle.js_token.specs.Characters.{is_next, is_line_break, is_blank}

-- what is left of a line comment: the line break and what follows
abbrev pub after_line : List Placed → List Placed
after_line [] = []
after_line (c ∷ rest) = if is_line_break c.symbol then c ∷ rest else after_line rest

-- a part of a block comment with its line break, if there is one
abbrev pub with_break : Bool → Option (Bool × List Placed) → Option (Bool × List Placed)
with_break breaks None = None
with_break breaks (Some x) = Some (breaks || x.0, x.1)

-- A block comment behind its `/*`: whether it holds a line break, and what stands behind the next `*/`.
abbrev pub after_block : List Placed → Option (Bool × List Placed)
after_block [] = None
after_block (c ∷ rest) = if (c.symbol == 42) && is_next 47 rest then Some (false, drop 1 rest)
    else with_break (is_line_break c.symbol) (after_block rest)

-- a block comment that begins at the place
abbrev pub block_comment : ℕ → Option (Bool × List Placed) → Result (Option (Bool × List Placed)) LexFault
block_comment place None = Err (At place Comment)
block_comment place (Some x) = Ok (Some x)

-- What stands at the front between tokens, if anything does: a blank or a comment. Whether it holds a line break,
-- and what stands behind it.
unfoldable pub gap_at : List Placed → Result (Option (Bool × List Placed)) LexFault
gap_at [] = Ok None
gap_at (c ∷ rest) = if is_blank c.symbol then Ok (Some (is_line_break c.symbol, rest))
    else if (c.symbol == 47) && is_next 47 rest then Ok (Some (false, after_line rest))
    else if (c.symbol == 47) && is_next 42 rest then block_comment c.place (after_block (drop 1 rest))
    else Ok None
