-- Names and reserved words (ECMA-262, 12.7).
use Rattle.std.specs.Prelude.{ℕ, ◌==◌, ◌&&◌, ◌||◌, Bool, true, false, not, List, [], ◌∷◌, ◌++◌, Option, Some, None, nat_eq, codes, if◌then◌else◌}
use Rattle.std.specs.List.{list_any}
use Rattle.std.specs.Cmp.Lexicographic.{pointwise}
use Rattle.std.specs.Option.{option_map}
use Rattle.std.specs.Char.Utf16.{utf16_chars, lone_unit_char, is_high_surrogate, is_low_surrogate, surrogate_pair_char}
use Rattle.std.specs.Char.Escape.{encode_utf16}
use Rattle.js_token.specs.declared.characters.Placed.{Placed}
use Rattle.unicode_ident.specs.Ident.{is_xid_start, is_xid_continue}

-- `$`, `_` or a character with the property XID_Start
unfoldable pub starts_name : ℕ → Bool
starts_name c = (c == 36) || (c == 95) || is_xid_start c

-- `$` or a character with the property XID_Continue
unfoldable pub continues_name : ℕ → Bool
continues_name c = (c == 36) || is_xid_continue c

-- The reserved words of strict code, and `await`.
abbrev pub words : List (List ℕ)
words = codes "await" ∷ codes "break" ∷ codes "case" ∷ codes "catch" ∷ codes "class" ∷ codes "const"
    ∷ codes "continue" ∷ codes "debugger" ∷ codes "default" ∷ codes "delete" ∷ codes "do" ∷ codes "else" ∷ codes "enum"
    ∷ codes "export" ∷ codes "extends" ∷ codes "false" ∷ codes "finally" ∷ codes "for" ∷ codes "function" ∷ codes "if"
    ∷ codes "implements" ∷ codes "import" ∷ codes "in" ∷ codes "instanceof" ∷ codes "interface" ∷ codes "let"
    ∷ codes "new" ∷ codes "null" ∷ codes "package" ∷ codes "private" ∷ codes "protected" ∷ codes "public"
    ∷ codes "return" ∷ codes "static" ∷ codes "super" ∷ codes "switch" ∷ codes "this" ∷ codes "throw" ∷ codes "true"
    ∷ codes "try" ∷ codes "typeof" ∷ codes "var" ∷ codes "void" ∷ codes "while" ∷ codes "with" ∷ codes "yield" ∷ []

unfoldable pub is_word : List ℕ → Bool
is_word units = list_any (λ word. pointwise nat_eq word units) words

-- the units of the first character of a name, with those of the rest
abbrev pub with_front : List ℕ → List ℕ × List Placed → List ℕ × List Placed
with_front units x = (units ++ x.0, x.1)

-- The units of the characters with which a name goes on, and what stands behind them.
abbrev pub rest_of_name : List Placed → List ℕ × List Placed
rest_of_name [] = ([], [])
rest_of_name (c ∷ rest) = if continues_name c.symbol then with_front (encode_utf16 c.symbol) (rest_of_name rest) else ([], c ∷ rest)

-- The units of the name that begins with this character, and what stands behind it.
unfoldable pub name_at : Placed → List Placed → List ℕ × List Placed
name_at c rest = with_front (encode_utf16 c.symbol) (rest_of_name rest)

-- the character in front of UTF-16 units, if it is no surrogate without a partner, and the units behind it
abbrev pub lone_character : ℕ → List ℕ → Option (ℕ × List ℕ)
lone_character unit rest = option_map (λ c. (c, rest)) (lone_unit_char unit)

abbrev pub character_at : ℕ → List ℕ → Option (ℕ × List ℕ)
character_at unit [] = lone_character unit []
character_at unit (low ∷ rest) = if is_high_surrogate unit && is_low_surrogate low
    then Some (surrogate_pair_char unit low, rest) else lone_character unit (low ∷ rest)

-- Whether the characters of a text, of which a surrogate with no partner is none, are those of a name.
abbrev pub continue_name : List (Option ℕ) → Bool
continue_name [] = true
continue_name (None ∷ rest) = false
continue_name (Some c ∷ rest) = continues_name c && continue_name rest

abbrev pub are_of_name : List (Option ℕ) → Bool
are_of_name [] = false
are_of_name (None ∷ rest) = false
are_of_name (Some c ∷ rest) = starts_name c && continue_name rest

-- Whether the units are those of a name that is no word.
unfoldable pub is_name : List ℕ → Bool
is_name units = are_of_name (utf16_chars units) && not (is_word units)
