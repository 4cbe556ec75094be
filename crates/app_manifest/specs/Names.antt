-- The names of an application's files.
use Rattle.std.specs.Prelude.{ℕ, List, [], ◌∷◌, length, Bool, true, false, ◌==◌, ◌&&◌, ◌||◌, not, nat_le}
use Rattle.std.specs.List.{list_all}

abbrev pub is_letter : ℕ → Bool
is_letter b = (nat_le 65 b && nat_le b 90) || (nat_le 97 b && nat_le b 122)

abbrev pub is_digit : ℕ → Bool
is_digit b = nat_le 48 b && nat_le b 57

-- an ASCII letter, a digit, `.`, `_`, `-` or `/`
abbrev pub is_name_byte : ℕ → Bool
is_name_byte b = is_letter b || (is_digit b || (b == 46 || (b == 95 || (b == 45 || b == 47))))

abbrev pub is_dot : ℕ → Bool
is_dot b = b == 46

-- the text begins with a byte of the kind
abbrev pub begins : (ℕ → Bool) → List ℕ → Bool
begins test [] = false
begins test (b ∷ rest) = test b

-- somewhere stands `..`
abbrev pub has_two_dots : List ℕ → Bool
has_two_dots [] = false
has_two_dots (b ∷ rest) = (is_dot b && begins is_dot rest) || has_two_dots rest

-- A file name has 1 to 200 characters out of ASCII letters, digits, `.`, `_`, `-` and `/`, doesn't begin with `/` or
-- `.`, and has no `..`.
unfoldable pub is_file_name : List ℕ → Bool
is_file_name text = nat_le 1 (length text) && (nat_le (length text) 200 && (list_all is_name_byte text
    && (not (begins (λ b. is_dot b || (b == 47)) text) && not (has_two_dots text))))
