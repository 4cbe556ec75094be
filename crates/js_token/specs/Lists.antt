-- What a list of tokens is like.
use Rattle.std.specs.Prelude.{◌≡◌, ℕ, zero, suc, ◌+◌, ◌==◌, ◌<◌, ◌≤◌, Bool, true, false, List, [], ◌∷◌, length, Option, Some, None, pos}
use Rattle.js_token.specs.declared.token.Token.{Token}
use Rattle.js_token.specs.declared.token.TokenKind.{TokenKind}
use Rattle.js_token.specs.declared.token.TokenKind.TheVariants.{Name, Word, Number, Text, Piece, Mark, End}
use Rattle.js_token.specs.Marks.{marks}
use Rattle.js_token.specs.Words.{is_word, is_name}

-- A token before the end: a name is one, a word is one, a number is at most 2^53 - 1, and a mark has its number.
abbrev pub IsInner : TokenKind → Type 0
IsInner (Name text) = is_name text ≡ true
IsInner (Word text) = is_word text ≡ true
IsInner (Number value) = (n : ℕ) × (value ≡ pos n) × (n ≤ 9_007_199_254_740_991)
IsInner (Text text) = Unit {0}
IsInner (Piece text first last) = Unit {0}
IsInner (Mark number) = number < length marks
IsInner End = ⊥

-- The list ends with `End` at the place, and has such tokens before.
abbrev pub EndsAt : ℕ → List Token → Type 0
EndsAt end [] = ⊥
EndsAt end (token ∷ []) = (token.place ≡ end) × (token.kind ≡ End)
EndsAt end (token ∷ next ∷ more) = IsInner token.kind × EndsAt end (next ∷ more)

-- how many parts of templates are open behind a stretch of a template's text, where so many are open before it; a
-- stretch that isn't the first needs one
abbrev pub behind_stretch : Bool → Bool → ℕ → Option ℕ
behind_stretch true true parts = Some parts
behind_stretch true false parts = Some (suc parts)
behind_stretch false last zero = None
behind_stretch false true (suc parts) = Some parts
behind_stretch false false (suc parts) = Some (suc parts)

abbrev pub behind_kind : TokenKind → ℕ → Option ℕ
behind_kind (Name text) parts = Some parts
behind_kind (Word text) parts = Some parts
behind_kind (Number value) parts = Some parts
behind_kind (Text text) parts = Some parts
behind_kind (Piece text first last) parts = behind_stretch first last parts
behind_kind (Mark number) parts = Some parts
behind_kind End parts = Some parts

-- what holds of the number, if there is one
abbrev pub if_some : (ℕ → Bool) → Option ℕ → Bool
if_some test None = false
if_some test (Some n) = test n

-- The stretches of templates nest, where so many parts are open in front: each that isn't the last of its template has
-- its next one, and each that isn't the first had one before.
abbrev pub are_nested : ℕ → List Token → Bool
are_nested parts [] = parts == 0
are_nested parts (token ∷ more) = if_some (λ behind. are_nested behind more) (behind_kind token.kind parts)

-- The places ascend strictly, from `low` on.
abbrev pub AscendFrom : ℕ → List Token → Type 0
AscendFrom low [] = Unit {0}
AscendFrom low (token ∷ more) = (low ≤ token.place) × AscendFrom (token.place + 1) more
