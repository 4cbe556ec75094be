-- What one line of an event script does.
use Rattle.std.specs.Prelude.{ℕ, ◌+◌, ◌-◌, ◌*◌, List, [], ◌∷◌, length, take, drop, Bool, true, ◌==◌, ◌&&◌, ◌||◌, not, nat_eq, nat_lt, nat_le, if◌then◌else◌, Option, Some, None, is_some, codes, position}
use Rattle.std.specs.List.{list_all, before_first, after_first}
use Rattle.std.specs.Option.{option_map, option_and_then}
use Rattle.std.specs.Cmp.Lexicographic.{pointwise}
use Rattle.std.specs.Str.{is_utf8}
use Rattle.wl_text.specs.Text.{units_of}
use Rattle.world_kind.specs.declared.WorldKind.{WorldKind}
use Rattle.world_kind.specs.declared.WorldKind.TheVariants.{Main, Preload, Page}
use Rattle.event_script.specs.declared.line.LineKind.{LineKind}
use Rattle.event_script.specs.declared.line.LineKind.TheVariants.{Step, Drain, Event, Reload, Close}

abbrev pub is : List ℕ → List ℕ → Bool
is word text = pointwise nat_eq text word

abbrev pub is_space : ℕ → Bool
is_space b = b == 32

-- what stands before the first space, and what stands after it
unfoldable pub cut : List ℕ → Option (List ℕ × List ℕ)
cut text = option_map (λ at. (take at text, drop (at + 1) text)) (position is_space text)

-- the number of a window: 1 to 8
abbrev pub window : List ℕ → Option ℕ
window (digit ∷ []) = if nat_le 49 digit && nat_le digit 56 then Some (digit - 48) else None
window _ = None

-- the number of a process: 0 for the main one
unfoldable pub process : List ℕ → Option ℕ
process text = if is (codes "main") text then Some 0 else window text

abbrev pub is_digit : ℕ → Bool
is_digit b = nat_le 48 b && nat_le b 57

-- a number with so much before it, where it stays within 10,000 to its end
abbrev pub count_from : ℕ → List ℕ → Option ℕ
count_from before [] = Some before
count_from before (digit ∷ rest) = if is_digit digit && nat_le (before * 10 + (digit - 48)) 10000
    then count_from (before * 10 + (digit - 48)) rest else None

-- a number from 0 to 10,000 without leading zeros
unfoldable pub count : List ℕ → Option ℕ
count [] = None
count (digit ∷ []) = count_from 0 (digit ∷ [])
count (digit ∷ next ∷ rest) = if digit == 48 then None else count_from 0 (digit ∷ next ∷ rest)

-- what follows a word at the start of a text
abbrev pub behind : List ℕ → List ℕ → Option (List ℕ)
behind word text = if pointwise nat_eq (take (length word) text) word then Some (drop (length word) text) else None

-- a world: its kind and its window, 0 for the main one
unfoldable pub world : List ℕ → Option (WorldKind × ℕ)
world text = if is (codes "main") text then Some (Main, 0)
    else if is_some (behind (codes "preload") text) then option_map (λ n. (Preload, n)) (option_and_then window (behind (codes "preload") text))
    else option_map (λ n. (Page, n)) (option_and_then window (behind (codes "page") text))

abbrev pub is_name_byte : ℕ → Bool
is_name_byte b = (nat_le 97 b && nat_le b 122) || (is_digit b || (b == 45))

-- 1 to 32 of a to z, 0 to 9 and `-`, but not `message`
unfoldable pub is_event_name : List ℕ → Bool
is_event_name name = nat_lt 0 (length name) && (nat_le (length name) 32 && (list_all is_name_byte name && not (is (codes "message") name)))

-- an event of a world, with its name and its text
abbrev pub event_at : WorldKind × ℕ → List ℕ → List ℕ → Option LineKind
event_at at name text = if is_event_name name then Some (Event at.0 at.1 (units_of name) (units_of text)) else None

-- a world, a name, and a text, which is empty where the line ends after the name
unfoldable pub event : List ℕ → Option LineKind
event text = option_and_then (λ x. option_and_then (λ at. event_at at (before_first is_space x.1) (after_first is_space x.1)) (world x.0)) (cut text)

abbrev pub effect_by : List ℕ → List ℕ → Option LineKind
effect_by word rest = if is (codes "step") word then option_map Step (process rest)
    else if is (codes "drain") word then option_map Drain (count rest)
    else if is (codes "event") word then event rest
    else if is (codes "reload") word then option_map Reload (window rest)
    else if is (codes "close") word then option_map Close (window rest)
    else None

-- what a line with an effect does: nothing is its answer where it is of no form
unfoldable pub effect : List ℕ → Option LineKind
effect line = option_and_then (λ x. effect_by x.0 x.1) (cut line)

-- An empty line and a line that begins with `#` have no effect.
abbrev pub is_silent : List ℕ → Bool
is_silent [] = true
is_silent (b ∷ rest) = b == 35

-- None for a wrong line, Some None for a line without effect
unfoldable pub line_of : List ℕ → Option (Option LineKind)
line_of line = if not (is_utf8 line) then None else if is_silent line then Some None else option_map Some (effect line)
