-- A line as it is built.
use Rattle.std.specs.Prelude.{◌≡◌, ℕ, ◌-◌, ◌≤◌, List, ◌++◌, take, Bool, true, false}
use Rattle.js_semantics.specs.Display.{Shown}

-- The units that stand, how many there may be, and how many more elements and properties may be shown.
pub record Built : Type 0 where
  pub text : List ℕ
  pub limit : ℕ
  pub left : ℕ

-- the line with what is shown behind it, cut at the limit
abbrev pub showing : Shown → Built → Built
showing s line = record { text = take line.limit (line.text ++ s.text); limit = line.limit; left = s.left }

-- the line with a text behind it
abbrev pub more : List ℕ → Built → Built
more text line = showing (record { text = text; left = line.left }) line

-- Whether one more was counted, and the line then.
abbrev pub Spends : Built → Bool → Built → Type 0
Spends before true after = (1 ≤ before.left) × (after ≡ record before { left = before.left - 1 })
Spends before false after = (before.left ≡ 0) × (after ≡ before)

-- The line then has this text behind it, cut at the limit.
abbrev pub Says : Built → List ℕ → Built → Type 0
Says before text after = (after.limit ≡ before.limit) × (after.text ≡ take before.limit (before.text ++ text))
