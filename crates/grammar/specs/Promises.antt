-- What is promised of reading, for every grammar.
use Rattle.std.specs.Prelude.{◌≡◌, ◌<◌, Bool, false, ℕ, List, [], ◌∷◌, ◌++◌, length, Ok, Err}
use Rattle.grammar.specs.Grammar.{Tree, Language, Derives, Viable, NoneGoesOn}
use Rattle.grammar.specs.Reading.{read}
use Rattle.grammar.specs.Tests.{Fits, AllApart, Examples, Opens}
use Rattle.grammar.specs.Pairs.{Forks, Told}

-- What is read is derived.
abbrev pub IsSound : Type 0 → Type 0
IsSound A = (l : Language A) (limit depth name : ℕ) (tokens rest : List A) (tree : Tree A) → read l limit depth name tokens ≡ Ok (tree, rest)
    → Derives l depth name tokens rest tree

-- What is derived is read, in a grammar whose rules pass the tests.
abbrev pub IsComplete : Type 0 → Type 0
IsComplete A = (l : Language A) (tails : ℕ → List ℕ) (limit depth name : ℕ) (tokens : List A) (tree : Tree A) → Fits l tails → AllApart l limit → length tokens < limit
    → Derives l depth name tokens [] tree → read l limit depth name tokens ≡ Ok (tree, [])

-- There is one tree.
abbrev pub HasOneTree : Type 0 → Type 0
HasOneTree A = (l : Language A) (tails : ℕ → List ℕ) (depth name : ℕ) (tokens : List A) (a b : Tree A) → Fits l tails → ((limit : ℕ) → AllApart l limit)
    → Derives l depth name tokens [] a → Derives l depth name tokens [] b → a ≡ b

-- A fault stays what it is and where it is, whatever stands behind its token.
abbrev pub IsLocal : Type 0 → Type 0
IsLocal A = (l : Language A) (tails : ℕ → List ℕ) (limit depth name : ℕ) (front u v : List A) (t : A) (deep : Bool) → Fits l tails → AllApart l limit
    → read l limit depth name (front ++ t ∷ u) ≡ Err (deep, t ∷ u) → read l limit depth name (front ++ t ∷ v) ≡ Err (deep, t ∷ v)

-- Some script begins with what stands before a fault. But no script that nests fewer than so many deep has the fault's token there, and no script at all
-- where the fault is not one of nesting.
abbrev pub IsExact : Type 0 → Type 0
IsExact A = (l : Language A) (tails : ℕ → List ℕ) (e : Examples) (limit depth start : ℕ) (tokens left : List A) (deep : Bool)
    → Fits l tails → Opens l e → ((limit : ℕ) → AllApart l limit) → start < e.size → length tokens < limit → read l limit depth start tokens ≡ Err (deep, left)
    → (front : List A) × (tokens ≡ front ++ left) × Viable l start front × NoneGoesOn l depth start front left
    × (deep ≡ false → (any : ℕ) → NoneGoesOn l any start front left)

-- In a grammar whose rules pass the tests the two readings of each fork exclude each other.
abbrev pub HasForksApart : Type 0 → Type 0
HasForksApart A = (l : Language A) (tails : ℕ → List ℕ) (b : Forks) (limit : ℕ) → Fits l tails → Told l b → AllApart l limit
