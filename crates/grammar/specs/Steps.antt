-- What code that reads by a grammar answers, by what reading gives.
use Rattle.std.specs.Prelude.{◌≡◌, ◌^◌, Bool, ℕ, List, length, Ok, Err}
use Rattle.grammar.specs.Grammar.{Tree, Grammar, Language}
use Rattle.grammar.specs.Reading.{Answer, read, read_at}

module _ {A : Type 0} (l : Language A) where
  -- a right side, where calls nest fewer than so many deep
  unfoldable pub reads : ℕ → Grammar A → List A → Answer A
  reads depth x tokens = read_at l (2 ^ 64) (read l (2 ^ 64) depth) x tokens

  -- It reads from these tokens up to that rest, as the tree.
  unfoldable pub ReadTo : ℕ → Grammar A → List A → List A → Tree A → Type 0
  ReadTo depth x tokens rest tree = reads depth x tokens ≡ Ok (tree, rest)

  -- It has a fault, of nesting or not, where so many tokens are left.
  unfoldable pub FaultAt : ℕ → Grammar A → List A → Bool → ℕ → Type 0
  FaultAt depth x tokens deep left = (c : List A) × (reads depth x tokens ≡ Err (deep, c)) × (left ≡ length c)
