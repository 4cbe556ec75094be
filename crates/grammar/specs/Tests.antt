-- Tests of a grammar's rules, which compute: the next token always tells what to do, and what stands before a fault can be completed.
use Rattle.std.specs.Prelude.{Bool, true, false, ◌≡◌, ◌<◌, ℕ, suc, max, nat_le, Ok, List, [], ◌∷◌, ◌++◌, if◌then◌else◌}
use Rattle.grammar.specs.Kinds.{alike, apart, covers, and, not}
use Rattle.grammar.specs.Grammar.{Tree, Grammar, empty, token, call, line, both, either, fork, many, named, prefer, starting, on, Language}
use Rattle.grammar.specs.Reading.{Answer, nullable, firsts, refused, read_at, read}

-- The kinds that may go on what is already complete; `tails` tells them of rules.
unfoldable pub goes_on : {A : Type 0} → (heads tails : ℕ → List ℕ) → Grammar A → List ℕ
goes_on heads tails empty = []
goes_on heads tails (token kinds) = []
goes_on heads tails (call name) = tails name
goes_on heads tails (line name x) = tails name
goes_on heads tails (both x y) = goes_on heads tails y ++ (if nullable y then goes_on heads tails x else [])
goes_on heads tails (either x y) = (goes_on heads tails x ++ goes_on heads tails y) ++ (if nullable y then firsts heads x else [])
goes_on heads tails (fork stop x y) = stop ++ (goes_on heads tails x ++ goes_on heads tails y)
goes_on heads tails (many more x) = firsts heads x ++ goes_on heads tails x
goes_on heads tails (named name x) = goes_on heads tails x
goes_on heads tails (prefer kinds x) = goes_on heads tails x
goes_on heads tails (starting test x) = goes_on heads tails x
goes_on heads tails (on test x y z) = (goes_on heads tails y ++ goes_on heads tails z) ++ goes_on heads tails x

-- The next token always tells what to do, but at a fork.
unfoldable pub decided : {A : Type 0} → (heads tails : ℕ → List ℕ) → Grammar A → Bool
decided heads tails empty = true
decided heads tails (token kinds) = true
decided heads tails (call name) = true
decided heads tails (line name x) = true
decided heads tails (both x y) = and (apart (goes_on heads tails x) (firsts heads y)) (and (decided heads tails x) (decided heads tails y))
decided heads tails (either x y) =
    and (not (nullable x)) (and (apart (firsts heads x) (firsts heads y)) (and (decided heads tails x) (decided heads tails y)))
decided heads tails (fork stop x y) = and (decided heads tails x) (decided heads tails y)
decided heads tails (many more x) = and (not (nullable x)) (and (apart (goes_on heads tails x) (firsts heads x)) (decided heads tails x))
decided heads tails (named name x) = decided heads tails x
decided heads tails (prefer kinds x) = and (not (nullable x)) (and (covers kinds (firsts heads x)) (decided heads tails x))
decided heads tails (starting test x) = and (not (nullable x)) (decided heads tails x)
decided heads tails (on test x y z) =
    and (apart (goes_on heads tails x) (firsts heads y ++ firsts heads z)) (and (decided heads tails x) (and (decided heads tails y) (decided heads tails z)))

-- what is tested of each rule
abbrev pub fits : {A : Type 0} → (heads tails : ℕ → List ℕ) → ℕ → Grammar A → Bool
fits heads tails name x =
    and (not (nullable x)) (and (covers (heads name) (firsts heads x)) (and (covers (tails name) (goes_on heads tails x)) (decided heads tails x)))

-- Each right side that stands in its place is that of the rule that it names.
unfoldable pub InPlace : {A : Type 0} → (ℕ → Grammar A) → Grammar A → Type 0
InPlace rules empty = Unit {0}
InPlace rules (token kinds) = Unit {0}
InPlace rules (call name) = Unit {0}
InPlace rules (line name x) = x ≡ rules name
InPlace rules (both x y) = InPlace rules x × InPlace rules y
InPlace rules (either x y) = InPlace rules x × InPlace rules y
InPlace rules (fork stop x y) = InPlace rules x × InPlace rules y
InPlace rules (many more x) = InPlace rules x
InPlace rules (named name x) = InPlace rules x
InPlace rules (prefer kinds x) = InPlace rules x
InPlace rules (starting test x) = InPlace rules x
InPlace rules (on test x y z) = InPlace rules x × InPlace rules y × InPlace rules z

-- Every rule passes, where `tails` are the kinds that may go on each once it is complete.
abbrev pub Fits : {A : Type 0} → Language A → (tails : ℕ → List ℕ) → Type 0
Fits l tails = (n : ℕ) → (fits l.heads tails n (l.rules n) ≡ true) × InPlace l.rules (l.rules n)

-- No front is read by both.
abbrev pub NotBoth : {A : Type 0} → (List A → Answer A) → (List A → Answer A) → Type 0
NotBoth {A} a b = (ts : List A) (p q : Tree A × List A) → a ts ≡ Ok p → b ts ≡ Ok q → ⊥

-- the same of rules in a list, from a number on
unfoldable pub AllFit : {A : Type 0} → Language A → (tails : ℕ → List ℕ) → ℕ → List (Grammar A) → Type 0
AllFit l tails n [] = Unit {0}
AllFit l tails n (x ∷ xs) = ((fits l.heads tails n x ≡ true) × InPlace l.rules x) × AllFit l tails (suc n) xs

-- At each fork of a right side no front is read both ways.
unfoldable pub Apart : {A : Type 0} → Language A → ℕ → (ℕ → List A → Answer A) → Grammar A → Type 0
Apart l limit r empty = Unit {0}
Apart l limit r (token kinds) = Unit {0}
Apart l limit r (call name) = Unit {0}
Apart l limit r (line name x) = Unit {0}
Apart l limit r (both x y) = Apart l limit r x × Apart l limit r y
Apart l limit r (either x y) = Apart l limit r x × Apart l limit r y
Apart l limit r (fork stop x y) = Apart l limit r x × Apart l limit r y × NotBoth (λ ts. refused l stop (read_at l limit r x ts)) (read_at l limit r y)
Apart l limit r (many more x) = Apart l limit r x
Apart l limit r (named name x) = Apart l limit r x
Apart l limit r (prefer kinds x) = Apart l limit r x
Apart l limit r (starting test x) = Apart l limit r x
Apart l limit r (on test x y z) = Apart l limit r x × Apart l limit r y × Apart l limit r z

-- At each fork of each rule no front is read both ways.
abbrev pub AllApart : {A : Type 0} → Language A → ℕ → Type 0
AllApart l limit = (depth n : ℕ) → Apart l limit (read l limit depth) (l.rules n)

-- What is asked of a grammar's rules so that what stands before a fault can be completed: the kinds that may not stand behind each, the kinds of an example
-- of each, how deep the calls of that example nest (less than `deepest`), how many rules there are, and of which kinds there are tokens.
pub record Examples : Type 0 where
  pub shuts : ℕ → List ℕ
  pub words : ℕ → List ℕ
  pub ranks : ℕ → ℕ
  pub deepest : ℕ
  pub size : ℕ
  pub usable : ℕ → Bool

-- The kinds that may not stand behind.
unfoldable pub bars : {A : Type 0} → Examples → Grammar A → List ℕ
bars e empty = []
bars e (token kinds) = []
bars e (call name) = e.shuts name
bars e (line name x) = e.shuts name
bars e (both x y) = bars e y ++ (if nullable y then bars e x else [])
bars e (either x y) = bars e x ++ bars e y
bars e (fork stop x y) = bars e x ++ bars e y
bars e (many more x) = bars e x
bars e (named name x) = bars e x
bars e (prefer kinds x) = kinds ++ bars e x
bars e (starting test x) = bars e x
bars e (on test x y z) = (bars e y ++ bars e z) ++ bars e x

abbrev pub first_of : List ℕ → List ℕ
first_of [] = []
first_of (kind ∷ kinds) = kind ∷ []

-- the kinds of an example, empty where that may be
unfoldable pub word : {A : Type 0} → Examples → Grammar A → List ℕ
word e empty = []
word e (token kinds) = first_of kinds
word e (call name) = e.words name
word e (line name x) = e.words name
word e (both x y) = word e x ++ word e y
word e (either x y) = if nullable x then word e x else word e y
word e (fork stop x y) = if nullable y then word e y else word e x
word e (many more x) = []
word e (named name x) = word e x
word e (prefer kinds x) = []
word e (starting test x) = word e x
word e (on test x y z) = word e x

-- how deep the calls of the example nest
unfoldable pub steep : {A : Type 0} → Examples → Grammar A → ℕ
steep e empty = 0
steep e (token kinds) = 0
steep e (call name) = suc (e.ranks name)
steep e (line name x) = e.ranks name
steep e (both x y) = max (steep e x) (steep e y)
steep e (either x y) = if nullable x then steep e x else steep e y
steep e (fork stop x y) = if nullable y then steep e y else steep e x
steep e (many more x) = 0
steep e (named name x) = steep e x
steep e (prefer kinds x) = 0
steep e (starting test x) = steep e x
steep e (on test x y z) = steep e x

abbrev pub first_passes : (ℕ → Bool) → List ℕ → Bool
first_passes test [] = false
first_passes test (kind ∷ kinds) = test kind

-- What may not stand behind a part never has to.
unfoldable pub clear : {A : Type 0} → (heads : ℕ → List ℕ) → Examples → Grammar A → Bool
clear heads e empty = true
clear heads e (token kinds) = first_passes e.usable kinds
clear heads e (call name) = nat_le (suc name) e.size
clear heads e (line name x) = nat_le (suc name) e.size
clear heads e (both x y) =
    and (if nullable y then true else apart (bars e x) (firsts heads y)) (and (clear heads e x) (clear heads e y))
clear heads e (either x y) = and (clear heads e x) (clear heads e y)
clear heads e (fork stop x y) = and (clear heads e x) (clear heads e y)
clear heads e (many more x) = and (apart (bars e x) (firsts heads x)) (clear heads e x)
clear heads e (named name x) = clear heads e x
clear heads e (prefer kinds x) = clear heads e x
clear heads e (starting test x) = and (not (nullable x)) (and (first_passes test (word e x)) (clear heads e x))
clear heads e (on test x y z) = and (and (nullable y) (nullable z)) (and (clear heads e x) (and (clear heads e y) (clear heads e z)))

abbrev pub open_ended : {A : Type 0} → (heads : ℕ → List ℕ) → Examples → ℕ → Grammar A → Bool
open_ended heads e name x =
    and (covers (e.shuts name) (bars e x)) (and (alike (e.words name) (word e x))
    (and (nat_le (steep e x) (e.ranks name)) (and (nat_le (suc (e.ranks name)) e.deepest) (clear heads e x))))

-- Every rule passes, and there is a token of each kind that is used in an example.
abbrev pub Opens : {A : Type 0} → Language A → Examples → Type 0
Opens {A} l e = ((n : ℕ) → n < e.size → open_ended l.heads e n (l.rules n) ≡ true) × ((kind : ℕ) → e.usable kind ≡ true → (t : A) × (l.kind t ≡ kind))

-- the same of rules in a list, from a number on
unfoldable pub AllOpen : {A : Type 0} → Language A → Examples → ℕ → List (Grammar A) → Type 0
AllOpen l e n [] = Unit {0}
AllOpen l e n (x ∷ xs) = (open_ended l.heads e n x ≡ true) × AllOpen l e (suc n) xs
