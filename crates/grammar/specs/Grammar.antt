-- Grammars as data, and what they derive (ECMA-262, 5.1.1 to 5.1.4). Nothing here speaks of reading.
use Rattle.grammar.specs.Kinds.{among}
use Rattle.std.specs.Prelude.{false, true, Bool, ◌≡◌, ◌⊎◌, ℕ, zero, suc, List, [], ◌∷◌, ◌++◌}

-- the tree of what was derived; its leaves are the tokens
pub data Tree (A : Type 0) : Type 0 where
  tip : Tree A
  leaf : (token : A) → Tree A
  pair : (a b : Tree A) → Tree A
  node : (name : ℕ) → (a : Tree A) → Tree A

-- the right side of a rule
pub data Grammar (A : Type 0) : Type 0 where
  empty : Grammar A
  -- one token of these kinds
  token : (kinds : List ℕ) → Grammar A
  -- a rule, which nests one deeper
  call : (name : ℕ) → Grammar A
  -- the right side of a rule in its place, which does not nest
  line : (name : ℕ) → (x : Grammar A) → Grammar A
  both : (x y : Grammar A) → Grammar A
  -- two that the next token tells apart
  either : (x y : Grammar A) → Grammar A
  -- Two that begin alike. Behind the first none of `stop` can stand.
  fork : (stop : List ℕ) → (x y : Grammar A) → Grammar A
  -- one behind the other; behind one whose tree fails the test comes no further one
  many : (more : Tree A → Bool) → (x : Grammar A) → Grammar A
  named : (name : ℕ) → (x : Grammar A) → Grammar A
  -- it, wherever one of the kinds comes next; else nothing
  prefer : (kinds : List ℕ) → (x : Grammar A) → Grammar A
  -- it, where the kind of its first token passes
  starting : (test : ℕ → Bool) → (x : Grammar A) → Grammar A
  -- the first, and behind it the second where its tree passes, else the third
  on : (test : Tree A → Bool) → (x y z : Grammar A) → Grammar A

-- The kind of each token, the rules by their names, and the kinds that each rule may begin with.
pub record Language (A : Type 0) : Type 0 where
  pub kind : A → ℕ
  pub rules : ℕ → Grammar A
  pub heads : ℕ → List ℕ

-- the member of a list by its number, else the default
unfoldable pub entry : {B : Type 0} → B → List B → ℕ → B
entry none [] n = none
entry none (x ∷ xs) zero = x
entry none (x ∷ xs) (suc n) = entry none xs n

-- what derives from which tokens up to which rest
abbrev pub Relation : Type 0 → Type 1
Relation A = List A → List A → Tree A → Type 0

-- what the test asks for, else nothing
abbrev pub Perhaps : {A : Type 0} → Bool → Relation A → Relation A
Perhaps b Q ts rest tree = ((b ≡ true) × Q ts rest tree) ⊎ ((b ≡ false) × (ts ≡ rest) × (tree ≡ tip))

-- the one where the test passes, else the other
abbrev pub Choice : {A : Type 0} → Bool → Relation A → Relation A → Relation A
Choice b Q S ts rest tree = ((b ≡ true) × Q ts rest tree) ⊎ ((b ≡ false) × S ts rest tree)

-- as many as the tree lists, one behind the other
unfoldable pub Chain : {A : Type 0} → Relation A → (Tree A → Bool) → Tree A → List A → List A → Type 0
Chain R more tip ts rest = ts ≡ rest
Chain R more (leaf t) ts rest = ⊥
Chain R more (pair a b) ts rest = (mid : List _) × R ts mid a × Perhaps (more a) (λ ts rest b'. Chain R more b ts rest) mid rest b
Chain R more (node name a) ts rest = ⊥

module _ {A : Type 0} (l : Language A) where
  -- The next token passes.
  abbrev pub starts : (ℕ → Bool) → List A → Bool
  starts test [] = false
  starts test (t ∷ ts) = test (l.kind t)

  -- A right side spells the tokens from ts up to rest, as the tree, where R tells it of the rules.
  unfoldable pub Spells : (ℕ → Relation A) → Grammar A → Relation A
  Spells R empty ts rest tree = (ts ≡ rest) × (tree ≡ tip)
  Spells R (token kinds) ts rest tree = (t : A) × (ts ≡ t ∷ rest) × (among kinds (l.kind t) ≡ true) × (tree ≡ leaf t)
  Spells R (call name) ts rest tree = R name ts rest tree
  Spells R (line name x) ts rest tree = Spells R x ts rest tree
  Spells R (both x y) ts rest tree =
      (mid : List A) × (a b : Tree A) × Spells R x ts mid a × Spells R y mid rest b × (tree ≡ pair a b)
  Spells R (either x y) ts rest tree = Spells R x ts rest tree ⊎ Spells R y ts rest tree
  Spells R (fork stop x y) ts rest tree = Spells R x ts rest tree ⊎ Spells R y ts rest tree
  Spells R (many more x) ts rest tree = Chain (Spells R x) more tree ts rest
  Spells R (named name x) ts rest tree = (a : Tree A) × Spells R x ts rest a × (tree ≡ node name a)
  Spells R (prefer kinds x) ts rest tree = Spells R x ts rest tree ⊎ ((ts ≡ rest) × (tree ≡ tip) × (starts (among kinds) rest ≡ false))
  Spells R (starting test x) ts rest tree = (starts test ts ≡ true) × Spells R x ts rest tree
  Spells R (on test x y z) ts rest tree =
      (mid : List A) × (a b : Tree A) × Spells R x ts mid a × Choice (test a) (Spells R y) (Spells R z) mid rest b × (tree ≡ pair a b)

  -- what a rule derives, where its calls nest fewer than so many deep
  unfoldable pub Derives : ℕ → ℕ → Relation A
  Derives zero name ts rest tree = ⊥
  Derives (suc depth) name ts rest tree = Spells (Derives depth) (l.rules name) ts rest tree

  -- Some script begins so.
  unfoldable pub Viable : ℕ → List A → Type 0
  Viable start front = (depth : ℕ) × (more : List A) × (tree : Tree A) × Derives depth start (front ++ more) [] tree

  -- No script of that depth has, behind these tokens, the first of what is left there (or ends there, where nothing is left).
  abbrev pub NoneGoesOn : ℕ → ℕ → List A → List A → Type 0
  NoneGoesOn depth start front [] = (tree : Tree A) → Derives depth start front [] tree → ⊥
  NoneGoesOn depth start front (t ∷ u) = (more : List A) (tree : Tree A) → Derives depth start (front ++ t ∷ more) [] tree → ⊥
