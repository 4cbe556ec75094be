-- Tests, which compute, by which the two readings of a fork exclude each other: one begins with brackets, the other with the same brackets and then a token
-- that may not stand behind the first.
use Rattle.std.specs.Prelude.{◌++◌, ◌==◌, ◌||◌, ◌+◌, ◌-◌, Bool, true, false, ◌≡◌, ℕ, List, [], ◌∷◌, if◌then◌else◌}
use Rattle.grammar.specs.Kinds.{apart, covers, and, not}
use Rattle.grammar.specs.Grammar.{Grammar, empty, token, call, line, both, either, fork, many, named, prefer, starting, on, Language}
use Rattle.grammar.specs.Reading.{nullable, firsts}

-- The kinds of the brackets, the rule of what stands in brackets, the rule of the brackets before the telling token, and the kinds of the tokens that may
-- stand before it in their place.
pub record Forks : Type 0 where
  pub opening : List ℕ
  pub closing : List ℕ
  pub group : ℕ
  pub listed : ℕ
  pub names : List ℕ

abbrev pub same_pair : ℕ × ℕ → ℕ × ℕ → Bool
same_pair a b = and (a.0 == b.0) (a.1 == b.1)

-- how many brackets it closes, and then opens
unfoldable pub levels : {A : Type 0} → Forks → Grammar A → ℕ × ℕ
levels b empty = (0, 0)
levels b (token kinds) = if apart kinds b.opening then (if apart kinds b.closing then (0, 0) else (1, 0)) else (0, 1)
levels b (call name) = (0, 0)
levels b (line name x) = (0, 0)
levels b (both x y) =
    let m = levels b x in let n = levels b y in
    (m.0 + (n.0 - m.1), n.1 + (m.1 - n.0))
levels b (either x y) = levels b x
levels b (fork stop x y) = levels b x
levels b (many more x) = (0, 0)
levels b (named name x) = levels b x
levels b (prefer kinds x) = (0, 0)
levels b (starting test x) = levels b x
levels b (on test x y z) = levels b x

-- All that it may be closes and opens as many.
unfoldable pub even : {A : Type 0} → Forks → Grammar A → Bool
even b empty = true
even b (token kinds) = if apart kinds b.opening then (if apart kinds b.closing then true else covers b.closing kinds) else covers b.opening kinds
even b (call name) = true
even b (line name x) = true
even b (both x y) = and (even b x) (even b y)
even b (either x y) = and (same_pair (levels b x) (levels b y)) (and (even b x) (even b y))
even b (fork stop x y) = and (same_pair (levels b x) (levels b y)) (and (even b x) (even b y))
even b (many more x) = and (same_pair (levels b x) (0, 0)) (even b x)
even b (named name x) = even b x
even b (prefer kinds x) = and (same_pair (levels b x) (0, 0)) (even b x)
even b (starting test x) = even b x
even b (on test x y z) =
    and (and (same_pair (levels b y) (0, 0)) (same_pair (levels b z) (0, 0))) (and (even b x) (and (even b y) (even b z)))

-- Its last token closes the bracket that stands open before it.
unfoldable pub shuts_one : {A : Type 0} → Forks → Grammar A → Bool
shuts_one b empty = false
shuts_one b (token kinds) = and (covers b.closing kinds) (apart kinds b.opening)
shuts_one b (call name) = false
shuts_one b (line name x) = false
shuts_one b (both x y) = and (and (same_pair (levels b x) (0, 0)) (even b x)) (shuts_one b y)
shuts_one b (either x y) = false
shuts_one b (fork stop x y) = false
shuts_one b (many more x) = false
shuts_one b (named name x) = shuts_one b x
shuts_one b (prefer kinds x) = false
shuts_one b (starting test x) = shuts_one b x
shuts_one b (on test x y z) = false

abbrev pub is_token : {A : Type 0} → Grammar A → Bool
is_token (token kinds) = true
is_token _ = false

-- It is a token and what stands up to the bracket that closes.
unfoldable pub wrapped : {A : Type 0} → Forks → Grammar A → Bool
wrapped b empty = false
wrapped b (token kinds) = false
wrapped b (call name) = false
wrapped b (line name x) = false
wrapped b (both x y) = and (is_token x) (shuts_one b y)
wrapped b (either x y) = false
wrapped b (fork stop x y) = false
wrapped b (many more x) = false
wrapped b (named name x) = wrapped b x
wrapped b (prefer kinds x) = false
wrapped b (starting test x) = wrapped b x
wrapped b (on test x y z) = false

-- Where an opening bracket comes next, it begins with the rule of what stands in brackets, behind which no kind of `stop` goes on with it.
unfoldable pub leads : {A : Type 0} → (heads : ℕ → List ℕ) → Forks → List ℕ → Grammar A → Bool
leads heads b stop empty = false
leads heads b stop (token kinds) = apart kinds b.opening
leads heads b stop (call name) = (name == b.group) || apart (heads name) b.opening
leads heads b stop (line name x) = leads heads b stop x
leads heads b stop (both x y) = and (leads heads b stop x) (apart (firsts heads y) stop)
leads heads b stop (either x y) = and (leads heads b stop x) (leads heads b stop y)
leads heads b stop (fork other x y) = and (leads heads b stop x) (leads heads b stop y)
leads heads b stop (many more x) = false
leads heads b stop (named name x) = leads heads b stop x
leads heads b stop (prefer kinds x) = false
leads heads b stop (starting test x) = leads heads b stop x
leads heads b stop (on test x y z) = and (leads heads b stop x) (apart (firsts heads y ++ firsts heads z) stop)

-- Where one of the names comes next, it begins with that token alone, behind which no kind of `stop` goes on with it.
unfoldable pub alone : {A : Type 0} → (heads : ℕ → List ℕ) → Forks → List ℕ → Grammar A → Bool
alone heads b stop empty = false
alone heads b stop (token kinds) = true
alone heads b stop (call name) = apart (heads name) b.names
alone heads b stop (line name x) = alone heads b stop x
alone heads b stop (both x y) = and (alone heads b stop x) (apart (firsts heads y) stop)
alone heads b stop (either x y) = and (alone heads b stop x) (alone heads b stop y)
alone heads b stop (fork other x y) = and (alone heads b stop x) (alone heads b stop y)
alone heads b stop (many more x) = false
alone heads b stop (named name x) = alone heads b stop x
alone heads b stop (prefer kinds x) = false
alone heads b stop (starting test x) = alone heads b stop x
alone heads b stop (on test x y z) = and (alone heads b stop x) (apart (firsts heads y ++ firsts heads z) stop)

-- It is the rule of the brackets, or a name.
unfoldable pub is_head : {A : Type 0} → Forks → Grammar A → Bool
is_head b empty = false
is_head b (token kinds) = covers b.names kinds
is_head b (call name) = name == b.listed
is_head b (line name x) = false
is_head b (both x y) = false
is_head b (either x y) = and (is_head b x) (is_head b y)
is_head b (fork stop x y) = false
is_head b (many more x) = false
is_head b (named name x) = is_head b x
is_head b (prefer kinds x) = false
is_head b (starting test x) = false
is_head b (on test x y z) = false

-- It begins with that, and a kind of `stop` comes behind it.
unfoldable pub before_stop : {A : Type 0} → (heads : ℕ → List ℕ) → Forks → List ℕ → Grammar A → Bool
before_stop heads b stop empty = false
before_stop heads b stop (token kinds) = false
before_stop heads b stop (call name) = false
before_stop heads b stop (line name x) = before_stop heads b stop x
before_stop heads b stop (both x y) = if is_head b x then and (not (nullable y)) (covers stop (firsts heads y)) else before_stop heads b stop x
before_stop heads b stop (either x y) = false
before_stop heads b stop (fork other x y) = false
before_stop heads b stop (many more x) = false
before_stop heads b stop (named name x) = before_stop heads b stop x
before_stop heads b stop (prefer kinds x) = false
before_stop heads b stop (starting test x) = before_stop heads b stop x
before_stop heads b stop (on test x y z) = before_stop heads b stop x

-- each fork
unfoldable pub told : {A : Type 0} → (heads : ℕ → List ℕ) → Forks → Grammar A → Bool
told heads b empty = true
told heads b (token kinds) = true
told heads b (call name) = true
told heads b (line name x) = true
told heads b (both x y) = and (told heads b x) (told heads b y)
told heads b (either x y) = and (told heads b x) (told heads b y)
told heads b (fork stop x y) = and (and (and (leads heads b stop x) (alone heads b stop x)) (before_stop heads b stop y)) (and (told heads b x) (told heads b y))
told heads b (many more x) = told heads b x
told heads b (named name x) = told heads b x
told heads b (prefer kinds x) = told heads b x
told heads b (starting test x) = told heads b x
told heads b (on test x y z) = and (told heads b x) (and (told heads b y) (told heads b z))

-- what is tested of each rule
abbrev pub paired : {A : Type 0} → (heads : ℕ → List ℕ) → Forks → Grammar A → Bool
paired heads b x = and (and (even b x) (same_pair (levels b x) (0, 0))) (told heads b x)

-- Every rule passes.
abbrev pub Told : {A : Type 0} → Language A → Forks → Type 0
Told l b = ((n : ℕ) → paired l.heads b (l.rules n) ≡ true) × (wrapped b (l.rules b.group) ≡ true) × (wrapped b (l.rules b.listed) ≡ true)
    × (covers b.opening (l.heads b.listed) ≡ true)

-- the same of rules in a list
unfoldable pub AllPaired : {A : Type 0} → Language A → Forks → List (Grammar A) → Type 0
AllPaired l b [] = Unit {0}
AllPaired l b (x ∷ xs) = (paired l.heads b x ≡ true) × AllPaired l b xs
