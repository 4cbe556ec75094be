-- What is read, and the steps that every rule is made of (ECMA-262, 5.1.4).
use Rattle.std.specs.Prelude.{◌≡◌, ◌≢◌, ℕ, zero, suc, ◌+◌, ◌-◌, Bool, true, false, not, ◌&&◌, ◌||◌, if◌then◌else◌, ◌==◌, nat_lt, List, [], ◌∷◌, ◌++◌, length, drop, Option, Some, None, Result, Ok, Err, ℤ, pos}
use Rattle.js_tree.specs.declared.node.Node.{Node}
use Rattle.js_tree.specs.declared.node.NodeId.{NodeId}
use Rattle.js_tree.specs.Nodes.{Nodes}
use Rattle.js_token.specs.declared.token.Token.{Token}
use Rattle.js_token.specs.declared.token.TokenKind.{TokenKind}
use Rattle.js_token.specs.declared.token.TokenKind.TheVariants as kind
use Rattle.js_parse.specs.declared.fault.Fault.{Fault}
use Rattle.js_parse.specs.declared.fault.Fault.TheVariants as fault
use Rattle.js_parse.specs.declared.symbol.Symbol.{Symbol}
use Rattle.js_parse.specs.declared.symbol.Symbol.TheVariants as s
use Rattle.js_parse.specs.Ready.{symbol_of}
use Rattle.js_parse.specs.Symbols.{of_kind, same, is_name, is_any_name}

-- the tokens that are left, and the nodes so far
abbrev pub Input : Type 0
Input = List Token × Nodes

-- ---- the next token

unfoldable pub symbol : Input → Symbol
symbol i = symbol_of i.0

abbrev pub place_at : List Token → ℕ
place_at [] = 0
place_at (t ∷ ts) = t.place

unfoldable pub place : Input → ℕ
place i = place_at i.0

abbrev pub broken_at : List Token → Bool
broken_at [] = false
broken_at (t ∷ ts) = t.broken

-- whether a line break stands before it
unfoldable pub is_broken : Input → Bool
is_broken i = broken_at i.0

abbrev pub text_of : TokenKind → List ℕ
text_of (kind.Name text) = text
text_of (kind.Word text) = text
text_of (kind.Text text) = text
text_of (kind.Piece text first last) = text
text_of _ = []

abbrev pub text_at : List Token → List ℕ
text_at [] = []
text_at (t ∷ ts) = text_of t.kind

unfoldable pub text : Input → List ℕ
text i = text_at i.0

abbrev pub number_of : TokenKind → ℤ
number_of (kind.Number value) = value
number_of _ = pos 0

abbrev pub number_at : List Token → ℤ
number_at [] = pos 0
number_at (t ∷ ts) = number_of t.kind

unfoldable pub number : Input → ℤ
number i = number_at i.0

unfoldable pub next : Input → Input
next i = (drop 1 i.0, i.1)

-- ---- what stands further behind

abbrev pub arrow_at : List Token → Bool
arrow_at [] = false
arrow_at (t ∷ ts) = if t.broken then false else same (of_kind t.kind) s.Arrow

-- `=>` with no line break before it
unfoldable pub is_arrow : Input → Bool
is_arrow i = arrow_at i.0

-- the same, behind the next token
unfoldable pub is_arrow_next : Input → Bool
is_arrow_next i = arrow_at (drop 1 i.0)

-- how many parentheses are open behind a token
abbrev pub opened_by : TokenKind → ℕ → ℕ
opened_by (kind.Mark mark) open_count = if mark == 2 then open_count + 1 else (if mark == 3 then open_count - 1 else open_count)
opened_by _ open_count = open_count

-- `=>` with no line break before it, behind the parenthesis that closes the last of those that are open
abbrev pub arrow_behind : ℕ → List Token → Bool
arrow_behind open_count [] = false
arrow_behind open_count (t ∷ ts) = if open_count == 0 then arrow_at (t ∷ ts) else arrow_behind (opened_by t.kind open_count) ts

unfoldable pub is_arrow_ahead : Input → Bool
is_arrow_ahead i = arrow_behind 1 (drop 1 i.0)

-- ---- parsers

abbrev pub Outcome : Type 0 → Type 0
Outcome A = Result (A × Input) Fault

abbrev pub Parser : Type 0 → Type 0
Parser A = Input → Outcome A

abbrev pub and_then : {A B : Type 0} → Outcome A → (A → Parser B) → Outcome B
and_then (Ok p) f = f p.0 p.1
and_then (Err e) f = Err e

infixl 10 ◌>>=◌
abbrev pub ◌>>=◌ : {A B : Type 0} → Parser A → (A → Parser B) → Parser B
p >>= f = λ i. and_then (p i) f

infixl 10 ◌>>◌
abbrev pub ◌>>◌ : {A B : Type 0} → Parser A → Parser B → Parser B
p >> q = p >>= (λ _. q)

abbrev pub pure : {A : Type 0} → A → Parser A
pure a = λ i. Ok (a, i)

infixr 11 ◌<$>◌
abbrev pub ◌<$>◌ : {A B : Type 0} → (A → B) → Parser A → Parser B
f <$> p = p >>= (λ x. pure (f x))

-- no rule reads the next token
unfoldable pub refusal : Input → Fault
refusal i = fault.Token (place i) false

abbrev pub refuse : {A : Type 0} → Parser A
refuse = λ i. Err (refusal i)

abbrev pub peek : Parser Symbol
peek = λ i. Ok (symbol i, i)

-- the byte offset of the next token
abbrev pub here : Parser ℕ
here = λ i. Ok (place i, i)

abbrev pub breaks : Parser Bool
breaks = λ i. Ok (is_broken i, i)

abbrev pub take_token : Parser (Unit {0})
take_token = λ i. Ok (tt, next i)

abbrev pub take_text : Parser (List ℕ)
take_text = λ i. Ok (text i, next i)

abbrev pub take_number : Parser ℤ
take_number = λ i. Ok (number i, next i)

unfoldable pub sees : Symbol → Input → Bool
sees k i = same (symbol i) k

abbrev pub seen : Symbol → Parser Bool
seen k = λ i. Ok (sees k i, i)

unfoldable pub after : Symbol → Input → Input
after k i = if sees k i then next i else i

-- takes a token of this symbol, if it comes next
abbrev pub eat : Symbol → Parser Bool
eat k = λ i. Ok (sees k i, after k i)

unfoldable pub expect : Symbol → Parser (Unit {0})
expect k = λ i. if sees k i then Ok (tt, next i) else refuse i

-- `=>` with no line break before it
unfoldable pub arrow : Parser (Unit {0})
arrow = λ i. if is_arrow i then Ok (tt, next i) else refuse i

-- an identifier
unfoldable pub name : Parser (List ℕ)
name = λ i. if is_name (symbol i) then take_text i else refuse i

-- an identifier or a reserved word
unfoldable pub any_name : Parser (List ℕ)
any_name = λ i. if is_any_name (symbol i) then take_text i else refuse i

-- a node behind those so far
unfoldable pub add : Node → ℕ → Parser NodeId
add node at = λ i. Ok (record { 0 = length i.1 }, (i.0, i.1 ++ (node, at) ∷ []))

-- a token that is a node by itself
unfoldable pub leaf : Node → Parser NodeId
leaf node = do
  at ← here
  take_token
  add node at

-- Each turn of a list takes a token, so the count of those that are left bounds the turns.
abbrev pub turns : Input → ℕ
turns i = length i.0

-- ---- two readings of what begins alike

-- The later of two faults, of which the first is a token's. Behind it no other reading goes on. Where a level begins too
-- deep, some script goes on so far.
abbrev pub later : ℕ → Fault → Fault
later a (fault.Token b sure) = if nat_lt a b then fault.Token b true else fault.Token a true
later a (fault.Deep b) = if nat_lt b a then fault.Token a true else fault.Deep b
later a fault.Memory = fault.Memory

-- what stands behind what was read is the fault
abbrev pub fault_of : {A : Type 0} → Outcome A → Fault
fault_of (Ok p) = refusal p.1
fault_of (Err e) = e

-- The first reading, or where it has a fault the later fault of both; where that is known already, the other is not
-- tried.
abbrev pub or_later : {A : Type 0} → Outcome A → Outcome A → Outcome A
or_later (Ok p) other = Ok p
or_later (Err (fault.Token a false)) other = Err (later a (fault_of other))
or_later (Err (fault.Token a true)) other = Err (fault.Token a true)
or_later (Err (fault.Deep a)) other = Err (fault.Deep a)
or_later (Err fault.Memory) other = Err fault.Memory

-- The other reading makes nodes of its own, which are dropped.
unfoldable pub fork : {A : Type 0} → Parser A → Parser A → Parser A
fork first other = λ i. or_later (first i) (other (i.0, []))

-- ---- what a function that reads ensures: the outcome, unless memory fails

abbrev pub Reads : {A : Type 0} → Outcome A → Result A Fault → Input → Type 0
Reads outcome (Ok a) new = outcome ≡ Ok (a, new)
Reads outcome (Err e) new = e ≢ fault.Memory → outcome ≡ Err e

-- what a function that makes a value ensures: that value, unless memory fails
abbrev pub Makes : {A : Type 0} → Result A Fault → A → Type 0
Makes (Ok made) a = made ≡ a
Makes (Err e) a = e ≡ fault.Memory
