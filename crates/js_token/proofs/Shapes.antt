-- What lists of tokens are like.
use Rattle.std.proofs.Common.{◌≡◌, ℕ, zero, suc, ◌≤◌, ◌<◌, Bool, true, false, ◌||◌, List, [], ◌∷◌, length, Result, Ok, refl, ap, subst, ◌∙◌, sym, arith, inl, inr, ◌⊎◌, nat_lt, nat_eq, pos, map, ◌-◌}
use Rattle.std.specs.Prelude.{Option, Some, None, ◌==◌, if◌then◌else◌, take, drop}
use Rattle.std.specs.Cmp.Lexicographic.{pointwise}
use Rattle.std.specs.Option.{option_map}
use Rattle.std.proofs.lemmas.Bool.Decides.{nat_tests}
use Rattle.std.specs.Char.{digit_value}
use Rattle.std.specs.List.{position_or_len}
use Rattle.std.specs.Str.{chars, IsUtf8}
use Rattle.js_token.specs.Characters.{with_places, is_digit}
use Rattle.js_token.specs.Gaps.{gap_at}
use Rattle.js_token.specs.Literals.{text_at}
use Rattle.js_token.specs.declared.characters.Placed.{Placed}
use Rattle.js_token.specs.declared.nesting.Part.{Part}
use Rattle.js_token.specs.declared.token.Token.{Token}
use Rattle.js_token.specs.declared.token.TokenKind.{TokenKind}
use Rattle.js_token.specs.declared.token.TokenKind.TheVariants.{Name, Word, Number, Text, Piece, Mark}
use Rattle.js_token.specs.declared.token.LexFault.{LexFault}
use Rattle.js_token.specs.Reading.{◌>>=◌}
use Rattle.js_token.proofs.Checked.{checked-same}
use Rattle.std.proofs.lemmas.Str.{scalars-chars}
use Rattle.js_token.proofs.NameUnits.{Scalars, behind_scalar, with_places-scalars, name_at-name}
use Rattle.js_token.proofs.Kept.{kept-gap, kept-token}
use Rattle.js_token.proofs.Results.{bind_ok, chosen, ok_same, some_same}
use Rattle.js_token.specs.Marks.{marks, mark_place, mark_of_size, mark_at, or_else}
use Rattle.js_token.specs.Words.{name_at, is_word, starts_name, is_name}
use Rattle.js_token.specs.Numbers.{number_at, value_at, is_number_going_on}
use Rattle.js_token.specs.Nesting.{Nest, outside, open_template, opened, closed, closed_in, behind_piece, outermost}
use Rattle.js_token.specs.Lists.{IsInner, EndsAt, behind_kind, are_nested, if_some}
use Rattle.js_token.specs.Tokens.{Front, front, named, marked, plain_at, beside, piece_at, closing_at, token_at, at_end, with_token, turn, tokens_at, tokens_in, checked_text, tokens_of}

-- what a token leaves behind it
record Holds (parts : ℕ) (x : Front) : Type 0 where
  inner : IsInner x.kind
  nests : behind_kind x.kind parts ≡ Some (length x.nest.parts)

-- the same of a token that leaves open what is open
record HoldsPlain (kind : TokenKind) : Type 0 where
  inner : IsInner kind
  nests : (parts : ℕ) → behind_kind kind parts ≡ Some parts

or_false : (a b : Bool) → (a || b) ≡ false → a ≡ false
or_false true b h = h
or_false false b h = refl

at_most : (m n : ℕ) → nat_lt m n ≡ false → n ≤ m
at_most m n h = grind (arith, nat_tests)

below : (m n : ℕ) → nat_lt m n ≡ true → m < n
below m n h = grind (arith, nat_tests)

-- names and words
named-holds : (units : List ℕ) (rest : List Placed) → (is_word units ≡ false → is_name units ≡ true) → HoldsPlain (named (units, rest)).0
named-holds units rest name = by_word (is_word units) refl
  where
    by_word : (b : Bool) → is_word units ≡ b → HoldsPlain (if b then Word units else Name units)
    by_word true e = record { inner = e; nests = λ _. refl }
    by_word false e = record { inner = name e; nests = λ _. refl }

-- numbers
number_at-most : (place digit : ℕ) (rest : List Placed) (x : ℕ × List Placed) → number_at place digit rest ≡ Ok x → x.0 ≤ 9_007_199_254_740_991
unfolding number_at
number_at-most place digit rest x h =
    elim (chosen (nat_lt 9_007_199_254_740_991 (value_at digit rest).0 || is_number_going_on (value_at digit rest).1) _ _ _ h) [
      | inl w ↦ absurd (let wrong = w.1 in cc)
      | inr w ↦ let small = at_most 9_007_199_254_740_991 (value_at digit rest).0 (or_false _ _ w.0) in
          subst (λ (y : ℕ × List Placed). y.0 ≤ 9_007_199_254_740_991) (ok_same (value_at digit rest) x w.1) small
    ]

-- marks
mark_place-below : (text : List ℕ) (k : ℕ) → mark_place text ≡ Some k → k < length marks
unfolding mark_place
mark_place-below text k h =
    elim (chosen (nat_lt (position_or_len (pointwise nat_eq text) marks) (length marks)) _ _ _ h) [
      | inl w ↦ subst (λ (n : ℕ). n < length marks) (some_same _ k w.1) (below _ _ w.0)
      | inr w ↦ absurd (let wrong = w.1 in cc)
    ]

mark_of_size-below : (size : ℕ) (chars : List Placed) (x : ℕ × List Placed) → mark_of_size size chars ≡ Some x → x.0 < length marks
mark_of_size-below size chars x h = by_place (mark_place (map (λ c. c.symbol) (take size chars))) refl h
  where
    by_place : (o : Option ℕ) → mark_place (map (λ c. c.symbol) (take size chars)) ≡ o → option_map (λ number. (number, drop size chars)) o ≡ Some x → x.0 < length marks
    by_place None e g = absurd cc
    by_place (Some k) e g = subst (λ (y : ℕ × List Placed). y.0 < length marks) (some_same (k, drop size chars) x g) (mark_place-below _ k e)

or_else-one : (a b : Option (ℕ × List Placed)) (x : ℕ × List Placed) → or_else a b ≡ Some x → (a ≡ Some x) ⊎ (b ≡ Some x)
or_else-one None b x h = inr h
or_else-one (Some y) b x h = inl h

mark_at-below : (chars : List Placed) (x : ℕ × List Placed) → mark_at chars ≡ Some x → x.0 < length marks
unfolding mark_at
mark_at-below chars x h =
    elim (or_else-one (mark_of_size 3 chars) _ x h) [
      | inl w ↦ mark_of_size-below 3 chars x w
      | inr w ↦ elim (or_else-one (mark_of_size 2 chars) _ x w) [
        | inl v ↦ mark_of_size-below 2 chars x v
        | inr v ↦ mark_of_size-below 1 chars x v
      ]
    ]

marked-holds : (place : ℕ) (o : Option (ℕ × List Placed)) (x : TokenKind × List Placed)
    → ((y : ℕ × List Placed) → o ≡ Some y → y.0 < length marks) → marked place o ≡ Ok x → HoldsPlain x.0
marked-holds place None x small h = absurd cc
marked-holds place (Some y) x small h =
    subst (λ (z : TokenKind × List Placed). HoldsPlain z.0) (ok_same (Mark y.0, y.1) x h) (record { inner = small y refl; nests = λ _. refl })

-- every token but the stretches of templates and the braces
plain_at-holds : (c : Placed) (rest : List Placed) (x : TokenKind × List Placed) → Scalars (c ∷ rest) → plain_at c rest ≡ Ok x → HoldsPlain x.0
unfolding plain_at
plain_at-holds c rest x s h =
    elim (chosen (starts_name c.symbol) _ _ _ h) [
      | inl w ↦ subst (λ (z : TokenKind × List Placed). HoldsPlain z.0) (ok_same (named (name_at c rest)) x w.1) (named-holds (name_at c rest).0 (name_at c rest).1 (name_at-name c rest w.0 s))
      | inr w ↦ elim (chosen (is_digit c.symbol) _ _ _ w.1) [
        | inl v ↦ number v.1
        | inr v ↦ elim (chosen ((c.symbol == 39) || (c.symbol == 34)) _ _ _ v.1) [
          | inl u ↦ text u.1
          | inr u ↦ marked-holds c.place (mark_at (c ∷ rest)) x (mark_at-below (c ∷ rest)) u.1
        ]
      ]
    ]
  where
    number : (number_at c.place (digit_value c.symbol) rest >>= λ y. Ok (Number (pos y.0), y.1)) ≡ Ok x → HoldsPlain x.0
    number g =
        let read = bind_ok (number_at c.place (digit_value c.symbol) rest) (λ y. Ok (Number (pos y.0), y.1)) x g in
        subst (λ (z : TokenKind × List Placed). HoldsPlain z.0) (ok_same (Number (pos read.0.0), read.0.1) x read.2)
        (record { inner = (read.0.0, refl, number_at-most c.place (digit_value c.symbol) rest read.0 read.1); nests = λ _. refl })

    text : (text_at (length rest) c.place c.symbol rest >>= λ y. Ok (Text y.0, y.2)) ≡ Ok x → HoldsPlain x.0
    text g =
        let read = bind_ok (text_at (length rest) c.place c.symbol rest) (λ y. Ok (Text y.0, y.2)) x g in
        subst (λ (z : TokenKind × List Placed). HoldsPlain z.0) (ok_same (Text read.0.0, read.0.2) x read.2) (record { inner = tt; nests = λ _. refl })

-- a first stretch of a template
first-holds : (start : ℕ) (nest : Nest) (chars : List Placed) (x : Front) → piece_at true start nest chars ≡ Ok x → Holds (length nest.parts) x
unfolding piece_at
first-holds start nest chars x h =
    let read = bind_ok (text_at (length chars) (outermost start nest.parts) 96 chars) (λ y. Ok (front (Piece y.0 true y.1) (behind_piece start y.1 nest) y.2)) x h in
    subst (Holds (length nest.parts)) (ok_same _ x read.2) (by_last read.0.0 read.0.1 read.0.2)
  where
    by_last : (text : List ℕ) (last : Bool) (rest : List Placed) → Holds (length nest.parts) (front (Piece text true last) (behind_piece start last nest) rest)
    by_last text true rest = record { inner = tt; nests = refl }
    by_last text false rest = record { inner = tt; nests = refl }

-- a further stretch, behind a part
further-holds : (start : ℕ) (nest : Nest) (chars : List Placed) (x : Front) → piece_at false start nest chars ≡ Ok x → Holds (suc (length nest.parts)) x
unfolding piece_at
further-holds start nest chars x h =
    let read = bind_ok (text_at (length chars) (outermost start nest.parts) 96 chars) (λ y. Ok (front (Piece y.0 false y.1) (behind_piece start y.1 nest) y.2)) x h in
    subst (Holds (suc (length nest.parts))) (ok_same _ x read.2) (by_last read.0.0 read.0.1 read.0.2)
  where
    by_last : (text : List ℕ) (last : Bool) (rest : List Placed) → Holds (suc (length nest.parts)) (front (Piece text false last) (behind_piece start last nest) rest)
    by_last text true rest = record { inner = tt; nests = refl }
    by_last text false rest = record { inner = tt; nests = refl }

brace-holds : (nest : Nest) (rest : List Placed) (number parts : ℕ) → number < length marks → length nest.parts ≡ parts → Holds parts (front (Mark number) nest rest)
brace-holds nest rest number parts small same = record { inner = small; nests = ap Some (sym same) }

-- a `}`
closing-holds : (braces : ℕ) (parts : List Part) (rest : List Placed) (x : Front) → closing_at (closed_in braces parts) rest ≡ Ok x → Holds (length parts) x
closing-holds braces [] rest x h =
    subst (Holds 0) (ok_same _ x h) (brace-holds (record { braces = braces - 1; parts = [] }) rest 1 0 (omega arith) refl)
closing-holds braces (part ∷ outer) rest x h = by_braces (part.braces == braces) h
  where
    by_braces : (b : Bool) → closing_at (if b then (Some part.start, record { braces = braces; parts = outer }) else (None, record { braces = braces - 1; parts = part ∷ outer })) rest ≡ Ok x
        → Holds (length (part ∷ outer)) x
    by_braces true g = further-holds part.start (record { braces = braces; parts = outer }) rest x g
    by_braces false g = subst (Holds (length (part ∷ outer))) (ok_same _ x g) (brace-holds (record { braces = braces - 1; parts = part ∷ outer }) rest 1 (length (part ∷ outer)) (omega arith) refl)

token_at-holds : (nest : Nest) (c : Placed) (rest : List Placed) (x : Front) → Scalars (c ∷ rest) → token_at nest c rest ≡ Ok x → Holds (length nest.parts) x
unfolding token_at closed
token_at-holds nest c rest x s h =
    elim (chosen (c.symbol == 96) _ _ _ h) [
      | inl w ↦ first-holds c.place nest rest x w.1
      | inr w ↦ elim (chosen (c.symbol == 123) _ _ _ w.1) [
        | inl v ↦ subst (Holds (length nest.parts)) (ok_same _ x v.1) (brace-holds (opened nest) rest 0 (length nest.parts) (omega arith) refl)
        | inr v ↦ elim (chosen (c.symbol == 125) _ _ _ v.1) [
          | inl u ↦ closing-holds nest.braces nest.parts rest x u.1
          | inr u ↦ plain u.1
        ]
      ]
    ]
  where
    plain : beside nest (plain_at c rest) ≡ Ok x → Holds (length nest.parts) x
    plain g =
        let read = bind_ok (plain_at c rest) (λ y. Ok (front y.0 nest y.1)) x g in
        let held = plain_at-holds c rest read.0 s read.1 in
        subst (Holds (length nest.parts)) (ok_same _ x read.2) (record { inner = held.inner; nests = held.nests (length nest.parts) })

-- what a whole list is like, where so many parts are open in front
record Whole (parts end : ℕ) (list : List Token) : Type 0 where
  ends : EndsAt end list
  nested : are_nested parts list ≡ true

at_end-whole : (parts : List Part) (end : ℕ) (broken : Bool) (list : List Token) → at_end end broken (open_template parts) ≡ Ok list → Whole (length parts) end list
at_end-whole [] end broken list h = subst (Whole 0 end) (ok_same _ list h) (record { ends = (refl, refl); nested = refl })
at_end-whole (part ∷ outer) end broken list h = absurd cc

-- a token in front
ends-more : (end : ℕ) (token : Token) (more : List Token) → IsInner token.kind → EndsAt end more → EndsAt end (token ∷ more)
ends-more end token [] inner h = absurd h
ends-more end token (next ∷ more) inner h = (inner, h)

-- one turn, where what follows is so
turn-whole : (more : Nest → Bool → List Placed → Result (List Token) LexFault) (end : ℕ) (nest : Nest) (broken : Bool) (c : Placed) (rest : List Placed) (list : List Token)
    → ((nest : Nest) (broken : Bool) (chars : List Placed) (list : List Token) → Scalars chars → more nest broken chars ≡ Ok list → Whole (length nest.parts) end list)
    → Scalars (c ∷ rest) → (gap : Option (Bool × List Placed)) → gap_at (c ∷ rest) ≡ Ok gap → turn more nest broken c rest gap ≡ Ok list → Whole (length nest.parts) end list
turn-whole more end nest broken c rest list holds s (Some gap) e g = holds nest (broken || gap.0) gap.1 list (kept-gap Scalars behind_scalar (c ∷ rest) s gap e) g
turn-whole more end nest broken c rest list holds s None e g =
    let token = bind_ok (token_at nest c rest) (λ x. with_token (record { place = c.place; broken = broken; kind = x.kind }) (more x.nest false x.rest)) list g in
    let behind = bind_ok (more token.0.nest false token.0.rest) (λ list. Ok (record { place = c.place; broken = broken; kind = token.0.kind } ∷ list)) list token.2 in
    let held = token_at-holds nest c rest token.0 s token.1 in
    let others = holds token.0.nest false token.0.rest behind.0 (kept-token Scalars behind_scalar nest c rest s.1 token.0 token.1) behind.1 in
    subst (Whole (length nest.parts) end) (ok_same _ list behind.2) (record {
      ends = ends-more end (record { place = c.place; broken = broken; kind = token.0.kind }) behind.0 held.inner others.ends;
      nested = ap (if_some (λ parts. are_nested parts behind.0)) held.nests ∙ others.nested;
    })

tokens_at-whole : (n end : ℕ) (nest : Nest) (broken : Bool) (chars : List Placed) (list : List Token) → Scalars chars → tokens_at n end nest broken chars ≡ Ok list → Whole (length nest.parts) end list
unfolding tokens_at
tokens_at-whole zero end nest broken chars list s h = at_end-whole nest.parts end broken list h
tokens_at-whole (suc n) end nest broken [] list s h = at_end-whole nest.parts end broken list h
tokens_at-whole (suc n) end nest broken (c ∷ rest) list s h =
    let read = bind_ok (gap_at (c ∷ rest)) (turn (tokens_at n end) nest broken c rest) list h in
    turn-whole (tokens_at n end) end nest broken c rest list (tokens_at-whole n end) s read.0 read.1 read.2

-- The tokens of a text end with the one `End`, at its length, and their stretches of templates nest.
tokens_of-whole : (bytes : List ℕ) (list : List Token) → tokens_of bytes ≡ Ok list → Whole 0 (length bytes) list
unfolding tokens_of tokens_in
tokens_of-whole bytes list h =
    let text = bind_ok (checked_text bytes) (λ text. tokens_in (length text) (with_places 0 (chars text))) list h in
    let checked = checked-same bytes text.0 text.1 in
    let scalar = with_places-scalars 0 (chars text.0) (scalars-chars text.0 (subst IsUtf8 checked.0 checked.1)) in
    let whole = tokens_at-whole (length (with_places 0 (chars text.0))) (length text.0) outside false (with_places 0 (chars text.0)) list scalar text.2 in
    subst (λ (t : List ℕ). Whole 0 (length t) list) (sym checked.0) whole

pub tokens_of-ends : (bytes : List ℕ) (list : List Token) → tokens_of bytes ≡ Ok list → EndsAt (length bytes) list
tokens_of-ends bytes list h = (tokens_of-whole bytes list h).ends

pub tokens_of-nested : (bytes : List ℕ) (list : List Token) → tokens_of bytes ≡ Ok list → are_nested 0 list ≡ true
tokens_of-nested bytes list h = (tokens_of-whole bytes list h).nested
