-- The places of tokens ascend.
use Rattle.std.proofs.Common.{◌≡◌, ℕ, zero, suc, ◌+◌, ◌≤◌, Bool, false, ◌||◌, List, [], ◌∷◌, length, Result, Ok, ap, subst, ◌∙◌, sym, arith, length-append}
use Rattle.std.specs.Prelude.{Option, Some, None}
use Rattle.std.specs.Char.{encode_utf8, len_utf8}
use Rattle.std.specs.Str.{chars, IsUtf8, encode_utf8_all}
use Rattle.std.proofs.lemmas.Str.{length-encode, len_utf8_bounds, chars-encodes}
use Rattle.js_token.specs.declared.characters.Placed.{Placed}
use Rattle.js_token.specs.declared.nesting.Part.{Part}
use Rattle.js_token.specs.declared.token.Token.{Token}
use Rattle.js_token.specs.declared.token.LexFault.{LexFault}
use Rattle.js_token.specs.Characters.{with_places}
use Rattle.js_token.specs.Gaps.{gap_at}
use Rattle.js_token.specs.Lists.{AscendFrom}
use Rattle.js_token.specs.Nesting.{Nest, outside, open_template}
use Rattle.js_token.specs.Tokens.{token_at, at_end, with_token, turn, tokens_at, tokens_in, checked_text, tokens_of}
use Rattle.js_token.proofs.Kept.{kept-gap, kept-token}
use Rattle.js_token.proofs.Results.{bind_ok, ok_same, err_ok}
use Rattle.js_token.proofs.Checked.{checked-same}

-- The places of the characters ascend from `low` on, and lie before the end.
abbrev Ordered : ℕ → ℕ → List Placed → Type 0
Ordered low end [] = low ≤ end
Ordered low end (c ∷ rest) = (low ≤ c.place) × Ordered (c.place + 1) end rest

lower : (low high end : ℕ) (chars : List Placed) → low ≤ high → Ordered high end chars → Ordered low end chars
lower low high end [] le h = omega arith
lower low high end (c ∷ rest) le h = (omega (arith, h.0), h.1)

behind_first : (low end : ℕ) (c : Placed) (rest : List Placed) → Ordered low end (c ∷ rest) → Ordered low end rest
behind_first low end c rest h = lower low (c.place + 1) end rest (omega (arith, h.0)) h.1

-- the characters of a text are so
with_places-ordered : (place end : ℕ) (cs : List ℕ) → place + length (encode_utf8_all cs) ≡ end → Ordered place end (with_places place cs)
with_places-ordered place end [] e = omega arith
with_places-ordered place end (c ∷ cs) e =
    let size = length-append (encode_utf8 c) (encode_utf8_all cs) in
    let bytes = length-encode c in
    let some = (len_utf8_bounds c).0 in (
      omega arith,
      lower (place + 1) (place + len_utf8 c) end (with_places (place + len_utf8 c) cs) (omega arith)
          (with_places-ordered (place + len_utf8 c) end cs (omega arith)),
    )

text-ordered : (bytes : List ℕ) → IsUtf8 bytes → Ordered 0 (length bytes) (with_places 0 (chars bytes))
text-ordered bytes utf8 =
    let same : chars bytes ≡ utf8.0 = ap chars (sym utf8.1.1) ∙ chars-encodes utf8.0 utf8.1.0 in
    let size : 0 + length (encode_utf8_all (chars bytes)) ≡ length bytes = let l = ap length (ap encode_utf8_all same ∙ utf8.1.1) in omega arith in
    with_places-ordered 0 (length bytes) (chars bytes) size

at_end-ascends : (parts : List Part) (end low : ℕ) (broken : Bool) (list : List Token) → low ≤ end → at_end end broken (open_template parts) ≡ Ok list → AscendFrom low list
at_end-ascends [] end low broken list le h = subst (AscendFrom low) (ok_same _ list h) (le, tt)
at_end-ascends (part ∷ outer) end low broken list le h = err_ok _ _ h

-- one turn, where what follows is so
turn-ascends : (more : Nest → Bool → List Placed → Result (List Token) LexFault) (end low : ℕ) (nest : Nest) (broken : Bool) (c : Placed) (rest : List Placed) (list : List Token)
    → ((nest : Nest) (broken : Bool) (chars : List Placed) (list : List Token) (low : ℕ) → Ordered low end chars → more nest broken chars ≡ Ok list → AscendFrom low list)
    → Ordered low end (c ∷ rest) → (gap : Option (Bool × List Placed)) → gap_at (c ∷ rest) ≡ Ok gap → turn more nest broken c rest gap ≡ Ok list → AscendFrom low list
turn-ascends more end low nest broken c rest list holds h (Some gap) e g =
    holds nest (broken || gap.0) gap.1 list low (kept-gap (Ordered low end) (behind_first low end) (c ∷ rest) h gap e) g
turn-ascends more end low nest broken c rest list holds h None e g =
    let token = bind_ok (token_at nest c rest) (λ x. with_token (record { place = c.place; broken = broken; kind = x.kind }) (more x.nest false x.rest)) list g in
    let behind = bind_ok (more token.0.nest false token.0.rest) (λ list. Ok (record { place = c.place; broken = broken; kind = token.0.kind } ∷ list)) list token.2 in
    let held = kept-token (Ordered (c.place + 1) end) (behind_first (c.place + 1) end) nest c rest h.1 token.0 token.1 in
    subst (AscendFrom low) (ok_same _ list behind.2) (h.0, holds token.0.nest false token.0.rest behind.0 (c.place + 1) held behind.1)

low_end : (low end : ℕ) (chars : List Placed) → Ordered low end chars → low ≤ end
low_end low end [] h = h
low_end low end (c ∷ rest) h = let more = low_end (c.place + 1) end rest h.1 in omega (arith, h.0)

tokens_at-ascends : (n end : ℕ) (nest : Nest) (broken : Bool) (chars : List Placed) (list : List Token) (low : ℕ)
    → Ordered low end chars → tokens_at n end nest broken chars ≡ Ok list → AscendFrom low list
unfolding tokens_at
tokens_at-ascends zero end nest broken chars list low h e = at_end-ascends nest.parts end low broken list (low_end low end chars h) e
tokens_at-ascends (suc n) end nest broken [] list low h e = at_end-ascends nest.parts end low broken list h e
tokens_at-ascends (suc n) end nest broken (c ∷ rest) list low h e =
    let read = bind_ok (gap_at (c ∷ rest)) (turn (tokens_at n end) nest broken c rest) list e in
    turn-ascends (tokens_at n end) end low nest broken c rest list (tokens_at-ascends n end) h read.0 read.1 read.2

-- The places of the tokens of a text ascend strictly.
pub tokens_of-ascend : (bytes : List ℕ) (list : List Token) → tokens_of bytes ≡ Ok list → AscendFrom 0 list
unfolding tokens_of tokens_in
tokens_of-ascend bytes list h =
    let text = bind_ok (checked_text bytes) (λ text. tokens_in (length text) (with_places 0 (chars text))) list h in
    let checked = checked-same bytes text.0 text.1 in
    let utf8 = subst IsUtf8 checked.0 checked.1 in
    tokens_at-ascends (length (with_places 0 (chars text.0))) (length text.0) outside false (with_places 0 (chars text.0)) list 0 (text-ordered text.0 utf8) text.2
