-- Lemmas on lists of tokens.
use Rattle.std.proofs.Common.{◌≡◌, ℕ, zero, suc, ◌≤◌, ◌<◌, Bool, false, ◌||◌, List, [], ◌∷◌, ◌++◌, length, Result, Ok, Err, refl, ap, ◌∙◌, sym, arith, append_assoc}
use Rattle.std.specs.Prelude.{Some, None}
use Rattle.js_token.specs.declared.characters.Placed.{Placed}
use Rattle.js_token.specs.declared.token.Token.{Token}
use Rattle.js_token.specs.declared.token.TokenKind.{TokenKind}
use Rattle.js_token.specs.declared.token.LexFault.{LexFault}
use Rattle.js_token.specs.declared.token.LexFault.TheVariants.{At, Memory}
use Rattle.js_token.specs.Reading.{◌>>=◌, Fails}
use Rattle.js_token.specs.Gaps.{gap_at}
use Rattle.js_token.specs.Nesting.{Nest, open_template}
use Rattle.js_token.specs.Tokens.{front, token_at, tokens_at, turn, with_token, at_end}

-- what a list of tokens is read as
abbrev pub TokensRead : Type 0
TokensRead = Result (List Token) LexFault

-- tokens with some before them
abbrev pub with_tokens : List Token → TokensRead → TokensRead
with_tokens list read = read >>= λ more. Ok (list ++ more)

abbrev pub token : ℕ → Bool → TokenKind → Token
token place broken kind = record { place = place; broken = broken; kind = kind }

pub with_tokens-token : (list : List Token) (t : Token) (r : TokensRead) → with_tokens list (with_token t r) ≡ with_tokens (list ++ (t ∷ [])) r
with_tokens-token list t (Ok more) = ap Ok (sym (append_assoc list (t ∷ []) more))
with_tokens-token list t (Err fault) = refl

pub with_tokens-nil : (list : List Token) (r : TokensRead) → list ≡ [] → r ≡ with_tokens list r
with_tokens-nil list (Ok more) e = ap (λ l. Ok (l ++ more)) (sym e)
with_tokens-nil list (Err fault) e = refl

-- The count of turns suffices for one more.
tokens_at-step : (n end : ℕ) (nest : Nest) (broken : Bool) (c : Placed) (left rest : List Placed) → length left ≤ n → left ≡ c ∷ rest
    → (m : ℕ) × (n ≡ suc m) × (tokens_at n end nest broken left ≡ gap_at left >>= turn (tokens_at m end) nest broken c rest)
unfolding tokens_at
tokens_at-step zero end nest broken c left rest short e = absurd (let l = ap length e in omega arith)
tokens_at-step (suc m) end nest broken c left rest short e =
    (m, refl, ap (tokens_at (suc m) end nest broken) e ∙ ap (λ l. gap_at l >>= turn (tokens_at m end) nest broken c rest) (sym e))

-- A blank or a comment.
pub turn-gap : (n end : ℕ) (nest : Nest) (broken breaks : Bool) (c : Placed) (left rest behind : List Placed) (list : List Token) (whole : TokensRead)
    → length left ≤ n → left ≡ c ∷ rest → gap_at left ≡ Ok (Some (breaks, behind)) → length behind < length left
    → whole ≡ with_tokens list (tokens_at n end nest broken left)
    → (m : ℕ) × (length behind ≤ m) × (whole ≡ with_tokens list (tokens_at m end nest (broken || breaks) behind))
turn-gap n end nest broken breaks c left rest behind list whole short e gap less so_far =
    let step = tokens_at-step n end nest broken c left rest short e in (
      step.0,
      omega (arith, step.1),
      so_far ∙ ap (with_tokens list) (step.2 ∙ ap (λ g. g >>= turn (tokens_at step.0 end) nest broken c rest) gap),
    )

-- A token.
pub turn-token : (n end : ℕ) (nest next : Nest) (broken : Bool) (kind : TokenKind) (c : Placed) (left rest behind : List Placed) (list more : List Token) (whole : TokensRead)
    → length left ≤ n → left ≡ c ∷ rest → gap_at left ≡ Ok None → token_at nest c rest ≡ Ok (front kind next behind) → length behind < length left
    → more ≡ list ++ (token c.place broken kind ∷ [])
    → whole ≡ with_tokens list (tokens_at n end nest broken left)
    → (m : ℕ) × (length behind ≤ m) × (whole ≡ with_tokens more (tokens_at m end next false behind))
turn-token n end nest next broken kind c left rest behind list more whole short e gap here less grown so_far =
    let step = tokens_at-step n end nest broken c left rest short e in (
      step.0,
      omega (arith, step.1),
      so_far ∙ ap (with_tokens list) (step.2 ∙ ap (λ g. g >>= turn (tokens_at step.0 end) nest broken c rest) gap
          ∙ ap (λ t. t >>= λ x. with_token (token c.place broken x.kind) (tokens_at step.0 end x.nest false x.rest)) here)
          ∙ with_tokens-token list (token c.place broken kind) (tokens_at step.0 end next false behind)
          ∙ ap (λ l. with_tokens l (tokens_at step.0 end next false behind)) (sym grown),
    )

-- A comment that is not ended.
pub gap-fault : (fault : LexFault) (n end : ℕ) (nest : Nest) (broken : Bool) (c : Placed) (left rest : List Placed) (list : List Token) (whole : TokensRead)
    → length left ≤ n → left ≡ c ∷ rest → Fails fault (gap_at left)
    → whole ≡ with_tokens list (tokens_at n end nest broken left) → Fails fault whole
gap-fault Memory n end nest broken c left rest list whole short e wrong so_far = tt
gap-fault (At place kind) n end nest broken c left rest list whole short e wrong so_far =
    let step = tokens_at-step n end nest broken c left rest short e in
    so_far ∙ ap (with_tokens list) (step.2 ∙ ap (λ g. g >>= turn (tokens_at step.0 end) nest broken c rest) wrong)

-- A token that is at fault.
pub token-fault : (fault : LexFault) (n end : ℕ) (nest : Nest) (broken : Bool) (c : Placed) (left rest : List Placed) (list : List Token) (whole : TokensRead)
    → length left ≤ n → left ≡ c ∷ rest → gap_at left ≡ Ok None → Fails fault (token_at nest c rest)
    → whole ≡ with_tokens list (tokens_at n end nest broken left) → Fails fault whole
token-fault Memory n end nest broken c left rest list whole short e gap wrong so_far = tt
token-fault (At place kind) n end nest broken c left rest list whole short e gap wrong so_far =
    let step = tokens_at-step n end nest broken c left rest short e in
    so_far ∙ ap (with_tokens list) (step.2 ∙ ap (λ g. g >>= turn (tokens_at step.0 end) nest broken c rest) gap
    ∙ ap (λ t. t >>= λ x. with_token (token c.place broken x.kind) (tokens_at step.0 end x.nest false x.rest)) wrong)

-- The end of the characters.
pub tokens_at-end : (n end : ℕ) (nest : Nest) (broken : Bool) (left : List Placed) (list : List Token) (whole : TokensRead)
    → length left ≡ 0 → whole ≡ with_tokens list (tokens_at n end nest broken left)
    → whole ≡ with_tokens list (at_end end broken (open_template nest.parts))
unfolding tokens_at
tokens_at-end zero end nest broken left list whole e so_far = so_far
tokens_at-end (suc n) end nest broken [] list whole e so_far = so_far
tokens_at-end (suc n) end nest broken (c ∷ left) list whole e so_far = absurd (omega arith)
