-- Lemmas on the texts of literals.
use Rattle.std.proofs.Common.{◌≡◌, ℕ, zero, suc, ◌+◌, ◌≤◌, Bool, true, false, List, [], ◌∷◌, ◌++◌, length, drop, Result, Ok, Err, refl, ap, ◌∙◌, sym, arith, append_assoc, length-append}
use Rattle.std.specs.Prelude.{Option, Some, None, ◌==◌, if◌then◌else◌}
use Rattle.js_token.proofs.Names.{encode_utf16-short}
use Rattle.js_token.specs.declared.token.LexKind.TheVariants.{String, Template}
use Rattle.std.proofs.lemmas.Bool.{ne_eqb, eq-eqb}
use Rattle.std.proofs.lemmas.List.{append-nil}
use Rattle.js_token.specs.declared.characters.Placed.{Placed}
use Rattle.js_token.specs.declared.token.LexFault.{LexFault}
use Rattle.js_token.specs.declared.token.LexFault.TheVariants.{At, Memory}
use Rattle.js_token.specs.Reading.{Fails}
use Rattle.js_token.specs.Literals.{text_at, with_units, unended, opens_part, breaks_off, element_at, units_of_code}

-- what a literal gives
abbrev pub TextRead : Type 0
TextRead = Result (List ℕ × Bool × List Placed) LexFault

pub with_units-twice : (a b : List ℕ) (r : TextRead) → with_units a (with_units b r) ≡ with_units (a ++ b) r
with_units-twice a b (Ok x) = ap (λ units. Ok (units, x.1, x.2)) (sym (append_assoc a b x.0))
with_units-twice a b (Err fault) = refl

pub with_units-nil : (r : TextRead) → r ≡ with_units [] r
with_units-nil (Ok x) = refl
with_units-nil (Err fault) = refl

-- The count of elements suffices for one more.
text_at-step : (n start quote : ℕ) (c : Placed) (left rest : List Placed) → length left ≤ n → left ≡ c ∷ rest
    → (m : ℕ) × (length rest ≤ m) × (text_at n start quote left ≡ text_at (suc m) start quote (c ∷ rest))
text_at-step zero start quote c left rest short e = absurd (let l = ap length e in omega arith)
text_at-step (suc m) start quote c left rest short e = (m, let l = ap length e in omega arith, ap (text_at (suc m) start quote) e)

-- The closing quote.
pub text-close : (n start quote : ℕ) (c : Placed) (left rest : List Placed) (units : List ℕ) (whole : TextRead)
    → length left ≤ n → left ≡ c ∷ rest → c.symbol ≡ quote
    → whole ≡ with_units units (text_at n start quote left) → whole ≡ Ok (units, true, rest)
unfolding text_at
text-close n start quote c left rest units whole short e closes so_far =
    let step = text_at-step n start quote c left rest short e in
    let here : text_at (suc step.0) start quote (c ∷ rest) ≡ Ok ([], true, rest) = rw (eq-eqb c.symbol quote closes) refl in
    so_far ∙ ap (with_units units) (step.2 ∙ here) ∙ ap (λ u. Ok (u, true, rest)) (append-nil units)

-- A `${`.
pub text-part : (n start quote : ℕ) (c : Placed) (left rest behind : List Placed) (units : List ℕ) (whole : TextRead)
    → length left ≤ n → left ≡ c ∷ rest → (c.symbol ≡ quote → ⊥) → opens_part quote c.symbol rest ≡ true → behind ≡ drop 1 rest
    → whole ≡ with_units units (text_at n start quote left) → whole ≡ Ok (units, false, behind)
unfolding text_at
text-part n start quote c left rest behind units whole short e other opens is_behind so_far =
    let step = text_at-step n start quote c left rest short e in
    let here : text_at (suc step.0) start quote (c ∷ rest) ≡ Ok ([], false, drop 1 rest) = rw (ne_eqb c.symbol quote other, opens) refl in
    so_far ∙ ap (with_units units) (step.2 ∙ here) ∙ ap (λ u. Ok (u, false, drop 1 rest)) (append-nil units) ∙ ap (λ b. Ok (units, false, b)) (sym is_behind)

-- A literal that is not ended fails so.
pub unended-fails : (start quote : ℕ) (fault : LexFault) (whole : TextRead) → fault ≡ unended start quote → whole ≡ Err (unended start quote) → Fails fault whole
unended-fails start quote fault whole e is_whole = rw e (at_quote (quote == 96) is_whole)
  where
    at_quote : (b : Bool) → whole ≡ Err (if b then At start Template else At start String) → Fails (if b then At start Template else At start String) whole
    at_quote true h = h
    at_quote false h = h

-- A line break in a string.
pub text-break : (n start quote : ℕ) (c : Placed) (left rest : List Placed) (units : List ℕ) (whole : TextRead)
    → length left ≤ n → left ≡ c ∷ rest → (c.symbol ≡ quote → ⊥) → opens_part quote c.symbol rest ≡ false → breaks_off quote c.symbol ≡ true
    → whole ≡ with_units units (text_at n start quote left) → whole ≡ Err (unended start quote)
unfolding text_at
text-break n start quote c left rest units whole short e other opens breaks so_far =
    let step = text_at-step n start quote c left rest short e in
    let here : text_at (suc step.0) start quote (c ∷ rest) ≡ Err (unended start quote) = rw (ne_eqb c.symbol quote other, opens, breaks) refl in
    so_far ∙ ap (with_units units) (step.2 ∙ here)

-- An element that is at fault.
pub text-fault : (fault : LexFault) (n start quote : ℕ) (c : Placed) (left rest : List Placed) (units : List ℕ) (whole : TextRead)
    → length left ≤ n → left ≡ c ∷ rest → (c.symbol ≡ quote → ⊥) → opens_part quote c.symbol rest ≡ false → breaks_off quote c.symbol ≡ false
    → Fails fault (element_at quote c rest)
    → whole ≡ with_units units (text_at n start quote left) → Fails fault whole
unfolding text_at
text-fault Memory n start quote c left rest units whole short e other opens breaks wrong so_far = tt
text-fault (At place kind) n start quote c left rest units whole short e other opens breaks wrong so_far =
    let step = text_at-step n start quote c left rest short e in
    let here : text_at (suc step.0) start quote (c ∷ rest) ≡ Err (At place kind) = rw (ne_eqb c.symbol quote other, opens, breaks, wrong) refl in
    so_far ∙ ap (with_units units) (step.2 ∙ here)

-- One more element.
pub text-turn : (n start quote : ℕ) (c : Placed) (left rest behind : List Placed) (code : Option ℕ) (units more : List ℕ) (whole : TextRead)
    → length left ≤ n → left ≡ c ∷ rest → (c.symbol ≡ quote → ⊥) → opens_part quote c.symbol rest ≡ false → breaks_off quote c.symbol ≡ false
    → element_at quote c rest ≡ Ok (code, behind) → length behind ≤ length rest → more ≡ units ++ units_of_code code
    → whole ≡ with_units units (text_at n start quote left)
    → (m : ℕ) × (length behind ≤ m) × (whole ≡ with_units more (text_at m start quote behind))
unfolding text_at
text-turn n start quote c left rest behind code units more whole short e other opens breaks element within grown so_far =
    let step = text_at-step n start quote c left rest short e in
    let here : text_at (suc step.0) start quote (c ∷ rest) ≡ with_units (units_of_code code) (text_at step.0 start quote behind)
    = rw (ne_eqb c.symbol quote other, opens, breaks, element) refl in (
      step.0,
      omega (arith, step.1),
      so_far ∙ ap (with_units units) (step.2 ∙ here) ∙ with_units-twice units (units_of_code code) (text_at step.0 start quote behind)
          ∙ ap (λ u. with_units u (text_at step.0 start quote behind)) (sym grown),
    )

-- An element has at most two units.
pub units_of_code-short : (code : Option ℕ) → length (units_of_code code) ≤ 2
units_of_code-short None = omega arith
units_of_code-short (Some code) = encode_utf16-short code

pub units-grown : (units more : List ℕ) (code : Option ℕ) → more ≡ units ++ units_of_code code → length more ≤ length units + 2
units-grown units more code e =
    let short = units_of_code-short code in
    let lengths = simp length-append at (ap length e) in omega arith

-- The end.
pub text-end : (n start quote : ℕ) (left : List Placed) (units : List ℕ) (whole : TextRead)
    → length left ≡ 0 → whole ≡ with_units units (text_at n start quote left) → whole ≡ Err (unended start quote)
unfolding text_at
text-end zero start quote left units whole e so_far = so_far
text-end (suc n) start quote [] units whole e so_far = so_far
text-end (suc n) start quote (c ∷ left) units whole e so_far = absurd (omega arith)
