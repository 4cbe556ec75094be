-- What holds of a list of characters and of each of its rests holds behind each thing that is read.
use Rattle.std.proofs.Common.{◌≡◌, ℕ, zero, suc, ◌+◌, ◌*◌, Bool, true, false, cond, ◌||◌, List, [], ◌∷◌, ◌++◌, length, drop, Ok, refl, subst, inl, inr, nat_lt, map, pos}
use Rattle.std.specs.Prelude.{Option, Some, None, not, ◌==◌, ◌&&◌, take, nat_le, if◌then◌else◌}
use Rattle.std.specs.Option.{option_map, option_and_then}
use Rattle.std.specs.Char.{digit_value}
use Rattle.std.specs.Char.Escape.{encode_utf16}
use Rattle.js_token.specs.declared.characters.Placed.{Placed}
use Rattle.js_token.specs.declared.token.TokenKind.{TokenKind}
use Rattle.js_token.specs.declared.token.TokenKind.TheVariants.{Number, Text, Piece, Mark}
use Rattle.js_token.specs.Characters.{is_next, is_digit, is_hex_digit, is_line_break, is_blank}
use Rattle.js_token.specs.Gaps.{after_line, after_block, with_break, block_comment, gap_at}
use Rattle.js_token.specs.Words.{starts_name, continues_name, with_front, rest_of_name, name_at}
use Rattle.js_token.specs.Numbers.{digits, is_hex_next, is_number_going_on, value_at, number_at}
use Rattle.js_token.specs.Literals.{after_feed, two_digits, four_digits, braced_code, unicode_code, coded, is_digit_next, single_escape, escape_at, element_at, with_units, units_of_code, opens_part, breaks_off, text_at}
use Rattle.js_token.specs.Marks.{mark_place, mark_of_size, mark_at, or_else}
use Rattle.js_token.specs.Nesting.{Nest, outermost, closed, behind_piece}
use Rattle.js_token.specs.Tokens.{Front, front, named, marked, plain_at, piece_at, closing_at, token_at}
use Rattle.js_token.proofs.Results.{bind_ok, chosen, ok_same, some_same, none_some, err_ok}

module _ (Q : List Placed → Type 0) (tail : (c : Placed) (rest : List Placed) → Q (c ∷ rest) → Q rest) where
  kept-drop : (k : ℕ) (chars : List Placed) → Q chars → Q (drop k chars)
  kept-drop zero chars h = h
  kept-drop (suc k) [] h = h
  kept-drop (suc k) (c ∷ rest) h = kept-drop k rest (tail c rest h)

  kept-if : (b : Bool) (x y : List Placed) → Q x → Q y → Q (cond b x y)
  kept-if true x y p q = p
  kept-if false x y p q = q

  kept-pair : {A : Type 0} (b : Bool) (x y : A × List Placed) → Q x.1 → Q y.1 → Q (cond b x y).1
  kept-pair true x y p q = p
  kept-pair false x y p q = q

  kept-line : (chars : List Placed) → Q chars → Q (after_line chars)
  kept-line [] h = h
  kept-line (c ∷ rest) h = kept-if (is_line_break c.symbol) (c ∷ rest) (after_line rest) h (kept-line rest (tail c rest h))

  with_break-some : (breaks : Bool) (o : Option (Bool × List Placed)) (x : Bool × List Placed) → with_break breaks o ≡ Some x → ((y : Bool × List Placed) → o ≡ Some y → Q y.1) → Q x.1
  with_break-some breaks None x e held = none_some x e
  with_break-some breaks (Some y) x e held = subst (λ (z : Bool × List Placed). Q z.1) (some_same (breaks || y.0, y.1) x e) (held y refl)

  kept-block : (chars : List Placed) → Q chars → (x : Bool × List Placed) → after_block chars ≡ Some x → Q x.1
  kept-block [] h x e = none_some x e
  kept-block (c ∷ rest) h x e =
      elim (chosen ((c.symbol == 42) && is_next 47 rest) _ _ _ e) [
        | inl w ↦ subst (λ (z : Bool × List Placed). Q z.1) (some_same (false, drop 1 rest) x w.1) (kept-drop 1 rest (tail c rest h))
        | inr w ↦ with_break-some (is_line_break c.symbol) (after_block rest) x w.1 (kept-block rest (tail c rest h))
      ]

  kept-comment : (place : ℕ) (o : Option (Bool × List Placed)) (x : Bool × List Placed) → ((y : Bool × List Placed) → o ≡ Some y → Q y.1) → block_comment place o ≡ Ok (Some x) → Q x.1
  kept-comment place None x held e = err_ok _ _ e
  kept-comment place (Some y) x held e = subst (λ (z : Bool × List Placed). Q z.1) (some_same y x (ok_same _ _ e)) (held y refl)

  pub kept-gap : (chars : List Placed) → Q chars → (x : Bool × List Placed) → gap_at chars ≡ Ok (Some x) → Q x.1
  unfolding gap_at
  kept-gap [] h x e = none_some x (ok_same _ _ e)
  kept-gap (c ∷ rest) h x e =
      elim (chosen (is_blank c.symbol) _ _ _ e) [
        | inl w ↦ subst (λ (z : Bool × List Placed). Q z.1) (some_same (is_line_break c.symbol, rest) x (ok_same _ _ w.1)) (tail c rest h)
        | inr w ↦ elim (chosen ((c.symbol == 47) && is_next 47 rest) _ _ _ w.1) [
          | inl v ↦ subst (λ (z : Bool × List Placed). Q z.1) (some_same (false, after_line rest) x (ok_same _ _ v.1)) (kept-line rest (tail c rest h))
          | inr v ↦ elim (chosen ((c.symbol == 47) && is_next 42 rest) _ _ _ v.1) [
            | inl u ↦ kept-comment c.place (after_block (drop 1 rest)) x (kept-block (drop 1 rest) (kept-drop 1 rest (tail c rest h))) u.1
            | inr u ↦ none_some x (ok_same _ _ u.1)
          ]
        ]
      ]

  kept-name : (chars : List Placed) → Q chars → Q (rest_of_name chars).1
  kept-name [] h = h
  kept-name (c ∷ rest) h = kept-pair (continues_name c.symbol) (with_front (encode_utf16 c.symbol) (rest_of_name rest)) ([], c ∷ rest) (kept-name rest (tail c rest h)) h

  kept-digits : (base : ℕ) (chars : List Placed) (value : ℕ) → Q chars → Q (digits base value chars).1
  kept-digits base [] value h = h
  kept-digits base (c ∷ rest) value h =
      kept-pair (nat_lt (digit_value c.symbol) base) (digits base (value * base + digit_value c.symbol) rest) (value, c ∷ rest)
      (kept-digits base rest (value * base + digit_value c.symbol) (tail c rest h)) h

  kept-value : (digit : ℕ) (rest : List Placed) → Q rest → Q (value_at digit rest).1
  kept-value digit rest h =
      kept-pair (digit == 0) (if is_next 120 rest && is_hex_next (drop 1 rest) then digits 16 0 (drop 1 rest) else (0, rest)) (digits 10 digit rest)
      (kept-pair (is_next 120 rest && is_hex_next (drop 1 rest)) (digits 16 0 (drop 1 rest)) (0, rest) (kept-digits 16 (drop 1 rest) 0 (kept-drop 1 rest h)) h)
      (kept-digits 10 rest digit h)

  kept-number : (place digit : ℕ) (rest : List Placed) → Q rest → (x : ℕ × List Placed) → number_at place digit rest ≡ Ok x → Q x.1
  unfolding number_at
  kept-number place digit rest h x e =
      elim (chosen (nat_lt 9_007_199_254_740_991 (value_at digit rest).0 || is_number_going_on (value_at digit rest).1) _ _ _ e) [
        | inl w ↦ err_ok _ _ w.1
        | inr w ↦ subst (λ (z : ℕ × List Placed). Q z.1) (ok_same (value_at digit rest) x w.1) (kept-value digit rest h)
      ]

  kept-two : (chars : List Placed) → Q chars → (x : ℕ × List Placed) → two_digits chars ≡ Some x → Q x.1
  kept-two [] h x e = none_some x e
  kept-two (a ∷ []) h x e = none_some x e
  kept-two (a ∷ b ∷ rest) h x e =
      elim (chosen (is_hex_digit a.symbol && is_hex_digit b.symbol) _ _ _ e) [
        | inl w ↦ subst (λ (z : ℕ × List Placed). Q z.1) (some_same (digit_value a.symbol * 16 + digit_value b.symbol, rest) x w.1) (tail b rest (tail a (b ∷ rest) h))
        | inr w ↦ none_some x w.1
      ]

  then-some : (o : Option (ℕ × List Placed)) (f : ℕ × List Placed → Option (ℕ × List Placed)) (x : ℕ × List Placed) → option_and_then f o ≡ Some x
      → ((y : ℕ × List Placed) → o ≡ Some y → f y ≡ Some x → Q x.1) → Q x.1
  then-some None f x e held = none_some x e
  then-some (Some y) f x e held = held y refl e

  kept-four : (chars : List Placed) → Q chars → (x : ℕ × List Placed) → four_digits chars ≡ Some x → Q x.1
  kept-four chars h x e =
      then-some (two_digits chars) (λ high. option_and_then (λ low. Some (high.0 * 256 + low.0, low.1)) (two_digits high.1)) x e (λ high p q.
      then-some (two_digits high.1) (λ low. Some (high.0 * 256 + low.0, low.1)) x q (λ low r t.
      subst (λ (z : ℕ × List Placed). Q z.1) (some_same (high.0 * 256 + low.0, low.1) x t) (kept-two high.1 (kept-two chars h high p) low r)))

  kept-braced : (chars : List Placed) → Q chars → (x : ℕ × List Placed) → braced_code chars ≡ Some x → Q x.1
  kept-braced chars h x e =
      elim (chosen (is_hex_next chars) _ _ _ e) [
        | inl w ↦ elim (chosen (nat_le (digits 16 0 chars).0 0x10FFFF && is_next 125 (digits 16 0 chars).1) _ _ _ w.1) [
          | inl v ↦ subst (λ (z : ℕ × List Placed). Q z.1) (some_same ((digits 16 0 chars).0, drop 1 (digits 16 0 chars).1) x v.1) (kept-drop 1 (digits 16 0 chars).1 (kept-digits 16 chars 0 h))
          | inr v ↦ none_some x v.1
        ]
        | inr w ↦ none_some x w.1
      ]

  kept-unicode : (chars : List Placed) → Q chars → (x : ℕ × List Placed) → unicode_code chars ≡ Some x → Q x.1
  kept-unicode chars h x e =
      elim (chosen (is_next 123 chars) _ _ _ e) [
        | inl w ↦ kept-braced (drop 1 chars) (kept-drop 1 chars h) x w.1
        | inr w ↦ kept-four chars h x w.1
      ]

  kept-coded : (place : ℕ) (o : Option (ℕ × List Placed)) (x : Option ℕ × List Placed) → ((y : ℕ × List Placed) → o ≡ Some y → Q y.1) → coded place o ≡ Ok x → Q x.1
  kept-coded place None x held e = err_ok _ _ e
  kept-coded place (Some y) x held e = subst (λ (z : Option ℕ × List Placed). Q z.1) (ok_same (Some y.0, y.1) x e) (held y refl)

  kept-feed : (rest : List Placed) → Q rest → Q (after_feed rest)
  kept-feed rest h = kept-if (is_next 10 rest) (drop 1 rest) rest (kept-drop 1 rest h) h

  kept-escape : (place : ℕ) (chars : List Placed) → Q chars → (x : Option ℕ × List Placed) → escape_at place chars ≡ Ok x → Q x.1
  unfolding escape_at
  kept-escape place [] h x e = err_ok _ _ e
  kept-escape place (c ∷ rest) h x e =
      let held = tail c rest h in
      elim (chosen (c.symbol == 120) _ _ _ e) [
        | inl w ↦ kept-coded place (two_digits rest) x (kept-two rest held) w.1
        | inr w ↦ elim (chosen (c.symbol == 117) _ _ _ w.1) [
          | inl v ↦ kept-coded place (unicode_code rest) x (kept-unicode rest held) v.1
          | inr v ↦ elim (chosen (is_digit c.symbol) _ _ _ v.1) [
            | inl u ↦ elim (chosen ((c.symbol == 48) && not (is_digit_next rest)) _ _ _ u.1) [
              | inl t ↦ subst (λ (z : Option ℕ × List Placed). Q z.1) (ok_same (Some 0, rest) x t.1) held
              | inr t ↦ err_ok _ _ t.1
            ]
            | inr u ↦ elim (chosen (c.symbol == 13) _ _ _ u.1) [
              | inl t ↦ subst (λ (z : Option ℕ × List Placed). Q z.1) (ok_same (None, after_feed rest) x t.1) (kept-feed rest held)
              | inr t ↦ elim (chosen (is_line_break c.symbol) _ _ _ t.1) [
                | inl s ↦ subst (λ (z : Option ℕ × List Placed). Q z.1) (ok_same (None, rest) x s.1) held
                | inr s ↦ subst (λ (z : Option ℕ × List Placed). Q z.1) (ok_same (Some (single_escape c.symbol), rest) x s.1) held
              ]
            ]
          ]
        ]
      ]

  kept-element : (quote : ℕ) (c : Placed) (rest : List Placed) → Q rest → (x : Option ℕ × List Placed) → element_at quote c rest ≡ Ok x → Q x.1
  unfolding element_at
  kept-element quote c rest h x e =
      elim (chosen (c.symbol == 92) _ _ _ e) [
        | inl w ↦ kept-escape c.place rest h x w.1
        | inr w ↦ elim (chosen ((quote == 96) && (c.symbol == 13)) _ _ _ w.1) [
          | inl v ↦ subst (λ (z : Option ℕ × List Placed). Q z.1) (ok_same (Some 10, after_feed rest) x v.1) (kept-feed rest h)
          | inr v ↦ subst (λ (z : Option ℕ × List Placed). Q z.1) (ok_same (Some c.symbol, rest) x v.1) h
        ]
      ]

  kept-text : (n start quote : ℕ) (chars : List Placed) → Q chars → (x : List ℕ × Bool × List Placed) → text_at n start quote chars ≡ Ok x → Q x.2
  unfolding text_at
  kept-text zero start quote chars h x e = err_ok _ _ e
  kept-text (suc n) start quote [] h x e = err_ok _ _ e
  kept-text (suc n) start quote (c ∷ rest) h x e =
      let held = tail c rest h in
      elim (chosen (c.symbol == quote) _ _ _ e) [
        | inl w ↦ subst (λ (z : List ℕ × Bool × List Placed). Q z.2) (ok_same ([], true, rest) x w.1) held
        | inr w ↦ elim (chosen (opens_part quote c.symbol rest) _ _ _ w.1) [
          | inl v ↦ subst (λ (z : List ℕ × Bool × List Placed). Q z.2) (ok_same ([], false, drop 1 rest) x v.1) (kept-drop 1 rest held)
          | inr v ↦ elim (chosen (breaks_off quote c.symbol) _ _ _ v.1) [
            | inl u ↦ err_ok _ _ u.1
            | inr u ↦
                let element = bind_ok (element_at quote c rest) (λ y. with_units (units_of_code y.0) (text_at n start quote y.1)) x u.1 in
                let more = bind_ok (text_at n start quote element.0.1) (λ y. Ok (units_of_code element.0.0 ++ y.0, y.1, y.2)) x element.2 in
                subst (λ (z : List ℕ × Bool × List Placed). Q z.2) (ok_same _ x more.2)
                (kept-text n start quote element.0.1 (kept-element quote c rest held element.0 element.1) more.0 more.1)
          ]
        ]
      ]

  kept-mark-size : (k : ℕ) (c : Placed) (rest : List Placed) → Q rest → (x : ℕ × List Placed) → mark_of_size (suc k) (c ∷ rest) ≡ Some x → Q x.1
  kept-mark-size k c rest h x e = by_place (mark_place (map (λ c. c.symbol) (take (suc k) (c ∷ rest)))) e
    where
      by_place : (o : Option ℕ) → option_map (λ number. (number, drop (suc k) (c ∷ rest))) o ≡ Some x → Q x.1
      by_place None g = none_some x g
      by_place (Some number) g = subst (λ (z : ℕ × List Placed). Q z.1) (some_same (number, drop (suc k) (c ∷ rest)) x g) (kept-drop k rest h)

  or_else-kept : (a b : Option (ℕ × List Placed)) (x : ℕ × List Placed) → or_else a b ≡ Some x → (a ≡ Some x → Q x.1) → (b ≡ Some x → Q x.1) → Q x.1
  or_else-kept None b x e p q = q e
  or_else-kept (Some y) b x e p q = p e

  kept-mark : (c : Placed) (rest : List Placed) → Q rest → (x : ℕ × List Placed) → mark_at (c ∷ rest) ≡ Some x → Q x.1
  unfolding mark_at
  kept-mark c rest h x e =
      or_else-kept (mark_of_size 3 (c ∷ rest)) (or_else (mark_of_size 2 (c ∷ rest)) (mark_of_size 1 (c ∷ rest))) x e (kept-mark-size 2 c rest h x) (λ more.
      or_else-kept (mark_of_size 2 (c ∷ rest)) (mark_of_size 1 (c ∷ rest)) x more (kept-mark-size 1 c rest h x) (kept-mark-size 0 c rest h x))

  kept-marked : (place : ℕ) (o : Option (ℕ × List Placed)) (x : TokenKind × List Placed) → ((y : ℕ × List Placed) → o ≡ Some y → Q y.1) → marked place o ≡ Ok x → Q x.1
  kept-marked place None x held e = err_ok _ _ e
  kept-marked place (Some y) x held e = subst (λ (z : TokenKind × List Placed). Q z.1) (ok_same (Mark y.0, y.1) x e) (held y refl)

  kept-plain : (c : Placed) (rest : List Placed) → Q rest → (x : TokenKind × List Placed) → plain_at c rest ≡ Ok x → Q x.1
  unfolding plain_at name_at
  kept-plain c rest h x e =
      elim (chosen (starts_name c.symbol) _ _ _ e) [
        | inl w ↦ subst (λ (z : TokenKind × List Placed). Q z.1) (ok_same (named (name_at c rest)) x w.1) (kept-name rest h)
        | inr w ↦ elim (chosen (is_digit c.symbol) _ _ _ w.1) [
          | inl v ↦
              let read = bind_ok (number_at c.place (digit_value c.symbol) rest) (λ y. Ok (Number (pos y.0), y.1)) x v.1 in
              subst (λ (z : TokenKind × List Placed). Q z.1) (ok_same (Number (pos read.0.0), read.0.1) x read.2) (kept-number c.place (digit_value c.symbol) rest h read.0 read.1)
          | inr v ↦ elim (chosen ((c.symbol == 39) || (c.symbol == 34)) _ _ _ v.1) [
            | inl u ↦
                let read = bind_ok (text_at (length rest) c.place c.symbol rest) (λ y. Ok (Text y.0, y.2)) x u.1 in
                subst (λ (z : TokenKind × List Placed). Q z.1) (ok_same (Text read.0.0, read.0.2) x read.2) (kept-text (length rest) c.place c.symbol rest h read.0 read.1)
            | inr u ↦ kept-marked c.place (mark_at (c ∷ rest)) x (kept-mark c rest h) u.1
          ]
        ]
      ]

  kept-piece : (first : Bool) (start : ℕ) (nest : Nest) (chars : List Placed) → Q chars → (x : Front) → piece_at first start nest chars ≡ Ok x → Q x.rest
  unfolding piece_at
  kept-piece first start nest chars h x e =
      let read = bind_ok (text_at (length chars) (outermost start nest.parts) 96 chars) (λ y. Ok (front (Piece y.0 first y.1) (behind_piece start y.1 nest) y.2)) x e in
      subst (λ (z : Front). Q z.rest) (ok_same _ x read.2) (kept-text (length chars) (outermost start nest.parts) 96 chars h read.0 read.1)

  kept-closing : (o : Option ℕ) (nest : Nest) (rest : List Placed) → Q rest → (x : Front) → closing_at (o, nest) rest ≡ Ok x → Q x.rest
  kept-closing None nest rest h x e = subst (λ (z : Front). Q z.rest) (ok_same _ x e) h
  kept-closing (Some start) nest rest h x e = kept-piece false start nest rest h x e

  pub kept-token : (nest : Nest) (c : Placed) (rest : List Placed) → Q rest → (x : Front) → token_at nest c rest ≡ Ok x → Q x.rest
  unfolding token_at
  kept-token nest c rest h x e =
      elim (chosen (c.symbol == 96) _ _ _ e) [
        | inl w ↦ kept-piece true c.place nest rest h x w.1
        | inr w ↦ elim (chosen (c.symbol == 123) _ _ _ w.1) [
          | inl v ↦ subst (λ (z : Front). Q z.rest) (ok_same _ x v.1) h
          | inr v ↦ elim (chosen (c.symbol == 125) _ _ _ v.1) [
            | inl u ↦ kept-closing (closed nest).0 (closed nest).1 rest h x u.1
            | inr u ↦
                let read = bind_ok (plain_at c rest) (λ y. Ok (front y.0 nest y.1)) x u.1 in
                subst (λ (z : Front). Q z.rest) (ok_same _ x read.2) (kept-plain c rest h read.0 read.1)
          ]
        ]
      ]
