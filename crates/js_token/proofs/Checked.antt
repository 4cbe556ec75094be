-- Lemmas on the test of a text.
use Rattle.std.proofs.Common.{◌≡◌, ℕ, false, List, length, Ok, Err, ap, ◌∙◌, sym, nat_eq, inl, inr}
use Rattle.std.specs.List.{starts_with}
use Rattle.std.specs.Str.{IsUtf8, is_utf8, chars}
use Rattle.std.specs.Str.Lossy.{utf8_valid_len}
use Rattle.std.proofs.lemmas.Str.{is_utf8-from_IsUtf8, IsUtf8-from_is_utf8}
use Rattle.std.proofs.lemmas.Bool.{false_from_ne_true}
use Rattle.js_token.specs.declared.token.LexFault.TheVariants.{At}
use Rattle.js_token.specs.declared.token.LexKind.TheVariants.{Text}
use Rattle.js_token.proofs.Results.{chosen, ok_same, err_ok}
use Rattle.js_token.specs.Tokens.{checked_text, byte_order_mark, tokens_in, tokens_of}
use Rattle.js_token.specs.Reading.{◌>>=◌}
use Rattle.js_token.specs.Characters.{with_places}
use Rattle.js_token.specs.declared.characters.Placed.{Placed}

-- UTF-8 without a mark
pub checked_text-ok : (bytes checked : List ℕ) → starts_with nat_eq bytes byte_order_mark ≡ false → IsUtf8 bytes → checked ≡ bytes → checked_text bytes ≡ Ok checked
unfolding checked_text
checked_text-ok bytes checked unmarked utf8 same = rw (unmarked, is_utf8-from_IsUtf8 bytes utf8) (ap Ok (sym same))

-- no UTF-8
pub checked_text-wrong : (bytes : List ℕ) (place : ℕ) → starts_with nat_eq bytes byte_order_mark ≡ false → (IsUtf8 bytes → ⊥) → place ≡ utf8_valid_len bytes
    → checked_text bytes ≡ Err (At place Text)
unfolding checked_text
checked_text-wrong bytes place unmarked wrong is_place =
    rw (unmarked, false_from_ne_true (is_utf8 bytes) (λ h. wrong (IsUtf8-from_is_utf8 bytes h))) (ap (λ p. Err (At p Text)) (sym is_place))

-- The tokens of a text that is checked.
pub tokens_of-checked : (bytes text : List ℕ) (list : List Placed) → checked_text bytes ≡ Ok text → list ≡ with_places 0 (chars text)
    → tokens_of bytes ≡ tokens_in (length text) list
unfolding tokens_of
tokens_of-checked bytes text list checked is_list = ap (λ r. r >>= λ t. tokens_in (length t) (with_places 0 (chars t))) checked ∙ ap (tokens_in (length text)) (sym is_list)

-- A text that is checked is the text, and UTF-8.
pub checked-same : (bytes text : List ℕ) → checked_text bytes ≡ Ok text → (bytes ≡ text) × IsUtf8 bytes
unfolding checked_text
checked-same bytes text h =
    elim (chosen (starts_with nat_eq bytes byte_order_mark) _ _ _ h) [
      | inl w ↦ err_ok _ _ w.1
      | inr w ↦ elim (chosen (is_utf8 bytes) _ _ _ w.1) [
        | inl v ↦ (ok_same bytes text v.1, IsUtf8-from_is_utf8 bytes v.0)
        | inr v ↦ err_ok _ _ v.1
      ]
    ]
