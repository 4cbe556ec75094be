-- A text has no more units than bytes.
use Rattle.std.proofs.Common.{◌≡◌, ℕ, ◌≤◌, List, [], ◌∷◌, length, ap, sym, ◌∙◌, arith, length-append}
use Rattle.std.proofs.lemmas.Str.{chars-encodes, length-encode}
use Rattle.std.specs.Char.{len_utf8, encode_utf8}
use Rattle.std.specs.Char.Escape.{encode_utf16}
use Rattle.std.specs.List.{flat_map}
use Rattle.std.specs.Str.{chars, IsUtf8}
use Rattle.std.specs.Prelude.{encode_utf8_all}
use Rattle.std.proofs.lemmas.Bool.Decides.{nat_tests}
use Rattle.wl_text.specs.Text.{units_of}

length-encode_utf16 : (c : ℕ) → length (encode_utf16 c) ≤ len_utf8 c
length-encode_utf16 c = grind (arith, nat_tests)

units_by : (cs : List ℕ) → length (flat_map encode_utf16 cs) ≤ length (encode_utf8_all cs)
units_by [] = omega arith
units_by (c ∷ cs) =
    let here = length-encode_utf16 c in
    let there = length-encode c in
    let rest = units_by cs in
    omega (arith, length-append (encode_utf16 c) (flat_map encode_utf16 cs), length-append (encode_utf8 c) (encode_utf8_all cs))

pub length-units_of : (text : List ℕ) → IsUtf8 text → length (units_of text) ≤ length text
unfolding units_of
length-units_of text (cs, is) =
    let spelled : chars text ≡ cs = ap chars (sym is.1) ∙ chars-encodes cs is.0 in
    let most = units_by cs in
    let same = ap (λ xs. length (flat_map encode_utf16 xs)) spelled in
    let whole = ap length is.1 in
    omega arith
