use Rattle.std.proofs.Common.{◌∙◌, ap, sym}
use Rattle.std.specs.Prelude.{◌&&◌}
use Rattle.std.specs.Char.Utf16.{utf16_chars}
use Rattle.js_token.specs.Words.{continue_name}
use Rattle.js_token.proofs.Utf16.{are_of_name-some, are_of_name-none, are_of_name-empty}
use Rattle.js_token.proofs.words.are_of_name.Goals as goal

pub returns-in_default : goal.returns-in_default
returns-in_default c = are_of_name-empty _ c.in_default.ensures.cases

pub returns-in_default-character_at : goal.returns-in_default-character_at
returns-in_default-character_at c =
    are_of_name-none c.in-Some.unit.now _ c.in-Some.rest.now c.in-Some.ensures.cases.0 (sym c.in_default-character_at.ensures.value)

pub returns-then-starts_name : goal.returns-then-starts_name
returns-then-starts_name c =
    c.continue_name.ensures ∙ ap (λ b. b && continue_name (utf16_chars c.in-Some-character_at.behind.now)) c.if-starts_name.ensures
    ∙ sym (are_of_name-some c.in-Some.unit.now c.in-Some-character_at.c _ c.in-Some.rest.now c.in-Some-character_at.behind.now c.in-Some.ensures.cases.0 (sym c.in-Some-character_at.ensures.value))

pub returns-else-starts_name : goal.returns-else-starts_name
returns-else-starts_name c =
    c.if-starts_name.false ∙ ap (λ b. b && continue_name (utf16_chars c.in-Some-character_at.behind.now)) c.if-starts_name.ensures
    ∙ sym (are_of_name-some c.in-Some.unit.now c.in-Some-character_at.c _ c.in-Some.rest.now c.in-Some-character_at.behind.now c.in-Some.ensures.cases.0 (sym c.in-Some-character_at.ensures.value))
