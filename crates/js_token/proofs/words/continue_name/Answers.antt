use Rattle.std.proofs.Common.{sym}
use Rattle.js_token.proofs.Utf16.{continue_name-turn, continue_name-other, continue_name-none, continue_name-end}
use Rattle.js_token.proofs.words.continue_name.Goals as goal

pub name-preserved : goal.name-preserved
name-preserved c =
    continue_name-turn c.in-Some.unit.now c.in-Some-character_at.c _ c.in-Some.rest.now c.in-Some-character_at.behind.now _ c.in-Some.ensures.cases.0
    (sym c.in-Some-character_at.ensures.value) (sym c.if-not-continues_name.ensures) c.name.invariant

pub returns-then-not-continues_name : goal.returns-then-not-continues_name
returns-then-not-continues_name c =
    continue_name-other c.in-Some.unit.now c.in-Some-character_at.c _ c.in-Some.rest.now c.in-Some-character_at.behind.now _ c.in-Some.ensures.cases.0
    (sym c.in-Some-character_at.ensures.value) (sym c.if-not-continues_name.ensures) c.name.invariant

pub returns-in_default-character_at : goal.returns-in_default-character_at
returns-in_default-character_at c =
    continue_name-none c.in-Some.unit.now _ c.in-Some.rest.now _ c.in-Some.ensures.cases.0 (sym c.in_default-character_at.ensures.value) c.name.invariant

pub returns : goal.returns
returns c = continue_name-end _ _ c.in_default.ensures.cases c.name.invariant
