use Rattle.std.proofs.Common.{◌≡◌, true, false, Some, None, ap, sym, ◌∙◌}
use Rattle.event_script.specs.Lines.{is_silent, effect}
use Rattle.event_script.proofs.Cuts.{line_wrong, line_silent, line_told}
use Rattle.event_script.proofs.parts.line_of.Goals as goal

pub returns-in_default-clause-value : goal.returns-in_default-clause-value
returns-in_default-clause-value c = line_wrong c.args.line.now c.in_default.ensures.cases.0

pub returns-then-is_silent-clause-value : goal.returns-then-is_silent-clause-value
returns-then-is_silent-clause-value c =
    let is = c.in-Ok.ensures.cases in
    let silent : is_silent c.args.line.now ≡ true = ap is_silent (sym (c.as_bytes.ensures.value ∙ is.0)) ∙ (sym c.is_silent.ensures ∙ c.if-is_silent.true) in
    line_silent c.args.line.now is.1 silent

pub returns-in-Some-clause-value : goal.returns-in-Some-clause-value
returns-in-Some-clause-value c =
    let is = c.in-Ok.ensures.cases in
    let told : is_silent c.args.line.now ≡ false = ap is_silent (sym (c.as_bytes.ensures.value ∙ is.0)) ∙ (sym c.is_silent.ensures ∙ c.if-is_silent.false) in
    line_told c.args.line.now is.1 told (Some c.in-Some.what) (sym c.in-Some.is ∙ (c.in_ok-what.ensures.value ∙ ap effect is.0))

pub returns-in-None-clause-value : goal.returns-in-None-clause-value
returns-in-None-clause-value c =
    let is = c.in-Ok.ensures.cases in
    let told : is_silent c.args.line.now ≡ false = ap is_silent (sym (c.as_bytes.ensures.value ∙ is.0)) ∙ (sym c.is_silent.ensures ∙ c.if-is_silent.false) in
    line_told c.args.line.now is.1 told None (sym c.in-None.is ∙ (c.in_ok-what.ensures.value ∙ ap effect is.0))
