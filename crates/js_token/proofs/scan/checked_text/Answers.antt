use Rattle.std.proofs.Common.{◌∙◌, sym}
use Rattle.js_token.proofs.Checked.{checked_text-ok, checked_text-wrong}
use Rattle.js_token.proofs.scan.checked_text.Goals as goal

pub returns-in-Ok-clause-exact : goal.returns-in-Ok-clause-exact
returns-in-Ok-clause-exact c = checked_text-ok _ _ (sym c.starts_with.ensures.value ∙ c.if-starts_with.false) c.in-Ok.ensures.cases.1 c.in-Ok.ensures.cases.0

pub returns-in-Err-clause-exact : goal.returns-in-Err-clause-exact
returns-in-Err-clause-exact c = checked_text-wrong _ _ (sym c.starts_with.ensures.value ∙ c.if-starts_with.false) c.in-Err.ensures.cases.0 (c.valid_up_to.ensures ∙ c.in-Err.ensures.valid_len)
