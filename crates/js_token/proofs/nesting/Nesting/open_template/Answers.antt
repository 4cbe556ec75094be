use Rattle.std.proofs.Common.{◌∙◌, ap, sym}
use Rattle.std.specs.Prelude.{reverse}
use Rattle.js_token.specs.Nesting.{open_template}
use Rattle.js_token.proofs.NestingLemmas.{open_template-reversed}
use Rattle.js_token.proofs.nesting.Nesting.open_template.Goals as goal

pub returns-in-Some : goal.returns-in-Some
returns-in-Some c =
    sym (ap (λ parts. open_template (reverse parts)) (sym c.deref.ensures.value ∙ c.in-Some.ensures.cases.0) ∙ open_template-reversed c.in-Some.part.now c.in-Some.field-0-1.now)
