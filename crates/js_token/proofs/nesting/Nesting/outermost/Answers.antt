use Rattle.std.proofs.Common.{◌∙◌, ap, sym}
use Rattle.std.specs.Prelude.{reverse}
use Rattle.js_token.specs.Nesting.{outermost}
use Rattle.js_token.proofs.NestingLemmas.{outermost-reversed}
use Rattle.js_token.proofs.nesting.Nesting.outermost.Goals as goal

pub returns-in-Some : goal.returns-in-Some
returns-in-Some c =
    sym (ap (λ parts. outermost c.args.start (reverse parts)) (sym c.deref.ensures.value ∙ c.in-Some.ensures.cases.0) ∙ outermost-reversed c.args.start c.in-Some.part.now c.in-Some.field-0-1.now)
