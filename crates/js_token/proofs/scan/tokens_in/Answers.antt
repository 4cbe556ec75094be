use Rattle.std.proofs.Common.{◌≡◌, ◌∙◌, ◌<◌, ap, sym, arith, length}
use Rattle.std.specs.Prelude.{Some, None, Ok}
use Rattle.js_token.specs.Gaps.{gap_at}
use Rattle.js_token.specs.Nesting.{nest}
use Rattle.js_token.specs.Tokens.{at_end}
use Rattle.js_token.proofs.TokenLists.{turn-gap, turn-token, gap-fault, token-fault, tokens_at-end, with_tokens}
use Rattle.js_token.proofs.scan.tokens_in.Goals as goal

pub returns-in-Err : goal.returns-in-Err
returns-in-Err c =
    let i = c.tokens.invariant in
    gap-fault c.in-Err.fault i.1 c.args.end (nest c.tokens.nesting) c.tokens.broken c.in-Some.first.now c.tokens.left.now c.in-Some.rest.now c.tokens.list.items _ i.2
    c.in-Some.ensures.cases.0 c.in-Err.ensures.exact i.3

pub tokens-preserved-in-Some-gap : goal.tokens-preserved-in-Some-gap
tokens-preserved-in-Some-gap c =
    let i = c.tokens.invariant in
    let gap : gap_at c.tokens.left.now ≡ Ok (Some (c.in-Some-gap.breaks, c.in-Some-gap.behind.now)) = rw c.in-Some-gap.is at c.in-Ok.ensures.exact in
    let less : length c.in-Some-gap.behind.now < length c.tokens.left.now = rw c.in-Some-gap.is at c.in-Ok.ensures.within in
    let turn = turn-gap i.1 c.args.end (nest c.tokens.nesting) c.tokens.broken c.in-Some-gap.breaks c.in-Some.first.now c.tokens.left.now c.in-Some.rest.now _ c.tokens.list.items _ i.2
    c.in-Some.ensures.cases.0 gap less i.3 in
    (omega (arith, i.0), turn.0, turn.1, turn.2)

pub returns-in-Err-token_at : goal.returns-in-Err-token_at
returns-in-Err-token_at c =
    let i = c.tokens.invariant in
    let gap : gap_at c.tokens.left.now ≡ Ok None = rw c.in_default-gap.is at c.in-Ok.ensures.exact in
    token-fault c.in-Err-token_at.fault i.1 c.args.end (nest c.tokens.nesting) c.tokens.broken c.in-Some.first.now c.tokens.left.now c.in-Some.rest.now c.tokens.list.items _ i.2
    c.in-Some.ensures.cases.0 gap c.in-Err-token_at.ensures.exact i.3

pub tokens-preserved : goal.tokens-preserved
tokens-preserved c =
    let i = c.tokens.invariant in
    let gap : gap_at c.tokens.left.now ≡ Ok None = rw c.in_default-gap.is at c.in-Ok.ensures.exact in
    let turn = turn-token i.1 c.args.end (nest c.tokens.nesting) (nest c.token_at.new.nesting) c.tokens.broken c.in-Ok-token_at.found.0 c.in-Some.first.now c.tokens.left.now c.in-Some.rest.now
    c.in-Ok-token_at.found.1.now c.tokens.list.items c.push.new.self.items _ i.2 c.in-Some.ensures.cases.0 gap c.in-Ok-token_at.ensures.exact c.in-Ok-token_at.ensures.within c.in_ok-push.ensures.items i.3 in
    (omega (arith, i.0, c.in-Ok-token_at.ensures.braces), turn.0, turn.1, turn.2)

pub returns-in-Some-open_template : goal.returns-in-Some-open_template
returns-in-Some-open_template c =
    let i = c.tokens.invariant in
    tokens_at-end i.1 c.args.end (nest c.tokens.nesting) c.tokens.broken c.tokens.left.now c.tokens.list.items _ c.in_default.ensures.cases i.3
    ∙ ap (λ o. with_tokens c.tokens.list.items (at_end c.args.end c.tokens.broken o)) (sym c.in-Some-open_template.ensures)

pub returns : goal.returns
returns c =
    let i = c.tokens.invariant in
    tokens_at-end i.1 c.args.end (nest c.tokens.nesting) c.tokens.broken c.tokens.left.now c.tokens.list.items _ c.in_default.ensures.cases i.3
    ∙ ap (λ o. with_tokens c.tokens.list.items (at_end c.args.end c.tokens.broken o)) (sym c.in_default-open_template.ensures)
    ∙ ap Ok (sym c.in_ok-push-2.ensures.items)
