use Rattle.std.proofs.Common.{sym, arith}
use Rattle.std.proofs.lemmas.List.{take_rest}
use Rattle.js_token.proofs.Texts.{text-close, text-part, text-break, text-fault, text-turn, text-end, unended-fails, units-grown}
use Rattle.js_token.proofs.literals.text_at.Goals as goal

pub returns-then-first-quote-clause-exact : goal.returns-then-first-quote-clause-exact
returns-then-first-quote-clause-exact c =
    let i = c.text.invariant in
    text-close i.1 c.args.start c.args.quote c.in-Some.first.now _ _ _ _ i.2 c.in-Some.ensures.cases.0 c.if-first-quote.true i.3

pub returns-then-opens_part-clause-exact : goal.returns-then-opens_part-clause-exact
returns-then-opens_part-clause-exact c =
    let i = c.text.invariant in
    text-part i.1 c.args.start c.args.quote c.in-Some.first.now _ _ _ _ _ i.2 c.in-Some.ensures.cases.0 c.if-first-quote.false (sym c.if-opens_part.ensures.value) (take_rest c.in-Some.rest.now 1) i.3

pub returns-then-breaks_off-clause-exact : goal.returns-then-breaks_off-clause-exact
returns-then-breaks_off-clause-exact c =
    let i = c.text.invariant in
    unended-fails c.args.start c.args.quote _ _ c.unended.ensures
    (text-break i.1 c.args.start c.args.quote c.in-Some.first.now _ _ _ _ i.2 c.in-Some.ensures.cases.0 c.if-first-quote.false
    (sym c.if-opens_part.ensures.value) (sym c.if-breaks_off.ensures) i.3)

pub returns-in-Err-clause-exact : goal.returns-in-Err-clause-exact
returns-in-Err-clause-exact c =
    let i = c.text.invariant in
    text-fault c.in-Err.fault i.1 c.args.start c.args.quote c.in-Some.first.now _ _ _ _ i.2 c.in-Some.ensures.cases.0 c.if-first-quote.false
    (sym c.if-opens_part.ensures.value) (sym c.if-breaks_off.ensures) c.in-Err.ensures.exact i.3

pub text-preserved : goal.text-preserved
text-preserved c =
    let i = c.text.invariant in
    let grown = units-grown c.text.units.items c.push_element.new.list.items c.in-Ok.found.0 c.in_ok-push_element.ensures in
    let turn = text-turn i.1 c.args.start c.args.quote c.in-Some.first.now _ _ _ c.in-Ok.found.0 _ _ _ i.2 c.in-Some.ensures.cases.0 c.if-first-quote.false
    (sym c.if-opens_part.ensures.value) (sym c.if-breaks_off.ensures) c.in-Ok.ensures.exact c.in-Ok.ensures.within c.in_ok-push_element.ensures i.3 in
    (omega (arith, i.0, grown, c.in-Ok.ensures.within, c.in-Some.ensures.cases.1), turn.0, turn.1, turn.2)

pub returns-clause-exact : goal.returns-clause-exact
returns-clause-exact c =
    let i = c.text.invariant in
    unended-fails c.args.start c.args.quote _ _ c.unended-2.ensures (text-end i.1 c.args.start c.args.quote _ _ _ c.in_default.ensures.cases i.3)
