use Rattle.std.proofs.Common.{◌∙◌, ap, arith, length, sym}
use Rattle.js_token.proofs.Names.{grown-short, name_at-first, name-turn, name-whole}
use Rattle.js_token.proofs.words.name_at.Goals as goal

pub name-init : goal.name-init
name-init c = (
  omega (arith, grown-short c.new-units.result.items c.push_code.new.list.items c.args.first.symbol c.in_ok-push_code.ensures, ap length c.new-units.ensures.items),
  omega arith,
  name_at-first c.args.first c.args.rest.now _ _ c.new-units.ensures.items c.in_ok-push_code.ensures,
)

pub name-preserved : goal.name-preserved
name-preserved c = (
  omega (arith, grown-short c.name.units.items c.push_code-in-Some.new.list.items c.in-Some.next.now.symbol c.in_ok-push_code-2.ensures, c.in-Some.ensures.cases.1, c.name.invariant.0),
  omega (arith, c.in-Some.ensures.cases.1, c.name.invariant.1),
  name-turn c.in-Some.next.now _ _ _ _ _ c.in-Some.ensures.cases.0 (sym c.continues_name.ensures ∙ c.if-not-continues_name.false) c.in_ok-push_code-2.ensures c.name.invariant.2,
)

pub returns-clause-exact : goal.returns-clause-exact
returns-clause-exact c = name-whole _ _ _ c.in_default.ensures.cases c.name.invariant.2
