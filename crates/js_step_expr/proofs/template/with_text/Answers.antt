use Rattle.std.proofs.Common.{sym, append-nil}
use Rattle.js_step_expr.proofs.Templates.{first_some, first_none}
use Rattle.js_step_expr.proofs.template.with_text.Goals as goal

pub returns-in-Some-clause-is : goal.returns-in-Some-clause-is
returns-in-Some-clause-is c = rw (first_some c.args.texts.now c.args.place _ (sym c.in-Some.ensures)) c.joined.ensures.is

pub returns-in-None-clause-is : goal.returns-in-None-clause-is
returns-in-None-clause-is c = rw (first_none c.args.texts.now c.args.place (sym c.in-None.ensures)) (sym (append-nil c.args.before))

pub returns-in-Some-clause-closed : goal.returns-in-Some-clause-closed
returns-in-Some-clause-closed c = c.joined.ensures.closed
