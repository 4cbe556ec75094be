use Rattle.std.proofs.Common.{sym, true≢false}
use Rattle.js_step_access.proofs.keys.own_text.Goals as goal

pub returns-in-None-clause-named : goal.returns-in-None-clause-named
returns-in-None-clause-named c cells key = absurd (true≢false (sym (c.in-None.ensures.named (rw c.in-Named.is at key))))
