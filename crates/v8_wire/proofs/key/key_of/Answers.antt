use Rattle.std.proofs.Common.{sym, ◌∙◌}
use Rattle.v8_wire.proofs.Refusals.{key_at-fails}
use Rattle.v8_wire.proofs.key.key_of.Goals as goal

pub returns-clause-exact : goal.returns-clause-exact
returns-clause-exact c =
    key_at-fails c.refusal.result c.args.least c.args.tag c.args.met.now c.args.left c.args.bytes.now
    (sym c.may_be_index_of.ensures ∙ c.if-may_be_index_of.false) (sym c.is_text.ensures ∙ c.if-is_text.false) c.refusal.ensures
