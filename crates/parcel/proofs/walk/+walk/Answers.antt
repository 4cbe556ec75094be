use Rattle.std.proofs.Common.{sym, ◌∙◌}
use Rattle.parcel.proofs.Counting.{item_met-deep, item_met-full, item_met-counted}
use Rattle.parcel.proofs.walk.+walk.Goals as goal

pub item_met-returns-then-depth-eq0 : goal.item_met-returns-then-depth-eq0
item_met-returns-then-depth-eq0 t c = sym (item_met-deep _ _ _ _ c.if-depth-eq0.true)

pub item_met-returns-in-None : goal.item_met-returns-in-None
item_met-returns-in-None t c = sym (item_met-full c.args.depth _ _ c.args.met (sym c.in-None.ensures))

pub item_met-returns-in-Some : goal.item_met-returns-in-Some
item_met-returns-in-Some t c =
    c.value_met.ensures ∙ sym (item_met-counted c.args.depth _ c.args.item.now c.args.met c.in-Some.met c.if-depth-eq0.false (sym c.in-Some.ensures))
