use Rattle.parcel.proofs.Showing.{item_shown-deep, item_shown-name, Writes-behind, Writes-along, Writes-nothing}
use Rattle.parcel.proofs.text.+text.Goals as goal

pub show_item-returns-then-depth-eq0 : goal.show_item-returns-then-depth-eq0
show_item-returns-then-depth-eq0 t c =
    Writes-nothing _ _ _ (item_shown-deep c.args.depth c.args.nodes.now c.args.item.now c.args.next c.if-depth-eq0.true)

pub show_item-returns : goal.show_item-returns
show_item-returns t c =
    Writes-along _ _ _ _ _ (item_shown-name c.args.depth c.args.nodes.now c.args.item.now c.args.next c.if-depth-eq0.false)
    (Writes-behind _ _ _ _ _ _ c.in_ok-push_name.ensures c.in_ok-after.ensures)
