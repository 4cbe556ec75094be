use Rattle.std.proofs.Common.{◌∙◌, ap, arith}
use Rattle.v8_wire.specs.Spelling.{put_property, put_entry, put_item, written}
use Rattle.v8_wire.proofs.Puts.{put_all-step, put_all-done}
use Rattle.v8_wire.proofs.putting.+putting.Goals as goal

pub put_items-items-preserved : goal.put_items-items-preserved
put_items-items-preserved t c =
    put_all-step (put_item c.args.depth c.args.nodes.now) c.args.items.now c.items.item-index _ c.item-item.result _ _
    (omega (arith, c.items-test.true)) c.item-item.is c.in_ok-next.ensures c.items.invariant

pub put_items-returns : goal.put_items-returns
put_items-returns t c =
    put_all-done (put_item c.args.depth c.args.nodes.now) c.args.items.now c.items.item-index _ (written c.items.out.items c.items.next)
    (omega (arith, c.items-test.false)) c.items.invariant

pub put_properties-properties-preserved : goal.put_properties-properties-preserved
put_properties-properties-preserved t c =
    let put = put_item c.args.depth c.args.nodes.now in
    put_all-step (put_property put) c.args.properties.now c.properties.key-index _ c.properties-item.result _ _
    (omega (arith, c.properties-test.true)) c.properties-item.is
    (c.in_ok-next.ensures ∙ ap (λ bytes. put c.properties-item.result.1 (written bytes c.properties.next)) c.in_ok-put_key.ensures)
    c.properties.invariant

pub put_properties-returns : goal.put_properties-returns
put_properties-returns t c =
    put_all-done (put_property (put_item c.args.depth c.args.nodes.now)) c.args.properties.now c.properties.key-index _ (written c.properties.out.items c.properties.next)
    (omega (arith, c.properties-test.false)) c.properties.invariant

pub put_entries-entries-preserved : goal.put_entries-entries-preserved
put_entries-entries-preserved t c =
    let put = put_item c.args.depth c.args.nodes.now in
    put_all-step (put_entry put) c.args.entries.now c.entries.key-index _ c.entries-item.result _ _
    (omega (arith, c.entries-test.true)) c.entries-item.is
    (c.in_ok-next-2.ensures ∙ ap (λ w. put c.entries-item.result.1 w) c.in_ok-next.ensures)
    c.entries.invariant

pub put_entries-returns : goal.put_entries-returns
put_entries-returns t c =
    put_all-done (put_entry (put_item c.args.depth c.args.nodes.now)) c.args.entries.now c.entries.key-index _ (written c.entries.out.items c.entries.next)
    (omega (arith, c.entries-test.false)) c.entries.invariant
