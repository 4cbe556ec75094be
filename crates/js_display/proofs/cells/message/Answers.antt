use Rattle.std.proofs.Common.{◌≡◌, ◌∙◌, sym, ap, codes, nat_eq, false}
use Rattle.std.specs.Cmp.Lexicographic.{pointwise}
use Rattle.js_display.proofs.Listings.{found_next}
use Rattle.js_display.proofs.cells.message.Goals as goal

pub names-preserved : goal.names-preserved
names-preserved c =
    let other : pointwise nat_eq (codes "message") c.name-name.result.now ≡ false =
    ap (pointwise nat_eq (codes "message")) (sym c.as_slice-in-names.ensures.value) ∙ ap (λ word. pointwise nat_eq word c.as_slice-in-names.result.now) (sym c.as_slice.ensures) ∙ sym c.if-eq.ensures in
    sym (found_next c.args.properties.now c.names.at (codes "message") c.name-name.result.now c.name-name.ensures other) ∙ c.names.invariant
