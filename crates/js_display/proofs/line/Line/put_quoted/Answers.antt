use Rattle.std.proofs.Common.{◌≡◌, ◌∙◌, sym, ap, drop, ◌++◌, ◌∷◌, [], true, length, get_or, refl}
use Rattle.std.specs.List.{flat_map}
use Rattle.std.proofs.lemmas.List.{drop_all}
use Rattle.wl_text.specs.Text.{quoted, quoted_unit}
use Rattle.js_display.specs.Line.{more}
use Rattle.js_display.proofs.Lines.{unit_turn, more_twice, more_full, on_ok, eqb_true}
use Rattle.js_display.proofs.line.Line.put_quoted.Goals as goal

pub units-init : goal.units-init
units-init c =
    let units = c.as_slice-unit-items.result.now in
    ap (more (flat_map quoted_unit units ++ 34 ∷ [])) c.in_ok-put.ensures ∙ more_twice (34 ∷ []) (flat_map quoted_unit units ++ 34 ∷ []) c.args.self.now

pub units-preserved : goal.units-preserved
units-preserved c =
    let units = c.as_slice-unit-items.result.now in
    unit_turn quoted_unit units c.units.unit-index (get_or units c.units.unit-index 0) (34 ∷ []) c.units.self c.put_quoted_unit.new.self (more (34 ∷ flat_map quoted_unit units ++ 34 ∷ []) c.args.self.now)
    c.units-test.true refl c.in_ok-put_quoted_unit.ensures c.units.invariant

pub returns-then-is_full : goal.returns-then-is_full
unfolding quoted
returns-then-is_full c =
    let units = c.as_slice-unit-items.result.now in
    let full : length c.units.self.text ≡ c.units.self.limit = eqb_true _ _ (sym c.if-is_full.ensures) in
    sym (more_full (flat_map quoted_unit (drop c.units.unit-index units) ++ 34 ∷ []) c.units.self full) ∙ c.units.invariant ∙ ap (λ xs. more (34 ∷ flat_map quoted_unit xs ++ 34 ∷ []) c.args.self.now) c.as_slice-unit-items.ensures.value

pub returns : goal.returns
unfolding quoted
returns c =
    let units = c.as_slice-unit-items.result.now in
    let rest = drop_all c.units.unit-index units c.units-test.false in
    on_ok c.put-2.result (λ e. e ∙ sym (ap (λ xs. more (flat_map quoted_unit xs ++ 34 ∷ []) c.units.self) rest) ∙ c.units.invariant ∙ ap (λ xs. more (34 ∷ flat_map quoted_unit xs ++ 34 ∷ []) c.args.self.now) c.as_slice-unit-items.ensures.value) c.put-2.ensures
