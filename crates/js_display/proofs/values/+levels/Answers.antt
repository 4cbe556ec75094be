use Rattle.std.proofs.Common.{◌≡◌, ◌∙◌, ℕ, ◌-◌, ◌+◌, true, false, List, [], ◌∷◌, Some, None, codes, sym, ap, drop}
use Rattle.std.specs.Option.{option_copied}
use Rattle.world_heap.specs.declared.value.Value.{Value}
use Rattle.js_semantics.specs.World.{World, over}
use Rattle.js_semantics.specs.Display.{Shown, shown_value, shown_property, shown_key, listed}
use Rattle.js_display.specs.Levels.{listed_under, is_any}
use Rattle.js_display.proofs.Listings.{listed_here, listed_is}
use Rattle.std.proofs.lemmas.List.{drop_all}
use Rattle.js_display.specs.Line.{Built, showing, more}
use Rattle.js_display.proofs.Lines.{on_ok}
use Rattle.js_display.proofs.Turns.{items_left, properties_left, items_turn_at, items_stop_at, items_end, properties_turn_at, properties_stop_at}
use Rattle.js_display.proofs.Openings.{array_opened, array_shut, object_opened, object_shut, object_empty, some_items, value_at}
use Rattle.js_display.proofs.values.+levels.Goals as goal

pub show_array-returns : goal.show_array-returns
show_array-returns t c = λ w.
    let W : World ℕ = over c.args.heap.now w in
    let within : c.as_slice.result.now ≡ c.args.loc ∷ c.args.around.now = c.as_slice.ensures.value ∙ c.in_ok-around.ensures in
    let some : c.args.items.now ≡ [] → ⊥ = some_items c.is_empty.result c.args.items.now c.is_empty.ensures c.if-is_empty.false in
    on_ok c.show_items.result (λ e. e
    ∙ ap (λ xs. items_left W (shown_value W (c.args.depth - 1) xs) (codes "]") true c.args.items.now c.put_word-2.new.self) within
    ∙ array_opened W c.args.around.now c.args.loc c.args.depth c.args.items.now c.args.line.now c.put_word-2.new.self c.if-depth-eq0.false some c.in_ok-put_word.ensures) (c.show_items.ensures w)

pub show_items-returns-then-not-spend : goal.show_items-returns-then-not-spend
show_items-returns-then-not-spend t c = λ w.
    let W : World ℕ = over c.args.heap.now w in
    let show : Value ℕ → ℕ → Shown = shown_value W c.args.depth c.args.around.now in
    on_ok c.put_word-then-not-spend.result (λ e. e
    ∙ ap (more (codes "]")) (c.in_ok-put_word.ensures ∙ ap (λ text. more text c.spend.new.self) c.dots.ensures)
    ∙ sym (items_stop_at W show (codes "]") c.items.first c.args.items.now c.items.item-index c.item-item.result
    (items_left W show (codes "]") true c.args.items.now c.args.line.now) c.items.line c.spend.new.self c.items-test.true c.item-item.is c.if-not-spend.ensures (c.items.invariant w)))
    c.put_word-then-not-spend.ensures

pub show_items-items-preserved : goal.show_items-items-preserved
show_items-items-preserved t c = λ w.
    let W : World ℕ = over c.args.heap.now w in
    let show : Value ℕ → ℕ → Shown = shown_value W c.args.depth c.args.around.now in
    items_turn_at W show (codes "]") c.items.first c.args.items.now c.items.item-index c.item-item.result
    (items_left W show (codes "]") true c.args.items.now c.args.line.now) c.items.line c.spend.new.self c.show_value.new.line c.items-test.true c.item-item.is c.if-not-spend.ensures
    (c.in_ok-show_value.ensures w ∙ ap (λ l. showing (show c.item-item.result l.left) l) (c.in_ok-put_word-2.ensures ∙ ap (λ text. more text c.spend.new.self) c.separator.ensures))
    (c.items.invariant w)

pub show_items-returns : goal.show_items-returns
show_items-returns t c = λ w.
    let W : World ℕ = over c.args.heap.now w in
    let show : Value ℕ → ℕ → Shown = shown_value W c.args.depth c.args.around.now in
    on_ok c.put_word-2.result (λ e. e
    ∙ sym (items_end W show (codes "]") c.items.first c.args.items.now c.items.item-index
    (items_left W show (codes "]") true c.args.items.now c.args.line.now) c.items.line c.items-test.false (c.items.invariant w)))
    c.put_word-2.ensures

pub show_object-returns-then-not-has_listed : goal.show_object-returns-then-not-has_listed
show_object-returns-then-not-has_listed t c = λ w.
    let all = ap (listed_under c.args.body.now.properties) (c.as_slice.ensures.value ∙ c.in_ok-names.ensures) ∙ sym (listed_is c.args.body.now) in
    let none = sym (ap is_any all) ∙ sym c.if-not-has_listed.ensures in
    on_ok c.put_word.result (λ e. e ∙ object_empty (over c.args.heap.now w) c.args.around.now c.args.loc c.args.depth (listed c.args.body.now) c.args.line.now none) c.put_word.ensures

pub show_object-returns-then-depth-eq0 : goal.show_object-returns-then-depth-eq0
show_object-returns-then-depth-eq0 t c = λ w.
    let all = ap (listed_under c.args.body.now.properties) (c.as_slice.ensures.value ∙ c.in_ok-names.ensures) ∙ sym (listed_is c.args.body.now) in
    let some = sym (ap is_any all) ∙ sym c.if-not-has_listed.ensures in
    on_ok c.put_word-then-depth-eq0.result (λ e. e ∙ object_shut (over c.args.heap.now w) c.args.around.now c.args.loc c.args.depth (listed c.args.body.now) c.args.line.now c.if-depth-eq0.true some)
    c.put_word-then-depth-eq0.ensures

pub show_object-returns : goal.show_object-returns
show_object-returns t c = λ w.
    let W : World ℕ = over c.args.heap.now w in
    let properties = c.args.body.now.properties in
    let all = ap (listed_under properties) (c.as_slice.ensures.value ∙ c.in_ok-names.ensures) ∙ sym (listed_is c.args.body.now) in
    let again = ap (listed_under properties) (c.as_slice-3.ensures.value ∙ c.in_ok-names.ensures) ∙ sym (listed_is c.args.body.now) in
    let some = sym (ap is_any all) ∙ sym c.if-not-has_listed.ensures in
    let within : c.as_slice-2.result.now ≡ c.args.loc ∷ c.args.around.now = c.as_slice-2.ensures.value ∙ c.in_ok-around.ensures in
    on_ok c.show_properties.result (λ e. e
    ∙ ap (λ xs. properties_left W (shown_value W (c.args.depth - 1) xs) (codes "}") true (listed_under properties c.as_slice-3.result.now) c.put_word-2.new.self) within
    ∙ ap (λ es. properties_left W (shown_value W (c.args.depth - 1) (c.args.loc ∷ c.args.around.now)) (codes "}") true es c.put_word-2.new.self) again
    ∙ object_opened W c.args.around.now c.args.loc c.args.depth (listed c.args.body.now) c.args.line.now c.put_word-2.new.self c.if-depth-eq0.false some c.in_ok-put_word.ensures) (c.show_properties.ensures w)

pub show_properties-names-preserved-in_default : goal.show_properties-names-preserved-in_default
show_properties-names-preserved-in_default t c = λ w.
    let W : World ℕ = over c.args.heap.now w in
    let show : Value ℕ → ℕ → Shown = shown_value W c.args.depth c.args.around.now in
    let none = sym c.listed_at.ensures ∙ ap option_copied c.in_default.is in
    c.names.invariant w ∙ ap (λ es. properties_left W show (codes "}") c.names.first es c.names.line)
    (listed_here c.args.properties.now c.args.names.now c.names.name-index c.name-item.result None c.names-test.true c.name-item.is none)

pub show_properties-returns-then-not-spend : goal.show_properties-returns-then-not-spend
show_properties-returns-then-not-spend t c = λ w.
    let W : World ℕ = over c.args.heap.now w in
    let show : Value ℕ → ℕ → Shown = shown_value W c.args.depth c.args.around.now in
    let some = sym c.listed_at.ensures ∙ ap option_copied c.in-Some.is in
    let here = listed_here c.args.properties.now c.args.names.now c.names.name-index c.name-item.result (Some c.in-Some.property.now) c.names-test.true c.name-item.is some in
    on_ok c.put_word-then-not-spend.result (λ e. e
    ∙ ap (more (codes "}")) (c.in_ok-put_word.ensures ∙ ap (λ text. more text c.spend.new.self) c.dots.ensures)
    ∙ sym (properties_stop_at W show (codes "}") c.names.first (listed_under c.args.properties.now (drop c.names.name-index c.args.names.now)) (listed_under c.args.properties.now (drop (c.names.name-index + 1) c.args.names.now))
    (c.name-item.result, c.in-Some.property.now) (properties_left W show (codes "}") true (listed_under c.args.properties.now c.args.names.now) c.args.line.now) c.names.line c.spend.new.self here c.if-not-spend.ensures (c.names.invariant w)))
    c.put_word-then-not-spend.ensures

pub show_properties-names-preserved : goal.show_properties-names-preserved
show_properties-names-preserved t c = λ w.
    let W : World ℕ = over c.args.heap.now w in
    let show : Value ℕ → ℕ → Shown = shown_value W c.args.depth c.args.around.now in
    let some = sym c.listed_at.ensures ∙ ap option_copied c.in-Some.is in
    let here = listed_here c.args.properties.now c.args.names.now c.names.name-index c.name-item.result (Some c.in-Some.property.now) c.names-test.true c.name-item.is some in
    properties_turn_at W show (codes "}") c.names.first (listed_under c.args.properties.now (drop c.names.name-index c.args.names.now)) (listed_under c.args.properties.now (drop (c.names.name-index + 1) c.args.names.now))
    (c.name-item.result, c.in-Some.property.now) (properties_left W show (codes "}") true (listed_under c.args.properties.now c.args.names.now) c.args.line.now) c.names.line c.spend.new.self c.show_property.new.line here c.if-not-spend.ensures
    (c.in_ok-show_property.ensures w ∙ ap (λ l. showing (shown_property W show c.in-Some.property.now l.left) l)
    (c.in_ok-put_word-3.ensures ∙ ap (more (codes ": ")) (c.in_ok-put_key.ensures ∙ ap (more (shown_key c.name-item.result)) (c.in_ok-put_word-2.ensures ∙ ap (λ text. more text c.spend.new.self) c.separator.ensures))))
    (c.names.invariant w)

pub show_properties-returns : goal.show_properties-returns
show_properties-returns t c = λ w.
    let W : World ℕ = over c.args.heap.now w in
    let show : Value ℕ → ℕ → Shown = shown_value W c.args.depth c.args.around.now in
    on_ok c.put_word-2.result (λ e. e
    ∙ sym (c.names.invariant w ∙ ap (λ names. properties_left W show (codes "}") c.names.first (listed_under c.args.properties.now names) c.names.line) (drop_all c.names.name-index c.args.names.now c.names-test.false)))
    c.put_word-2.ensures

pub show_value-returns-in-Ref : goal.show_value-returns-in-Ref
show_value-returns-in-Ref t c = λ w.
    let W : World ℕ = over c.args.heap.now w in
    on_ok c.show_location.result (λ e. e
    ∙ ap (λ s. showing s c.args.line.now) (sym (value_at W c.args.around.now c.in-Ref.loc c.args.depth c.args.line.now.left)
    ∙ sym (ap (λ v. shown_value W c.args.depth c.args.around.now v c.args.line.now.left) c.in-Ref.is))) (c.show_location.ensures w)
