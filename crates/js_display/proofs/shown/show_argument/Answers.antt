use Rattle.std.proofs.Common.{◌≡◌, ◌∙◌, ℕ, [], ◌++◌, take, sym, ap}
use Rattle.js_semantics.specs.World.{World, over}
use Rattle.js_semantics.specs.Display.{display, shown_value}
use Rattle.js_display.specs.Line.{Says}
use Rattle.js_display.proofs.Lines.{on_ok}
use Rattle.js_display.proofs.Arguments.{says_shown, display_other}
use Rattle.js_display.proofs.shown.show_argument.Goals as goal

pub returns-in-Str : goal.returns-in-Str
unfolding display
returns-in-Str c = λ w.
    let text = c.as_slice.result.now in
    on_ok c.put.result (λ e.
    let said = says_shown (λ n. record { text = text; left = n }) 200 c.args.line.now c.allow.new.self c.put.new.self c.allow.ensures e in
    (said.0, said.1 ∙ ap (λ t. take c.args.line.now.limit (c.args.line.now.text ++ t)) (c.as_slice.ensures.value ∙ sym (ap (display (over c.args.heap.now w)) c.in-Str.is)))) c.put.ensures

pub returns-in_default : goal.returns-in_default
returns-in_default c = λ w.
    let W : World ℕ = over c.args.heap.now w in
    on_ok c.show_value.result (λ e.
    let said = says_shown (shown_value W 2 [] c.args.argument.now) 200 c.args.line.now c.allow.new.self c.show_value.new.line c.allow.ensures e in
    (said.0, said.1 ∙ ap (λ t. take c.args.line.now.limit (c.args.line.now.text ++ t)) (sym (display_other W c.args.argument.now c.in_default.not-Str)))) (c.show_value.ensures w)
