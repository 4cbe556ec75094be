use Rattle.std.proofs.Common.{◌≡◌, ◌∙◌, ◌++◌, ℕ, true, take, ap}
use Rattle.js_semantics.specs.World.{World, over}
use Rattle.js_display.specs.Levels.{joined}
use Rattle.js_display.proofs.Arguments.{line_is}
use Rattle.js_display.proofs.shown.line_of.Goals as goal

pub returns-in-Ok : goal.returns-in-Ok
returns-in-Ok c = λ w.
    let W : World ℕ = over c.args.heap.now w in
    c.in-Ok.ensures.0 ∙ c.text.ensures ∙ (c.in_ok-show_all.ensures w).1
    ∙ ap (λ l. take l.limit (l.text ++ joined W true c.args.arguments.now)) c.new-line.ensures
    ∙ line_is W c.args.arguments.now
