use Rattle.std.proofs.Common.{◌≡◌, ◌∙◌, ℕ, List, true, length, drop, sym, ap, refl}
use Rattle.js_semantics.specs.World.{World, over}
use Rattle.js_semantics.specs.Display.{display}
use Rattle.js_display.specs.Line.{more}
use Rattle.js_display.proofs.Lines.{eqb_true}
use Rattle.js_display.proofs.Arguments.{arguments_left, argument_turn, argument_limit, argument_fits, arguments_full, arguments_end}
use Rattle.js_display.proofs.shown.show_all.Goals as goal

pub arguments-init : goal.arguments-init
arguments-init c = λ w. (c.requires, refl, refl)

pub arguments-preserved : goal.arguments-preserved
arguments-preserved c = λ w.
    let W : World ℕ = over c.args.heap.now w in
    let first = c.arguments.first in
    let all : List ℕ = arguments_left W true c.args.arguments.now c.args.line.now in
    let said = c.in_ok-show_argument.ensures w in
    let spaced = c.in_ok-put_word.ensures ∙ ap (λ text. more text c.arguments.line) c.space.ensures in (
      argument_fits W (display W c.argument-item.result) c.put_word.new.self c.show_argument.new.line said,
      argument_limit W first c.argument-item.result c.args.line.now.limit c.arguments.line c.put_word.new.self c.show_argument.new.line spaced said (c.arguments.invariant w).1,
      argument_turn W first c.args.arguments.now c.arguments.argument-index c.argument-item.result all c.arguments.line c.put_word.new.self c.show_argument.new.line c.arguments-test.true c.argument-item.is
          spaced said (c.arguments.invariant w).2,
    )

pub returns-then-is_full : goal.returns-then-is_full
returns-then-is_full c = λ w.
    let W : World ℕ = over c.args.heap.now w in
    let all : List ℕ = arguments_left W true c.args.arguments.now c.args.line.now in (
      (c.arguments.invariant w).1,
      arguments_full W c.arguments.first (drop c.arguments.argument-index c.args.arguments.now) all c.arguments.line (eqb_true (length c.arguments.line.text) c.arguments.line.limit (sym c.if-is_full.ensures)) (c.arguments.invariant w).2,
    )

pub returns : goal.returns
returns c = λ w.
    let W : World ℕ = over c.args.heap.now w in
    let all : List ℕ = arguments_left W true c.args.arguments.now c.args.line.now in (
      (c.arguments.invariant w).1,
      arguments_end W c.arguments.first c.args.arguments.now c.arguments.argument-index all c.arguments.line (c.arguments.invariant w).0 c.arguments-test.false (c.arguments.invariant w).2,
    )
