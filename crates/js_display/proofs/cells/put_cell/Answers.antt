use Rattle.std.proofs.Common.{◌≡◌, ◌∙◌, ◌++◌, sym, ap, codes, decimal}
use Rattle.js_display.specs.Line.{more}
use Rattle.js_display.specs.Levels.{cell_text}
use Rattle.js_display.proofs.Lines.{on_ok}
use Rattle.js_display.proofs.Openings.{function_text}
use Rattle.js_display.proofs.cells.put_cell.Goals as goal

pub returns-in-Buffer : goal.returns-in-Buffer
returns-in-Buffer c =
    on_ok c.put_sized-in-Buffer.result (λ e. e
    ∙ ap (λ n. more (codes "ArrayBuffer(" ++ (decimal n ++ codes ")")) c.args.line.now) c.len-in-Buffer.ensures
    ∙ ap (λ cell. more (cell_text cell) c.args.line.now) (sym c.in-Buffer.is)) c.put_sized-in-Buffer.ensures

pub returns-in-View : goal.returns-in-View
returns-in-View c = on_ok c.put_sized-in-View.result (λ e. e ∙ ap (λ cell. more (cell_text cell) c.args.line.now) (sym c.in-View.is)) c.put_sized-in-View.ensures

pub returns-in-Closure : goal.returns-in-Closure
returns-in-Closure c = on_ok c.put_word-in-Closure.result (λ e. e ∙ ap (λ text. more text c.args.line.now) (sym (function_text c.args.cell.now c.in-Closure.is))) c.put_word-in-Closure.ensures
