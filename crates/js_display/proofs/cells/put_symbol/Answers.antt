use Rattle.std.proofs.Common.{◌≡◌, ◌∙◌, ◌++◌, ap, codes}
use Rattle.js_display.specs.Line.{more}
use Rattle.js_display.proofs.Lines.{on_ok, more_thrice}
use Rattle.js_display.proofs.cells.put_symbol.Goals as goal

pub returns : goal.returns
returns c =
    let text = c.as_slice.result.now in
    on_ok c.put_word-2.result (λ e. e
    ∙ ap (more (codes ")")) (c.in_ok-put.ensures ∙ ap (more text) c.in_ok-put_word.ensures)
    ∙ more_thrice (codes "Symbol(") text (codes ")") c.args.line.now
    ∙ ap (λ t. more (codes "Symbol(" ++ (t ++ codes ")")) c.args.line.now) c.as_slice.ensures.value) c.put_word-2.ensures
