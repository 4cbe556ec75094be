use Rattle.std.proofs.Common.{◌≡◌, ◌∙◌, ◌++◌, [], Some, sym, ap, codes}
use Rattle.world_heap.specs.declared.value.Property.TheVariants.{Data}
use Rattle.js_semantics.specs.Display.{message_text}
use Rattle.js_display.specs.Line.{more}
use Rattle.js_display.proofs.Lines.{on_ok, more_twice}
use Rattle.js_display.proofs.Openings.{message_some, never}
use Rattle.js_display.proofs.cells.put_text.Goals as goal

pub returns-in_ok-put_word-in-Str : goal.returns-in_ok-put_word-in-Str
returns-in_ok-put_word-in-Str c = λ w e d.
    let slice = c.as_slice.result.now in
    on_ok c.put.result (λ q. q
    ∙ ap (more slice) c.in_ok-put_word-in-Str.ensures ∙ more_twice (codes ": ") slice c.args.line.now
    ∙ ap (λ t. more (codes ": " ++ t) c.args.line.now) c.as_slice.ensures.value
    ∙ ap (λ t. more t c.args.line.now) (sym (message_some c.in-Str.text w e d (λ n. never (c.if-is_empty.ensures.1 n))) ∙ sym (ap (λ v. message_text (Some (Data v w e d))) c.in-Str.is))) c.put.ensures
