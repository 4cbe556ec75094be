use Rattle.std.proofs.Common.{◌≡◌, ◌∙◌, sym, ap, drop, []}
use Rattle.std.proofs.lemmas.List.{drop_all}
use Rattle.js_display.specs.Line.{more}
use Rattle.js_display.proofs.Lines.{letter_turn, more_none}
use Rattle.js_display.proofs.line.Line.put_word.Goals as goal

pub letters-preserved : goal.letters-preserved
letters-preserved c =
    letter_turn c.as_bytes-letter-items.result.now c.letters.letter-index c.from.result c.letters.self c.put.new.self (more c.as_bytes-letter-items.result.now c.args.self.now)
    c.letters-test.true c.from.ensures c.in_ok-put.ensures c.letters.invariant

pub returns : goal.returns
returns c =
    let rest = drop_all c.letters.letter-index c.as_bytes-letter-items.result.now c.letters-test.false in
    let all = sym (ap (λ xs. more xs c.letters.self) rest) ∙ c.letters.invariant ∙ ap (λ xs. more xs c.args.self.now) c.as_bytes-letter-items.ensures.value in
    sym c.self.view_is ∙ sym (more_none (record { text = c.self.inside.units.items; limit = c.self.inside.limit; left = c.self.inside.left }) c.self.invariant) ∙ ap (more []) c.self.view_is ∙ all
