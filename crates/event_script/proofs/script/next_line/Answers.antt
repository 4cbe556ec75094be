use Rattle.std.proofs.Common.{◌≡◌, ◌+◌, ◌<◌, ◌∷◌, ◌∙◌, ap, sym, length, take, drop, length-take, length-drop, arith}
use Rattle.std.proofs.lemmas.List.{take_rest}
use Rattle.std.specs.Str.Lines.{lines, strip_carriage_return}
use Rattle.event_script.proofs.Cuts.{line_before, line_alone, line_within, length-strip, some_bytes}
use Rattle.event_script.proofs.script.next_line.Goals as goal

pub returns-in-Some : goal.returns-in-Some
returns-in-Some c =
    let bytes = c.args.bytes.now in
    let at = c.in-Some.at in
    let rest = take_rest bytes (at + 1) in
    let cut = line_before bytes at c.in-Some.ensures in
    let within = line_within bytes at c.in-Some.ensures in
    let front = length-strip (take at bytes) in
    let line : length c.without_return.result.now ≡ length (strip_carriage_return (take at bytes)) = ap length c.without_return.ensures in
    let first = length-take at bytes in
    let back = ap length rest ∙ length-drop (at + 1) bytes in (
      cut ∙ (ap (λ x. x ∷ lines (drop (at + 1) bytes)) (sym c.without_return.ensures) ∙ ap (λ x. c.without_return.result.now ∷ lines x) (sym rest)),
      omega arith,
      omega arith,
    )

pub returns-in-None : goal.returns-in-None
returns-in-None c =
    let some : 0 < length c.args.bytes.now = some_bytes (length c.args.bytes.now) _ c.is_empty.ensures c.if-is_empty.false in
    (line_alone c.args.bytes.now some c.in-None.ensures, omega arith, some)
