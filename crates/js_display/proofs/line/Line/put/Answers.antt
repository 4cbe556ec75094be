use Rattle.std.proofs.Common.{◌≡◌, ◌∙◌, ◌++◌, length, take, sym, ap, arith, ℕ, List, min, ◌-◌}
use Rattle.js_display.specs.Line.{more}
use Rattle.js_display.proofs.Lines.{put_taken}
use Rattle.js_display.proofs.line.Line.put.Goals as goal

pub returns : goal.returns
returns c =
    let text : List ℕ = c.self.inside.units.items in
    let limit : ℕ = c.self.inside.limit in
    let count : c.min-count.result ≡ min (length c.args.units.now) (limit - length text) = c.min-count.ensures ∙ ap (λ n. min (length c.args.units.now) (limit - n)) (omega (arith, c.len.ensures, c.self.inside.units.ok.0)) in
    let new : c.extend_from_slice.new.self.items ≡ take limit (text ++ c.args.units.now) =
    c.in_ok-extend_from_slice.ensures.items ∙ ap (λ n. text ++ take n c.args.units.now) count ∙ sym (put_taken limit text c.args.units.now c.self.invariant) in
    (λ i. record { text = new i; limit = limit; left = c.self.inside.left }) ∙ ap (more c.args.units.now) c.self.view_is
