use Rattle.std.proofs.Common.{◌≡◌, ◌∙◌, Err, ap, sym, arith}
use Rattle.js_parse.specs.Nesting.{part_at}
use Rattle.js_parse.proofs.Turns.{deeper}
use Rattle.js_parse.proofs.grammar.+part_of.Goals as goal

pub returns-then-depth-eq0 : goal.returns-then-depth-eq0
unfolding part_at
returns-then-depth-eq0 t c some = let none : c.args.depth ≡ 0 = omega arith in ap (λ n. part_at n c.args.part c.args.reader.now) none ∙ ap Err (sym c.too_deep.ensures)

pub returns : goal.returns
unfolding part_at
returns t c = rw (deeper (λ n. part_at n c.args.part c.args.reader.now) c.args.depth (omega arith)) c.level.ensures
