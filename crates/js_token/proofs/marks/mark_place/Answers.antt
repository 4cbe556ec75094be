use Rattle.std.proofs.Common.{rules, tests, nat_eq}
use Rattle.std.specs.Cmp.Lexicographic.{pointwise}
use Rattle.std.proofs.lemmas.Iterator.{YieldsList-from_slice}
use Rattle.std.proofs.lemmas.Iterator.Search.{position_from_yields_List}
use Rattle.js_token.specs.Characters.{symbols}
use Rattle.js_token.specs.Marks.{mark_place}
use Rattle.js_token.proofs.marks.mark_place.Goals as goal

pub returns-clause-value : goal.returns-clause-value
unfolding mark_place
returns-clause-value c =
    position_from_yields_List (λ w. pointwise nat_eq (symbols c.args.chars.now) w.now) _ _ _ c.position.ensures.ran (YieldsList-from_slice _ c.iter.ensures.rest) (λ x b q k. search (rules, tests))
