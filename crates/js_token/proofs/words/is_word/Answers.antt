use Rattle.std.proofs.Common.{rules, tests, nat_eq}
use Rattle.std.specs.Cmp.Lexicographic.{pointwise}
use Rattle.std.proofs.lemmas.Iterator.{YieldsList-from_slice}
use Rattle.std.proofs.lemmas.Iterator.Search.{any_from_yields_List}
use Rattle.js_token.specs.Words.{is_word}
use Rattle.js_token.proofs.words.is_word.Goals as goal

pub returns : goal.returns
unfolding is_word
returns c =
    any_from_yields_List (λ w. pointwise nat_eq w.now c.args.units.now) _ _ _ c.any.ensures.ran (YieldsList-from_slice _ c.iter.ensures.rest) (λ x b q k. search (rules, tests))
