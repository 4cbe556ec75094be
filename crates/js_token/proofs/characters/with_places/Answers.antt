use Rattle.std.proofs.Common.{◌++◌, length, arith, append_assoc, length-append, ap, ◌∙◌, sym}
use Rattle.std.proofs.lemmas.List.{append-nil}
use Rattle.std.proofs.lemmas.Str.{IsUtf8-past_char}
use Rattle.js_token.proofs.Places.{with_places-past_char, with_places-empty}
use Rattle.js_token.proofs.characters.with_places.Goals as goal

pub text-preserved : goal.text-preserved
text-preserved c =
    let step = with_places-past_char c.text.place _ _ _ c.text.invariant.utf8 c.in-Some.ensures.steps.0 in
    record {
      size = omega (arith, simp length-append at (ap length c.in_ok-push.ensures.items), c.text.invariant.size, c.len_utf8.ensures.lower_bound);
      place = omega (arith, simp length-append at (ap length c.in-Some.ensures.steps.0), c.len_utf8.ensures.len, c.text.invariant.place);
      utf8 = IsUtf8-past_char _ _ _ c.text.invariant.utf8 c.in-Some.ensures.steps.0;
      all = rw (c.in_ok-push.ensures.items, c.len_utf8.ensures.value, append_assoc) (c.text.invariant.all ∙ ap (λ x. c.text.list.items ++ x) step);
    }

pub returns-clause-value : goal.returns-clause-value
returns-clause-value c =
    let empty = with_places-empty c.text.place _ c.in-None.ensures.steps.0.0 in
    sym (c.text.invariant.all ∙ ap (λ x. c.text.list.items ++ x) empty ∙ append-nil _)
