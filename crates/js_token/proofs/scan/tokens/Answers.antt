use Rattle.std.proofs.Common.{◌∙◌, ap, arith, length}
use Rattle.js_token.proofs.Checked.{tokens_of-checked}
use Rattle.js_token.proofs.scan.tokens.Goals as goal

pub with_places-requires : goal.with_places-requires
with_places-requires c = omega (arith, ap length c.in_ok-text.ensures.same)

pub overflow_cast-text : goal.overflow_cast-text
overflow_cast-text c = omega (arith, ap length c.in_ok-text.ensures.same)

pub tokens_in-requires : goal.tokens_in-requires
tokens_in-requires c = omega (arith, ap length c.in_ok-text.ensures.same, c.in_ok-chars.ensures.size, ap length c.as_slice.ensures.value)

pub returns : goal.returns
returns c =
    rw (tokens_of-checked c.args.text.now c.in_ok-text.text.now c.as_slice.result.now c.in_ok-text.ensures.exact (c.as_slice.ensures.value ∙ c.in_ok-chars.ensures.value)) c.tokens_in.ensures
