use Rattle.std.proofs.Common.{refl}
use Rattle.js_iterate.proofs.Walks.{value_text, value_refused}
use Rattle.js_iterate.proofs.walking.walk_value.Goals as goal

pub returns-in-Ref-clause-does : goal.returns-in-Ref-clause-does
returns-in-Ref-clause-does c nodes = rw c.in-Ref.is (c.walk_loc.ensures.does nodes)

pub returns-in-Str-clause-does : goal.returns-in-Str-clause-does
returns-in-Str-clause-does c nodes = value_text nodes c.args.value.now _ _ c.args.state.now c.walk_text.new.state c.walk_text.result c.in-Str.is refl (c.walk_text.ensures.does nodes)

pub returns-in_default-clause-does : goal.returns-in_default-clause-does
returns-in_default-clause-does c nodes = value_refused nodes c.args.value.now c.args.state.now c.refuse.new.state c.refuse.result (λ loc e. c.in_default.not-Ref loc e) (λ text e. c.in_default.not-Str text e) (c.refuse.ensures.does nodes)

pub returns-in-Ref-clause-closed : goal.returns-in-Ref-clause-closed
returns-in-Ref-clause-closed c nodes closed fit =
    c.walk_loc.ensures.closed nodes closed (rw c.in-Ref.is at fit)

pub returns-in-Str-clause-closed : goal.returns-in-Str-clause-closed
returns-in-Str-clause-closed c nodes closed fit =
    c.walk_text.ensures.closed nodes closed

pub returns-in_default-clause-closed : goal.returns-in_default-clause-closed
returns-in_default-clause-closed c nodes closed fit =
    c.refuse.ensures.closed nodes closed
