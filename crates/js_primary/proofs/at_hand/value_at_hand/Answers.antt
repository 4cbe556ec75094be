use Rattle.std.proofs.Common.{refl}
use Rattle.std.specs.Prelude.{Some}
use Rattle.world_heap.specs.declared.value.Value.TheVariants.{Str}
use Rattle.js_primary.specs.AtHand.{at_hand}
use Rattle.js_primary.proofs.Numbers.{literal_fits}
use Rattle.js_primary.proofs.Evaluating.{known_fits, known_ok}
use Rattle.js_primary.proofs.at_hand.value_at_hand.Goals as goal

pub returns-in-Name-clause-is : goal.returns-in-Name-clause-is
unfolding at_hand
returns-in-Name-clause-is c nodes supply = rw c.in-Name.is (c.bound.ensures.is nodes supply)

pub returns-in-Num-clause-is : goal.returns-in-Num-clause-is
unfolding at_hand
returns-in-Num-clause-is c nodes supply = rw (c.in-Num.is, c.number_value.ensures) refl

pub returns-in-Str-clause-is : goal.returns-in-Str-clause-is
unfolding at_hand
returns-in-Str-clause-is c nodes supply = rw c.in-Str.is (known_ok (Some (Str c.in-Str.text)) _ c.text_value.result refl c.text_value.ensures)

pub returns-in-Bool-clause-is : goal.returns-in-Bool-clause-is
unfolding at_hand
returns-in-Bool-clause-is c nodes supply = rw c.in-Bool.is refl

pub returns-in-Null-clause-is : goal.returns-in-Null-clause-is
unfolding at_hand
returns-in-Null-clause-is c nodes supply = rw c.in-Null.is refl

pub returns-in-This-clause-is : goal.returns-in-This-clause-is
unfolding at_hand
returns-in-This-clause-is c nodes supply = rw c.in-This.is (known_ok (Some c.args.scope.now.receiver) _ c.copied.result refl c.copied.ensures)

pub returns-in-Name-clause-closed : goal.returns-in-Name-clause-closed
returns-in-Name-clause-closed c nodes closed scope = c.bound.ensures.closed nodes closed

pub returns-in-Num-clause-closed : goal.returns-in-Num-clause-closed
returns-in-Num-clause-closed c nodes closed scope = literal_fits c.args.state.now.heap.cells _ c.in-Num.number c.number_value.ensures

pub returns-in-Str-clause-closed : goal.returns-in-Str-clause-closed
returns-in-Str-clause-closed c nodes closed scope = known_fits c.args.state.now.heap.cells (Some (Str c.in-Str.text)) c.text_value.result tt c.text_value.ensures

pub returns-in-Bool-clause-closed : goal.returns-in-Bool-clause-closed
returns-in-Bool-clause-closed c nodes closed scope = tt

pub returns-in-Null-clause-closed : goal.returns-in-Null-clause-closed
returns-in-Null-clause-closed c nodes closed scope = tt

pub returns-in-This-clause-closed : goal.returns-in-This-clause-closed
returns-in-This-clause-closed c nodes closed scope = known_fits c.args.state.now.heap.cells (Some c.args.scope.now.receiver) c.copied.result scope.1 c.copied.ensures
