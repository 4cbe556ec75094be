use Rattle.std.proofs.Common.{drop, arith}
use Rattle.js_semantics.specs.Prog.{make_text}
use Rattle.js_semantics.specs.Iteration.{points_of, push_item, push_texts}
use Rattle.js_iterate.proofs.Turns.{points_past, points_turn, turn_more, turn_ended, turns_done}
use Rattle.std.proofs.lemmas.Result.{err_from_is_err_and}
use Rattle.js_machine.proofs.Closing.{goes_on, stays_closed}
use Rattle.js_machine.proofs.Doing.{moves_still}
use Rattle.js_iterate.proofs.filling.push_points.Goals as goal

pub returns-in-Some-clause-does : goal.returns-in-Some-clause-does
returns-in-Some-clause-does c nodes =
    turn_ended nodes (λ p. push_texts c.args.array (points_of c.args.text.now) p) (λ p. push_texts c.args.array (points_of (drop c.points.at c.args.text.now)) p) (λ p. make_text c.in_ok-point.point (λ v. push_item c.args.array v p)) (λ p. push_texts c.args.array (points_of (drop c.point_end-end.result c.args.text.now)) p) c.args.state.now c.points.state c.push_text.new.state (c.points.invariant.0 nodes) (λ p. points_turn c.args.array c.args.text.now c.in_ok-point.point c.points.at c.point_end-end.result p c.point_end-end.ensures c.in_ok-point.ensures) c.in-Some.next (rw c.in-Some.is at (c.in_ok-next.ensures.does nodes))

pub points-preserved : goal.points-preserved
points-preserved c = (
  λ nodes.
      turn_more nodes (λ p. push_texts c.args.array (points_of c.args.text.now) p) (λ p. push_texts c.args.array (points_of (drop c.points.at c.args.text.now)) p) (λ p. make_text c.in_ok-point.point (λ v. push_item c.args.array v p)) (λ p. push_texts c.args.array (points_of (drop c.point_end-end.result c.args.text.now)) p) c.args.state.now c.points.state c.push_text.new.state (c.points.invariant.0 nodes) (λ p. points_turn c.args.array c.args.text.now c.in_ok-point.point c.points.at c.point_end-end.result p c.point_end-end.ensures c.in_ok-point.ensures) (rw c.in_default.is at (c.in_ok-next.ensures.does nodes)),
  λ nodes closed unfrozen. let went = c.points.invariant.1 nodes closed unfrozen in
      goes_on nodes c.args.state.now c.points.state c.push_text.new.state went (c.in_ok-next.ensures.closed nodes went.closed (went.grows.open_array c.args.array unfrozen)),
)

pub returns-clause-does : goal.returns-clause-does
returns-clause-does c nodes =
    turns_done nodes (λ p. push_texts c.args.array (points_of c.args.text.now) p) (λ p. push_texts c.args.array (points_of (drop c.points.at c.args.text.now)) p) c.args.state.now c.points.state (c.points.invariant.0 nodes) (λ p. points_past c.args.array c.args.text.now c.points.at p (omega arith))

pub points-init : goal.points-init
points-init c =
    (λ nodes p. moves_still nodes (push_texts c.args.array (points_of c.args.text.now) p) c.args.state.now, λ nodes closed unfrozen. stays_closed nodes c.args.state.now closed)

pub returns-in_err-point-clause-closed : goal.returns-in_err-point-clause-closed
returns-in_err-point-clause-closed c nodes closed unfrozen =
    let p = err_from_is_err_and c.from_residual.result c.from_residual.ensures.1 in rw p.1 p.2

pub returns-in_err-next-clause-closed : goal.returns-in_err-next-clause-closed
returns-in_err-next-clause-closed c nodes closed unfrozen =
    let went = c.points.invariant.1 nodes closed unfrozen in
    let p = err_from_is_err_and c.from_residual-in_err-next.result c.from_residual-in_err-next.ensures.1 in rw (p.1, p.2) (c.in_err-next.ensures.closed nodes went.closed (went.grows.open_array c.args.array unfrozen))

pub returns-in-Some-clause-closed : goal.returns-in-Some-clause-closed
returns-in-Some-clause-closed c nodes closed unfrozen =
    let went = c.points.invariant.1 nodes closed unfrozen in
    goes_on nodes c.args.state.now c.points.state c.push_text.new.state went (c.in_ok-next.ensures.closed nodes went.closed (went.grows.open_array c.args.array unfrozen))

pub returns-clause-closed : goal.returns-clause-closed
returns-clause-closed c nodes closed unfrozen =
    c.points.invariant.1 nodes closed unfrozen
