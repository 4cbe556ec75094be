use Rattle.js_step_stmt.proofs.turns.for_body_end.Goals as goal

pub returns-in-Normal-clause-does : goal.returns-in-Normal-clause-does
returns-in-Normal-clause-does c nodes = rw c.in-Normal.is (c.copied_turn.ensures.does nodes)

pub returns-in-Continue-clause-does : goal.returns-in-Continue-clause-does
returns-in-Continue-clause-does c nodes = rw c.in-Continue.is (c.copied_turn-in-Continue.ensures.does nodes)

pub returns-in-Normal-clause-closed : goal.returns-in-Normal-clause-closed
returns-in-Normal-clause-closed c nodes closed scope outcome = c.copied_turn.ensures.closed nodes closed scope

pub returns-in-Continue-clause-closed : goal.returns-in-Continue-clause-closed
returns-in-Continue-clause-closed c nodes closed scope outcome = c.copied_turn-in-Continue.ensures.closed nodes closed scope

pub returns-in-Break-clause-closed : goal.returns-in-Break-clause-closed
returns-in-Break-clause-closed c nodes closed scope outcome = c.done.ensures.closed nodes closed

pub returns-in-Return-clause-closed : goal.returns-in-Return-clause-closed
returns-in-Return-clause-closed c nodes closed scope outcome = c.give.ensures.closed nodes closed (rw c.in-Return.is at outcome)

pub returns-in-Thrown-clause-closed : goal.returns-in-Thrown-clause-closed
returns-in-Thrown-clause-closed c nodes closed scope outcome = c.give-in-Thrown.ensures.closed nodes closed (rw c.in-Thrown.is at outcome)
