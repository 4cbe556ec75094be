use Rattle.std.proofs.Common.{arith}
use Rattle.js_semantics.specs.Run.{Arrival}
use Rattle.app_engine.proofs.Tasks.{begins, fewer, front_in_delivery, front_in_line, front_at_end, goes_on, none_left, ran, stopped_at_end, written_all}
use Rattle.app_engine.proofs.running.run_task.Goals as goal

pub returns-in-Err-clause-front : goal.returns-in-Err-clause-front
returns-in-Err-clause-front g c =
    let d : Arrival = record { fresh = c.args.fresh; what = c.args.what } in
    front_in_delivery c.args.name d c.args.world.now c.args.pool _ c.requires.stands c.requires.awaited _ c.write_entry.ensures.front

pub returns-in-Err-begin-clause-front : goal.returns-in-Err-begin-clause-front
returns-in-Err-begin-clause-front g c =
    let d : Arrival = record { fresh = c.args.fresh; what = c.args.what } in
    front_in_delivery c.args.name d c.args.world.now c.args.pool _ c.requires.stands c.requires.awaited _ c.write_entry.ensures.front

pub lines-init : goal.lines-init
lines-init g c =
    let d : Arrival = record { fresh = c.args.fresh; what = c.args.what } in
    record {
      sofar = begins c.args.name d c.args.world.now c.args.pool _ _ _ _ _ c.in-Ok-begin.ensures c.in-Ok.ensures.ok;
      later = omega arith;
    }

pub advance-requires : goal.advance-requires
advance-requires g c = c.lines.invariant.sofar.passes.runs

pub lines-preserved : goal.lines-preserved
lines-preserved g c =
    let d : Arrival = record { fresh = c.args.fresh; what = c.args.what } in
    record {
      sofar = goes_on c.args.name d c.args.world.now c.args.pool _ _ _ _ _ _ c.lines.invariant.sofar c.in-Some.product c.in-Some.is _ _ _ _ _ c.in-Ok-advance.ensures.goes c.in-Ok-write_entry.ensures.ok c.stops_after-stopped.ensures;
      later = omega (arith, c.lines.invariant.later, c.in-Ok-write_entry.ensures.later);
    }

pub lines-smaller : goal.lines-smaller
lines-smaller g c = fewer _ _ c.in-Some.product _ _ c.in-Some.is c.in-Ok-advance.ensures.falls

pub returns-in-Err-write_entry-clause-front : goal.returns-in-Err-write_entry-clause-front
returns-in-Err-write_entry-clause-front g c =
    let d : Arrival = record { fresh = c.args.fresh; what = c.args.what } in
    front_in_line c.args.name d c.args.world.now c.args.pool _ _ _ _ _ _ c.lines.invariant.sofar c.in-Some.product c.in-Some.is _ c.write_entry-in-Some.ensures.front

pub returns-in-Err-advance-clause-front : goal.returns-in-Err-advance-clause-front
returns-in-Err-advance-clause-front g c =
    let d : Arrival = record { fresh = c.args.fresh; what = c.args.what } in
    front_in_line c.args.name d c.args.world.now c.args.pool _ _ _ _ _ _ c.lines.invariant.sofar c.in-Some.product c.in-Some.is _ c.write_entry-in-Some.ensures.front

pub returns-clause-ran : goal.returns-clause-ran
returns-clause-ran g c =
    let d : Arrival = record { fresh = c.args.fresh; what = c.args.what } in
    ran c.args.name d c.args.world.now c.args.pool _ _ _ _ _ _ c.lines.invariant.sofar (none_left c.lines.made c.in_default.not-Some)

pub returns-clause-ok : goal.returns-clause-ok
returns-clause-ok g c =
    let d : Arrival = record { fresh = c.args.fresh; what = c.args.what } in
    written_all c.args.name d c.args.world.now c.args.pool _ _ _ _ _ _ c.lines.invariant.sofar (none_left c.lines.made c.in_default.not-Some)

pub returns-clause-stopped : goal.returns-clause-stopped
returns-clause-stopped g c =
    let d : Arrival = record { fresh = c.args.fresh; what = c.args.what } in
    stopped_at_end c.args.name d c.args.world.now c.args.pool _ _ _ _ _ _ c.lines.invariant.sofar (none_left c.lines.made c.in_default.not-Some)

pub returns-clause-front : goal.returns-clause-front
returns-clause-front g c =
    let d : Arrival = record { fresh = c.args.fresh; what = c.args.what } in
    front_at_end c.args.name d c.args.world.now c.args.pool _ _ _ _ _ _ c.lines.invariant.sofar (none_left c.lines.made c.in_default.not-Some)
