use Rattle.std.proofs.Common.{◌≡◌, ◌∙◌, true, false, sym}
use Rattle.std.specs.List.{list_any}
use Rattle.js_semantics.specs.Alone.{alone}
use Rattle.world_kind.specs.declared.WorldKind.TheVariants.{Main}
use Rattle.app_engine.specs.Log.{first_load, is_stop}
use Rattle.app_engine.specs.Machines.{world_setting}
use Rattle.app_engine.specs.Applications.{main_lines}
use Rattle.app_engine.proofs.Owing.{main_ended, main_lives}
use Rattle.app_engine.proofs.player.play_main.Goals as goal

pub returns-in-Err-clause-front : goal.returns-in-Err-clause-front
unfolding main_lines
returns-in-Err-clause-front g c = rw c.main_of-main.ensures at c.load.ensures.front

pub end_last-requires : goal.end_last-requires
end_last-requires g c = (c.requires.keeps.0, _, c.in-Ok.ensures.keeps c.requires.keeps.0 c.requires.keeps.1)

pub returns-then-stopped-clause-ok : goal.returns-then-stopped-clause-ok
unfolding main_lines
returns-then-stopped-clause-ok g c = rw c.main_of-main.ensures at c.in-Ok.ensures.ok

pub returns-then-stopped-clause-keeps : goal.returns-then-stopped-clause-keeps
returns-then-stopped-clause-keeps g c =
    let stops : true ≡ list_any is_stop (alone (world_setting Main c.args.limits c.args.script.now) first_load) = sym c.if-stopped.true ∙ (rw c.main_of-main.ensures at c.in-Ok.ensures.stopped) in
    λ owed k. main_ended c.args.limits c.args.script.now owed _ stops (c.end_last.ensures.keeps owed _ (c.in-Ok.ensures.keeps owed k))

pub returns-then-stopped-clause-front : goal.returns-then-stopped-clause-front
unfolding main_lines
returns-then-stopped-clause-front g c = rw c.main_of-main.ensures at c.load.ensures.front

pub returns-clause-ok : goal.returns-clause-ok
unfolding main_lines
returns-clause-ok g c = rw c.main_of-main.ensures at c.in-Ok.ensures.ok

pub returns-clause-keeps : goal.returns-clause-keeps
returns-clause-keeps g c =
    let goes : false ≡ list_any is_stop (alone (world_setting Main c.args.limits c.args.script.now) first_load) = sym c.if-stopped.false ∙ (rw c.main_of-main.ensures at c.in-Ok.ensures.stopped) in
    λ owed k. main_lives c.args.limits c.args.script.now owed _ goes (rw c.main_of-main.ensures at c.in-Ok.ensures.keeps owed k)

pub returns-clause-front : goal.returns-clause-front
unfolding main_lines
returns-clause-front g c = rw c.main_of-main.ensures at c.load.ensures.front
