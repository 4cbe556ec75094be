use Rattle.std.proofs.Common.{◌≡◌, ◌∙◌, true, false, refl, sym}
use Rattle.std.specs.List.{list_any}
use Rattle.js_semantics.specs.Alone.{alone}
use Rattle.world_kind.specs.declared.WorldKind.TheVariants.{Preload, Page}
use Rattle.app_engine.specs.Log.{first_load, is_stop}
use Rattle.app_engine.specs.Machines.{world_setting}
use Rattle.app_engine.proofs.Owing.{page_ended, preload_ended, window_lives}
use Rattle.app_engine.proofs.Pieces.{both_pieces, front_after, front_in, one_piece, window_is}
use Rattle.app_engine.proofs.player.play_window.Goals as goal

pub returns-in-Err-clause-front : goal.returns-in-Err-clause-front
returns-in-Err-clause-front g c =
    front_in _ _ _ _ _ (window_is c.args.limits c.args.number c.args.window.now _ refl) (rw c.preload_of-preload.ensures at c.load.ensures.front)

pub end_last-requires : goal.end_last-requires
end_last-requires g c = (c.requires.keeps.0, _, c.in-Ok.ensures.keeps c.requires.keeps.0 c.requires.keeps.1)

pub returns-then-preload_stopped-clause-ok : goal.returns-then-preload_stopped-clause-ok
returns-then-preload_stopped-clause-ok g c =
    let stops : true ≡ list_any is_stop (alone (world_setting Preload c.args.limits c.args.window.now.preload.tree) first_load) = sym c.if-preload_stopped.true ∙ (rw c.preload_of-preload.ensures at c.in-Ok.ensures.stopped) in
    one_piece _ _ _ _ (window_is c.args.limits c.args.number c.args.window.now true stops) (rw c.preload_of-preload.ensures at c.in-Ok.ensures.ok)

pub returns-then-preload_stopped-clause-keeps : goal.returns-then-preload_stopped-clause-keeps
returns-then-preload_stopped-clause-keeps g c =
    let stops : true ≡ list_any is_stop (alone (world_setting Preload c.args.limits c.args.window.now.preload.tree) first_load) = sym c.if-preload_stopped.true ∙ (rw c.preload_of-preload.ensures at c.in-Ok.ensures.stopped) in
    λ owed k. preload_ended c.args.limits c.args.number c.args.window.now owed _ stops (c.end_last.ensures.keeps owed _ (c.in-Ok.ensures.keeps owed k))

pub returns-then-preload_stopped-clause-front : goal.returns-then-preload_stopped-clause-front
returns-then-preload_stopped-clause-front g c =
    front_in _ _ _ _ _ (window_is c.args.limits c.args.number c.args.window.now _ refl) (rw c.preload_of-preload.ensures at c.load.ensures.front)

pub returns-in-Err-load-clause-front : goal.returns-in-Err-load-clause-front
returns-in-Err-load-clause-front g c =
    let goes : false ≡ list_any is_stop (alone (world_setting Preload c.args.limits c.args.window.now.preload.tree) first_load) = sym c.if-preload_stopped.false ∙ (rw c.preload_of-preload.ensures at c.in-Ok.ensures.stopped) in
    front_after _ _ _ _ _ _ (window_is c.args.limits c.args.number c.args.window.now false goes) (rw c.preload_of-preload.ensures at c.in-Ok.ensures.ok) (rw c.page_of-page.ensures at c.load-2.ensures.front)

pub end_last-requires-then-page_stopped : goal.end_last-requires-then-page_stopped
end_last-requires-then-page_stopped g c = (_, _, c.in-Ok-load.ensures.keeps _ (c.in-Ok.ensures.keeps c.requires.keeps.0 c.requires.keeps.1))

pub end_last-requires-then-page_stopped-2 : goal.end_last-requires-then-page_stopped-2
end_last-requires-then-page_stopped-2 g c =
    (_, _, c.end_last-then-page_stopped.ensures.keeps _ _ (c.in-Ok-load.ensures.keeps _ (c.in-Ok.ensures.keeps c.requires.keeps.0 c.requires.keeps.1)))

pub returns-then-page_stopped-clause-ok : goal.returns-then-page_stopped-clause-ok
returns-then-page_stopped-clause-ok g c =
    let goes : false ≡ list_any is_stop (alone (world_setting Preload c.args.limits c.args.window.now.preload.tree) first_load) = sym c.if-preload_stopped.false ∙ (rw c.preload_of-preload.ensures at c.in-Ok.ensures.stopped) in
    both_pieces _ _ _ _ _ _ (window_is c.args.limits c.args.number c.args.window.now false goes) (rw c.preload_of-preload.ensures at c.in-Ok.ensures.ok) (rw c.page_of-page.ensures at c.in-Ok-load.ensures.ok)

pub returns-then-page_stopped-clause-keeps : goal.returns-then-page_stopped-clause-keeps
returns-then-page_stopped-clause-keeps g c =
    let goes : false ≡ list_any is_stop (alone (world_setting Preload c.args.limits c.args.window.now.preload.tree) first_load) = sym c.if-preload_stopped.false ∙ (rw c.preload_of-preload.ensures at c.in-Ok.ensures.stopped) in
    let stops : true ≡ list_any is_stop (alone (world_setting Page c.args.limits c.args.window.now.page.tree) first_load) = sym c.if-page_stopped.true ∙ (rw c.page_of-page.ensures at c.in-Ok-load.ensures.stopped) in
    λ owed k. page_ended c.args.limits c.args.number c.args.window.now owed _ goes stops
    (c.end_last-then-page_stopped-2.ensures.keeps owed _ (c.end_last-then-page_stopped.ensures.keeps _ _ (c.in-Ok-load.ensures.keeps _ (c.in-Ok.ensures.keeps owed k))))

pub returns-then-page_stopped-clause-front : goal.returns-then-page_stopped-clause-front
returns-then-page_stopped-clause-front g c =
    let goes : false ≡ list_any is_stop (alone (world_setting Preload c.args.limits c.args.window.now.preload.tree) first_load) = sym c.if-preload_stopped.false ∙ (rw c.preload_of-preload.ensures at c.in-Ok.ensures.stopped) in
    front_after _ _ _ _ _ _ (window_is c.args.limits c.args.number c.args.window.now false goes) (rw c.preload_of-preload.ensures at c.in-Ok.ensures.ok) (rw c.page_of-page.ensures at c.load-2.ensures.front)

pub returns-clause-ok : goal.returns-clause-ok
returns-clause-ok g c =
    let goes : false ≡ list_any is_stop (alone (world_setting Preload c.args.limits c.args.window.now.preload.tree) first_load) = sym c.if-preload_stopped.false ∙ (rw c.preload_of-preload.ensures at c.in-Ok.ensures.stopped) in
    both_pieces _ _ _ _ _ _ (window_is c.args.limits c.args.number c.args.window.now false goes) (rw c.preload_of-preload.ensures at c.in-Ok.ensures.ok) (rw c.page_of-page.ensures at c.in-Ok-load.ensures.ok)

pub returns-clause-keeps : goal.returns-clause-keeps
returns-clause-keeps g c =
    let goes : false ≡ list_any is_stop (alone (world_setting Preload c.args.limits c.args.window.now.preload.tree) first_load) = sym c.if-preload_stopped.false ∙ (rw c.preload_of-preload.ensures at c.in-Ok.ensures.stopped) in
    let rests : false ≡ list_any is_stop (alone (world_setting Page c.args.limits c.args.window.now.page.tree) first_load) = sym c.if-page_stopped.false ∙ (rw c.page_of-page.ensures at c.in-Ok-load.ensures.stopped) in
    λ owed k. window_lives c.args.limits c.args.number c.args.window.now owed _ goes rests
    (rw c.page_of-page.ensures at c.in-Ok-load.ensures.keeps _ (rw c.preload_of-preload.ensures at c.in-Ok.ensures.keeps owed k))

pub returns-clause-front : goal.returns-clause-front
returns-clause-front g c =
    let goes : false ≡ list_any is_stop (alone (world_setting Preload c.args.limits c.args.window.now.preload.tree) first_load) = sym c.if-preload_stopped.false ∙ (rw c.preload_of-preload.ensures at c.in-Ok.ensures.stopped) in
    front_after _ _ _ _ _ _ (window_is c.args.limits c.args.number c.args.window.now false goes) (rw c.preload_of-preload.ensures at c.in-Ok.ensures.ok) (rw c.page_of-page.ensures at c.load-2.ensures.front)
