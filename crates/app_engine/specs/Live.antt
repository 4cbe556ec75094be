-- The worlds that live, and what is still to come from each.
use Rattle.std.specs.Prelude.{◌≡◌, ℕ, ◌+◌, List, [], ◌∷◌, ◌++◌, length, drop, map, filter, Bool, not, if◌then◌else◌}
use Rattle.std.specs.List.{list_any}
use Rattle.world_kind.specs.declared.WorldKind.TheVariants.{Main, Preload, Page}
use Rattle.world_heap.specs.declared.limits.Limits.{Limits}
use Rattle.world_heap.specs.Over.{ListOver}
use Rattle.world_heap.specs.Views.{PoolView}
use Rattle.js_tree.specs.Nodes.{Nodes}
use Rattle.world_log.specs.Print.{main_name}
use Rattle.world_log.specs.declared.entry.Entry.{Entry}
use Rattle.world_log.specs.declared.entry.LogItem.{LogItem}
use Rattle.world_log.specs.declared.entry.WorldName.{WorldName}
use Rattle.js_semantics.specs.Run.{Arrival, Setting}
use Rattle.js_semantics.specs.Alone.{alone}
use Rattle.world_machine.specs.World.{IsComing, IsIn, owner_of}
use Rattle.world_machine.specs.declared.world.World.{World}
use Rattle.app_manifest.specs.declared.app.WindowApp.{WindowApp}
use Rattle.app_engine.specs.Log.{Application, Part, deliveries, first_load, has_ended, is_stop, page_name, preload_name, process_of, setting_of, worlds_of}
use Rattle.app_engine.specs.Machines.{world_setting}
use Rattle.app_engine.specs.declared.kept.Kept.{Kept}
use Rattle.app_engine.specs.declared.kept.LiveWorld.{LiveWorld}

-- the name of a world, and what is still to come from it for each list of further deliveries
abbrev pub Owed : Type 0
Owed = WorldName × (List Arrival → List Entry)

-- A world lives in the pool: it has the name, and this is still to come from it.
pub record Lives (pool : PoolView) (owed : Owed) (live : LiveWorld) : Type 0 where
  pub name : live.name ≡ owed.0
  pub stands : IsIn live.world pool
  pub comes : IsComing live.world pool owed.1

-- another seat in the pool
abbrev pub IsApart : LiveWorld → LiveWorld → Type 0
IsApart live another = owner_of live.world ≡ owner_of another.world → ⊥

-- These worlds live, each with a seat of its own.
abbrev pub Live : PoolView → List Owed → List LiveWorld → Type 0
Live pool [] [] = Unit {0}
Live pool [] (live ∷ lives) = ⊥
Live pool (owed ∷ more) [] = ⊥
Live pool (owed ∷ more) (live ∷ lives) = Lives pool owed live × ListOver (IsApart live) lives × Live pool more lives

-- What is kept are these worlds, and the pool has no cells but theirs.
pub record Keeps (owed : List Owed) (kept : Kept) : Type 0 where
  pub live : Live kept.pool owed kept.live
  pub count : length kept.pool.maps ≡ length kept.live

-- A new world joins the pool: this is still to come from it, and the other worlds stay as they were.
pub record Joins (coming : List Arrival → List Entry) (before : PoolView) (world : World) (after : PoolView) : Type 0 where
  pub stands : IsIn world after
  pub comes : IsComing world after coming
  pub apart : (w : World) → IsIn w before → owner_of w ≡ owner_of world → ⊥
  pub stay : (w : World) → IsIn w before → IsIn w after
  pub come : (w : World) (more : List Arrival → List Entry) → IsIn w before → IsComing w before more → IsComing w after more
  pub given : after.given ≡ before.given + 1
  pub count : length after.maps ≡ length before.maps + 1

-- ---- of an application

-- what comes from a world behind its part of the log
unfoldable pub owed_behind : Application → List LogItem → WorldName → Owed
owed_behind app log w = (w, λ ds. drop (length (Part w log)) (alone (setting_of app w) (deliveries (Part w log) ++ ds)))

-- the worlds of an application whose process hasn't ended in the log
unfoldable pub lives_in : List LogItem → WorldName → Bool
lives_in log w = not (has_ended (process_of w) log)

unfoldable pub owed_in : Application → List LogItem → List Owed
owed_in app log = map (owed_behind app log) (filter (lives_in log) (worlds_of app))

-- ---- by recursion

-- what comes from a world behind its load
unfoldable pub behind_load : Setting → List Arrival → List Entry
behind_load setting ds = drop (length (alone setting first_load)) (alone setting (first_load ++ ds))

unfoldable pub main_owed : Limits → Nodes → List Owed
main_owed limits script = if list_any is_stop (alone (world_setting Main limits script) first_load) then [] else (main_name, behind_load (world_setting Main limits script)) ∷ []

-- where the page stops, its process ends, and the preload script's world with it
unfoldable pub window_owed : Limits → ℕ → WindowApp → List Owed
window_owed limits number window =
    if list_any is_stop (alone (world_setting Preload limits window.preload.tree) first_load) then [] else
    (if list_any is_stop (alone (world_setting Page limits window.page.tree) first_load) then [] else
    (preload_name number, behind_load (world_setting Preload limits window.preload.tree)) ∷ (page_name number, behind_load (world_setting Page limits window.page.tree)) ∷ [])

-- the windows that are numbered from here on
abbrev pub windows_owed : Limits → ℕ → List WindowApp → List Owed
windows_owed limits number [] = []
windows_owed limits number (window ∷ windows) = window_owed limits number window ++ windows_owed limits (number + 1) windows
