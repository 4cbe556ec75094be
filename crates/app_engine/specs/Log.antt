-- The log of an application: what is delivered to each of its worlds and what each makes of it, in order. What comes next
-- is read off the log so far.
use Rattle.std.specs.Prelude.{◌≡◌, ℕ, ◌+◌, ◌-◌, List, [], ◌∷◌, ◌++◌, map, Option, Some, None, Bool, true, false, ◌&&◌, ◌||◌, nat_eq, slice_get, if◌then◌else◌}
use Rattle.std.specs.List.{flat_map, fold, list_any}
use Rattle.std.specs.Option.{option_map_or}
use Rattle.std.proofs.Common.{subst}
use Rattle.world_kind.specs.declared.WorldKind.{WorldKind}
use Rattle.world_kind.specs.declared.WorldKind.TheVariants.{Main, Preload, Page}
use Rattle.world_heap.specs.Views.{Bounds}
use Rattle.js_tree.specs.declared.node.Node.{Node}
use Rattle.world_log.specs.declared.entry.Delivery.TheVariants.{Load}
use Rattle.world_log.specs.declared.entry.Product.{Product as ProductType}
use Rattle.world_log.specs.declared.entry.Product.TheVariants.{Console, Uncaught, Rest, Stopped}
use Rattle.world_log.specs.declared.entry.Entry.{Entry}
use Rattle.world_log.specs.declared.entry.Entry.TheVariants.{Delivery, Product}
use Rattle.world_log.specs.declared.entry.LogItem.{LogItem}
use Rattle.world_log.specs.declared.entry.LogItem.TheVariants.{World}
use Rattle.world_log.specs.declared.entry.WorldName.{WorldName}
use Rattle.world_log.specs.Print.{main_name}
use Rattle.js_semantics.specs.Run.{Arrival, Setting}
use Rattle.js_semantics.specs.Alone.{alone}

-- ---- the application and its worlds

-- the scripts of a window
pub record WindowScripts : Type 0 where
  pub preload : List Node
  pub page : List Node

-- An application: the limits of its worlds, its main script, and the scripts of its windows, which are numbered from 1.
pub record Application : Type 0 where
  pub limits : Bounds
  pub main : List Node
  pub windows : List WindowScripts

-- a kind of world that a window has
abbrev pub IsOfWindow : WorldKind → Type 0
IsOfWindow Main = ⊥
IsOfWindow Preload = Unit {0}
IsOfWindow Page = Unit {0}

-- the worlds of a window, in its first generation
abbrev pub preload_name : ℕ → WorldName
preload_name window = record { kind = Preload; window = window; generation = 1; main_window = λ e. absurd (subst IsOfWindow e tt); main_generation = λ e. absurd (subst IsOfWindow e tt) }

abbrev pub page_name : ℕ → WorldName
page_name window = record { kind = Page; window = window; generation = 1; main_window = λ e. absurd (subst IsOfWindow e tt); main_generation = λ e. absurd (subst IsOfWindow e tt) }

abbrev pub same_kind : WorldKind → WorldKind → Bool
same_kind Main Main = true
same_kind Preload Preload = true
same_kind Page Page = true
same_kind kind another = false

-- whether two names are one
unfoldable pub same_world : WorldName → WorldName → Bool
same_world v w = same_kind v.kind w.kind && (nat_eq v.window w.window && nat_eq v.generation w.generation)

-- the process of a world, by the number of its window; that of main is 0
abbrev pub process_of : WorldName → ℕ
process_of w = w.window

-- the worlds of the windows, which are numbered from here on
abbrev pub window_worlds : ℕ → List WindowScripts → List WorldName
window_worlds number [] = []
window_worlds number (window ∷ windows) = preload_name number ∷ page_name number ∷ window_worlds (number + 1) windows

-- the worlds of an application in the order of their loads
unfoldable pub worlds_of : Application → List WorldName
worlds_of app = main_name ∷ window_worlds 1 app.windows

-- the script of a world
abbrev pub script_of : Application → WorldKind → ℕ → List Node
script_of app Main window = app.main
script_of app Preload window = option_map_or (λ scripts. scripts.preload) (slice_get app.windows (window - 1)) []
script_of app Page window = option_map_or (λ scripts. scripts.page) (slice_get app.windows (window - 1)) []

-- what a world is made of
unfoldable pub setting_of : Application → WorldName → Setting
setting_of app w = record { kind = w.kind; limits = app.limits; tree = script_of app w.kind w.window }

-- ---- what a log says

-- the entries of a world
abbrev pub kept_if : Bool → Entry → List Entry
kept_if true entry = entry ∷ []
kept_if false entry = []

abbrev pub entries_of : WorldName → LogItem → List Entry
entries_of w (World v entry) = kept_if (same_world w v) entry

unfoldable pub Part : WorldName → List LogItem → List Entry
Part w log = flat_map (entries_of w) log

-- the deliveries among entries
abbrev pub delivery_of : Entry → List Arrival
delivery_of (Delivery fresh what) = record { fresh = fresh; what = what } ∷ []
delivery_of (Product what) = []

unfoldable pub deliveries : List Entry → List Arrival
deliveries entries = flat_map delivery_of entries

-- whether a world was loaded
abbrev pub is_load : Entry → Bool
is_load (Delivery fresh Load) = true
is_load (Product what) = false

abbrev pub loads : WorldName → LogItem → Bool
loads w (World v entry) = same_world w v && is_load entry

unfoldable pub is_loaded : WorldName → List LogItem → Bool
is_loaded w log = list_any (loads w) log

-- whether a process has ended: one of its worlds has stopped
abbrev pub is_stop : Entry → Bool
is_stop (Product (Stopped stop)) = true
is_stop another = false

abbrev pub ends : ℕ → LogItem → Bool
ends process (World v entry) = nat_eq (process_of v) process && is_stop entry

unfoldable pub has_ended : ℕ → List LogItem → Bool
has_ended process log = list_any (ends process) log

-- the last item
abbrev pub last_step : Option LogItem → LogItem → Option LogItem
last_step before item = Some item

unfoldable pub last : List LogItem → Option LogItem
last log = fold last_step None log

-- ---- what comes next

pub data Next : Type 0 where
  -- a product of this world
  Product_of : (world : WorldName) → Next
  -- this very item
  Exactly : (item : LogItem) → Next
  -- nothing: the log has ended
  End : Next

-- a load, which fills the steps
abbrev pub load : Entry
load = Delivery true Load

-- The load of the first of these worlds that wasn't loaded and whose process hasn't ended.
abbrev pub next_load : List WorldName → List LogItem → Next
next_load [] log = End
next_load (w ∷ ws) log = if is_loaded w log || has_ended (process_of w) log then next_load ws log else Exactly (World w load)

-- a product with which a world yields
abbrev pub is_yield : ProductType → Bool
is_yield (Console level text) = false
is_yield (Uncaught text) = false
is_yield (Rest jobs) = true
is_yield (Stopped stop) = true

-- A world to which something was delivered makes products up to its yield. Then the task is over.
abbrev pub due_after : Application → List LogItem → Option LogItem → Next
due_after app log None = next_load (worlds_of app) log
due_after app log (Some (World w (Delivery fresh what))) = Product_of w
due_after app log (Some (World w (Product what))) = if is_yield what then next_load (worlds_of app) log else Product_of w

unfoldable pub Due : Application → List LogItem → Next
Due app log = due_after app log (last log)

-- an item is one that may come next
abbrev pub Names : Next → LogItem → Type 0
Names (Product_of w) (World v (Delivery fresh what)) = ⊥
Names (Product_of w) (World v (Product what)) = same_world w v ≡ true
Names (Exactly due) item = item ≡ due
Names End item = ⊥

-- Every item of the rest is what is due for the log before it.
abbrev pub Follows : Application → List LogItem → List LogItem → Type 0
Follows app before [] = Unit {0}
Follows app before (item ∷ rest) = Names (Due app before) item × Follows app (before ++ item ∷ []) rest

-- A log is that of the application: each world's part is what the world makes alone of its deliveries, every item is what
-- is due for the log before it, and nothing is due at the end.
pub record Lawful (app : Application) (log : List LogItem) : Type 0 where
  pub parts : (w : WorldName) → Part w log ≡ alone (setting_of app w) (deliveries (Part w log))
  pub follows : Follows app [] log
  pub ended : Due app log ≡ End

-- ---- the log by recursion

-- what a world makes of its load
abbrev pub first_load : List Arrival
first_load = record { fresh = true; what = Load } ∷ []

unfoldable pub transcript : Application → WorldName → List Entry
transcript app w = alone (setting_of app w) first_load

abbrev pub logged : WorldName → List Entry → List LogItem
logged w entries = map (λ entry. World w entry) entries

-- where the preload script's world stops, its window's process has ended, and the page isn't loaded
abbrev pub page_log : Application → ℕ → List LogItem
page_log app number = if list_any is_stop (transcript app (preload_name number)) then [] else logged (page_name number) (transcript app (page_name number))

unfoldable pub window_log : Application → ℕ → List LogItem
window_log app number = logged (preload_name number) (transcript app (preload_name number)) ++ page_log app number

-- the windows that are numbered from here on
abbrev pub windows_log : Application → ℕ → List WindowScripts → List LogItem
windows_log app number [] = []
windows_log app number (window ∷ windows) = window_log app number ++ windows_log app (number + 1) windows

-- Main's transcript, then window by window the preload's and the page's.
unfoldable pub log_of : Application → List LogItem
log_of app = logged main_name (transcript app main_name) ++ windows_log app 1 app.windows
