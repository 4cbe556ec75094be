-- An application of two windows whose first preload script stops: its log, and what is due in it.
use Rattle.std.specs.Prelude.{◌≡◌, List, [], ◌∷◌, refl}
use Rattle.js_tree.specs.declared.node.Node.{Node}
use Rattle.js_tree.specs.declared.node.Node.TheVariants as kinds
use Rattle.world_log.specs.declared.entry.Product.TheVariants.{Rest, Stopped}
use Rattle.world_log.specs.declared.entry.Stop.TheVariants.{Fuel}
use Rattle.world_log.specs.declared.entry.Entry.{Entry}
use Rattle.world_log.specs.declared.entry.Entry.TheVariants.{Product}
use Rattle.world_log.specs.declared.entry.LogItem.TheVariants.{World}
use Rattle.world_log.specs.Print.{main_name}
use Rattle.js_semantics.specs.Prog.{alloc, count_units}
use Rattle.js_semantics.specs.Environments.{declared_in}
use Rattle.js_semantics.specs.Statements.{script_of, row_expression}
use Rattle.js_semantics.specs.Realm.{realm, realm_cells}
use Rattle.js_semantics.specs.Rows.{row, row_of}
use Rattle.js_semantics.specs.Run.{run}
use Rattle.js_semantics.specs.Alone.{alone, alone_by, trace_of}
use Rattle.app_engine.specs.Log.{Application, Due, End, Exactly, Product_of, has_ended, is_loaded, last, load, log_of, page_name, preload_name, same_world, setting_of, transcript, window_log, worlds_of}

-- a script without items, and `null;`
abbrev nothing : List Node
nothing = kinds.Script [] ∷ []

abbrev statement : List Node
statement = kinds.Null ∷ kinds.ExprStmt (record { 0 = 0 }) ∷ kinds.Script (record { 0 = 1 } ∷ []) ∷ []

-- one step serves a script without items alone
abbrev app : Application
app = record {
  limits = record { steps = 1; cells = 1; places = 1; units = 0; depth = 1 };
  main = nothing;
  windows = record { preload = statement; page = nothing } ∷ record { preload = nothing; page = nothing } ∷ [];
}

abbrev rest : Entry
rest = Product (Rest 0)

abbrev stop : Entry
stop = Product (Stopped Fuel)

log_is : log_of app ≡ World main_name load ∷ World main_name rest
    ∷ World (preload_name 1) load ∷ World (preload_name 1) stop
    ∷ World (preload_name 2) load ∷ World (preload_name 2) rest
    ∷ World (page_name 2) load ∷ World (page_name 2) rest ∷ []
unfolding log_of window_log transcript setting_of alone alone_by trace_of run realm realm_cells row row_of script_of alloc declared_in row_expression count_units
log_is = refl

first_due : Due app [] ≡ Exactly (World main_name load)
unfolding Due last worlds_of is_loaded has_ended same_world
first_due = refl

running_due : Due app (World main_name load ∷ []) ≡ Product_of main_name
unfolding Due last
running_due = refl

-- the page of the window that has ended isn't due
stopped_due : Due app (World main_name load ∷ World main_name rest ∷ World (preload_name 1) load ∷ World (preload_name 1) stop ∷ []) ≡ Exactly (World (preload_name 2) load)
unfolding Due last worlds_of is_loaded has_ended same_world
stopped_due = refl

last_due : Due app (log_of app) ≡ End
unfolding Due last worlds_of is_loaded has_ended same_world log_of window_log transcript setting_of alone alone_by trace_of run realm realm_cells row row_of script_of alloc declared_in row_expression count_units
last_due = refl
