-- How the log is printed: a line for each item. A line has the world's name, an arrow (`<<` for a fresh delivery, `<` for
-- another one, `>` for a product), a word and its values, with one space between them.
use Rattle.std.specs.Prelude.{ℕ, refl, List, [], ◌∷◌, ◌++◌, codes, decimal, true, false}
use Rattle.std.specs.List.{flat_map}
use Rattle.wl_text.specs.Text.{quoted}
use Rattle.world_kind.specs.declared.WorldKind.{WorldKind}
use Rattle.world_kind.specs.declared.WorldKind.TheVariants.{Main, Preload, Page}
use Rattle.world_log.specs.declared.entry.Level.{Level}
use Rattle.world_log.specs.declared.entry.Level.TheVariants.{Log, Info, Warn, Error}
use Rattle.world_log.specs.declared.entry.Delivery.{Delivery}
use Rattle.world_log.specs.declared.entry.Delivery.TheVariants.{Load}
use Rattle.world_log.specs.declared.entry.Product.{Product}
use Rattle.world_log.specs.declared.entry.Product.TheVariants.{Console, Uncaught, Rest, Stopped}
use Rattle.world_log.specs.declared.entry.Stop.{Stop}
use Rattle.world_log.specs.declared.entry.Stop.TheVariants.{Fuel, Cells, Places, Units}
use Rattle.world_log.specs.declared.entry.Entry.{Entry}
use Rattle.world_log.specs.declared.entry.Entry.TheVariants as entries
use Rattle.world_log.specs.declared.entry.LogItem.{LogItem}
use Rattle.world_log.specs.declared.entry.LogItem.TheVariants.{World}
use Rattle.world_log.specs.declared.entry.WorldName.{WorldName}

-- the name of the main world
abbrev pub main_name : WorldName
main_name = record { kind = Main; window = 0; generation = 0; main_window = λ _. refl; main_generation = λ _. refl }

-- `main`, or as `preload1.2` the kind, the window and its generation
abbrev pub name_of : WorldKind → ℕ → ℕ → List ℕ
name_of Main window generation = codes "main"
name_of Preload window generation = codes "preload" ++ (decimal window ++ (codes "." ++ decimal generation))
name_of Page window generation = codes "page" ++ (decimal window ++ (codes "." ++ decimal generation))

unfoldable pub named : WorldName → List ℕ
named name = name_of name.kind name.window name.generation

abbrev pub level_word : Level → List ℕ
level_word Log = codes "log"
level_word Info = codes "info"
level_word Warn = codes "warn"
level_word Error = codes "error"

abbrev pub stop_word : Stop → List ℕ
stop_word Fuel = codes "fuel"
stop_word Cells = codes "cells"
stop_word Places = codes "places"
stop_word Units = codes "units"

-- the word of a delivery and its values
abbrev pub delivery_words : Delivery → List ℕ
delivery_words Load = codes "load"

-- the word of a product and its values
abbrev pub product_words : Product → List ℕ
product_words (Console level text) = codes "console " ++ (level_word level ++ (32 ∷ quoted text))
product_words (Uncaught text) = codes "uncaught " ++ quoted text
product_words (Rest jobs) = codes "rest " ++ decimal jobs
product_words (Stopped stop) = codes "stopped " ++ stop_word stop

-- the arrow, the word and its values, each after a space
unfoldable pub entry_words : Entry → List ℕ
entry_words (entries.Delivery true what) = codes " << " ++ delivery_words what
entry_words (entries.Delivery false what) = codes " < " ++ delivery_words what
entry_words (entries.Product what) = codes " > " ++ product_words what

-- the line of an item
unfoldable pub printed : LogItem → List ℕ
printed (World name entry) = named name ++ (entry_words entry ++ 10 ∷ [])

-- the lines of a log
unfoldable pub printed_log : List LogItem → List ℕ
printed_log items = flat_map printed items
