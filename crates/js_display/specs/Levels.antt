-- What is opened of a value, and the properties that are listed.
use Rattle.std.specs.Prelude.{ℕ, zero, suc, List, [], ◌∷◌, ◌++◌, Option, Some, None, Bool, false, true, codes, if◌then◌else◌}
use Rattle.std.specs.List.{flat_map}
use Rattle.std.specs.Option.{option_map_or}
use Rattle.world_heap.specs.declared.value.Value.{Value}
use Rattle.world_heap.specs.declared.value.Property.{Property}
use Rattle.world_heap.specs.declared.cell.Cell.{Cell}
use Rattle.world_heap.specs.Table.{found_under}
use Rattle.js_semantics.specs.World.{World}
use Rattle.js_semantics.specs.Display.{Shown, shown_value, shown_cell, is_listed, only_listed, separator, display, more_arguments}

-- what shows the insides of the object at a location, where so many levels are still opened
abbrev pub opened : World ℕ → ℕ → List ℕ → ℕ → Option (Value ℕ → ℕ → Shown)
opened w zero around loc = None
opened w (suc depth) around loc = Some (shown_value w depth (loc ∷ around))

-- what is shown with a text behind it
abbrev pub closed : List ℕ → Shown → Shown
closed behind s = record s { text = s.text ++ behind }

-- what a cell shows that isn't opened
abbrev pub cell_text : Cell ℕ → List ℕ
cell_text cell = option_map_or (λ text. text) (shown_cell cell) []

-- the property under a name, where it is listed
abbrev pub if_listed : Option (Property ℕ) → Option (Property ℕ)
if_listed None = None
if_listed (Some p) = if is_listed p then Some p else None

abbrev pub listed_at : List (List ℕ × Property ℕ) → List ℕ → Option (Property ℕ)
listed_at entries name = if_listed (found_under entries name)

-- the listed properties under these names
abbrev pub listed_under : List (List ℕ × Property ℕ) → List (List ℕ) → List (List ℕ × Property ℕ)
listed_under entries names = only_listed (flat_map (λ key. option_map_or (λ v. (key, v) ∷ []) (found_under entries key) []) names)

-- whether any is
abbrev pub is_any : List (List ℕ × Property ℕ) → Bool
is_any [] = false
is_any (e ∷ es) = true

-- the sign for the rest
abbrev pub dots : Bool → List ℕ
dots first = separator first ++ codes "..."

-- what stands before an argument
abbrev pub space : Bool → List ℕ
space first = if first then [] else codes " "

-- what is shown of arguments with a space between them, where this says whether the first stands at the front
abbrev pub joined : World ℕ → (first : Bool) → List (Value ℕ) → List ℕ
joined w true [] = []
joined w true (v ∷ vs) = display w v ++ more_arguments w vs
joined w false vs = more_arguments w vs
