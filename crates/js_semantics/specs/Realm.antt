-- The built-in objects of a world (ECMA-262, 9.3.2: the intrinsic objects of a realm; 19: the global object; 20.5: errors).
-- They stand at the first locations, before all cells that the script makes, and aren't counted.
use Rattle.std.specs.Prelude.{ℕ, ◌+◌, List, [], ◌∷◌, ◌++◌, slice_get, Option, None, option_map, option_to_list, true, codes}
use Rattle.world_kind.specs.declared.WorldKind.{WorldKind}
use Rattle.world_kind.specs.declared.WorldKind.TheVariants.{Main, Preload, Page}
use Rattle.parcel.specs.declared.parcel.ErrorKind.{ErrorKind}
use Rattle.parcel.specs.declared.parcel.ErrorKind.TheVariants as errors
use Rattle.world_heap.specs.declared.value.Value.TheVariants.{Undefined, Str, Ref}
use Rattle.world_heap.specs.declared.value.Property.{Property}
use Rattle.world_heap.specs.declared.cell.Body.{Body}
use Rattle.world_heap.specs.declared.cell.Cell.{Cell}
use Rattle.world_heap.specs.declared.cell.Cell.TheVariants.{Object, Native}
use Rattle.world_heap.specs.declared.builtin.BuiltIn.TheVariants.{ObjectPrototype, ErrorPrototype, FunctionPrototype, Global}
use Rattle.world_heap.specs.BuiltIns.{place_of}
use Rattle.js_semantics.specs.World.{World, Heap}
use Rattle.js_semantics.specs.Faults.{kind_name, kind_number, prototype_of_kind}
use Rattle.js_semantics.specs.Properties.{member}

-- the places of the built-in objects behind the prototypes and the global object
abbrev pub console_place : ℕ
console_place = 17

abbrev pub natives_place : ℕ
natives_place = 18

abbrev pub module_place : ℕ
module_place = 30

-- the objects of the module of a kind of world, by name (Electron: the main process, the renderer process)
abbrev pub module_names : WorldKind → List (List ℕ)
module_names Main = codes "ipcMain" ∷ codes "webContents" ∷ codes "app" ∷ codes "MessageChannelMain" ∷ []
module_names Preload = codes "contextBridge" ∷ codes "ipcRenderer" ∷ []
module_names Page = []

abbrev pub error_kinds : List ErrorKind
error_kinds = errors.Error ∷ errors.EvalError ∷ errors.RangeError ∷ errors.ReferenceError ∷ errors.SyntaxError ∷ errors.TypeError ∷ errors.URIError ∷ []

module _ {L : Type 0} (supply : ℕ → Option L) where
  -- a member whose value is the object at a place
  abbrev pub member_at : List ℕ → ℕ → List (List ℕ × Property L)
  member_at name place = option_to_list (option_map (λ loc. (name, member (Ref loc))) (supply place))

  abbrev pub body_with : ℕ → List (List ℕ × Property L) → Body L
  body_with proto properties = record { proto = supply proto; properties = properties; extensible = true }

  abbrev pub object_with : ℕ → List (List ℕ × Property L) → Cell L
  object_with proto properties = Object (body_with proto properties)

  abbrev pub native_with : ℕ → List (List ℕ × Property L) → Cell L
  native_with id properties = Native (body_with (place_of FunctionPrototype) properties) id []

  -- members one after another, each the object at the next place
  abbrev pub members_from : ℕ → List (List ℕ) → List (List ℕ × Property L)
  members_from place [] = []
  members_from place (name ∷ names) = member_at name place ++ members_from (place + 1) names

  -- the prototype of a kind of error: its name, and an empty message
  abbrev pub error_prototype : ℕ → ErrorKind → Cell L
  error_prototype proto kind = object_with proto ((codes "name", member (Str (kind_name kind))) ∷ (codes "message", member (Str [])) ∷ [])

  abbrev pub prototypes_of : List ErrorKind → List (Cell L)
  prototypes_of [] = []
  prototypes_of (kind ∷ kinds) = error_prototype (place_of ErrorPrototype) kind ∷ prototypes_of kinds

  -- the function of a kind of error, with its prototype
  abbrev pub error_functions : List ErrorKind → List (Cell L)
  error_functions [] = []
  error_functions (kind ∷ kinds) = native_with (4 + kind_number kind) (member_at (codes "prototype") (place_of (prototype_of_kind kind))) ∷ error_functions kinds

  abbrev pub error_names : List ErrorKind → List (List ℕ)
  error_names [] = []
  error_names (kind ∷ kinds) = kind_name kind ∷ error_names kinds

  -- what only some kinds of world have
  abbrev pub members_of_kind : WorldKind → List (List ℕ × Property L)
  members_of_kind Main = member_at (codes "require") (natives_place + 11)
  members_of_kind Preload = member_at (codes "window") (place_of Global) ++ member_at (codes "require") (natives_place + 11)
  members_of_kind Page = member_at (codes "window") (place_of Global)

  -- the members of the global object (ECMA-262, 19.1)
  abbrev pub global_members : WorldKind → List (List ℕ × Property L)
  global_members kind = member_at (codes "globalThis") (place_of Global) ++ ((codes "undefined", member Undefined) ∷ (member_at (codes "console") console_place ++ (members_from (natives_place + 4) (error_names error_kinds) ++ members_of_kind kind)))

  -- so many objects without members
  abbrev pub plain_objects : List (List ℕ) → List (Cell L)
  plain_objects [] = []
  plain_objects (name ∷ names) = object_with (place_of ObjectPrototype) [] ∷ plain_objects names

  -- the objects of the module, behind the module
  abbrev pub module_cells : WorldKind → List (Cell L)
  module_cells Main = object_with (place_of ObjectPrototype) (members_from (module_place + 1) (module_names Main)) ∷ plain_objects (module_names Main)
  module_cells Preload = object_with (place_of ObjectPrototype) (members_from (module_place + 1) (module_names Preload)) ∷ plain_objects (module_names Preload)
  module_cells Page = []

  abbrev pub bare_object : Cell L
  bare_object = object_with (place_of ObjectPrototype) []

  -- The built-in cells of a kind of world, in order: the prototypes, the global object, the console, the built-in
  -- functions by their numbers, and the module.
  unfoldable pub realm_cells : WorldKind → List (Cell L)
  realm_cells kind =
      (Object (record { proto = None; properties = []; extensible = true }) ∷ error_prototype (place_of ObjectPrototype) errors.Error ∷ [])
      ++ (prototypes_of (errors.EvalError ∷ errors.RangeError ∷ errors.ReferenceError ∷ errors.SyntaxError ∷ errors.TypeError ∷ errors.URIError ∷ [])
      ++ ((bare_object ∷ bare_object ∷ bare_object ∷ bare_object ∷ bare_object ∷ bare_object ∷ bare_object ∷ bare_object
      ∷ object_with (place_of ObjectPrototype) (global_members kind)
      ∷ object_with (place_of ObjectPrototype) (members_from natives_place (codes "log" ∷ codes "info" ∷ codes "warn" ∷ codes "error" ∷ []))
      ∷ native_with 0 [] ∷ native_with 1 [] ∷ native_with 2 [] ∷ native_with 3 [] ∷ [])
      ++ (error_functions error_kinds ++ (native_with 11 [] ∷ module_cells kind))))

  -- cells at the locations from a place on
  abbrev pub located : ℕ → List (Cell L) → Heap L
  located place [] = []
  located place (cell ∷ cells) = option_to_list (option_map (λ loc. (loc, cell)) (supply place)) ++ located (place + 1) cells

  -- the heap that has the built-in cells alone
  unfoldable pub realm : WorldKind → Heap L
  realm kind = located 0 (realm_cells kind)

-- how many built-in cells a kind of world has
abbrev pub realm_length : WorldKind → ℕ
realm_length Main = 35
realm_length Preload = 33
realm_length Page = 30

-- the module with the calls of Electron
abbrev pub module_of : {L : Type 0} → World L → Option L
module_of w = option_map (λ c. c.0) (slice_get w.heap module_place)
