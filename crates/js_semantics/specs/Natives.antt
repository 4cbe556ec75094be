-- The built-in functions (ECMA-262, 20.5.1: errors; Console Standard, 1.1: logging) and what their calls do.
use Rattle.std.specs.Prelude.{ℕ, ◌||◌, List, [], ◌∷◌, ◌++◌, length, take, Option, Some, None, Bool, true, false, if◌then◌else◌, slice_get, codes}
use Rattle.parcel.specs.declared.parcel.ErrorKind.{ErrorKind}
use Rattle.parcel.specs.declared.parcel.ErrorKind.TheVariants as errors
use Rattle.world_log.specs.declared.entry.Level.{Level}
use Rattle.world_log.specs.declared.entry.Level.TheVariants as levels
use Rattle.world_kind.specs.declared.WorldKind.{WorldKind}
use Rattle.world_kind.specs.declared.WorldKind.TheVariants.{Main, Preload, Page}
use Rattle.world_heap.specs.declared.value.Value.{Value}
use Rattle.world_heap.specs.declared.value.Value.TheVariants.{Undefined, Str, Ref}
use Rattle.js_semantics.specs.declared.native.Native.{Native}
use Rattle.js_semantics.specs.declared.native.Native.TheVariants.{Console, Error, Require}
use Rattle.js_semantics.specs.declared.fault.Fault.TheVariants.{NotAFunction, WrongArgument}
use Rattle.world_log.specs.declared.entry.Product.TheVariants as products
use Rattle.js_semantics.specs.World.{World}
use Rattle.js_semantics.specs.declared.outcome.Outcome.TheVariants.{Thrown}
use Rattle.js_semantics.specs.Prog.{Prog, End, Make, Read, give, throw, make_error, count_units}
use Rattle.js_semantics.specs.Properties.{same_text}
use Rattle.js_semantics.specs.Display.{line_of}

-- the built-in functions, in the order of their numbers
abbrev pub natives : List Native
natives = Console levels.Log ∷ Console levels.Info ∷ Console levels.Warn ∷ Console levels.Error
    ∷ Error errors.Error ∷ Error errors.EvalError ∷ Error errors.RangeError ∷ Error errors.ReferenceError
    ∷ Error errors.SyntaxError ∷ Error errors.TypeError ∷ Error errors.URIError ∷ Require ∷ []

-- the built-in function with a number
abbrev pub native_at : ℕ → Option Native
native_at id = slice_get natives id

abbrev pub makes_errors : Option Native → Bool
makes_errors (Some (Error kind)) = true
makes_errors other = false

-- whether a built-in function can be called with `new`
abbrev pub is_error_function : ℕ → Bool
is_error_function id = makes_errors (native_at id)

-- a message that is put together from other texts
abbrev pub missing_module : List ℕ → List ℕ
missing_module name = take 65_536 (codes "Cannot find module '" ++ (name ++ codes "'"))

-- whether a name is that of the module that stands in a world of this kind
abbrev pub is_module : WorldKind → List ℕ → Bool
is_module Main name = same_text name (codes "electron") || same_text name (codes "electron/main")
is_module Preload name = same_text name (codes "electron") || same_text name (codes "electron/renderer")
is_module Page name = false

module _ {L : Type 0} where
  -- A line of the console counts its units.
  unfoldable pub row_console : Level → List (Value L) → Prog L
  row_console level arguments = Read (λ w. let text = line_of w arguments in count_units (length text) (Make (products.Console level text) (give Undefined)))

  abbrev pub error_of : ErrorKind → Option (List ℕ) → Prog L
  error_of kind message = make_error kind message (λ loc. give (Ref loc))

  -- An error with a message, which is a string, or without one (ECMA-262, 20.5.1.1).
  unfoldable pub row_error : ErrorKind → List (Value L) → Prog L
  row_error kind [] = error_of kind None
  row_error kind (Undefined ∷ vs) = error_of kind None
  row_error kind (Str message ∷ vs) = error_of kind (Some message)
  row_error kind other = throw WrongArgument

  -- an error whose message is put together counts the units of the message
  abbrev pub throw_message : List ℕ → Prog L
  throw_message message = count_units (length message) (make_error errors.Error (Some message) (λ loc. End (Thrown (Ref loc))))

  abbrev pub require_named : List ℕ → Option L → World L → Prog L
  require_named name (Some loc) w = if is_module w.kind name then give (Ref loc) else throw_message (missing_module name)
  require_named name None w = throw_message (missing_module name)

  -- The module with the calls of Electron, where this is its location.
  unfoldable pub row_require : (World L → Option L) → List (Value L) → Prog L
  row_require module_of (Str name ∷ vs) = Read (λ w. require_named name (module_of w) w)
  row_require module_of other = throw WrongArgument

  abbrev pub native_row : (World L → Option L) → Option Native → Value L → List (Value L) → Prog L
  native_row module_of None receiver arguments = throw NotAFunction
  native_row module_of (Some (Console level)) receiver arguments = row_console level arguments
  native_row module_of (Some (Error kind)) receiver arguments = row_error kind arguments
  native_row module_of (Some Require) receiver arguments = row_require module_of arguments
