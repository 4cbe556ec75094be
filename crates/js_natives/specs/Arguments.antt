-- What the arguments of a built-in function say, and where the module with the calls of Electron stands.
use Rattle.std.specs.Prelude.{ℕ, List, [], ◌∷◌, Option, Some, None, if◌then◌else◌, option_map, slice_get}
use Rattle.world_heap.specs.Views.{HeapView}
use Rattle.world_heap.specs.declared.value.Value.{Value}
use Rattle.world_heap.specs.declared.value.Value.TheVariants.{Undefined, Null, Bool as Boolean, Num, Str, Ref}
use Rattle.parcel.specs.declared.parcel.ErrorKind.{ErrorKind}
use Rattle.js_semantics.specs.declared.fault.Fault.TheVariants.{WrongArgument}
use Rattle.world_kind.specs.declared.WorldKind.{WorldKind}
use Rattle.js_semantics.specs.Prog.{Prog, Read, give, throw}
use Rattle.js_semantics.specs.Natives.{error_of, is_module, missing_module, require_named, throw_message}
use Rattle.js_semantics.specs.Realm.{module_of, module_place}

-- the location of the module with the calls of Electron
abbrev pub module_in : HeapView → Option ℕ
module_in heap = option_map (λ c. c.0) (slice_get heap.cells module_place)

-- the message that a value is for an error (ECMA-262, 20.5.1.1): none, a string, or a value of a wrong type
abbrev pub message_value : Value ℕ → Option (Option (List ℕ))
message_value Undefined = Some None
message_value Null = None
message_value (Boolean b) = None
message_value (Num n) = None
message_value (Str text) = Some (Some text)
message_value (Ref loc) = None

-- the message that the arguments of an error's function give
abbrev pub message_given : List (Value ℕ) → Option (Option (List ℕ))
message_given [] = Some None
message_given (v ∷ vs) = message_value v

-- an error is made with its message, or the argument is wrong
abbrev pub error_given : ErrorKind → Option (Option (List ℕ)) → Prog ℕ
error_given kind None = throw WrongArgument
error_given kind (Some message) = error_of kind message

-- the name of a module that the arguments of `require` give, where it is a string
abbrev pub name_value : Value ℕ → Option (List ℕ)
name_value Undefined = None
name_value Null = None
name_value (Boolean b) = None
name_value (Num n) = None
name_value (Str text) = Some text
name_value (Ref loc) = None

abbrev pub name_given : List (Value ℕ) → Option (List ℕ)
name_given [] = None
name_given (v ∷ vs) = name_value v

-- the module for its name in a world of this kind, or an error
abbrev pub named : WorldKind → Option ℕ → List ℕ → Prog ℕ
named kind (Some loc) name = if is_module kind name then give (Ref loc) else throw_message (missing_module name)
named kind None name = throw_message (missing_module name)

-- what `require` does with the name that is given
abbrev pub by_name : Option (List ℕ) → Prog ℕ
by_name None = throw WrongArgument
by_name (Some name) = Read (λ w. require_named name (module_of w) w)
