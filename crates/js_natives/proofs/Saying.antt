-- Rows by what their arguments say.
use Rattle.std.proofs.Common.{◌≡◌, ◌++◌, ℕ, codes, take, length, true, false, if◌then◌else◌, List, [], ◌∷◌, Option, Some, None, IfOk, Result, refl, sym, ap, ◌∙◌}
use Rattle.js_tree.specs.declared.node.Node.{Node}
use Rattle.parcel.specs.declared.parcel.ErrorKind.{ErrorKind}
use Rattle.world_heap.specs.declared.value.Value.{Value}
use Rattle.world_heap.specs.declared.value.Value.TheVariants.{Undefined, Null, Bool as Boolean, Num, Str, Ref}
use Rattle.js_semantics.specs.declared.fault.StepFault.{StepFault}
use Rattle.world_kind.specs.declared.WorldKind.{WorldKind}
use Rattle.world_log.specs.declared.entry.Level.{Level}
use Rattle.world_log.specs.declared.entry.Product.TheVariants.{Console}
use Rattle.js_semantics.specs.Display.{line_of}
use Rattle.js_semantics.specs.World.{World, over}
use Rattle.js_semantics.specs.Prog.{Make, Native, Prog, count_units, give}
use Rattle.js_semantics.specs.Natives.{is_module, missing_module, native_at, native_row, require_named, row_console, row_error, row_require, throw_message}
use Rattle.js_semantics.specs.Realm.{module_of}
use Rattle.js_semantics.specs.Rows.{row}
use Rattle.js_machine.specs.declared.state.State.{State}
use Rattle.js_machine.specs.declared.state.Next.{Next}
use Rattle.js_machine.specs.Does.{Does, world_of}
use Rattle.js_machine.proofs.Doing.{does_read_ok}
use Rattle.js_natives.specs.Arguments.{by_name, error_given, message_given, module_in, name_given, named}

-- the same program
pub does_same : (nodes : List Node) (n : ℕ) (p q : Prog ℕ) (old new : State) (r : Result Next StepFault) → p ≡ q → IfOk r (λ next. Does nodes n q old new next) → IfOk r (λ next. Does nodes n p old new next)
does_same nodes n p q old new r is h = rw is h

-- the row of an error's function by the message that is given
pub error_by : (kind : ErrorKind) (arguments : List (Value ℕ)) → row_error kind arguments ≡ error_given kind (message_given arguments)
unfolding row_error
error_by kind [] = refl
error_by kind (Undefined ∷ vs) = refl
error_by kind (Null ∷ vs) = refl
error_by kind (Boolean b ∷ vs) = refl
error_by kind (Num n ∷ vs) = refl
error_by kind (Str text ∷ vs) = refl
error_by kind (Ref loc ∷ vs) = refl

pub error_ok : (nodes : List Node) (n : ℕ) (kind : ErrorKind) (arguments : List (Value ℕ)) (given : Option (Option (List ℕ))) (old new : State) (r : Result Next StepFault) → given ≡ message_given arguments → IfOk r (λ next. Does nodes n (error_given kind given) old new next) → IfOk r (λ next. Does nodes n (row_error kind arguments) old new next)
error_ok nodes n kind arguments given old new r is h =
    rw (error_by kind arguments, ← is) h

pub require_by : (arguments : List (Value ℕ)) → row_require module_of arguments ≡ by_name (name_given arguments)
unfolding row_require
require_by [] = refl
require_by (Undefined ∷ vs) = refl
require_by (Null ∷ vs) = refl
require_by (Boolean b ∷ vs) = refl
require_by (Num n ∷ vs) = refl
require_by (Str text ∷ vs) = refl
require_by (Ref loc ∷ vs) = refl

-- the module by its name, where its location is known
named_by : (nodes : List Node) (supply : ℕ → ℕ) (electron : Option ℕ) (name : List ℕ) (s : State) → require_named name electron (world_of nodes supply s) ≡ named s.kind electron name
named_by nodes supply None name s = refl
named_by nodes supply (Some loc) name s = refl

pub named_ok : (nodes : List Node) (n : ℕ) (electron : Option ℕ) (name : List ℕ) (old new : State) (r : Result Next StepFault) → electron ≡ module_in old.heap → IfOk r (λ next. Does nodes n (named old.kind electron name) old new next) → IfOk r (λ next. Does nodes n (by_name (Some name)) old new next)
named_ok nodes n electron name old new r is =
    does_read_ok nodes n (λ w. require_named name (module_of w) w) (named old.kind electron name) old new r
    (λ supply. sym (ap (λ m. require_named name m (world_of nodes supply old)) is) ∙ named_by nodes supply electron name old)

pub require_ok : (nodes : List Node) (n : ℕ) (arguments : List (Value ℕ)) (given : Option (List ℕ)) (old new : State) (r : Result Next StepFault) → name_given arguments ≡ given → IfOk r (λ next. Does nodes n (by_name given) old new next) → IfOk r (λ next. Does nodes n (row_require module_of arguments) old new next)
require_ok nodes n arguments given old new r is h = rw (require_by arguments, is) h

-- the line of the arguments is shown
pub console_ok : (nodes : List Node) (n : ℕ) (level : Level) (arguments : List (Value ℕ)) (text : List ℕ) (old new : State) (r : Result Next StepFault) → ((w : World ℕ) → text ≡ line_of (over old.heap w) arguments) → IfOk r (λ next. Does nodes n (count_units (length text) (Make (Console level text) (give Undefined))) old new next) → IfOk r (λ next. Does nodes n (row_console level arguments) old new next)
unfolding row_console
console_ok nodes n level arguments text old new r is =
    does_read_ok nodes n (λ w. let line = line_of w arguments in count_units (length line) (Make (Console level line) (give Undefined))) (count_units (length text) (Make (Console level text) (give Undefined))) old new r
    (λ supply. ap (λ t. count_units (length t) (Make (Console level t) (give Undefined))) (sym (is (world_of nodes supply old))))

-- a module stands under its names alone
pub named_then : (kind : WorldKind) (loc : ℕ) (name : List ℕ) → is_module kind name ≡ true → named kind (Some loc) name ≡ give (Ref loc)
named_then kind loc name h = ap (λ b. if b then give (Ref loc) else throw_message (missing_module name)) h

pub named_else : (kind : WorldKind) (loc : ℕ) (name : List ℕ) → is_module kind name ≡ false → named kind (Some loc) name ≡ throw_message (missing_module name)
named_else kind loc name h = ap (λ b. if b then give (Ref loc) else throw_message (missing_module name)) h

-- the message about a module that isn't there, put together
pub message_is : (name text list more whole cut : List ℕ) → list ≡ codes "Cannot find module '" → text ≡ name → more ≡ list ++ text → whole ≡ more ++ 39 ∷ [] → cut ≡ take 65_536 whole → cut ≡ missing_module name
message_is name text list more whole cut list_is text_is more_is whole_is cut_is =
    cut_is ∙ ap (λ l. take 65_536 l) (whole_is ∙ ap (λ l. l ++ 39 ∷ []) (more_is ∙ ap (λ l. l ++ text) list_is ∙ ap (λ t. codes "Cannot find module '" ++ t) text_is))

-- a call of a built-in function by its number
pub native_by : (id : ℕ) (receiver : Value ℕ) (arguments : List (Value ℕ)) → row (Native id receiver arguments) ≡ native_row module_of (native_at id) receiver arguments
unfolding row
native_by id receiver arguments = refl
