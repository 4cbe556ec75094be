-- The errors that rows throw: the kind (ECMA-262, 20.5.5) and the message of each.
use Rattle.std.specs.Prelude.{ℕ, List, codes}
use Rattle.parcel.specs.declared.parcel.ErrorKind.{ErrorKind}
use Rattle.parcel.specs.declared.parcel.ErrorKind.TheVariants.{Error, EvalError, RangeError, ReferenceError, SyntaxError, TypeError, URIError}
use Rattle.world_heap.specs.declared.builtin.BuiltIn.{BuiltIn}
use Rattle.world_heap.specs.declared.builtin.BuiltIn.TheVariants.{ErrorPrototype, EvalErrorPrototype, RangeErrorPrototype, ReferenceErrorPrototype, SyntaxErrorPrototype, TypeErrorPrototype, URIErrorPrototype}
use Rattle.js_semantics.specs.declared.fault.Fault.{Fault}
use Rattle.js_semantics.specs.declared.fault.Fault.TheVariants.{NotAFunction, NotAnObject, ReadOnly, WrongArgument, NotAConstructor, NotIterable, WrongOperand, NotAWholeNumber, TooManyCalls, NoHoles, NotDefined, NotReady, TooLong}

abbrev pub kind_of : Fault → ErrorKind
kind_of NotAFunction = TypeError
kind_of NotAnObject = TypeError
kind_of ReadOnly = TypeError
kind_of WrongArgument = TypeError
kind_of NotAConstructor = TypeError
kind_of NotIterable = TypeError
kind_of WrongOperand = TypeError
kind_of NotAWholeNumber = RangeError
kind_of TooManyCalls = RangeError
kind_of NoHoles = RangeError
kind_of NotDefined = ReferenceError
kind_of NotReady = ReferenceError
kind_of TooLong = RangeError

abbrev pub message_of : Fault → List ℕ
message_of NotAFunction = codes "not a function"
message_of NotAnObject = codes "not an object"
message_of ReadOnly = codes "read only"
message_of WrongArgument = codes "wrong argument"
message_of NotAConstructor = codes "not a constructor"
message_of NotIterable = codes "not iterable"
message_of WrongOperand = codes "wrong operand"
message_of NotAWholeNumber = codes "not a whole number"
message_of TooManyCalls = codes "too many calls"
message_of NoHoles = codes "no holes"
message_of NotDefined = codes "not defined"
message_of NotReady = codes "not ready"
message_of TooLong = codes "too long"

-- the place of a kind in the list of the seven kinds, from 0
abbrev pub kind_number : ErrorKind → ℕ
kind_number Error = 0
kind_number EvalError = 1
kind_number RangeError = 2
kind_number ReferenceError = 3
kind_number SyntaxError = 4
kind_number TypeError = 5
kind_number URIError = 6

abbrev pub kind_name : ErrorKind → List ℕ
kind_name Error = codes "Error"
kind_name EvalError = codes "EvalError"
kind_name RangeError = codes "RangeError"
kind_name ReferenceError = codes "ReferenceError"
kind_name SyntaxError = codes "SyntaxError"
kind_name TypeError = codes "TypeError"
kind_name URIError = codes "URIError"

-- the prototype of the errors of a kind
abbrev pub prototype_of_kind : ErrorKind → BuiltIn
prototype_of_kind Error = ErrorPrototype
prototype_of_kind EvalError = EvalErrorPrototype
prototype_of_kind RangeError = RangeErrorPrototype
prototype_of_kind ReferenceError = ReferenceErrorPrototype
prototype_of_kind SyntaxError = SyntaxErrorPrototype
prototype_of_kind TypeError = TypeErrorPrototype
prototype_of_kind URIError = URIErrorPrototype
