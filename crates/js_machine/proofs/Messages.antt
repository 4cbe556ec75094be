-- The messages of errors are short.
use Rattle.std.proofs.Common.{◌<◌, length, arith}
use Rattle.js_semantics.specs.declared.fault.Fault.{Fault}
use Rattle.js_semantics.specs.declared.fault.Fault.TheVariants.{NotAFunction, NotAnObject, ReadOnly, WrongArgument, NotAConstructor, NotIterable, WrongOperand, NotAWholeNumber, TooManyCalls, NoHoles, NotDefined, NotReady, TooLong}
use Rattle.js_semantics.specs.Faults.{message_of}

pub message_short : (f : Fault) → length (message_of f) < 128
message_short NotAFunction = omega arith
message_short NotAnObject = omega arith
message_short ReadOnly = omega arith
message_short WrongArgument = omega arith
message_short NotAConstructor = omega arith
message_short NotIterable = omega arith
message_short WrongOperand = omega arith
message_short NotAWholeNumber = omega arith
message_short TooManyCalls = omega arith
message_short NoHoles = omega arith
message_short NotDefined = omega arith
message_short NotReady = omega arith
message_short TooLong = omega arith
