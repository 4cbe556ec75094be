-- What is found, called and written fits a heap: its locations are those of the heap.
use Rattle.std.specs.Prelude.{ℕ, nat_eq, List}
use Rattle.world_heap.specs.declared.cell.Cell.{Cell}
use Rattle.world_heap.specs.Over.{ListOver, OptionOver}
use Rattle.world_heap.specs.Heaps.{IsCell}
use Rattle.js_machine.specs.Closed.{ValueFits}
use Rattle.js_calls.specs.declared.callee.Callee.{Callee}
use Rattle.js_calls.specs.declared.callee.Callee.TheVariants as callees
use Rattle.js_calls.specs.declared.calling.Invocation.{Invocation}
use Rattle.js_calls.specs.declared.constructing.Constructor.{Constructor}
use Rattle.js_calls.specs.declared.constructing.Constructor.TheVariants as makers
use Rattle.js_calls.specs.declared.naming.Named.{Named}
use Rattle.js_calls.specs.declared.naming.Named.TheVariants as names
use Rattle.js_calls.specs.declared.assigning.Target.{Target}
use Rattle.js_calls.specs.declared.assigning.Target.TheVariants as targets

module _ (cells : List (ℕ × Cell ℕ)) where
  -- a function that can be called (ECMA-262, 7.2.3)
  abbrev pub CalleeFits : Callee ℕ → Type 0
  CalleeFits (callees.Closure node env kept) = IsCell nat_eq cells env × OptionOver (ValueFits cells) kept
  CalleeFits (callees.Native id) = Unit {0}
  CalleeFits callees.Other = Unit {0}

  -- a call of a closure (ECMA-262, 10.2.1)
  abbrev pub InvocationFits : Invocation ℕ → Type 0
  InvocationFits i = IsCell nat_eq cells i.env × ValueFits cells i.receiver × ListOver (ValueFits cells) i.arguments

  -- what makes objects (ECMA-262, 7.2.4)
  abbrev pub ConstructorFits : Constructor ℕ → Type 0
  ConstructorFits (makers.Closure node env) = IsCell nat_eq cells env
  ConstructorFits (makers.Native id) = Unit {0}
  ConstructorFits makers.Nothing = Unit {0}

  -- what a name stands for where it is read (ECMA-262, 9.1.1.1.6)
  abbrev pub NamedFits : Named ℕ → Type 0
  NamedFits (names.Held v) = ValueFits cells v
  NamedFits names.Unready = Unit {0}
  NamedFits (names.Global v) = ValueFits cells v
  NamedFits names.Nowhere = Unit {0}

  -- and where it is written (ECMA-262, 9.1.1.1.5)
  abbrev pub TargetFits : Target ℕ → Type 0
  TargetFits (targets.Open env) = Unit {0}
  TargetFits targets.Unready = Unit {0}
  TargetFits targets.Fixed = Unit {0}
  TargetFits (targets.Global v) = ValueFits cells v
  TargetFits targets.Nowhere = Unit {0}
