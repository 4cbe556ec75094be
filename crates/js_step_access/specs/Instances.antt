-- What is done with the `prototype` of the right side of `instanceof` (ECMA-262, 13.10.2).
use Rattle.std.specs.Prelude.{ℕ, Bool, Option, Some, None, option_map}
use Rattle.world_heap.specs.declared.value.Value.{Value}
use Rattle.js_semantics.specs.World.{World}
use Rattle.js_semantics.specs.Properties.{object_of}
use Rattle.js_semantics.specs.Expressions.{inherits}
use Rattle.js_machine.specs.declared.frame.Place.{Place}
use Rattle.js_machine.specs.declared.frame.AfterFrame.{AfterFrame}
use Rattle.js_machine.specs.declared.frame.AfterFrame.TheVariants.{Instance, AssignInstance}

-- the frame of it: the result is written first where there is a place
abbrev pub instance_after : Value ℕ → Option (Place ℕ) → AfterFrame ℕ
instance_after left None = Instance left
instance_after left (Some place) = AssignInstance left place

-- whether the `prototype` is on the chain of prototypes above the left side, where it is an object
abbrev pub instance_in : Value ℕ → Value ℕ → World ℕ → Option Bool
instance_in left prototype w = option_map (λ target. inherits (object_of left w) target w) (object_of prototype w)
