-- What removing a property comes to (ECMA-262, 13.5.1.2).
use Rattle.std.specs.Prelude.{ℕ, List, Bool, true, false, is_some, if◌then◌else◌}
use Rattle.world_heap.specs.declared.value.Value.TheVariants.{Bool as Boolean}
use Rattle.proto_props.specs.Own.{is_length}
use Rattle.proto_props.specs.Gets.{text_unit}
use Rattle.js_semantics.specs.declared.fault.Fault.TheVariants.{ReadOnly}
use Rattle.js_semantics.specs.Prog.{Prog, give, throw}

-- whether a property of a string stays
abbrev pub is_kept : List ℕ → List ℕ → Bool
is_kept text key = if is_length key then true else is_some (text_unit text key)

-- what follows, where the property is gone, and where it stays
abbrev pub removed : Bool → Prog ℕ
removed true = give (Boolean true)
removed false = throw ReadOnly
