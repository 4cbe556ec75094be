-- The members of an object literal (ECMA-262, 13.2.5.5 and 15.4.5): their keys, and the properties that have functions.
use Rattle.std.specs.Prelude.{ℕ, Option, Some, None}
use Rattle.js_tree.specs.declared.node.NodeId.{NodeId}
use Rattle.js_tree.specs.declared.node.PropertyKey.{PropertyKey}
use Rattle.js_tree.specs.declared.node.PropertyKey.TheVariants.{Written, Computed}
use Rattle.js_tree.specs.declared.node.Node.{Node}
use Rattle.js_tree.specs.declared.node.Node.TheVariants as kinds
use Rattle.world_heap.specs.declared.value.Property.{Property}
use Rattle.world_heap.specs.declared.value.Property.TheVariants.{Data, Access}
use Rattle.world_heap.specs.declared.value.Value.TheVariants.{Ref}
use Rattle.js_semantics.specs.Properties.{plain, with_getter, with_setter}
use Rattle.js_step_object.specs.declared.member.Part.{Part}
use Rattle.js_step_object.specs.declared.member.Part.TheVariants.{Method, Getter, Setter}
use Rattle.js_step_object.specs.declared.member.Member.{Member}
use Rattle.js_step_object.specs.declared.member.Member.TheVariants as members

-- the node of a key that is computed
abbrev pub computed_by : PropertyKey → Option NodeId
computed_by (Written text) = None
computed_by (Computed node) = Some node

-- the getter and the setter of a property
abbrev pub getter_of : Option (Property ℕ) → Option ℕ
getter_of None = None
getter_of (Some (Data v w e c)) = None
getter_of (Some (Access get set e c)) = get

abbrev pub setter_of : Option (Property ℕ) → Option ℕ
setter_of None = None
setter_of (Some (Data v w e c)) = None
setter_of (Some (Access get set e c)) = set

-- the property that has a function, from what stood under its key
abbrev pub member_property : Part → ℕ → Option (Property ℕ) → Property ℕ
member_property Method f old = plain (Ref f)
member_property Getter f old = with_getter f old
member_property Setter f old = with_setter f old

-- what a member is
abbrev pub member_in : Option Node → Member
member_in (Some (kinds.Property key value)) = members.Value value
member_in (Some (kinds.Method key function)) = members.Function Method
member_in (Some (kinds.Getter key function)) = members.Function Getter
member_in (Some (kinds.Setter key function)) = members.Function Setter
member_in other = members.Nothing
