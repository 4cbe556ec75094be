-- The parts of a node that a frame goes through.
use Rattle.std.specs.Prelude.{ℕ, List, [], ◌∷◌, true, false, Option, Some, None, codes}
use Rattle.world_heap.specs.declared.value.Property.{Property}
use Rattle.world_heap.specs.declared.value.Property.TheVariants.{Data}
use Rattle.world_heap.specs.declared.value.Value.TheVariants.{Str}
use Rattle.js_tree.specs.declared.node.NodeId.{NodeId}
use Rattle.js_tree.specs.declared.node.Declarator.{Declarator}
use Rattle.js_tree.specs.declared.node.BindElement.{BindElement}
use Rattle.js_tree.specs.declared.node.BindProperty.{BindProperty}
use Rattle.js_tree.specs.declared.node.Function.{Function}
use Rattle.js_tree.specs.declared.node.PropertyKey.{PropertyKey}
use Rattle.js_tree.specs.declared.node.PropertyKey.TheVariants.{Written, Computed}
use Rattle.js_tree.specs.declared.node.Node.{Node}
use Rattle.js_tree.specs.declared.node.Node.TheVariants as kinds
use Rattle.js_semantics.specs.Access.{function_of}

-- the name in a `Name` or `Dot` node
unfoldable pub name_of : Option Node → List ℕ
name_of (Some (kinds.Name name)) = name
name_of (Some (kinds.Dot object name)) = name
name_of other = []

-- the items of a script or block, the elements, members and arguments of a node
unfoldable pub items_of : Option Node → List NodeId
items_of (Some (kinds.Script items)) = items
items_of (Some (kinds.Block items)) = items
items_of (Some (kinds.ArrayLit elements)) = elements
items_of (Some (kinds.ObjectLit members)) = members
items_of (Some (kinds.Call callee arguments)) = arguments
items_of (Some (kinds.New callee arguments)) = arguments
items_of other = []

-- the texts and the parts of a template
unfoldable pub texts_of : Option Node → List (List ℕ)
texts_of (Some (kinds.Template texts parts)) = texts
texts_of other = []

unfoldable pub parts_of : Option Node → List NodeId
parts_of (Some (kinds.Template texts parts)) = parts
parts_of other = []

-- the bindings of a declaration
unfoldable pub declarators_of : Option Node → List Declarator
declarators_of (Some (kinds.Let pairs)) = pairs
declarators_of (Some (kinds.Const pairs)) = pairs
declarators_of other = []

-- the parts of a pattern
unfoldable pub elements_of : Option Node → List BindElement
elements_of (Some (kinds.BindArray parts)) = parts
elements_of other = []

unfoldable pub entries_of : Option Node → List BindProperty
entries_of (Some (kinds.BindObject parts)) = parts
entries_of other = []

-- the parameters and the body of a node's function
abbrev pub parameters_in : Option Function → List BindElement
parameters_in (Some function) = function.parameters
parameters_in None = []

abbrev pub rest_in : Option Function → Option NodeId
rest_in (Some function) = function.rest
rest_in None = None

abbrev pub body_in : Option Function → NodeId
body_in (Some function) = function.body
body_in None = record { 0 = 0 }

unfoldable pub parameters_from : Option Node → List BindElement
parameters_from node = parameters_in (function_of node)

unfoldable pub rest_parameter : Option Node → Option NodeId
rest_parameter node = rest_in (function_of node)

unfoldable pub body_node : Option Node → NodeId
body_node node = body_in (function_of node)

-- the written key of a member
abbrev pub written : PropertyKey → List ℕ
written (Written text) = text
written (Computed node) = []

unfoldable pub key_part : Option Node → List ℕ
key_part (Some (kinds.Property key value)) = written key
key_part (Some (kinds.Method key function)) = written key
key_part (Some (kinds.Getter key function)) = written key
key_part (Some (kinds.Setter key function)) = written key
key_part other = []

-- the properties of an error with a message, or without one
abbrev pub message_entry : {L : Type 0} → Option (List ℕ) → List (List ℕ × Property L)
message_entry None = []
message_entry (Some message) = (codes "message", Data (Str message) true false true) ∷ []
