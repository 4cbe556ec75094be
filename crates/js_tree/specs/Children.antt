-- The children of a node, in the order of the text (ECMA-262, 13 to 15).
use Rattle.std.specs.Prelude.{ℕ, List, [], ◌∷◌, ◌++◌, map, Option, Some, None}
use Rattle.std.specs.List.{flat_map}
use Rattle.js_tree.specs.declared.node.NodeId.{NodeId}
use Rattle.js_tree.specs.declared.node.Declarator.{Declarator}
use Rattle.js_tree.specs.declared.node.BindElement.{BindElement}
use Rattle.js_tree.specs.declared.node.BindProperty.{BindProperty}
use Rattle.js_tree.specs.declared.node.Function.{Function}
use Rattle.js_tree.specs.declared.node.PropertyKey.{PropertyKey}
use Rattle.js_tree.specs.declared.node.PropertyKey.TheVariants.{Written, Computed}
use Rattle.js_tree.specs.declared.node.Node.{Node}
use Rattle.js_tree.specs.declared.node.Node.TheVariants.{Script, Block, Let, Const, FunDecl, If, While, DoWhile, For, ForOf, Return, Break, Continue, Throw, Try, Empty, ExprStmt, Name, This, Null, Bool, Num, Str, Template, ArrayLit, Spread, ObjectLit, Fun, Arrow, Seq, Cond, And, Or, Nullish, Assign, AssignOp, Update, Binary, Unary, Typeof, Delete, Dot, Index, Call, New, Property, Method, Getter, Setter, BindName, BindObject, BindArray}

abbrev pub one : NodeId → List ℕ
one id = id.0 ∷ []

abbrev pub given : Option NodeId → List ℕ
given None = []
given (Some id) = one id

abbrev pub all_of : List NodeId → List ℕ
all_of ids = map (λ id. id.0) ids

abbrev pub of_declarators : List Declarator → List ℕ
of_declarators pairs = flat_map (λ pair. one pair.bind ++ given pair.value) pairs

abbrev pub of_elements : List BindElement → List ℕ
of_elements parts = flat_map (λ part. one part.bind ++ given part.default) parts

abbrev pub of_properties : List BindProperty → List ℕ
of_properties parts = flat_map (λ part. one part.bind ++ given part.default) parts

abbrev pub of_function : Function → List ℕ
of_function function = of_elements function.parameters ++ (given function.rest ++ one function.body)

abbrev pub of_key : PropertyKey → List ℕ
of_key (Written text) = []
of_key (Computed id) = one id

-- the numbers of a node's children
unfoldable pub children : Node → List ℕ
children (Script items) = all_of items
children (Block items) = all_of items
children (Let pairs) = of_declarators pairs
children (Const pairs) = of_declarators pairs
children (FunDecl name function) = of_function function
children (If test then_part else_part) = one test ++ (one then_part ++ given else_part)
children (While test body) = one test ++ one body
children (DoWhile body test) = one body ++ one test
children (For first test next body) = given first ++ (given test ++ (given next ++ one body))
children (ForOf constant bind list body) = one bind ++ (one list ++ one body)
children (Return value) = given value
children Break = []
children Continue = []
children (Throw value) = one value
children (Try block bind handler last) = one block ++ (given bind ++ (given handler ++ given last))
children Empty = []
children (ExprStmt value) = one value
children (Name name) = []
children This = []
children Null = []
children (Bool value) = []
children (Num value) = []
children (Str text) = []
children (Template texts parts) = all_of parts
children (ArrayLit items) = all_of items
children (Spread value) = one value
children (ObjectLit members) = all_of members
children (Fun name function) = of_function function
children (Arrow function) = of_function function
children (Seq first second) = one first ++ one second
children (Cond test then_part else_part) = one test ++ (one then_part ++ one else_part)
children (And left right) = one left ++ one right
children (Or left right) = one left ++ one right
children (Nullish left right) = one left ++ one right
children (Assign target value) = one target ++ one value
children (AssignOp operator target value) = one target ++ one value
children (Update operator target before) = one target
children (Binary operator left right) = one left ++ one right
children (Unary operator operand) = one operand
children (Typeof operand) = one operand
children (Delete operand) = one operand
children (Dot object name) = one object
children (Index object key) = one object ++ one key
children (Call callee arguments) = one callee ++ all_of arguments
children (New callee arguments) = one callee ++ all_of arguments
children (Property key value) = of_key key ++ one value
children (Method key function) = of_key key ++ of_function function
children (Getter key function) = of_key key ++ of_function function
children (Setter key function) = of_key key ++ of_function function
children (BindName name) = []
children (BindObject parts) = of_properties parts
children (BindArray parts) = of_elements parts
