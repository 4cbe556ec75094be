-- The rows of members, by what they are.
use Rattle.std.proofs.Common.{◌≡◌, ℕ, List, Option, Some, None, true, refl}
use Rattle.std.specs.Option.{option_map}
use Rattle.js_tree.specs.declared.node.NodeId.{NodeId}
use Rattle.js_tree.specs.declared.node.PropertyKey.TheVariants.{Written, Computed}
use Rattle.js_tree.specs.declared.node.Node.{Node}
use Rattle.js_tree.specs.declared.node.Node.TheVariants as kinds
use Rattle.world_heap.specs.declared.value.Property.{Property}
use Rattle.world_heap.specs.declared.value.Property.TheVariants.{Data, Access}
use Rattle.js_semantics.specs.declared.scope.Scope.{Scope}
use Rattle.js_semantics.specs.Prog.{Prog, done, eval}
use Rattle.js_semantics.specs.Access.{define}
use Rattle.js_semantics.specs.Expressions.{with_key}
use Rattle.js_semantics.specs.Objects.{make_closure, member_key_of, member_of, member_under}
use Rattle.js_semantics.specs.Operators.{key_of}
use Rattle.js_semantics.specs.Properties.{plain, with_getter, with_setter}
use Rattle.js_machine.specs.Parts.{key_part}
use Rattle.js_step_object.specs.Members.{computed_by, getter_of, member_in, member_property, setter_of}
use Rattle.js_step_object.specs.declared.member.Member.{Member}
use Rattle.js_step_object.specs.declared.member.Member.TheVariants.{Value, Function, Nothing}

-- what is done for a member under its key
abbrev pub member_row : Member → NodeId → ℕ → Scope ℕ → List ℕ → Prog ℕ
member_row (Value value) node loc scope text = eval value scope (λ v. define loc text (λ old. plain v) done)
member_row (Function part) node loc scope text = make_closure node scope.env None (λ f. define loc text (λ old. member_property part f old) done)
member_row Nothing node loc scope text = done

pub member_is : (o : Option Node) (node : NodeId) (loc : ℕ) (scope : Scope ℕ) (text : List ℕ) → member_under o node loc scope text ≡ member_row (member_in o) node loc scope text
member_is (Some (kinds.Property key value)) node loc scope text = refl
member_is (Some (kinds.Method key function)) node loc scope text = refl
member_is (Some (kinds.Getter key function)) node loc scope text = refl
member_is (Some (kinds.Setter key function)) node loc scope text = refl
member_is other node loc scope text = refl

-- what is done for a member by how its key is told
abbrev pub keyed_row : Option (Option NodeId) → Option Node → NodeId → ℕ → Scope ℕ → Prog ℕ
keyed_row None o node loc scope = done
keyed_row (Some None) o node loc scope = member_under o node loc scope (key_part o)
keyed_row (Some (Some key)) o node loc scope = eval key scope (λ v. with_key (key_of v) (λ text. member_under o node loc scope text))

pub keyed_is : (o : Option Node) (node : NodeId) (loc : ℕ) (scope : Scope ℕ) → member_of o node loc scope ≡ keyed_row (option_map computed_by (member_key_of o)) o node loc scope
unfolding member_of key_part
keyed_is (Some (kinds.Property (Written text) value)) node loc scope = refl
keyed_is (Some (kinds.Property (Computed key) value)) node loc scope = refl
keyed_is (Some (kinds.Method (Written text) function)) node loc scope = refl
keyed_is (Some (kinds.Method (Computed key) function)) node loc scope = refl
keyed_is (Some (kinds.Getter (Written text) function)) node loc scope = refl
keyed_is (Some (kinds.Getter (Computed key) function)) node loc scope = refl
keyed_is (Some (kinds.Setter (Written text) function)) node loc scope = refl
keyed_is (Some (kinds.Setter (Computed key) function)) node loc scope = refl
keyed_is other node loc scope = refl

-- a getter beside the setter that stands, and a setter beside the getter
pub getter_is : (f : ℕ) (old : Option (Property ℕ)) → Access (Some f) (setter_of old) true true ≡ with_getter f old
getter_is f None = refl
getter_is f (Some (Data v w e c)) = refl
getter_is f (Some (Access get set e c)) = refl

pub setter_is : (f : ℕ) (old : Option (Property ℕ)) → Access (getter_of old) (Some f) true true ≡ with_setter f old
setter_is f None = refl
setter_is f (Some (Data v w e c)) = refl
setter_is f (Some (Access get set e c)) = refl
