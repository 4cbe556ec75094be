-- How operators and properties are evaluated in place.
use Rattle.std.proofs.Common.{Bool, true, not, if◌then◌else◌, ◌≡◌, ◌≢◌, ℕ, ◌-◌, List, Some, slice_get, nat_eq, refl, sym, ap, ◌∙◌, arith, false, is_some, None, Option}
use Rattle.world_heap.specs.declared.value.Value.{Value}
use Rattle.world_heap.specs.declared.value.Value.TheVariants.{Str}
use Rattle.proto_props.specs.declared.get.Got.TheVariants.{Value as Given}
use Rattle.proto_props.specs.Gets.{gets, text_unit}
use Rattle.proto_props.specs.Own.{is_length}
use Rattle.js_semantics.specs.Properties.{made_of}
use Rattle.js_tree.specs.declared.node.NodeId.{NodeId}
use Rattle.js_tree.specs.declared.node.BinaryOperator.{BinaryOperator}
use Rattle.js_tree.specs.declared.node.Node.{Node}
use Rattle.js_semantics.specs.declared.scope.Scope.{Scope}
use Rattle.js_semantics.specs.Access.{get, take_up}
use Rattle.js_semantics.specs.Operators.{key_of}
use Rattle.js_semantics.specs.Expressions.{apply, row_binary, row_dot, row_index, with_key}
use Rattle.js_semantics.specs.Prog.{Prog, Node as NodeRequest, bind, eval, give, on_value, make_text}
use Rattle.js_semantics.specs.Rows.{row, row_of}
use Rattle.js_semantics.specs.Run.{receive, run}
use Rattle.js_semantics.proofs.Programs.{spend_some}
use Rattle.js_machine.specs.declared.state.State.{State}
use Rattle.js_machine.specs.Does.{Moves, StepsDown, budget_of, world_of}
use Rattle.js_machine.proofs.Doing.{moves_on, moves_read}
use Rattle.js_primary.specs.AtHand.{at_hand}
use Rattle.js_primary.specs.Composed.{BothWork, ComesAt, OnlySteps, RowWorks, Works}
use Rattle.js_primary.proofs.Evaluating.{node_gives, steps_some}

-- a property is read that has a value, where no text is made for it
pub read_gives : (nodes : List Node) (of : Value ℕ) (key : List ℕ) (v : Value ℕ) (s : State) (k : Value ℕ → Prog ℕ) → made_of of key ≡ None → Given v ≡ gets nat_eq s.heap.cells of key → Moves nodes (get of key k) s (k v) s
unfolding get
read_gives nodes of key v s k made is =
    moves_read nodes (λ w. take_up (gets w.same w.heap of key) of key k) (k v) s
    (λ supply. ap (λ g. take_up g of key k) (sym is) ∙ ap (λ (o : Option (List ℕ)). elim o [ Some text ↦ make_text text k | None ↦ k v ]) made)

none_by : {A : Type 0} (o : Option A) → is_some o ≡ false → o ≡ None
none_by None is = refl
none_by (Some x) is = absurd (cc is)

-- a text has no unit under a key
no_unit_made : (text key : List ℕ) → is_some (text_unit text key) ≡ false → ◌≡◌ {A = Option (List ℕ)} (made_of {L = ℕ} (Str text) key) None
no_unit_made text key is = by (is_length key)
  where
    by : (b : Bool) → ◌≡◌ {A = Option (List ℕ)} (if b then None else text_unit text key) None
    by true = refl
    by false = none_by (text_unit text key) is

pub no_unit_told : (text key : List ℕ) (b : Bool) → b ≡ is_some (text_unit text key) → not b ≡ true → ◌≡◌ {A = Option (List ℕ)} (made_of {L = ℕ} (Str text) key) None
no_unit_told text key true e is = absurd (cc is)
no_unit_told text key false e is = no_unit_made text key (sym e)

-- nothing but steps is taken by two, one after the other
pub only_twice : (old mid new : State) → OnlySteps old mid → OnlySteps mid new → OnlySteps old new
only_twice old mid new f g = rw f at g

-- and the steps are given back
pub given_back : (old mid : State) → OnlySteps old mid → ◌≡◌ {A = State} (record mid { steps = old.steps }) old
given_back old mid f = rw f refl

pub stepped_only : (old mid : State) → StepsDown old mid true → OnlySteps old mid
stepped_only old mid (some, is) = rw is refl

-- one node behind the other
pub both_work : (nodes : List Node) (left right : NodeId) (scope : Scope ℕ) (x y : Value ℕ) (old mid new : State) → Works nodes left scope old mid (Some x) → Works nodes right scope mid new (Some y) → BothWork nodes left right scope old new (Some (x, y))
both_work nodes left right scope x y old mid new f g =
    ((λ k. moves_on nodes (eval left scope (λ u. eval right scope (λ v. k u v))) (eval right scope (λ v. k x v)) (k x y) old mid new (f.0 (λ u. eval right scope (λ v. k u v))) (g.0 (λ v. k x v))), only_twice old mid new f.1 g.1)

-- a node is evaluated as its row gives a value, behind its step
pub node_works : (nodes : List Node) (node : NodeId) (scope : Scope ℕ) (here : Node) (v : Value ℕ) (old new : State) → slice_get nodes node.0 ≡ Some here → old.steps ≢ 0 → RowWorks nodes (row_of (Some here) node scope) (record old { steps = old.steps - 1 }) new (Some v)
    → Works nodes node scope old new (Some v)
unfolding run row
node_works nodes node scope here v old new stands some (m, only) = (
  (λ k. record {
    law = λ supply ds j follows.
        spend_some ds (receive ds) (budget_of old) (NodeRequest node scope) (λ o. bind (on_value k o) j) (world_of nodes supply old) some
        ∙ ap (λ o. run ds (record (budget_of old) { steps = old.steps - 1 }) (world_of nodes supply old) (bind (row_of o node scope) (λ u. bind (on_value k u) j))) stands
        ∙ m.law supply ds (λ o. bind (on_value k o) j) follows;
    frames = m.frames;
    left = let a = m.left in omega arith;
    keeps = m.keeps;
    stays = m.stays;
  }),
  only_twice old (record old { steps = old.steps - 1 }) new refl only,
)

-- a node whose value is at hand is evaluated by its step
pub leaf_works : (nodes : List Node) (node : NodeId) (scope : Scope ℕ) (v : Value ℕ) (old new : State) → ((supply : ℕ → ℕ) → at_hand (slice_get nodes node.0) scope (world_of nodes supply old) ≡ Some v) → StepsDown old new true → Works nodes node scope old new (Some v)
leaf_works nodes node scope v old new is step = (steps_some nodes node scope v old new (λ supply. node_gives nodes node scope supply old v (is supply)) step, stepped_only old new step)

-- the row of an operator, of a property under a name, and of one under a key
pub binary_works : (nodes : List Node) (operator : BinaryOperator) (left right : NodeId) (scope : Scope ℕ) (x y v : Value ℕ) (old new : State) → BothWork nodes left right scope old new (Some (x, y)) → ComesAt nodes (λ k. apply operator x y k) new (Some v) → RowWorks nodes (row_binary operator left right scope) old new (Some v)
unfolding row_binary
binary_works nodes operator left right scope x y v old new both at =
    (moves_on nodes (row_binary operator left right scope) (apply operator x y (λ u. give u)) (give v) old new new (both.0 (λ x y. apply operator x y (λ u. give u))) (at (λ u. give u)), both.1)

pub dot_works : (nodes : List Node) (object : NodeId) (name : List ℕ) (scope : Scope ℕ) (base v : Value ℕ) (old new : State) → Works nodes object scope old new (Some base) → ComesAt nodes (λ k. get base name k) new (Some v) → RowWorks nodes (row_dot object name scope) old new (Some v)
unfolding row_dot
dot_works nodes object name scope base v old new one at =
    (moves_on nodes (row_dot object name scope) (get base name (λ u. give u)) (give v) old new new (one.0 (λ base. get base name (λ u. give u))) (at (λ u. give u)), one.1)

pub index_works : (nodes : List Node) (object key : NodeId) (scope : Scope ℕ) (base at v : Value ℕ) (old new : State) → BothWork nodes object key scope old new (Some (base, at)) → ComesAt nodes (λ k. with_key (key_of at) (λ text. get base text k)) new (Some v) → RowWorks nodes (row_index object key scope) old new (Some v)
unfolding row_index
index_works nodes object key scope base at v old new both comes =
    (moves_on nodes (row_index object key scope) (with_key (key_of at) (λ text. get base text (λ u. give u))) (give v) old new new (both.0 (λ base at. with_key (key_of at) (λ text. get base text (λ u. give u)))) (comes (λ u. give u)), both.1)
