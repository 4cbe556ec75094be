-- Loops, whose turns are the entering of what stands first in them.
use Rattle.std.proofs.Common.{◌≡◌, ℕ, zero, suc, List, Bool, Option, Some, None, IfOk, Result, refl, ap, ◌∙◌}
use Rattle.world_heap.specs.declared.value.Value.{Value}
use Rattle.js_tree.specs.declared.node.NodeId.{NodeId}
use Rattle.js_tree.specs.declared.node.Node.{Node}
use Rattle.js_semantics.specs.declared.fault.StepFault.{StepFault}
use Rattle.js_semantics.specs.World.{World}
use Rattle.js_semantics.specs.declared.scope.Scope.{Scope}
use Rattle.js_semantics.specs.Prog.{Cont, End, Enter, Request, Node as NodeRequest, Bind, While, DoWhile, For, ForOf, bind, on_value}
use Rattle.js_semantics.specs.Statements.{while_turn, do_turn, for_tested, for_turn, of_bound}
use Rattle.js_semantics.specs.Rows.{row}
use Rattle.js_semantics.specs.Run.{Arrival, receive, run, spend, Waiting, go_with, end_with}
use Rattle.js_semantics.proofs.Programs.{bind_assoc}
use Rattle.js_machine.specs.declared.state.State.{State}
use Rattle.js_machine.specs.declared.state.Next.{Next}
use Rattle.js_machine.specs.Does.{Does, budget_of, world_of}
use Rattle.js_machine.proofs.Doing.{does_move_ok, moves_by}

-- a step of one request is a step of another, where its row goes on from the other's
spend_as : (ds : List Arrival) (later : ℕ → ℕ → Waiting ℕ) (steps places : ℕ) (r q : Request ℕ) (g k : Cont ℕ) (w : World ℕ) → row r ≡ bind (row q) g → spend ds later steps places r k w ≡ spend ds later steps places q (λ o. bind (g o) k) w
spend_as ds later zero places r q g k w is = refl
spend_as ds later (suc steps) places r q g k w is = ap (λ p. go_with (end_with ds steps) (spend ds later steps) (later steps) places w p) (ap (λ p. bind p k) is ∙ bind_assoc (row q) g k)

pub does_as_ok : (nodes : List Node) (n : ℕ) (r q : Request ℕ) (g : Cont ℕ) (old new : State) (result : Result Next StepFault) → row r ≡ bind (row q) g → IfOk result (λ next. Does nodes n (Enter q g) old new next) → IfOk result (λ next. Does nodes n (Enter r (λ o. End o)) old new next)
unfolding run
does_as_ok nodes n r q g old new result is = does_move_ok nodes n _ _ old old new result (moves_by nodes _ _ old (λ supply ds k. spend_as ds (receive ds) old.steps (budget_of old).places r q g k (world_of nodes supply old) is))

while_row : (test body : NodeId) (scope : Scope ℕ) → row (While test body scope) ≡ bind (row (NodeRequest test scope)) (λ o. on_value (while_turn test body scope) o)
unfolding row
while_row test body scope = refl

do_row : (body test : NodeId) (scope : Scope ℕ) → row (DoWhile body test scope) ≡ bind (row (NodeRequest body scope)) (do_turn body test scope)
unfolding row
do_row body test scope = refl

for_row_some : (copied : Bool) (test next : Option NodeId) (body node : NodeId) (scope : Scope ℕ) → test ≡ Some node → row (For copied test next body scope) ≡ bind (row (NodeRequest node scope)) (λ o. on_value (for_tested copied test next body scope) o)
unfolding row
for_row_some copied test next body node scope is = rw is refl

for_row_none : (copied : Bool) (test next : Option NodeId) (body : NodeId) (scope : Scope ℕ) → test ≡ None → row (For copied test next body scope) ≡ bind (row (NodeRequest body scope)) (for_turn copied test next body scope)
unfolding row
for_row_none copied test next body scope is = rw is refl

of_row : (constant : Bool) (pattern body : NodeId) (array place : ℕ) (item : Value ℕ) (turn around : Scope ℕ) → row (ForOf constant pattern body array place item turn around) ≡ bind (row (Bind pattern item turn)) (λ o. on_value (λ u. of_bound constant pattern body array place turn around) o)
unfolding row
of_row constant pattern body array place item turn around = refl

-- a turn of each loop
pub does_while_ok : (nodes : List Node) (n : ℕ) (test body : NodeId) (scope : Scope ℕ) (old new : State) (result : Result Next StepFault) → IfOk result (λ next. Does nodes n (Enter (NodeRequest test scope) (λ o. on_value (while_turn test body scope) o)) old new next) → IfOk result (λ next. Does nodes n (Enter (While test body scope) (λ o. End o)) old new next)
does_while_ok nodes n test body scope old new result = does_as_ok nodes n (While test body scope) (NodeRequest test scope) _ old new result (while_row test body scope)

pub does_do_ok : (nodes : List Node) (n : ℕ) (body test : NodeId) (scope : Scope ℕ) (old new : State) (result : Result Next StepFault) → IfOk result (λ next. Does nodes n (Enter (NodeRequest body scope) (λ o. do_turn body test scope o)) old new next) → IfOk result (λ next. Does nodes n (Enter (DoWhile body test scope) (λ o. End o)) old new next)
does_do_ok nodes n body test scope old new result = does_as_ok nodes n (DoWhile body test scope) (NodeRequest body scope) _ old new result (do_row body test scope)

pub does_for_some_ok : (nodes : List Node) (n : ℕ) (copied : Bool) (test next : Option NodeId) (body node : NodeId) (scope : Scope ℕ) (old new : State) (result : Result Next StepFault) → test ≡ Some node → IfOk result (λ made. Does nodes n (Enter (NodeRequest node scope) (λ o. on_value (for_tested copied test next body scope) o)) old new made) → IfOk result (λ made. Does nodes n (Enter (For copied test next body scope) (λ o. End o)) old new made)
does_for_some_ok nodes n copied test next body node scope old new result is = does_as_ok nodes n (For copied test next body scope) (NodeRequest node scope) _ old new result (for_row_some copied test next body node scope is)

pub does_for_none_ok : (nodes : List Node) (n : ℕ) (copied : Bool) (test next : Option NodeId) (body : NodeId) (scope : Scope ℕ) (old new : State) (result : Result Next StepFault) → test ≡ None → IfOk result (λ made. Does nodes n (Enter (NodeRequest body scope) (λ o. for_turn copied test next body scope o)) old new made) → IfOk result (λ made. Does nodes n (Enter (For copied test next body scope) (λ o. End o)) old new made)
does_for_none_ok nodes n copied test next body scope old new result is = does_as_ok nodes n (For copied test next body scope) (NodeRequest body scope) _ old new result (for_row_none copied test next body scope is)

pub does_of_ok : (nodes : List Node) (n : ℕ) (constant : Bool) (pattern body : NodeId) (array place : ℕ) (item : Value ℕ) (turn around : Scope ℕ) (old new : State) (result : Result Next StepFault) → IfOk result (λ next. Does nodes n (Enter (Bind pattern item turn) (λ o. on_value (λ u. of_bound constant pattern body array place turn around) o)) old new next) → IfOk result (λ next. Does nodes n (Enter (ForOf constant pattern body array place item turn around) (λ o. End o)) old new next)
does_of_ok nodes n constant pattern body array place item turn around old new result = does_as_ok nodes n (ForOf constant pattern body array place item turn around) (Bind pattern item turn) _ old new result (of_row constant pattern body array place item turn around)
