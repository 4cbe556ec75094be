-- How what is evaluated in place is put together with the row around it.
use Rattle.std.proofs.Common.{◌≡◌, ℕ, ◌-◌, ◌≤◌, List, Option, Some, None, true, IfOk, Result, Ok, Err, MatchResult, slice_get, refl, ap, subst, ◌∙◌, arith}
use Rattle.world_heap.specs.declared.value.Value.{Value}
use Rattle.world_heap.specs.declared.value.Value.TheVariants.{Null, Bool as Boolean, Num, Str}
use Rattle.world_heap.specs.declared.cell.Binding.{Binding}
use Rattle.world_heap.specs.declared.cell.Cell.{Cell}
use Rattle.world_heap.specs.Over.{OptionOver}
use Rattle.js_tree.specs.declared.node.NodeId.{NodeId}
use Rattle.js_tree.specs.declared.node.Node.{Node}
use Rattle.js_tree.specs.declared.node.Node.TheVariants as kinds
use Rattle.js_semantics.specs.declared.scope.Scope.{Scope}
use Rattle.js_semantics.specs.declared.fault.Fault.TheVariants.{NotDefined}
use Rattle.js_semantics.specs.declared.fault.StepFault.{StepFault}
use Rattle.js_semantics.specs.declared.fault.StepFault.TheVariants.{Memory}
use Rattle.js_semantics.specs.World.{World}
use Rattle.js_semantics.specs.Access.{binding_value, global_holder, read_global, read_name}
use Rattle.js_semantics.specs.Environments.{binding_of}
use Rattle.js_semantics.specs.Operators.{literal_number}
use Rattle.js_semantics.specs.Expressions.{row_name, row_this}
use Rattle.js_semantics.specs.Prog.{Prog, Over, Step, Node as NodeRequest, bind, eval, give, on_value, step, throw}
use Rattle.js_semantics.specs.Rows.{row, row_of}
use Rattle.js_semantics.specs.Run.{receive, run}
use Rattle.js_semantics.proofs.Programs.{spend_some}
use Rattle.js_calls.specs.declared.naming.Named.{Named}
use Rattle.js_calls.specs.declared.naming.Named.TheVariants.{Held}
use Rattle.js_calls.specs.Closed.{NamedFits}
use Rattle.js_calls.specs.Naming.{named, value_named}
use Rattle.js_machine.specs.declared.state.State.{State}
use Rattle.js_machine.specs.declared.state.Next.{Next}
use Rattle.js_machine.specs.Closed.{ValueFits}
use Rattle.js_machine.specs.Does.{Does, Moves, StepsDown, budget_of, world_of}
use Rattle.js_machine.proofs.Doing.{allowing, does_move_ok, moves_by, moves_on, moves_step, not_entered}
use Rattle.js_primary.specs.declared.taking.Taken.{Taken}
use Rattle.js_primary.specs.declared.taking.Taken.TheVariants as taken
use Rattle.js_primary.specs.AtHand.{at_hand, held, name_at_hand, ready}
use Rattle.js_primary.specs.Giving.{ComesTo, Gives, StepsTo, Takes, TakesAtHand, TakesBound}

-- what a name stands for as a binding is the value of the innermost one, where this is ready
held_value : (u : Option (Value ℕ)) → held (value_named u) ≡ u
unfolding held value_named
held_value None = refl
held_value (Some v) = refl

pub held_is : (b : Option (ℕ × Binding ℕ)) (g : Option (Value ℕ)) → held (named b g) ≡ ready b
unfolding held named
held_is None None = refl
held_is None (Some g) = refl
held_is (Some found) g = held_value found.1.value

pub held_fits : (cells : List (ℕ × Cell ℕ)) (m : Named ℕ) → NamedFits cells m → OptionOver (ValueFits cells) (held m)
unfolding held
held_fits cells (Held v) h = h
held_fits cells other h = tt

-- a name that is bound is read
reads_ready : (name : List ℕ) (absent : Prog ℕ) (k : Value ℕ → Prog ℕ) (v : Value ℕ) (b : Option (ℕ × Binding ℕ)) (g : Option (Value ℕ)) → ready b ≡ Some v → (elim b [ Some found ↦ binding_value found.1.value k | None ↦ read_global g name absent k ]) ≡ k v
reads_ready name absent k v None g is = absurd (cc is)
reads_ready name absent k v (Some found) g is = ap (λ u. binding_value u k) is

bound_comes : (w : World ℕ) (env : ℕ) (name : List ℕ) (absent : Prog ℕ) (k : Value ℕ → Prog ℕ) (v : Value ℕ) → ready (binding_of env name w) ≡ Some v → ComesTo (read_name env name absent k) w (k v)
unfolding run read_name
bound_comes w env name absent k v is = λ ds b j. ap (λ p. run ds b w (bind p j)) (reads_ready name absent k v (binding_of env name w) (global_holder name w) is)

-- the row of a node whose value is at hand gives it
given : (u v : Value ℕ) (w : World ℕ) → ◌≡◌ {A = Option (Value ℕ)} (Some u) (Some v) → Gives (give u) w v
given u v w is = let same : u ≡ v = cc is in λ ds b k. ap (λ x. run ds b w (bind (give x) k)) same

at_hand_gives : (o : Option Node) (node : NodeId) (scope : Scope ℕ) (w : World ℕ) (v : Value ℕ) → at_hand o scope w ≡ Some v → Gives (row_of o node scope) w v
unfolding at_hand row_of row_name row_this
at_hand_gives (Some (kinds.Name name)) node scope w v is = bound_comes w scope.env name (throw NotDefined) (λ u. give u) v is
at_hand_gives (Some kinds.This) node scope w v is = given scope.receiver v w is
at_hand_gives (Some kinds.Null) node scope w v is = given Null v w is
at_hand_gives (Some (kinds.Bool b)) node scope w v is = given (Boolean b) v w is
at_hand_gives (Some (kinds.Num z)) node scope w v is = given (Num (literal_number z)) v w is
at_hand_gives (Some (kinds.Str text)) node scope w v is = given (Str text) v w is
at_hand_gives other node scope w v is = absurd (cc is)

pub node_gives : (nodes : List Node) (node : NodeId) (scope : Scope ℕ) (supply : ℕ → ℕ) (s : State) (v : Value ℕ) → at_hand (slice_get nodes node.0) scope (world_of nodes supply s) ≡ Some v → Gives (row (NodeRequest node scope)) (world_of nodes supply s) v
unfolding run row
node_gives nodes node scope supply s v is = λ ds b k. at_hand_gives (slice_get nodes node.0) node scope (world_of nodes supply s) v is ds b k

-- what is known of a value that was copied
pub known_fits : (cells : List (ℕ × Cell ℕ)) (o : Option (Value ℕ)) (r : Result (Option (Value ℕ)) StepFault) → OptionOver (ValueFits cells) o → MatchResult r (λ x. x ≡ o) (λ fault. fault ≡ Memory) → MatchResult r (λ x. OptionOver (ValueFits cells) x) (λ fault. fault ≡ Memory)
known_fits cells o (Ok x) h is = rw is h
known_fits cells o (Err fault) h is = is

pub known_ok : (o p : Option (Value ℕ)) (r : Result (Option (Value ℕ)) StepFault) → o ≡ p → MatchResult r (λ x. x ≡ o) (λ fault. fault ≡ Memory) → IfOk r (λ x. x ≡ p)
known_ok o p (Ok x) same is = is ∙ same
known_ok o p (Err fault) same is = tt

-- the step of a node is taken that gives a value
pub steps_some : (nodes : List Node) (node : NodeId) (scope : Scope ℕ) (v : Value ℕ) (old mid : State) → ((supply : ℕ → ℕ) → Gives (row (NodeRequest node scope)) (world_of nodes supply old) v) → StepsDown old mid true
    → (k : Value ℕ → Prog ℕ) → Moves nodes (eval node scope k) old (k v) mid
unfolding run
steps_some nodes node scope v old mid gives (some, is) k = rw is (record {
  law = λ supply ds j follows.
      spend_some ds (receive ds) (budget_of old) (NodeRequest node scope) (λ o. bind (on_value k o) j) (world_of nodes supply old) some
      ∙ gives supply ds (record (budget_of old) { steps = old.steps - 1 }) (λ o. bind (on_value k o) j);
  frames = refl;
  left = omega arith;
  keeps = λ supply f. f;
  stays = refl;
})

pub value_taken : (nodes : List Node) (node : NodeId) (scope : Scope ℕ) (value : Value ℕ) (old new : State) (t : Taken ℕ) → ((supply : ℕ → ℕ) → Gives (row (NodeRequest node scope)) (world_of nodes supply old) value) → StepsTo value old new t
    → Takes nodes node scope old new t
value_taken nodes node scope value old new (taken.Value v) gives (same, h) k = rw same (steps_some nodes node scope value old new gives h k)
value_taken nodes node scope value old new (taken.Ended next) gives (stop, (none, is)) k = rw stop (not_entered nodes 2 old new (NodeRequest node scope) (λ o. on_value k o) (omega arith) none is)
value_taken nodes node scope value old new taken.Nothing gives never k = absurd never

-- in this state a node is a name that stands for a value, where it is read from an environment on
record Names (nodes : List Node) (node : NodeId) (env : ℕ) (s : State) (v : Value ℕ) : Type 0 where
  pub name : List ℕ
  pub is : slice_get nodes node.0 ≡ Some (kinds.Name name)
  pub reads : (supply : ℕ → ℕ) (absent : Prog ℕ) (k : Value ℕ → Prog ℕ) → ComesTo (read_name env name absent k) (world_of nodes supply s) (k v)

names_by : (nodes : List Node) (node : NodeId) (env : ℕ) (s : State) (v : Value ℕ) (o : Option Node) → slice_get nodes node.0 ≡ o → ((supply : ℕ → ℕ) → name_at_hand o env (world_of nodes supply s) ≡ Some v) → Names nodes node env s v
unfolding name_at_hand
names_by nodes node env s v (Some (kinds.Name name)) e is = record { name = name; is = e; reads = λ supply absent k. bound_comes (world_of nodes supply s) env name absent k v (is supply) }
names_by nodes node env s v other e is = absurd (cc (is (λ n. n)))

-- the step of a name is taken
name_taken : (nodes : List Node) (node : NodeId) (env : ℕ) (value : Value ℕ) (old new : State) (t : Taken ℕ) → Names nodes node env old value → StepsTo value old new t → TakesBound nodes node env old new t
name_taken nodes node env value old new (taken.Value v) names (same, (some, is)) =
    let mid : State = record old { steps = old.steps - 1 } in
    record {
      name = names.name;
      is = names.is;
      reads = λ absent k.
          let p : Prog ℕ = read_name env names.name absent k in
          rw (same, is) (moves_on nodes (step p) p (k value) old mid mid (moves_step nodes p old mid (some, refl)) (moves_by nodes p (k value) mid (λ supply ds j. names.reads supply absent k ds (budget_of mid) j)));
    }
name_taken nodes node env value old new (taken.Ended next) names (stop, (none, is)) = record {
  name = names.name;
  is = names.is;
  reads = λ absent k. rw stop (not_entered nodes 2 old new Step (λ o. read_name env names.name absent k) (omega arith) none is);
}
name_taken nodes node env value old new taken.Nothing names never = absurd never

pub bound_taken : (nodes : List Node) (node : NodeId) (env : ℕ) (value : Value ℕ) (old new : State) (t : Taken ℕ) → ((supply : ℕ → ℕ) → name_at_hand (slice_get nodes node.0) env (world_of nodes supply old) ≡ Some value) → StepsTo value old new t → TakesBound nodes node env old new t
bound_taken nodes node env value old new t is h = name_taken nodes node env value old new t (names_by nodes node env old value (slice_get nodes node.0) refl is) h

-- what is done with a value that was taken
pub taken_ok : (nodes : List Node) (n : ℕ) (node : NodeId) (scope : Scope ℕ) (k : Value ℕ → Prog ℕ) (old mid new : State) (t : Taken ℕ) (v : Value ℕ) (r : Result Next StepFault)
    → Takes nodes node scope old mid t → t ≡ taken.Value v → IfOk r (λ next. Does nodes n (k v) mid new next) → IfOk r (λ next. Does nodes n (eval node scope k) old new next)
taken_ok nodes n node scope k old mid new t v r h is = does_move_ok nodes n (eval node scope k) (k v) old mid new r (subst (Takes nodes node scope old mid) is h k)

pub taken_ended : (nodes : List Node) (n : ℕ) (node : NodeId) (scope : Scope ℕ) (k : Value ℕ → Prog ℕ) (old mid : State) (t : Taken ℕ) (next : Next)
    → 2 ≤ n → Takes nodes node scope old mid t → t ≡ taken.Ended next → Does nodes n (eval node scope k) old mid next
taken_ended nodes n node scope k old mid t next le h is = allowing nodes 2 n (eval node scope k) old mid next le (subst (Takes nodes node scope old mid) is h k)

pub not_taken : (nodes : List Node) (node : NodeId) (scope : Scope ℕ) (old mid : State) (t : Taken ℕ) → Takes nodes node scope old mid t → t ≡ taken.Nothing → mid ≡ old
not_taken nodes node scope old mid t h is = subst (Takes nodes node scope old mid) is h (λ v. Over)

pub nothing_ok : (nodes : List Node) (n : ℕ) (p : Prog ℕ) (node : NodeId) (scope : Scope ℕ) (old mid new : State) (t : Taken ℕ) (r : Result Next StepFault)
    → Takes nodes node scope old mid t → t ≡ taken.Nothing → IfOk r (λ next. Does nodes n p mid new next) → IfOk r (λ next. Does nodes n p old new next)
nothing_ok nodes n p node scope old mid new t r h is d = rw (not_taken nodes node scope old mid t h is) at d

-- nothing is said of steps where no value is at hand
pub not_at_hand : (old new : State) (r : Result (Taken ℕ) StepFault) → IfOk r (λ t. TakesAtHand None old new t)
not_at_hand old new (Ok t) = tt
not_at_hand old new (Err fault) = tt
