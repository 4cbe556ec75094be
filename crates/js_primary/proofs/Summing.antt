-- A sum that is evaluated in place: a text may be made by it, or an error thrown.
use Rattle.std.proofs.Common.{◌≡◌, ◌≢◌, ℕ, ◌+◌, ◌-◌, List, Bool, true, false, nat_lt, if◌then◌else◌, length, Option, Some, None, Result, Ok, Err, IfOk, slice_get, refl, sym, ap, subst, ◌∙◌, arith}
use Rattle.std.proofs.Math.Path.{fun_ext}
use Rattle.world_heap.specs.declared.value.Value.{Value}
use Rattle.world_heap.specs.declared.value.Value.TheVariants.{Ref, Str}
use Rattle.world_heap.specs.declared.cell.Cell.{Cell}
use Rattle.js_tree.specs.declared.node.NodeId.{NodeId}
use Rattle.js_tree.specs.declared.node.BinaryOperator.TheVariants.{Add}
use Rattle.js_tree.specs.declared.node.Node.{Node}
use Rattle.js_tree.specs.declared.node.Node.TheVariants as kinds
use Rattle.js_semantics.specs.declared.fault.Fault.{Fault}
use Rattle.js_semantics.specs.declared.fault.Fault.TheVariants.{TooLong}
use Rattle.world_log.specs.declared.entry.Stop.TheVariants.{Units}
use Rattle.js_semantics.specs.declared.fault.StepFault.{StepFault}
use Rattle.js_semantics.specs.declared.outcome.Outcome.TheVariants.{Thrown}
use Rattle.js_semantics.specs.declared.scope.Scope.{Scope}
use Rattle.js_semantics.specs.World.{World}
use Rattle.js_semantics.specs.Prog.{Prog, End, Read, Write, Node as NodeRequest, alloc, bind, count_units, eval, give, halt, make_text, on_value, placed, throw, with_new}
use Rattle.js_semantics.specs.Operators.{Computed, Is, Makes, Fails, of_operands}
use Rattle.js_semantics.specs.Expressions.{apply, compute, row_binary}
use Rattle.js_semantics.specs.Rows.{row, row_of}
use Rattle.js_semantics.specs.Run.{receive, run}
use Rattle.js_semantics.proofs.Programs.{bind_assoc, count_bind, spend_some}
use Rattle.world_heap.specs.Heaps.{places_of}
use Rattle.js_machine.specs.declared.state.State.{State}
use Rattle.js_machine.specs.Does.{Moves, budget_of, world_of}
use Rattle.js_machine.specs.Closed.{GoesOn, IsClosed, ValueFits}
use Rattle.js_machine.proofs.Closing.{goes_on, stays_closed, value_grown}
use Rattle.js_machine.proofs.Doing.{does_move, moves_on}
use Rattle.js_step_expr.specs.Fitting.{LastsWith}
use Rattle.js_primary.specs.declared.taking.Taken.{Taken}
use Rattle.js_primary.specs.declared.taking.Taken.TheVariants as taken
use Rattle.js_primary.specs.Composed.{BothFit, BothWork, OnlySteps}
use Rattle.js_primary.specs.Giving.{Comes, IsTaken, TakenFits, Takes}

module _ (k : Value ℕ → Prog ℕ) where
  -- what is thrown passes what would be done with a value
  placed_passes : (o : Option ℕ) (cell : Cell ℕ) → bind (placed o cell (λ loc. End (Thrown (Ref loc)))) (λ p. on_value k p) ≡ placed o cell (λ loc. End (Thrown (Ref loc)))
  placed_passes None cell = refl
  placed_passes (Some loc) cell = count_bind (places_of cell) (Read (λ w. Write (with_new loc cell w) (End (Thrown (Ref loc))))) (λ p. on_value k p)

  alloc_passes : (cell : Cell ℕ) → bind (alloc cell (λ loc. End (Thrown (Ref loc)))) (λ p. on_value k p) ≡ alloc cell (λ loc. End (Thrown (Ref loc)))
  unfolding alloc
  alloc_passes cell = ap (λ f. Read f) (fun_ext (λ w. placed_passes (w.supply (length w.heap)) cell))

  throw_passes : (fault : Fault) → bind (throw fault) (λ p. on_value k p) ≡ throw fault
  unfolding throw
  throw_passes fault = ap (λ f. Read f) (fun_ext (λ w. alloc_passes _))

  -- units are counted before the text is there
  units_pass : (n : ℕ) (v : Value ℕ) → bind (count_units n (give v)) (λ p. on_value k p) ≡ count_units n (k v)
  unfolding count_units
  units_pass n v = ap (λ f. Read f) (fun_ext (λ w. by (nat_lt w.limits.units (w.units + n)) w))
    where
      by : (b : Bool) (w : World ℕ) → bind (if b then halt Units else Write (record w { units = w.units + n }) (give v)) (λ p. on_value k p) ≡ (if b then halt Units else Write (record w { units = w.units + n }) (k v))
      by true w = refl
      by false w = refl

  text_passes : (text : List ℕ) → bind (make_text text (λ v. give v)) (λ p. on_value k p) ≡ make_text text k
  unfolding make_text
  text_passes text = by (nat_lt 1_048_576 (length text))
    where
      by : (b : Bool) → bind (if b then throw TooLong else count_units (length text) (give (Str text))) (λ p. on_value k p) ≡ (if b then throw TooLong else count_units (length text) (k (Str text)))
      by true = throw_passes TooLong
      by false = units_pass (length text) (Str text)

  compute_passes : (c : Computed ℕ) → bind (compute c (λ v. give v)) (λ p. on_value k p) ≡ compute c k
  unfolding compute
  compute_passes (Is v) = refl
  compute_passes (Makes text) = text_passes text
  compute_passes (Fails fault) = throw_passes fault

  sum_passes : (x y : Value ℕ) → bind (apply Add x y (λ v. give v)) (λ p. on_value k p) ≡ apply Add x y k
  unfolding apply
  sum_passes x y = compute_passes (of_operands Add x y)

-- what a node comes to whose row comes to a program, behind its step
node_comes : (nodes : List Node) (node : NodeId) (scope : Scope ℕ) (here : Node) (q : Prog ℕ) (old new : State) (k : Value ℕ → Prog ℕ) → slice_get nodes node.0 ≡ Some here → old.steps ≢ 0 → Moves nodes (row_of (Some here) node scope) (record old { steps = old.steps - 1 }) q new
    → Moves nodes (eval node scope k) old (bind q (λ o. on_value k o)) new
unfolding run row
node_comes nodes node scope here q old new k stands some m = record {
  law = λ supply ds j follows.
      spend_some ds (receive ds) (budget_of old) (NodeRequest node scope) (λ o. bind (on_value k o) j) (world_of nodes supply old) some
      ∙ ap (λ o. run ds (record (budget_of old) { steps = old.steps - 1 }) (world_of nodes supply old) (bind (row_of o node scope) (λ u. bind (on_value k u) j))) stands
      ∙ m.law supply ds (λ o. bind (on_value k o) j) follows
      ∙ sym (ap (λ p. run ds (budget_of new) (world_of nodes supply new) p) (bind_assoc q (λ o. on_value k o) j));
  frames = m.frames;
  left = let a = m.left in omega arith;
  keeps = m.keeps;
  stays = m.stays;
}

pub sum_comes : (nodes : List Node) (node : NodeId) (scope : Scope ℕ) (left right : NodeId) (x y : Value ℕ) (old new : State) (k : Value ℕ → Prog ℕ) → slice_get nodes node.0 ≡ Some (kinds.Binary Add left right) → old.steps ≢ 0 → BothWork nodes left right scope (record old { steps = old.steps - 1 }) new (Some (x, y))
    → Moves nodes (eval node scope k) old (apply Add x y k) new
unfolding row_of row_binary
sum_comes nodes node scope left right x y old new k stands some both =
    subst (λ q. Moves nodes (eval node scope k) old q new) (sum_passes k x y)
    (node_comes nodes node scope (kinds.Binary Add left right) (apply Add x y (λ v. give v)) old new k stands some (both.0 (λ x y. apply Add x y (λ v. give v))))

-- a sum is taken as what it comes to
pub sum_taken : (nodes : List Node) (p : (Value ℕ → Prog ℕ) → Prog ℕ) (node : NodeId) (scope : Scope ℕ) (old mid new : State) (r : Result (Taken ℕ) StepFault) → ((k : Value ℕ → Prog ℕ) → Moves nodes (eval node scope k) old (p k) mid) → IfOk r (λ t. IsTaken t) → IfOk r (λ t. (k : Value ℕ → Prog ℕ) → Comes nodes (p k) k mid new t)
    → IfOk r (λ t. Takes nodes node scope old new t)
sum_taken nodes p node scope old mid new (Ok (taken.Value v)) m never h = λ k. moves_on nodes (eval node scope k) (p k) (k v) old mid new (m k) (h k)
sum_taken nodes p node scope old mid new (Ok (taken.Ended next)) m never h = λ k. does_move nodes 2 (eval node scope k) (p k) old mid new next (m k) (h k)
sum_taken nodes p node scope old mid new (Ok taken.Nothing) m never h = absurd never
sum_taken nodes p node scope old mid new (Err fault) m never h = tt

-- where only steps were taken, what was closed is
only_goes : (nodes : List Node) (old mid : State) → OnlySteps old mid → IsClosed nodes old → GoesOn nodes old mid
only_goes nodes old mid only closed = subst (λ s. GoesOn nodes old s) (sym only) (record { closed = closed; grows = (stays_closed nodes old closed).grows })

pub sum_fits : (nodes : List Node) (x y : Value ℕ) (old mid new : State) (r : Result (Taken ℕ) StepFault) → OnlySteps old mid → IsClosed nodes old → BothFit old.heap.cells (x, y)
    → (IsClosed nodes mid → ValueFits mid.heap.cells x → ValueFits mid.heap.cells y → LastsWith TakenFits nodes mid new r) → LastsWith TakenFits nodes old new r
sum_fits nodes x y old mid new r only closed (fits_x, fits_y) h = by r (h went.closed (value_grown nodes old.heap.cells mid.heap.cells went.grows x fits_x) (value_grown nodes old.heap.cells mid.heap.cells went.grows y fits_y))
  where
    went : GoesOn nodes old mid
    went = only_goes nodes old mid only closed

    by : (r : Result (Taken ℕ) StepFault) → LastsWith TakenFits nodes mid new r → LastsWith TakenFits nodes old new r
    by (Ok t) f = (goes_on nodes old mid new went f.0, f.1)
    by (Err fault) f = f
