-- What fits a heap fits one that goes on from it, and what a closed state goes on to.
use Rattle.std.proofs.Common.{◌≡◌, ℕ, ◌≤◌, ◌<◌, Bool, true, false, List, [], ◌∷◌, ◌++◌, Option, Some, None, option_to_list, Result, Ok, Err, MatchResult, IsSomeAnd, nat_eq, slice_get, if◌then◌else◌, refl, sym, ap, ◌∙◌, subst, append-nil, arith}
use Rattle.std.proofs.lemmas.Bool.Decides.{nat_tests}
use Rattle.js_tree.specs.declared.node.NodeId.{NodeId}
use Rattle.js_tree.specs.declared.node.Node.{Node}
use Rattle.world_log.specs.declared.entry.Stop.{Stop}
use Rattle.world_log.specs.declared.entry.Stop.TheVariants as stops
use Rattle.world_heap.specs.declared.value.Value.{Value}
use Rattle.world_heap.specs.declared.cell.Cell.{Cell}
use Rattle.world_heap.specs.declared.builtin.BuiltIn.{BuiltIn}
use Rattle.world_heap.specs.declared.builtin.BuiltIn.TheVariants as built
use Rattle.world_heap.specs.BuiltIns.{place_of}
use Rattle.world_heap.specs.Maps.{keys, find, find-push}
use Rattle.world_heap.specs.Over.{ListOver, OptionOver, ValueOver, list_more, value_more}
use Rattle.world_heap.specs.Heaps.{is_env, units_of, IsCell, IsNoEnv, IsWell, Fits}
use Rattle.world_heap.proofs.Wells.{found_stands}
use Rattle.js_semantics.specs.declared.scope.Scope.{Scope}
use Rattle.js_semantics.specs.declared.outcome.Outcome.{Outcome}
use Rattle.js_semantics.specs.declared.outcome.Outcome.TheVariants.{Normal, Return, Break, Continue, Thrown}
use Rattle.js_semantics.specs.declared.fault.StepFault.{StepFault}
use Rattle.js_semantics.specs.declared.fault.StepFault.TheVariants.{Memory}
use Rattle.js_semantics.specs.Faults.{kind_number, prototype_of_kind}
use Rattle.js_semantics.specs.Prog.{error_cell}
use Rattle.js_semantics.specs.Realm.{realm_length}
use Rattle.js_semantics.specs.World.{built_in}
use Rattle.parcel.specs.declared.parcel.ErrorKind.{ErrorKind}
use Rattle.parcel.specs.declared.parcel.ErrorKind.TheVariants as errors
use Rattle.world_kind.specs.declared.WorldKind.{WorldKind}
use Rattle.world_kind.specs.declared.WorldKind.TheVariants as worlds
use Rattle.world_heap.specs.Views.{HeapView}
use Rattle.js_names.specs.Growing.{Grows, IsOpen}
use Rattle.js_names.proofs.Growing.{grows_not, grows_on, grows_push, cell_grown, place_grown}
use Rattle.js_machine.specs.declared.frame.Place.{Place}
use Rattle.js_machine.specs.declared.frame.Place.TheVariants as places
use Rattle.js_machine.specs.declared.frame.CallTarget.{CallTarget}
use Rattle.js_machine.specs.declared.frame.CallTarget.TheVariants as targets
use Rattle.js_machine.specs.declared.frame.OperandFrame.{OperandFrame}
use Rattle.js_machine.specs.declared.frame.OperandFrame.TheVariants as operands
use Rattle.js_machine.specs.declared.frame.PropertyFrame.{PropertyFrame}
use Rattle.js_machine.specs.declared.frame.PropertyFrame.TheVariants as properties
use Rattle.js_machine.specs.declared.frame.CallFrame.{CallFrame}
use Rattle.js_machine.specs.declared.frame.CallFrame.TheVariants as calls
use Rattle.js_machine.specs.declared.frame.LiteralFrame.{LiteralFrame}
use Rattle.js_machine.specs.declared.frame.LiteralFrame.TheVariants as literals
use Rattle.js_machine.specs.declared.frame.StatementFrame.{StatementFrame}
use Rattle.js_machine.specs.declared.frame.StatementFrame.TheVariants as statements
use Rattle.js_machine.specs.declared.frame.PatternFrame.{PatternFrame}
use Rattle.js_machine.specs.declared.frame.PatternFrame.TheVariants as patterns
use Rattle.js_machine.specs.declared.frame.ValueFrame.{ValueFrame}
use Rattle.js_machine.specs.declared.frame.ValueFrame.TheVariants as values
use Rattle.js_machine.specs.declared.frame.AfterFrame.{AfterFrame}
use Rattle.js_machine.specs.declared.frame.AfterFrame.TheVariants as afters
use Rattle.js_machine.specs.declared.frame.Frame.{Frame}
use Rattle.js_machine.specs.declared.frame.Frame.TheVariants as frames
use Rattle.js_machine.specs.declared.state.Control.{Control}
use Rattle.js_machine.specs.declared.state.Control.TheVariants as controls
use Rattle.js_machine.specs.declared.state.State.{State}
use Rattle.js_machine.specs.Closed.{ScopeOver, OutcomeOver, PlaceOver, TargetOver, OperandOver, PropertyOver, CallOver, LiteralOver, StatementOver, PatternOver, ValueFrameOver, AfterOver, FrameOver, ControlOver, IsNamed, ValueFits, ScopeFits, PlaceFits, AfterFits, FrameFits, ControlFits, HasRealm, IsClosed, GoesOn, Lasts}
use Rattle.js_machine.specs.Does.{Allocates, CountsUnits, IsFresh, StepsDown, world_of}
use Rattle.js_machine.proofs.Testing.{keys_at}

-- a weaker property
module _ {L : Type 0} (P Q : L → Type 0) (more : (l : L) → P l → Q l) (E F : L → Type 0) (wider : (l : L) → E l → F l) (A B : L → Type 0) (still : (l : L) → A l → B l) (N : NodeId → Type 0) where
  pub scope_more : (x : Scope L) → ScopeOver P E A N x → ScopeOver Q F B N x
  scope_more s h = (wider s.env h.0, value_more P Q more s.receiver h.1)

  pub outcome_more : (x : Outcome L) → OutcomeOver P E A N x → OutcomeOver Q F B N x
  outcome_more (Normal v) h = value_more P Q more v h
  outcome_more (Return v) h = value_more P Q more v h
  outcome_more Break h = tt
  outcome_more Continue h = tt
  outcome_more (Thrown v) h = value_more P Q more v h

  pub place_more : (x : Place L) → PlaceOver P E A N x → PlaceOver Q F B N x
  place_more (places.Name node env) h = (h.0, wider env h.1)
  place_more (places.Property base key) h = (value_more P Q more base h.0, h.1)

  pub target_more : (x : CallTarget L) → TargetOver P E A N x → TargetOver Q F B N x
  target_more (targets.Call callee receiver) h = (value_more P Q more callee h.0, value_more P Q more receiver h.1)
  target_more (targets.New callee) h = value_more P Q more callee h

  operand_more : (x : OperandFrame L) → OperandOver P E A N x → OperandOver Q F B N x
  operand_more (operands.TemplatePart node next before scope) h = scope_more scope h
  operand_more (operands.Unary operator) h = tt
  operand_more operands.Typeof h = tt
  operand_more operands.Delete h = tt
  operand_more (operands.BinaryLeft operator right scope) h = scope_more scope h
  operand_more (operands.BinaryRight operator left) h = value_more P Q more left h
  operand_more (operands.And right scope) h = scope_more scope h
  operand_more (operands.Or right scope) h = scope_more scope h
  operand_more (operands.Nullish right scope) h = scope_more scope h
  operand_more (operands.Cond first second scope) h = scope_more scope h
  operand_more (operands.Seq second scope) h = scope_more scope h
  operand_more (operands.AssignValue place) h = place_more place h
  operand_more (operands.AssignOperand operator old place) h = (value_more P Q more old h.0, place_more place h.1)

  reference_more : (x : PropertyFrame L) → PropertyOver P E A N x → PropertyOver Q F B N x
  reference_more (properties.DotObject node usage scope) h = (h.0, scope_more scope h.1)
  reference_more (properties.IndexObject key usage scope) h = scope_more scope h
  reference_more (properties.IndexKey base usage scope) h = (value_more P Q more base h.0, scope_more scope h.1)

  call_more : (x : CallFrame L) → CallOver P E A N x → CallOver Q F B N x
  call_more (calls.Callee node scope) h = scope_more scope h
  call_more (calls.NewCallee node scope) h = scope_more scope h
  call_more (calls.Argument node next spread before target scope) h = (list_more (ValueOver P) (ValueOver Q) (value_more P Q more) before h.0, target_more target h.1, scope_more scope h.2)
  call_more (calls.ParameterDefault node at arguments scope) h = (list_more (ValueOver P) (ValueOver Q) (value_more P Q more) arguments h.0, scope_more scope h.1)
  call_more (calls.ParameterBound node next arguments scope) h = (list_more (ValueOver P) (ValueOver Q) (value_more P Q more) arguments h.0, scope_more scope h.1)
  call_more (calls.RestBound node scope) h = scope_more scope h

  literal_more : (x : LiteralFrame L) → LiteralOver P E A N x → LiteralOver Q F B N x
  literal_more (literals.Element node next spread array scope) h = (more array h.0, still array h.1, scope_more scope h.2)
  literal_more (literals.Member node next object scope) h = (more object h.0, scope_more scope h.1)
  literal_more (literals.MemberKey node object scope) h = (more object h.0, scope_more scope h.1)
  literal_more (literals.PropertyValue node key object) h = more object h

  statement_more : (x : StatementFrame L) → StatementOver P E A N x → StatementOver Q F B N x
  statement_more (statements.Item node next scope) h = scope_more scope h
  statement_more (statements.DeclaredValue node at scope) h = scope_more scope h
  statement_more (statements.Declared node next scope) h = scope_more scope h
  statement_more statements.Expression h = tt
  statement_more (statements.If first second scope) h = scope_more scope h
  statement_more statements.Return h = tt
  statement_more statements.Throw h = tt
  statement_more (statements.WhileTest test body scope) h = scope_more scope h
  statement_more (statements.DoTest body test scope) h = scope_more scope h
  statement_more (statements.ForFirst turn scope) h = scope_more scope h
  statement_more (statements.ForTest turn scope) h = scope_more scope h
  statement_more (statements.ForNext turn scope) h = scope_more scope h
  statement_more (statements.ForOfList constant pattern body scope) h = scope_more scope h
  statement_more (statements.ForOfBound constant pattern body array place turn around) h = (more array h.0, scope_more turn h.1, scope_more around h.2)
  statement_more (statements.HandlerBound handler scope) h = scope_more scope h

  pattern_more : (x : PatternFrame L) → PatternOver P E A N x → PatternOver Q F B N x
  pattern_more (patterns.PropertyDefault node at of scope) h = (value_more P Q more of h.0, scope_more scope h.1)
  pattern_more (patterns.PropertyBound node next of scope) h = (value_more P Q more of h.0, scope_more scope h.1)
  pattern_more (patterns.ElementDefault node at array scope) h = (more array h.0, scope_more scope h.1)
  pattern_more (patterns.ElementBound node next array scope) h = (more array h.0, scope_more scope h.1)

  value_frame_more : (x : ValueFrame L) → ValueFrameOver P E A N x → ValueFrameOver Q F B N x
  value_frame_more (values.Operand f) h = operand_more f h
  value_frame_more (values.Property f) h = reference_more f h
  value_frame_more (values.Call f) h = call_more f h
  value_frame_more (values.Literal f) h = literal_more f h
  value_frame_more (values.Statement f) h = statement_more f h
  value_frame_more (values.Pattern f) h = pattern_more f h

  pub after_more : (x : AfterFrame L) → AfterOver P E A N x → AfterOver Q F B N x
  after_more afters.Give h = tt
  after_more (afters.Result value) h = value_more P Q more value h
  after_more (afters.Constructed object) h = more object h
  after_more afters.Typeof h = tt
  after_more (afters.Update operator before place) h = place_more place h
  after_more (afters.AssignBy operator value place scope) h = (place_more place h.0, scope_more scope h.1)
  after_more (afters.Callee node base scope) h = (value_more P Q more base h.0, scope_more scope h.1)
  after_more (afters.Instance left) h = value_more P Q more left h
  after_more (afters.AssignInstance left place) h = (value_more P Q more left h.0, place_more place h.1)
  after_more (afters.PropertyRead node at of scope) h = (value_more P Q more of h.0, scope_more scope h.1)

  pub frame_more : (x : Frame L) → FrameOver P E A N x → FrameOver Q F B N x
  frame_more (frames.OnValue f) h = value_frame_more f h
  frame_more (frames.After f) h = after_more f h
  frame_more frames.Script h = tt
  frame_more frames.Leave h = tt
  frame_more (frames.WhileBody test body scope) h = scope_more scope h
  frame_more (frames.DoBody body test scope) h = scope_more scope h
  frame_more (frames.ForBody turn scope) h = scope_more scope h
  frame_more (frames.ForOfBody constant pattern body array place around) h = (more array h.0, scope_more around h.1)
  frame_more (frames.Catch pattern handler scope) h = scope_more scope h
  frame_more (frames.Last last scope) h = scope_more scope h
  frame_more (frames.Replaced before) h = outcome_more before h

  pub control_more : (x : Control L) → ControlOver P E A N x → ControlOver Q F B N x
  control_more (controls.Script node) h = tt
  control_more (controls.Node node scope) h = scope_more scope h
  control_more (controls.Bind node value scope) h = (value_more P Q more value h.0, scope_more scope h.1)
  control_more (controls.Member node object scope) h = (more object h.0, scope_more scope h.1)
  control_more (controls.Native id receiver arguments) h = (value_more P Q more receiver h.0, list_more (ValueOver P) (ValueOver Q) (value_more P Q more) arguments h.1)
  control_more (controls.Give outcome) h = outcome_more outcome h
  control_more (controls.AtRest mode) h = tt
  control_more (controls.Wait mode) h = tt
  control_more controls.Stop h = tt

-- one list behind another
pub list_append : {A : Type 0} (P : A → Type 0) (xs ys : List A) → ListOver P xs → ListOver P ys → ListOver P (xs ++ ys)
list_append P [] ys h k = k
list_append P (x ∷ xs) ys h k = (h.0, list_append P xs ys h.1 k)

-- what fits a heap fits what it goes on to
module _ (nodes : List Node) (old new : List (ℕ × Cell ℕ)) (grows : Grows old new) where
  pub value_grown : (v : Value ℕ) → ValueFits old v → ValueFits new v
  value_grown v h = value_more (IsNoEnv nat_eq old) (IsNoEnv nat_eq new) grows.no_env v h

  pub values_grown : (vs : List (Value ℕ)) → ListOver (ValueOver (IsNoEnv nat_eq old)) vs → ListOver (ValueOver (IsNoEnv nat_eq new)) vs
  values_grown vs h = list_more (ValueOver (IsNoEnv nat_eq old)) (ValueOver (IsNoEnv nat_eq new)) value_grown vs h

  pub scope_grown : (s : Scope ℕ) → ScopeFits nodes old s → ScopeFits nodes new s
  scope_grown s h = (cell_grown old new grows s.env h.0, value_grown s.receiver h.1)

  pub place_fits_grown : (p : Place ℕ) → PlaceFits nodes old p → PlaceFits nodes new p
  place_fits_grown p h = place_more (IsNoEnv nat_eq old) (IsNoEnv nat_eq new) grows.no_env (IsCell nat_eq old) (IsCell nat_eq new) (cell_grown old new grows) (IsOpen old) (IsOpen new) grows.open_array (IsNamed nodes) p h

  pub after_grown : (f : AfterFrame ℕ) → AfterFits nodes old f → AfterFits nodes new f
  after_grown f h = after_more (IsNoEnv nat_eq old) (IsNoEnv nat_eq new) grows.no_env (IsCell nat_eq old) (IsCell nat_eq new) (cell_grown old new grows) (IsOpen old) (IsOpen new) grows.open_array (IsNamed nodes) f h

  pub target_grown : (t : CallTarget ℕ) → TargetOver (IsNoEnv nat_eq old) (IsCell nat_eq old) (IsOpen old) (IsNamed nodes) t → TargetOver (IsNoEnv nat_eq new) (IsCell nat_eq new) (IsOpen new) (IsNamed nodes) t
  target_grown t h = target_more (IsNoEnv nat_eq old) (IsNoEnv nat_eq new) grows.no_env (IsCell nat_eq old) (IsCell nat_eq new) (cell_grown old new grows) (IsOpen old) (IsOpen new) grows.open_array (IsNamed nodes) t h

  pub frame_grown : (f : Frame ℕ) → FrameFits nodes old f → FrameFits nodes new f
  frame_grown f h = frame_more (IsNoEnv nat_eq old) (IsNoEnv nat_eq new) grows.no_env (IsCell nat_eq old) (IsCell nat_eq new) (cell_grown old new grows) (IsOpen old) (IsOpen new) grows.open_array (IsNamed nodes) f h

  pub control_grown : (c : Control ℕ) → ControlFits nodes old c → ControlFits nodes new c
  control_grown c h = control_more (IsNoEnv nat_eq old) (IsNoEnv nat_eq new) grows.no_env (IsCell nat_eq old) (IsCell nat_eq new) (cell_grown old new grows) (IsOpen old) (IsOpen new) grows.open_array (IsNamed nodes) c h

-- another heap that goes on, with the same frames and the same that is next
pub closed_grown : (nodes : List Node) (old new : State) → IsClosed nodes old → Grows old.heap.cells new.heap.cells → new.frames.items ≡ old.frames.items → new.control ≡ old.control → new.kind ≡ old.kind → GoesOn nodes old new
closed_grown nodes old new closed grows same next kind = record {
  closed = record {
    well = grows.well closed.well;
    realm = rw kind (λ place below. place_grown old.heap.cells new.heap.cells grows place (closed.realm place below));
    frames = rw same (list_more (FrameFits nodes old.heap.cells) (FrameFits nodes new.heap.cells) (frame_grown nodes old.heap.cells new.heap.cells grows) old.frames.items closed.frames);
    control = rw next (control_grown nodes old.heap.cells new.heap.cells grows old.control closed.control);
  };
  grows = grows;
}

-- another control
pub closed_control : (nodes : List Node) (old : State) (control : Control ℕ) → IsClosed nodes old → ControlFits nodes old.heap.cells control → GoesOn nodes old (record old { control = control })
closed_control nodes old control closed fit = record {
  closed = record { well = closed.well; realm = closed.realm; frames = closed.frames; control = fit };
  grows = grows_not old.heap.cells;
}

-- a state that stays what it is
pub stays_closed : (nodes : List Node) (s : State) → IsClosed nodes s → GoesOn nodes s s
stays_closed nodes s closed = record { closed = closed; grows = grows_not s.heap.cells }

-- one state after another
pub goes_on : (nodes : List Node) (old mid new : State) → GoesOn nodes old mid → GoesOn nodes mid new → GoesOn nodes old new
goes_on nodes old mid new f g = record { closed = g.closed; grows = grows_on old.heap.cells mid.heap.cells new.heap.cells f.grows g.grows }

pub lasts_on : {A : Type 0} (nodes : List Node) (old mid new : State) (r : Result A StepFault) → GoesOn nodes old mid → Lasts nodes mid new r → Lasts nodes old new r
lasts_on nodes old mid new (Ok x) f g = goes_on nodes old mid new f g
lasts_on nodes old mid new (Err fault) f is = is

-- a step is taken
pub closed_step : (nodes : List Node) (old new : State) (taken : Bool) → IsClosed nodes old → StepsDown old new taken → GoesOn nodes old new
closed_step nodes old new true closed (some, is) = rw is (record { closed = closed; grows = grows_not old.heap.cells })
closed_step nodes old new false closed (none, is) = rw is (closed_control nodes old controls.Stop closed tt)

-- units are counted
pub closed_units : (nodes : List Node) (units : ℕ) (old new : State) (counted : Bool) → IsClosed nodes old → CountsUnits units old new counted → GoesOn nodes old new
closed_units nodes units old new true closed (room, is) = rw is (record { closed = closed; grows = grows_not old.heap.cells })
closed_units nodes units old new false closed (full, is) = rw is (closed_control nodes old controls.Stop closed tt)

-- a cell is made
module _ (cell : Cell ℕ) (old new : State) (loc : ℕ) (made : Allocates cell old new (Ok loc)) where
  pub closed_made : (nodes : List Node) → IsClosed nodes old → Fits nat_eq old.heap.cells cell → GoesOn nodes old new
  closed_made nodes closed fit = closed_grown nodes old new closed (rw made.2 (grows_push old.heap.cells loc cell made.3 fit)) (ap (λ s. s.frames.items) made.2) (ap (λ s. s.control) made.2) (ap (λ s. s.kind) made.2)

  pub made_found : find nat_eq new.heap.cells loc ≡ Some cell
  made_found =
      let same : nat_eq loc loc ≡ true = grind (arith, nat_tests) in
      rw made.2 (find-push old.heap.cells loc cell loc made.3 ∙ ap (λ b. if b then Some cell else find nat_eq old.heap.cells loc) same)

  pub made_cell : IsCell nat_eq new.heap.cells loc
  made_cell = found_stands new.heap.cells loc cell made_found

  pub made_no_env : is_env cell ≡ false → IsNoEnv nat_eq new.heap.cells loc
  made_no_env plain = subst (λ o. IsSomeAnd o (λ c. is_env c ≡ false)) (sym made_found) plain

-- or the world stops
pub closed_stopped : (nodes : List Node) (cell : Cell ℕ) (old new : State) (stop : Stop) → IsClosed nodes old → Allocates cell old new (Err stop) → GoesOn nodes old new
closed_stopped nodes cell old new stops.Cells closed made = rw made.2 (closed_control nodes old controls.Stop closed tt)
closed_stopped nodes cell old new stops.Places closed made = rw made.2 (closed_control nodes old controls.Stop closed tt)
closed_stopped nodes cell old new stops.Units closed made = absurd made
closed_stopped nodes cell old new stops.Fuel closed made = absurd made

-- a cell that is told otherwise, and takes no units
pub made_as : (cell told : Cell ℕ) (old new : State) (r : Result (Result ℕ Stop) StepFault) → told ≡ cell → units_of cell ≡ 0
    → MatchResult r (λ got. Allocates told old new got) (λ fault. units_of told ≡ 0 → fault ≡ Memory) → MatchResult r (λ got. Allocates cell old new got) (λ fault. Fits nat_eq old.heap.cells cell → fault ≡ Memory)
made_as cell told old new (Ok got) is free h = subst (λ c. Allocates c old new got) is h
made_as cell told old new (Err fault) is free h = λ fit. h (ap units_of is ∙ free)

some_option : (P : ℕ → Type 0) (o : Option ℕ) → IsSomeAnd o P → OptionOver P o
some_option P None h = absurd h
some_option P (Some l) h = h

place_below : (name : BuiltIn) → place_of name < 17
place_below built.ObjectPrototype = omega arith
place_below built.ErrorPrototype = omega arith
place_below built.EvalErrorPrototype = omega arith
place_below built.RangeErrorPrototype = omega arith
place_below built.ReferenceErrorPrototype = omega arith
place_below built.SyntaxErrorPrototype = omega arith
place_below built.TypeErrorPrototype = omega arith
place_below built.URIErrorPrototype = omega arith
place_below built.FunctionPrototype = omega arith
place_below built.ArrayPrototype = omega arith
place_below built.StringPrototype = omega arith
place_below built.MapPrototype = omega arith
place_below built.SetPrototype = omega arith
place_below built.PromisePrototype = omega arith
place_below built.ArrayBufferPrototype = omega arith
place_below built.Uint8ArrayPrototype = omega arith
place_below built.Global = omega arith

realm_above : (kind : WorldKind) → 17 ≤ realm_length kind
realm_above worlds.Main = omega arith
realm_above worlds.Preload = omega arith
realm_above worlds.Page = omega arith

-- a built-in cell stands
pub built_in_fits : (nodes : List Node) (supply : ℕ → ℕ) (s : State) (name : BuiltIn) → IsClosed nodes s → OptionOver (IsNoEnv nat_eq s.heap.cells) (built_in name (world_of nodes supply s))
built_in_fits nodes supply s name closed =
    let one = place_below name in
    let all = realm_above s.kind in
    subst (λ o. OptionOver (IsNoEnv nat_eq s.heap.cells) o) (keys_at s.heap.cells (place_of name)) (some_option (IsNoEnv nat_eq s.heap.cells) (slice_get (keys s.heap.cells) (place_of name)) (closed.realm (place_of name) (omega arith)))

below_seven : (kind : ErrorKind) → kind_number kind < 7
below_seven errors.Error = omega arith
below_seven errors.EvalError = omega arith
below_seven errors.RangeError = omega arith
below_seven errors.ReferenceError = omega arith
below_seven errors.SyntaxError = omega arith
below_seven errors.TypeError = omega arith
below_seven errors.URIError = omega arith

-- an error may be made
pub error_fits : (nodes : List Node) (supply : ℕ → ℕ) (s : State) (kind : ErrorKind) (message : Option (List ℕ)) → IsClosed nodes s → Fits nat_eq s.heap.cells (error_cell kind message (world_of nodes supply s))
error_fits nodes supply s kind None closed = ((built_in_fits nodes supply s (prototype_of_kind kind) closed, tt), below_seven kind)
error_fits nodes supply s kind (Some message) closed = ((built_in_fits nodes supply s (prototype_of_kind kind) closed, (tt, tt)), below_seven kind)

-- an error is made
module _ (nodes : List Node) (kind : ErrorKind) (message : Option (List ℕ)) (old new : State) (closed : IsClosed nodes old) where
  pub error_made : (loc : ℕ) → ((supply : ℕ → ℕ) → Allocates (error_cell kind message (world_of nodes supply old)) old new (Ok loc)) → GoesOn nodes old new × IsNoEnv nat_eq new.heap.cells loc
  error_made loc made =
      let cell = error_cell kind message (world_of nodes (λ n. n) old) in
      (closed_made cell old new loc (made (λ n. n)) nodes closed (error_fits nodes (λ n. n) old kind message closed), made_no_env cell old new loc (made (λ n. n)) (no_env message))
    where
      no_env : (m : Option (List ℕ)) → is_env (error_cell kind m (world_of nodes (λ n. n) old)) ≡ false
      no_env None = refl
      no_env (Some text) = refl

  pub error_stopped : (stop : Stop) → ((supply : ℕ → ℕ) → Allocates (error_cell kind message (world_of nodes supply old)) old new (Err stop)) → GoesOn nodes old new
  error_stopped stop made = closed_stopped nodes (error_cell kind message (world_of nodes (λ n. n) old)) old new stop closed (made (λ n. n))

-- a new state
pub closed_fresh : (nodes : List Node) (kind : WorldKind) (heap : HeapView) (s : State) → IsFresh kind heap s → IsWell nat_eq heap.cells → HasRealm kind heap.cells → IsClosed nodes s
closed_fresh nodes kind heap s (same, none, next, steps, depth, is, loaded) well realm = record {
  well = rw same well;
  realm = rw (same, is) realm;
  frames = rw none tt;
  control = rw next tt;
}
