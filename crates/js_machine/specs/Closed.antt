-- A state that is closed: each location that it holds is one of its heap. So none of its rows meets one that stands
-- nowhere.
use Rattle.std.specs.Prelude.{◌≡◌, ℕ, ◌<◌, nat_eq, List, Option, Some, Result, Ok, Err, IsSomeAnd, slice_get}
use Rattle.js_tree.specs.declared.node.NodeId.{NodeId}
use Rattle.js_tree.specs.declared.node.Node.{Node}
use Rattle.js_tree.specs.declared.node.Node.TheVariants as kinds
use Rattle.world_heap.specs.declared.value.Value.{Value}
use Rattle.world_heap.specs.declared.cell.Cell.{Cell}
use Rattle.world_kind.specs.declared.WorldKind.{WorldKind}
use Rattle.world_heap.specs.Maps.{keys}
use Rattle.world_heap.specs.Over.{ListOver, ValueOver}
use Rattle.world_heap.specs.Heaps.{IsCell, IsNoEnv, IsWell}
use Rattle.js_semantics.specs.declared.scope.Scope.{Scope}
use Rattle.js_semantics.specs.declared.outcome.Outcome.{Outcome}
use Rattle.js_semantics.specs.declared.outcome.Outcome.TheVariants.{Normal, Return, Break, Continue, Thrown}
use Rattle.js_semantics.specs.declared.fault.StepFault.{StepFault}
use Rattle.js_semantics.specs.declared.fault.StepFault.TheVariants.{Memory}
use Rattle.js_semantics.specs.Realm.{realm_length}
use Rattle.js_names.specs.Growing.{Grows, IsOpen}
use Rattle.js_machine.specs.declared.frame.Key.{Key}
use Rattle.js_machine.specs.declared.frame.Key.TheVariants.{Named, Text}
use Rattle.js_machine.specs.declared.frame.Place.{Place}
use Rattle.js_machine.specs.declared.frame.Place.TheVariants as places
use Rattle.js_machine.specs.declared.frame.CallTarget.{CallTarget}
use Rattle.js_machine.specs.declared.frame.CallTarget.TheVariants as targets
use Rattle.js_machine.specs.declared.frame.OperandFrame.{OperandFrame}
use Rattle.js_machine.specs.declared.frame.OperandFrame.TheVariants as operands
use Rattle.js_machine.specs.declared.frame.PropertyFrame.{PropertyFrame}
use Rattle.js_machine.specs.declared.frame.PropertyFrame.TheVariants as properties
use Rattle.js_machine.specs.declared.frame.CallFrame.{CallFrame}
use Rattle.js_machine.specs.declared.frame.CallFrame.TheVariants as calls
use Rattle.js_machine.specs.declared.frame.LiteralFrame.{LiteralFrame}
use Rattle.js_machine.specs.declared.frame.LiteralFrame.TheVariants as literals
use Rattle.js_machine.specs.declared.frame.StatementFrame.{StatementFrame}
use Rattle.js_machine.specs.declared.frame.StatementFrame.TheVariants as statements
use Rattle.js_machine.specs.declared.frame.PatternFrame.{PatternFrame}
use Rattle.js_machine.specs.declared.frame.PatternFrame.TheVariants as patterns
use Rattle.js_machine.specs.declared.frame.ValueFrame.{ValueFrame}
use Rattle.js_machine.specs.declared.frame.ValueFrame.TheVariants as values
use Rattle.js_machine.specs.declared.frame.AfterFrame.{AfterFrame}
use Rattle.js_machine.specs.declared.frame.AfterFrame.TheVariants as afters
use Rattle.js_machine.specs.declared.frame.Frame.{Frame}
use Rattle.js_machine.specs.declared.frame.Frame.TheVariants as frames
use Rattle.js_machine.specs.declared.state.Control.{Control}
use Rattle.js_machine.specs.declared.state.Control.TheVariants as controls
use Rattle.js_machine.specs.declared.state.State.{State}

-- a node that has a name (ECMA-262, 13.1 and 13.3.2)
abbrev pub HasName : Option Node → Type 0
HasName (Some (kinds.Name name)) = Unit {0}
HasName (Some (kinds.Dot object name)) = Unit {0}
HasName other = ⊥

-- P holds of each location in a value and of each object under construction, E of each environment, A of each array under
-- construction, and N of each node that is taken for its name.
module _ {L : Type 0} (P E A : L → Type 0) (N : NodeId → Type 0) where
  -- where a node is evaluated (ECMA-262, 9.1)
  abbrev pub ScopeOver : Scope L → Type 0
  ScopeOver s = E s.env × ValueOver P s.receiver

  -- how a node ended (ECMA-262, 6.2.4)
  abbrev pub OutcomeOver : Outcome L → Type 0
  OutcomeOver (Normal v) = ValueOver P v
  OutcomeOver (Return v) = ValueOver P v
  OutcomeOver Break = Unit {0}
  OutcomeOver Continue = Unit {0}
  OutcomeOver (Thrown v) = ValueOver P v

  abbrev pub KeyOver : Key → Type 0
  KeyOver (Named node) = N node
  KeyOver (Text text) = Unit {0}

  -- what is written (ECMA-262, 6.2.5)
  abbrev pub PlaceOver : Place L → Type 0
  PlaceOver (places.Name node env) = N node × E env
  PlaceOver (places.Property base key) = ValueOver P base × KeyOver key

  abbrev pub TargetOver : CallTarget L → Type 0
  TargetOver (targets.Call callee receiver) = ValueOver P callee × ValueOver P receiver
  TargetOver (targets.New callee) = ValueOver P callee

  abbrev pub OperandOver : OperandFrame L → Type 0
  OperandOver (operands.TemplatePart node next before scope) = ScopeOver scope
  OperandOver (operands.Unary operator) = Unit {0}
  OperandOver operands.Typeof = Unit {0}
  OperandOver operands.Delete = Unit {0}
  OperandOver (operands.BinaryLeft operator right scope) = ScopeOver scope
  OperandOver (operands.BinaryRight operator left) = ValueOver P left
  OperandOver (operands.And right scope) = ScopeOver scope
  OperandOver (operands.Or right scope) = ScopeOver scope
  OperandOver (operands.Nullish right scope) = ScopeOver scope
  OperandOver (operands.Cond first second scope) = ScopeOver scope
  OperandOver (operands.Seq second scope) = ScopeOver scope
  OperandOver (operands.AssignValue place) = PlaceOver place
  OperandOver (operands.AssignOperand operator old place) = ValueOver P old × PlaceOver place

  abbrev pub PropertyOver : PropertyFrame L → Type 0
  PropertyOver (properties.DotObject node usage scope) = N node × ScopeOver scope
  PropertyOver (properties.IndexObject key usage scope) = ScopeOver scope
  PropertyOver (properties.IndexKey base usage scope) = ValueOver P base × ScopeOver scope

  abbrev pub CallOver : CallFrame L → Type 0
  CallOver (calls.Callee node scope) = ScopeOver scope
  CallOver (calls.NewCallee node scope) = ScopeOver scope
  CallOver (calls.Argument node next spread before target scope) = ListOver (ValueOver P) before × TargetOver target × ScopeOver scope
  CallOver (calls.ParameterDefault node at arguments scope) = ListOver (ValueOver P) arguments × ScopeOver scope
  CallOver (calls.ParameterBound node next arguments scope) = ListOver (ValueOver P) arguments × ScopeOver scope
  CallOver (calls.RestBound node scope) = ScopeOver scope

  abbrev pub LiteralOver : LiteralFrame L → Type 0
  LiteralOver (literals.Element node next spread array scope) = P array × A array × ScopeOver scope
  LiteralOver (literals.Member node next object scope) = P object × ScopeOver scope
  LiteralOver (literals.MemberKey node object scope) = P object × ScopeOver scope
  LiteralOver (literals.PropertyValue node key object) = P object

  abbrev pub StatementOver : StatementFrame L → Type 0
  StatementOver (statements.Item node next scope) = ScopeOver scope
  StatementOver (statements.DeclaredValue node at scope) = ScopeOver scope
  StatementOver (statements.Declared node next scope) = ScopeOver scope
  StatementOver statements.Expression = Unit {0}
  StatementOver (statements.If first second scope) = ScopeOver scope
  StatementOver statements.Return = Unit {0}
  StatementOver statements.Throw = Unit {0}
  StatementOver (statements.WhileTest test body scope) = ScopeOver scope
  StatementOver (statements.DoTest body test scope) = ScopeOver scope
  StatementOver (statements.ForFirst turn scope) = ScopeOver scope
  StatementOver (statements.ForTest turn scope) = ScopeOver scope
  StatementOver (statements.ForNext turn scope) = ScopeOver scope
  StatementOver (statements.ForOfList constant pattern body scope) = ScopeOver scope
  StatementOver (statements.ForOfBound constant pattern body array place turn around) = P array × ScopeOver turn × ScopeOver around
  StatementOver (statements.HandlerBound handler scope) = ScopeOver scope

  abbrev pub PatternOver : PatternFrame L → Type 0
  PatternOver (patterns.PropertyDefault node at of scope) = ValueOver P of × ScopeOver scope
  PatternOver (patterns.PropertyBound node next of scope) = ValueOver P of × ScopeOver scope
  PatternOver (patterns.ElementDefault node at array scope) = P array × ScopeOver scope
  PatternOver (patterns.ElementBound node next array scope) = P array × ScopeOver scope

  abbrev pub ValueFrameOver : ValueFrame L → Type 0
  ValueFrameOver (values.Operand f) = OperandOver f
  ValueFrameOver (values.Property f) = PropertyOver f
  ValueFrameOver (values.Call f) = CallOver f
  ValueFrameOver (values.Literal f) = LiteralOver f
  ValueFrameOver (values.Statement f) = StatementOver f
  ValueFrameOver (values.Pattern f) = PatternOver f

  abbrev pub AfterOver : AfterFrame L → Type 0
  AfterOver afters.Give = Unit {0}
  AfterOver (afters.Result value) = ValueOver P value
  AfterOver (afters.Constructed object) = P object
  AfterOver afters.Typeof = Unit {0}
  AfterOver (afters.Update operator before place) = PlaceOver place
  AfterOver (afters.AssignBy operator value place scope) = PlaceOver place × ScopeOver scope
  AfterOver (afters.Callee node base scope) = ValueOver P base × ScopeOver scope
  AfterOver (afters.Instance left) = ValueOver P left
  AfterOver (afters.AssignInstance left place) = ValueOver P left × PlaceOver place
  AfterOver (afters.PropertyRead node at of scope) = ValueOver P of × ScopeOver scope

  abbrev pub FrameOver : Frame L → Type 0
  FrameOver (frames.OnValue f) = ValueFrameOver f
  FrameOver (frames.After f) = AfterOver f
  FrameOver frames.Script = Unit {0}
  FrameOver frames.Leave = Unit {0}
  FrameOver (frames.WhileBody test body scope) = ScopeOver scope
  FrameOver (frames.DoBody body test scope) = ScopeOver scope
  FrameOver (frames.ForBody turn scope) = ScopeOver scope
  FrameOver (frames.ForOfBody constant pattern body array place around) = P array × ScopeOver around
  FrameOver (frames.Catch pattern handler scope) = ScopeOver scope
  FrameOver (frames.Last last scope) = ScopeOver scope
  FrameOver (frames.Replaced before) = OutcomeOver before

  abbrev pub ControlOver : Control L → Type 0
  ControlOver (controls.Script node) = Unit {0}
  ControlOver (controls.Node node scope) = ScopeOver scope
  ControlOver (controls.Bind node value scope) = ValueOver P value × ScopeOver scope
  ControlOver (controls.Member node object scope) = P object × ScopeOver scope
  ControlOver (controls.Native id receiver arguments) = ValueOver P receiver × ListOver (ValueOver P) arguments
  ControlOver (controls.Give outcome) = OutcomeOver outcome
  ControlOver (controls.AtRest mode) = Unit {0}
  ControlOver (controls.Wait mode) = Unit {0}
  ControlOver controls.Stop = Unit {0}

-- a node of the tree that has a name
abbrev pub IsNamed : List Node → NodeId → Type 0
IsNamed nodes node = HasName (slice_get nodes node.0)

-- a value that may stand in a cell of these
abbrev pub ValueFits : List (ℕ × Cell ℕ) → Value ℕ → Type 0
ValueFits cells v = ValueOver (IsNoEnv nat_eq cells) v

-- What fits these cells: its environments stand, and its values may stand in a cell.
module _ (nodes : List Node) (cells : List (ℕ × Cell ℕ)) where
  abbrev pub ScopeFits : Scope ℕ → Type 0
  ScopeFits s = ScopeOver (IsNoEnv nat_eq cells) (IsCell nat_eq cells) (IsOpen cells) (IsNamed nodes) s

  abbrev pub OutcomeFits : Outcome ℕ → Type 0
  OutcomeFits o = OutcomeOver (IsNoEnv nat_eq cells) (IsCell nat_eq cells) (IsOpen cells) (IsNamed nodes) o

  abbrev pub PlaceFits : Place ℕ → Type 0
  PlaceFits p = PlaceOver (IsNoEnv nat_eq cells) (IsCell nat_eq cells) (IsOpen cells) (IsNamed nodes) p

  abbrev pub AfterFits : AfterFrame ℕ → Type 0
  AfterFits f = AfterOver (IsNoEnv nat_eq cells) (IsCell nat_eq cells) (IsOpen cells) (IsNamed nodes) f

  abbrev pub FrameFits : Frame ℕ → Type 0
  FrameFits f = FrameOver (IsNoEnv nat_eq cells) (IsCell nat_eq cells) (IsOpen cells) (IsNamed nodes) f

  abbrev pub ControlFits : Control ℕ → Type 0
  ControlFits c = ControlOver (IsNoEnv nat_eq cells) (IsCell nat_eq cells) (IsOpen cells) (IsNamed nodes) c

-- the built-in cells of a kind of world stand, and none is an environment (ECMA-262, 9.3.2)
abbrev pub HasRealm : WorldKind → List (ℕ × Cell ℕ) → Type 0
HasRealm kind cells = (place : ℕ) → place < realm_length kind → IsSomeAnd (slice_get (keys cells) place) (λ l. IsNoEnv nat_eq cells l)

-- Built-in cells, frames and what is next, all of which fit a heap that is well.
pub record AllFit (nodes : List Node) (kind : WorldKind) (cells : List (ℕ × Cell ℕ)) (rows : List (Frame ℕ)) (next : Control ℕ) : Type 0 where
  pub well : IsWell nat_eq cells
  pub realm : HasRealm kind cells
  pub frames : ListOver (FrameFits nodes cells) rows
  pub control : ControlFits nodes cells next

-- a closed state: all that it holds fits its heap
abbrev pub IsClosed : List Node → State → Type 0
IsClosed nodes s = AllFit nodes s.kind s.heap.cells s.frames.items s.control

-- what fits, over cells that have grown
pub record FitOn (nodes : List Node) (kind : WorldKind) (old cells : List (ℕ × Cell ℕ)) (rows : List (Frame ℕ)) (next : Control ℕ) : Type 0 where
  pub closed : AllFit nodes kind cells rows next
  pub grows : Grows old cells

-- the new state is closed, and its heap goes on from that of the old one
abbrev pub GoesOn : List Node → State → State → Type 0
GoesOn nodes old new = FitOn nodes new.kind old.heap.cells new.heap.cells new.frames.items new.control

-- What a part of a row answers, from a closed state: it goes on, or memory runs out.
abbrev pub Lasts : {A : Type 0} → List Node → State → State → Result A StepFault → Type 0
Lasts nodes old new (Ok done) = GoesOn nodes old new
Lasts nodes old new (Err fault) = fault ≡ Memory
