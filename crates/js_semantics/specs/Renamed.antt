-- States with each location renamed, and states that agree: they differ in nothing but their locations.
use Rattle.std.specs.Prelude.{◌≡◌, ℕ, Bool, List, map, Option, option_map, nat_eq}
use Rattle.world_heap.specs.declared.value.Value.{Value}
use Rattle.world_heap.specs.declared.value.Value.TheVariants.{Undefined, Null, Bool as Boolean, Num, Str, Ref}
use Rattle.world_heap.specs.declared.value.Property.{Property}
use Rattle.world_heap.specs.declared.value.Property.TheVariants.{Data, Access}
use Rattle.world_heap.specs.declared.cell.Body.{Body}
use Rattle.world_heap.specs.declared.cell.PromiseState.{PromiseState}
use Rattle.world_heap.specs.declared.cell.PromiseState.TheVariants.{Pending, Kept, Broken}
use Rattle.world_heap.specs.declared.cell.Reaction.{Reaction}
use Rattle.world_heap.specs.declared.cell.Reaction.TheVariants.{Then as Afterwards, Settled, Replied}
use Rattle.world_heap.specs.declared.cell.Binding.{Binding}
use Rattle.world_heap.specs.declared.cell.MapEntry.{MapEntry}
use Rattle.world_heap.specs.declared.cell.Cell.{Cell}
use Rattle.world_heap.specs.declared.cell.Cell.TheVariants.{Object, Array, Closure, Native, Far, Error, Map, Set, Promise, Port, Buffer, View, Symbol, Env}
use Rattle.js_semantics.specs.declared.scope.Scope.{Scope}
use Rattle.js_semantics.specs.World.{World, Heap}
use Rattle.js_semantics.specs.declared.outcome.Outcome.{Outcome}
use Rattle.js_semantics.specs.declared.outcome.Outcome.TheVariants.{Normal, Return, Break, Continue, Thrown}
use Rattle.js_semantics.specs.Prog.{Request, Step, Script, Node, Bind, Member, While, DoWhile, For, ForOf, Native as CallNative, Enter, End}
use Rattle.js_semantics.specs.Run.{Arrival, Budget, Setting, Trace, Then, Ended, Cut, entries, run}

-- a one-to-one map of the numbers onto themselves
pub record Permutation : Type 0 where
  pub to : ℕ → ℕ
  pub back : ℕ → ℕ
  pub to_back : (l : ℕ) → to (back l) ≡ l
  pub back_to : (l : ℕ) → back (to l) ≡ l

-- The parts of a world that change as it runs, and the locations of the cells that it makes.
pub record State (L : Type 0) : Type 0 where
  pub heap : Heap L
  pub depth : ℕ
  pub units : ℕ
  pub loaded : Bool
  pub budget : Budget
  pub supply : ℕ → Option L

-- How an evaluation leaves a world: with an outcome, or stopped or waiting.
pub data Left (L : Type 0) : Type 0 where
  Ends : Outcome L → Heap L → (depth units : ℕ) → Budget → List Arrival → Left L
  Stays : Heap L → (depth units : ℕ) → Left L

module _ {L : Type 0} where
  -- the world of a state, where the test compares locations
  abbrev pub world_of : (L → L → Bool) → Setting → State L → World L
  world_of same setting s = record {
    heap = s.heap;
    depth = s.depth;
    units = s.units;
    limits = setting.limits;
    kind = setting.kind;
    tree = setting.tree;
    loaded = s.loaded;
    supply = s.supply;
    same = same;
  }

  -- what comes of a request in a state
  unfoldable pub evaluated : (L → L → Bool) → Setting → List Arrival → State L → Request L → Trace L
  evaluated same setting ds s r = run ds s.budget (world_of same setting s) (Enter r (λ o. End o))

  abbrev pub left_of : Trace L → Left L
  left_of (Then e t) = left_of t
  left_of (Ended o w b ds) = Ends o w.heap w.depth w.units b ds
  left_of (Cut w) = Stays w.heap w.depth w.units

module _ {L M : Type 0} (f : L → M) where
  abbrev pub value_renamed : Value L → Value M
  value_renamed Undefined = Undefined
  value_renamed Null = Null
  value_renamed (Boolean b) = Boolean b
  value_renamed (Num n) = Num n
  value_renamed (Str t) = Str t
  value_renamed (Ref l) = Ref (f l)

  abbrev pub property_renamed : Property L → Property M
  property_renamed (Data v w e c) = Data (value_renamed v) w e c
  property_renamed (Access g s e c) = Access (option_map f g) (option_map f s) e c

  abbrev pub member_renamed : List ℕ × Property L → List ℕ × Property M
  member_renamed m = (m.0, property_renamed m.1)

  abbrev pub body_renamed : Body L → Body M
  body_renamed b = record {
    proto = option_map f b.proto;
    properties = map member_renamed b.properties;
    extensible = b.extensible;
  }

  abbrev pub promise_renamed : PromiseState L → PromiseState M
  promise_renamed Pending = Pending
  promise_renamed (Kept v) = Kept (value_renamed v)
  promise_renamed (Broken v) = Broken (value_renamed v)

  abbrev pub reaction_renamed : Reaction L → Reaction M
  reaction_renamed (Afterwards k b n) = Afterwards (value_renamed k) (value_renamed b) (f n)
  reaction_renamed (Settled n) = Settled n
  reaction_renamed (Replied n) = Replied n

  abbrev pub binding_renamed : Binding L → Binding M
  binding_renamed b = record { name = b.name; value = option_map value_renamed b.value; fixed = b.fixed }

  abbrev pub entry_renamed : MapEntry L → MapEntry M
  entry_renamed e = record { key = value_renamed e.key; value = value_renamed e.value }

  abbrev pub cell_renamed : Cell L → Cell M
  cell_renamed (Object b) = Object (body_renamed b)
  cell_renamed (Array p vs z) = Array (option_map f p) (map value_renamed vs) z
  cell_renamed (Closure b n e r) = Closure (body_renamed b) n (f e) (option_map value_renamed r)
  cell_renamed (Native b i vs) = Native (body_renamed b) i (map value_renamed vs)
  cell_renamed (Far b n) = Far (body_renamed b) n
  cell_renamed (Error b k) = Error (body_renamed b) k
  cell_renamed (Map b es) = Map (body_renamed b) (map entry_renamed es)
  cell_renamed (Set b vs) = Set (body_renamed b) (map value_renamed vs)
  cell_renamed (Promise b s rs) = Promise (body_renamed b) (promise_renamed s) (map reaction_renamed rs)
  cell_renamed (Port b n h ms cs) = Port (body_renamed b) n (value_renamed h) (map f ms) (map f cs)
  cell_renamed (Buffer b bytes) = Buffer (body_renamed b) bytes
  cell_renamed (View b l o n) = View (body_renamed b) (f l) o n
  cell_renamed (Symbol t) = Symbol t
  cell_renamed (Env o bs) = Env (option_map f o) (map binding_renamed bs)

  abbrev pub heap_renamed : Heap L → Heap M
  heap_renamed cells = map (λ c. (f c.0, cell_renamed c.1)) cells

  abbrev pub outcome_renamed : Outcome L → Outcome M
  outcome_renamed (Normal v) = Normal (value_renamed v)
  outcome_renamed (Return v) = Return (value_renamed v)
  outcome_renamed Break = Break
  outcome_renamed Continue = Continue
  outcome_renamed (Thrown v) = Thrown (value_renamed v)

  abbrev pub scope_renamed : Scope L → Scope M
  scope_renamed s = record { env = f s.env; receiver = value_renamed s.receiver }

  abbrev pub request_renamed : Request L → Request M
  request_renamed Step = Step
  request_renamed (Script node) = Script node
  request_renamed (Node node s) = Node node (scope_renamed s)
  request_renamed (Bind node v s) = Bind node (value_renamed v) (scope_renamed s)
  request_renamed (Member node l s) = Member node (f l) (scope_renamed s)
  request_renamed (While test body s) = While test body (scope_renamed s)
  request_renamed (DoWhile body test s) = DoWhile body test (scope_renamed s)
  request_renamed (For copied test next body s) = For copied test next body (scope_renamed s)
  request_renamed (ForOf constant pattern body l place item turn around) =
      ForOf constant pattern body (f l) place (value_renamed item) (scope_renamed turn) (scope_renamed around)
  request_renamed (CallNative id v vs) = CallNative id (value_renamed v) (map value_renamed vs)

  abbrev pub state_renamed : State L → State M
  state_renamed s = record {
    heap = heap_renamed s.heap;
    depth = s.depth;
    units = s.units;
    loaded = s.loaded;
    budget = s.budget;
    supply = λ n. option_map f (s.supply n);
  }

  abbrev pub left_renamed : Left L → Left M
  left_renamed (Ends o heap depth units b ds) = Ends (outcome_renamed o) (heap_renamed heap) depth units b ds
  left_renamed (Stays heap depth units) = Stays (heap_renamed heap) depth units

-- States that agree under a permutation of the locations go to states that agree, with equal entries, for every request.
pub record AgreeAfter (p : Permutation) (setting : Setting) (ds : List Arrival) (s : State ℕ) (r : Request ℕ) : Type 0 where
  pub made : entries (evaluated nat_eq setting ds (state_renamed p.to s) (request_renamed p.to r)) ≡ entries (evaluated nat_eq setting ds s r)
  pub left : left_of (evaluated nat_eq setting ds (state_renamed p.to s) (request_renamed p.to r)) ≡ left_renamed p.to (left_of (evaluated nat_eq setting ds s r))

unfoldable pub IsAgreeing : Type 0
IsAgreeing = (p : Permutation) (setting : Setting) (ds : List Arrival) (s : State ℕ) (r : Request ℕ) → AgreeAfter p setting ds s r
