-- What holds of the locations and numbers that a value or a cell holds (the conditions on the cells of a heap).
use Rattle.std.specs.Prelude.{ℕ, ◌<◌, ◌≤◌, ◌≤ℤ◌, ℤ, pos, negsuc, List, [], ◌∷◌, length, Option, Some, None}
use Rattle.world_heap.specs.declared.value.Value.{Value}
use Rattle.world_heap.specs.declared.value.Value.TheVariants.{Undefined, Null, Bool, Num, Str, Ref}
use Rattle.world_heap.specs.declared.value.Property.{Property}
use Rattle.world_heap.specs.declared.value.Property.TheVariants.{Data, Access}
use Rattle.world_heap.specs.declared.cell.Body.{Body}
use Rattle.world_heap.specs.declared.cell.PromiseState.{PromiseState}
use Rattle.world_heap.specs.declared.cell.PromiseState.TheVariants.{Pending, Kept, Broken}
use Rattle.world_heap.specs.declared.cell.Reaction.{Reaction}
use Rattle.world_heap.specs.declared.cell.Reaction.TheVariants.{Then, Settled, Replied}
use Rattle.world_heap.specs.declared.cell.Cell.{Cell}
use Rattle.world_heap.specs.declared.cell.Cell.TheVariants.{Object, Array, Closure, Native, Far, Error, Map, Set, Promise, Port, Buffer, View, Symbol, Env}

-- each member has the property
abbrev pub ListOver : {A : Type 0} → (A → Type 0) → List A → Type 0
ListOver P [] = Unit {0}
ListOver P (x ∷ xs) = P x × ListOver P xs

abbrev pub OptionOver : {A : Type 0} → (A → Type 0) → Option A → Type 0
OptionOver P None = Unit {0}
OptionOver P (Some x) = P x

-- a whole number from -(2^53-1) to 2^53-1
pub record IsSafe (n : ℤ) : Type 0 where
  pub low : negsuc 9_007_199_254_740_990 ≤ℤ n
  pub high : n ≤ℤ pos 9_007_199_254_740_991

-- P holds of each location in a value, a prototype, an accessor or a list of functions, E of each environment, and V of
-- each buffer that a view looks at, from an offset on for so many bytes.
module _ {L : Type 0} (P : L → Type 0) where
  abbrev pub ValueOver : Value L → Type 0
  ValueOver Undefined = Unit {0}
  ValueOver Null = Unit {0}
  ValueOver (Bool b) = Unit {0}
  ValueOver (Num n) = IsSafe n
  ValueOver (Str t) = Unit {0}
  ValueOver (Ref l) = P l

  abbrev pub PropertyOver : Property L → Type 0
  PropertyOver (Data v w e c) = ValueOver v
  PropertyOver (Access g s e c) = OptionOver P g × OptionOver P s

  abbrev pub BodyOver : Body L → Type 0
  BodyOver b = OptionOver P b.proto × ListOver (λ m. PropertyOver m.1) b.properties

  abbrev pub PromiseStateOver : PromiseState L → Type 0
  PromiseStateOver Pending = Unit {0}
  PromiseStateOver (Kept v) = ValueOver v
  PromiseStateOver (Broken v) = ValueOver v

  abbrev pub ReactionOver : Reaction L → Type 0
  ReactionOver (Then k b n) = ValueOver k × ValueOver b × P n
  ReactionOver (Settled n) = Unit {0}
  ReactionOver (Replied n) = Unit {0}

  module _ (E : L → Type 0) (V : L → ℕ → ℕ → Type 0) where
    abbrev pub CellOver : Cell L → Type 0
    CellOver (Object b) = BodyOver b
    CellOver (Array p vs f) = OptionOver P p × ListOver ValueOver vs
    CellOver (Closure b n e r) = BodyOver b × E e × OptionOver ValueOver r
    CellOver (Native b i vs) = BodyOver b × ListOver ValueOver vs
    CellOver (Far b n) = BodyOver b
    CellOver (Error b k) = BodyOver b × (k < 7)
    CellOver (Map b es) = BodyOver b × ListOver (λ e. ValueOver e.key × ValueOver e.value) es
    CellOver (Set b vs) = BodyOver b × ListOver ValueOver vs
    CellOver (Promise b s rs) = BodyOver b × PromiseStateOver s × ListOver ReactionOver rs
    CellOver (Port b n h ms cs) = BodyOver b × ValueOver h × ListOver P ms × ListOver P cs
    CellOver (Buffer b bs) = BodyOver b × (length bs ≤ 1_048_576)
    CellOver (View b l o n) = BodyOver b × V l o n
    CellOver (Symbol t) = Unit {0}
    CellOver (Env o bs) = OptionOver E o × ListOver (λ b. OptionOver ValueOver b.value) bs

pub list_more : {A : Type 0} (P Q : A → Type 0) → ((x : A) → P x → Q x) → (xs : List A) → ListOver P xs → ListOver Q xs
list_more P Q more [] h = tt
list_more P Q more (x ∷ xs) h = (more x h.0, list_more P Q more xs h.1)

pub option_more : {A : Type 0} (P Q : A → Type 0) → ((x : A) → P x → Q x) → (o : Option A) → OptionOver P o → OptionOver Q o
option_more P Q more None h = tt
option_more P Q more (Some x) h = more x h

-- a weaker property
module _ {L : Type 0} (P Q : L → Type 0) (more : (l : L) → P l → Q l) where
  pub value_more : (v : Value L) → ValueOver P v → ValueOver Q v
  value_more Undefined h = tt
  value_more Null h = tt
  value_more (Bool b) h = tt
  value_more (Num n) h = h
  value_more (Str t) h = tt
  value_more (Ref l) h = more l h

  pub property_more : (p : Property L) → PropertyOver P p → PropertyOver Q p
  property_more (Data v w e c) h = value_more v h
  property_more (Access g s e c) h = (option_more P Q more g h.0, option_more P Q more s h.1)

  values_more : (vs : List (Value L)) → ListOver (ValueOver P) vs → ListOver (ValueOver Q) vs
  values_more = list_more (ValueOver P) (ValueOver Q) value_more

  body_more : (b : Body L) → BodyOver P b → BodyOver Q b
  body_more b h = (
    option_more P Q more b.proto h.0,
    list_more (λ m. PropertyOver P m.1) (λ m. PropertyOver Q m.1) (λ m. property_more m.1) b.properties h.1,
  )

  promise_state_more : (s : PromiseState L) → PromiseStateOver P s → PromiseStateOver Q s
  promise_state_more Pending h = tt
  promise_state_more (Kept v) h = value_more v h
  promise_state_more (Broken v) h = value_more v h

  reaction_more : (r : Reaction L) → ReactionOver P r → ReactionOver Q r
  reaction_more (Then k b n) h = (value_more k h.0, value_more b h.1, more n h.2)
  reaction_more (Settled n) h = tt
  reaction_more (Replied n) h = tt

  module _ (E F : L → Type 0) (wider : (l : L) → E l → F l) (V W : L → ℕ → ℕ → Type 0) (within : (l : L) (o n : ℕ) → V l o n → W l o n) where
    pub cell_more : (c : Cell L) → CellOver P E V c → CellOver Q F W c
    cell_more (Object b) h = body_more b h
    cell_more (Array p vs z) h = (option_more P Q more p h.0, values_more vs h.1)
    cell_more (Closure b n e r) h = (body_more b h.0, wider e h.1, option_more (ValueOver P) (ValueOver Q) value_more r h.2)
    cell_more (Native b i vs) h = (body_more b h.0, values_more vs h.1)
    cell_more (Far b n) h = body_more b h
    cell_more (Error b k) h = (body_more b h.0, h.1)
    cell_more (Map b es) h = (body_more b h.0, list_more (λ e. ValueOver P e.key × ValueOver P e.value) (λ e. ValueOver Q e.key × ValueOver Q e.value) (λ e k. (value_more e.key k.0, value_more e.value k.1)) es h.1)
    cell_more (Set b vs) h = (body_more b h.0, values_more vs h.1)
    cell_more (Promise b s rs) h = (body_more b h.0, promise_state_more s h.1, list_more (ReactionOver P) (ReactionOver Q) reaction_more rs h.2)
    cell_more (Port b n v ms cs) h = (body_more b h.0, value_more v h.1, list_more P Q more ms h.2, list_more P Q more cs h.3)
    cell_more (Buffer b bs) h = (body_more b h.0, h.1)
    cell_more (View b l o n) h = (body_more b h.0, within l o n h.1)
    cell_more (Symbol t) h = tt
    cell_more (Env o bs) h = (option_more E F wider o h.0, list_more (λ b. OptionOver (ValueOver P) b.value) (λ b. OptionOver (ValueOver Q) b.value) (λ b. option_more (ValueOver P) (ValueOver Q) value_more b.value) bs h.1)
