-- What is made and defined keeps a state closed.
use Rattle.std.proofs.Common.{◌≡◌, ℕ, true, false, List, [], ◌∷◌, ◌++◌, Option, Some, None, Result, Ok, Err, nat_eq, if◌then◌else◌, refl, sym, ap, ◌∙◌, subst}
use Rattle.std.specs.Cmp.Lexicographic.{pointwise}
use Rattle.std.specs.Option.{option_and_then}
use Rattle.js_tree.specs.declared.node.Node.{Node}
use Rattle.world_heap.specs.declared.value.Value.{Value}
use Rattle.world_heap.specs.declared.value.Property.{Property}
use Rattle.world_heap.specs.declared.value.Property.TheVariants.{Data, Access}
use Rattle.world_heap.specs.declared.cell.Body.{Body}
use Rattle.world_heap.specs.declared.cell.Cell.{Cell}
use Rattle.world_heap.specs.declared.cell.Binding.{Binding}
use Rattle.world_heap.specs.declared.cell.Cell.TheVariants.{Array, Closure, Env, Object}
use Rattle.world_heap.specs.declared.builtin.BuiltIn.{BuiltIn}
use Rattle.world_heap.specs.declared.builtin.BuiltIn.TheVariants.{ArrayPrototype, FunctionPrototype}
use Rattle.world_heap.specs.declared.limits.HeapFault.{HeapFault}
use Rattle.world_heap.specs.Maps.{find, put}
use Rattle.world_heap.specs.Table.{put_under}
use Rattle.world_heap.specs.Bodies.{body_of, with_body}
use Rattle.world_heap.specs.Over.{BodyOver, ListOver, OptionOver, PropertyOver, ValueOver}
use Rattle.world_heap.specs.Heaps.{is_env, Fits, IsCell, IsNoEnv, IsWell, IsWithin}
use Rattle.world_heap.specs.Views.{HeapView}
use Rattle.world_heap.proofs.Bodying.{alike_body, body_fits, fits_body, has_cell}
use Rattle.world_heap.proofs.Wells.{fits_found, list_push}
use Rattle.proto_props.specs.declared.outcome.SetDone.{SetDone}
use Rattle.proto_props.proofs.Fitting.{over_found}
use Rattle.proto_props.specs.Adds.{IsOpenArray, with_property}
use Rattle.proto_props.specs.Changes.{Extending, Rewriting}
use Rattle.world_log.specs.declared.entry.Stop.{Stop}
use Rattle.js_semantics.specs.Environments.{unready}
use Rattle.js_semantics.specs.Objects.{bare}
use Rattle.js_semantics.specs.World.{built_in}
use Rattle.js_names.specs.Growing.{Grows, IsOpen}
use Rattle.js_names.proofs.Growing.{grows_put}
use Rattle.js_machine.specs.declared.state.Control.TheVariants as controls
use Rattle.js_machine.specs.declared.state.State.{State}
use Rattle.js_machine.specs.Closed.{GoesOn, IsClosed, ValueFits}
use Rattle.js_machine.specs.Does.{Allocates, world_of}
use Rattle.js_machine.proofs.Closing.{built_in_fits, closed_control, closed_grown, closed_made, closed_stopped, made_cell, made_found, made_no_env}
use Rattle.js_step_object.specs.Defining.{body_at, standing, under_key}
use Rattle.js_step_object.specs.Members.{member_property}
use Rattle.js_step_object.specs.declared.member.Part.{Part}
use Rattle.js_step_object.specs.declared.member.Part.TheVariants.{Method, Getter, Setter}
use Rattle.js_step_object.proofs.Defined.{has_body, told}

over_put : {V : Type 0} (P : V → Type 0) (entries : List (List ℕ × V)) (key : List ℕ) (v : V) → ListOver (λ m. P m.1) entries → P v → ListOver (λ m. P m.1) (put_under entries key v)
over_put P [] key v h p = (p, tt)
over_put P (e ∷ entries) key v h p =
    elim (pointwise nat_eq key e.0) as (λ t. ListOver (λ m. P m.1) (if t then (e.0, v) ∷ entries else e ∷ put_under entries key v)) [
      | true ↦ (p, h.1)
      | false ↦ (h.0, over_put P entries key v h.1 p)
    ]

-- a property is put into the body of a cell
grows_property : (cells : List (ℕ × Cell ℕ)) (l : ℕ) (c : Cell ℕ) (b : Body ℕ) (key : List ℕ) (p : Property ℕ) → find nat_eq cells l ≡ Some c → body_of c ≡ Some b → PropertyOver (IsNoEnv nat_eq cells) p → Grows cells (put nat_eq cells l (with_body c (with_property b key p)))
grows_property cells l c b key p found has fit =
    grows_put cells l (with_body c (with_property b key p)) c found (alike_body c b (with_property b key p) has refl)
    (λ q vs is. let none : Some b ≡ None = sym has ∙ ap body_of is in absurd (cc))
    (λ well.
    let old : Fits nat_eq cells c = fits_found (Fits nat_eq cells) cells l c well.fits found in
    let body = fits_body (IsNoEnv nat_eq cells) (IsCell nat_eq cells) (IsWithin nat_eq cells) c b has old in
    body_fits (IsNoEnv nat_eq cells) (IsCell nat_eq cells) (IsWithin nat_eq cells) c (with_property b key p) old (body.0, over_put (PropertyOver (IsNoEnv nat_eq cells)) b.properties key p body.1 fit))

-- an element is put at the end of an array
grows_item : (cells : List (ℕ × Cell ℕ)) (l : ℕ) (p : Option ℕ) (vs : List (Value ℕ)) (v : Value ℕ) → find nat_eq cells l ≡ Some (Array p vs false) → ValueFits cells v → Grows cells (put nat_eq cells l (Array p (vs ++ v ∷ []) false))
grows_item cells l p vs v found fit =
    grows_put cells l (Array p (vs ++ v ∷ []) false) (Array p vs false) found (record { env = refl; proto = refl; bytes = refl })
    (λ q ws is. (p, vs ++ v ∷ [], refl))
    (λ well.
    let old : Fits nat_eq cells (Array p vs false) = fits_found (Fits nat_eq cells) cells l (Array p vs false) well.fits found in
    (old.0, list_push (ValueOver (IsNoEnv nat_eq cells)) vs v old.1 fit))

-- another heap, which goes on
rewrote : (nodes : List Node) (old : State) (heap : HeapView) (cells : List (ℕ × Cell ℕ)) → IsClosed nodes old → heap.cells ≡ cells → Grows old.heap.cells cells → GoesOn nodes old (record old { heap = heap })
rewrote nodes old heap cells closed is grows = closed_grown nodes old (record old { heap = heap }) closed (rw is grows) refl refl refl

-- the same heap, and the world stops
stopped : (nodes : List Node) (old new : State) (heap : HeapView) → IsClosed nodes old → heap ≡ old.heap → new ≡ record old { heap = heap; control = controls.Stop } → GoesOn nodes old new
stopped nodes old new heap closed same is =
    subst (λ s. GoesOn nodes old s) (sym (is ∙ ap (λ h. record old { heap = h; control = controls.Stop }) same)) (closed_control nodes old controls.Stop closed tt)

-- a property is defined
module _ (nodes : List Node) (loc : ℕ) (key : List ℕ) (property : Property ℕ) (old : State) (heap : HeapView) (r : Result (SetDone ℕ) HeapFault) (closed : IsClosed nodes old) where
  pub put_lasts : (done : SetDone ℕ) → told (body_at old.heap.cells loc) key ≡ Some true → PropertyOver (IsNoEnv nat_eq old.heap.cells) property → ((c : Cell ℕ) (b : Body ℕ) → find nat_eq old.heap.cells loc ≡ Some c → body_of c ≡ Some b → Rewriting old.heap loc (with_body c (with_property b key property)) r heap) → r ≡ Ok done → GoesOn nodes old (record old { heap = heap })
  put_lasts done stands fit law ok =
      let (b, has) = has_body old.heap.cells loc key true stands in
      let (c, found, is) = has_cell old.heap.cells loc b has in
      let wrote : Rewriting old.heap loc (with_body c (with_property b key property)) (Ok done) heap = rw ok at (law c b found is) in
      rewrote nodes old heap (put nat_eq old.heap.cells loc (with_body c (with_property b key property))) closed (ap (λ (h : HeapView). h.cells) wrote.1) (grows_property old.heap.cells loc c b key property found is fit)

  pub add_lasts : (done : SetDone ℕ) → told (body_at old.heap.cells loc) key ≡ Some false → PropertyOver (IsNoEnv nat_eq old.heap.cells) property → ((c : Cell ℕ) (b : Body ℕ) → find nat_eq old.heap.cells loc ≡ Some c → body_of c ≡ Some b → Extending old.heap loc (with_body c (with_property b key property)) r heap) → r ≡ Ok done → GoesOn nodes old (record old { heap = heap })
  add_lasts done stands fit law ok =
      let (b, has) = has_body old.heap.cells loc key false stands in
      let (c, found, is) = has_cell old.heap.cells loc b has in
      let wrote : Extending old.heap loc (with_body c (with_property b key property)) (Ok done) heap = rw ok at (law c b found is) in
      rewrote nodes old heap (put nat_eq old.heap.cells loc (with_body c (with_property b key property))) closed (ap (λ (h : HeapView). h.cells) wrote.2) (grows_property old.heap.cells loc c b key property found is fit)

  pub add_stops : (new : State) (fault : HeapFault) → told (body_at old.heap.cells loc) key ≡ Some false → ((c : Cell ℕ) (b : Body ℕ) → find nat_eq old.heap.cells loc ≡ Some c → body_of c ≡ Some b → Extending old.heap loc (with_body c (with_property b key property)) r heap) → r ≡ Err fault → new ≡ record old { heap = heap; control = controls.Stop } → GoesOn nodes old new
  add_stops new fault stands law err is =
      let (b, has) = has_body old.heap.cells loc key false stands in
      let (c, found, held) = has_cell old.heap.cells loc b has in
      let kept : Extending old.heap loc (with_body c (with_property b key property)) (Err fault) heap = rw err at (law c b found held) in
      stopped nodes old new heap closed kept.1 is

-- an element is put at the end of an array
module _ (nodes : List Node) (loc : ℕ) (v : Value ℕ) (old : State) (heap : HeapView) (r : Result (SetDone ℕ) HeapFault) (closed : IsClosed nodes old) (stands : IsOpenArray old.heap.cells loc) (law : (p : Option ℕ) (vs : List (Value ℕ)) → find nat_eq old.heap.cells loc ≡ Some (Array p vs false) → Extending old.heap loc (Array p (vs ++ v ∷ []) false) r heap) where
  pub push_lasts : (done : SetDone ℕ) → ValueFits old.heap.cells v → r ≡ Ok done → GoesOn nodes old (record old { heap = heap })
  push_lasts done fit ok =
      let (p, vs, found) = stands in
      let wrote : Extending old.heap loc (Array p (vs ++ v ∷ []) false) (Ok done) heap = rw ok at (law p vs found) in
      rewrote nodes old heap (put nat_eq old.heap.cells loc (Array p (vs ++ v ∷ []) false)) closed (ap (λ (h : HeapView). h.cells) wrote.2) (grows_item old.heap.cells loc p vs v found fit)

  pub push_stops : (new : State) (fault : HeapFault) → r ≡ Err fault → new ≡ record old { heap = heap; control = controls.Stop } → GoesOn nodes old new
  push_stops new fault err is =
      let (p, vs, found) = stands in
      let kept : Extending old.heap loc (Array p (vs ++ v ∷ []) false) (Err fault) heap = rw err at (law p vs found) in
      stopped nodes old new heap closed kept.1 is

-- a cell is made, or the world stops
module _ (nodes : List Node) (cell : Cell ℕ) (old new : State) (got : Result ℕ Stop) (made : Allocates cell old new got) where
  pub made_lasts : (loc : ℕ) → got ≡ Ok loc → IsClosed nodes old → Fits nat_eq old.heap.cells cell → GoesOn nodes old new
  made_lasts loc is closed fit = let one : Allocates cell old new (Ok loc) = rw is at made in closed_made cell old new loc one nodes closed fit

  pub made_plain : (loc : ℕ) → got ≡ Ok loc → is_env cell ≡ false → IsNoEnv nat_eq new.heap.cells loc
  made_plain loc is plain = let one : Allocates cell old new (Ok loc) = rw is at made in made_no_env cell old new loc one plain

  pub made_stands : (loc : ℕ) → got ≡ Ok loc → IsCell nat_eq new.heap.cells loc
  made_stands loc is = let one : Allocates cell old new (Ok loc) = rw is at made in made_cell cell old new loc one

  pub stop_lasts : (stop : Stop) → got ≡ Err stop → IsClosed nodes old → GoesOn nodes old new
  stop_lasts stop is closed = let one : Allocates cell old new (Err stop) = rw is at made in closed_stopped nodes cell old new stop closed one

-- a prototype that is built in
pub proto_fits : (nodes : List Node) (s : State) (name : BuiltIn) (proto : Option ℕ) → IsClosed nodes s → proto ≡ built_in name (world_of nodes (λ n. n) s) → OptionOver (IsNoEnv nat_eq s.heap.cells) proto
proto_fits nodes s name proto closed is = rw is (built_in_fits nodes (λ n. n) s name closed)

-- an object without properties
abbrev pub plain_cell : Option ℕ → Cell ℕ
plain_cell proto = Object (record { proto = proto; properties = []; extensible = true })

-- a closure may be made
abbrev pub closure_cell : List Node → State → ℕ → ℕ → Option (Value ℕ) → Cell ℕ
closure_cell nodes s node env receiver = Closure (bare FunctionPrototype (world_of nodes (λ n. n) s)) node env receiver

pub closure_fits : (nodes : List Node) (s : State) (node env : ℕ) (receiver : Option (Value ℕ)) → IsClosed nodes s → IsCell nat_eq s.heap.cells env → OptionOver (ValueFits s.heap.cells) receiver → Fits nat_eq s.heap.cells (closure_cell nodes s node env receiver)
closure_fits nodes s node env receiver closed stands fit = ((built_in_fits nodes (λ n. n) s FunctionPrototype closed, tt), stands, fit)

-- an environment may be made with a name that isn't ready
pub name_fits : (cells : List (ℕ × Cell ℕ)) (env : ℕ) (name : List ℕ) (bindings : List (Binding ℕ)) → bindings ≡ unready true name ∷ [] → IsCell nat_eq cells env → Fits nat_eq cells (Env (Some env) bindings)
name_fits cells env name bindings is stands = rw is (stands, (tt, tt))

-- an array without elements may be made, and isn't frozen
abbrev pub array_cell : List Node → State → List (Value ℕ) → Cell ℕ
array_cell nodes s items = Array (built_in ArrayPrototype (world_of nodes (λ n. n) s)) items false

pub array_fits : (nodes : List Node) (s : State) (items : List (Value ℕ)) → IsClosed nodes s → items ≡ [] → Fits nat_eq s.heap.cells (array_cell nodes s items)
array_fits nodes s items closed none = (built_in_fits nodes (λ n. n) s ArrayPrototype closed, rw none tt)

pub made_open : (nodes : List Node) (items : List (Value ℕ)) (old new : State) (got : Result ℕ Stop) (loc : ℕ) → Allocates (array_cell nodes old items) old new got → got ≡ Ok loc → IsOpen new.heap.cells loc
made_open nodes items old new got loc made is =
    let one : Allocates (array_cell nodes old items) old new (Ok loc) = rw is at made in
    (built_in ArrayPrototype (world_of nodes (λ n. n) old), items, made_found (array_cell nodes old items) old new loc one)

-- What stands under a key of an object fits, where the heap is well.
under_fits : (P : ℕ → Type 0) (o : Option (Body ℕ)) (key : List ℕ) → OptionOver (BodyOver P) o → OptionOver (PropertyOver P) (under_key o key)
under_fits P None key h = tt
under_fits P (Some b) key h = over_found (PropertyOver P) b.properties key h.1

body_over : (cells : List (ℕ × Cell ℕ)) (loc : ℕ) → IsWell nat_eq cells → (o : Option (Cell ℕ)) → find nat_eq cells loc ≡ o → OptionOver (BodyOver (IsNoEnv nat_eq cells)) (option_and_then body_of o)
body_over cells loc well None found = tt
body_over cells loc well (Some c) found = of (body_of c) refl
  where
    of : (o : Option (Body ℕ)) → body_of c ≡ o → OptionOver (BodyOver (IsNoEnv nat_eq cells)) o
    of None is = tt
    of (Some b) is = fits_body (IsNoEnv nat_eq cells) (IsCell nat_eq cells) (IsWithin nat_eq cells) c b is (fits_found (Fits nat_eq cells) cells loc c well.fits found)

pub standing_fits : (cells : List (ℕ × Cell ℕ)) (loc : ℕ) (key : List ℕ) → IsWell nat_eq cells → OptionOver (PropertyOver (IsNoEnv nat_eq cells)) (standing cells loc key)
standing_fits cells loc key well = under_fits (IsNoEnv nat_eq cells) (body_at cells loc) key (body_over cells loc well (find nat_eq cells loc) refl)

-- and so does the property that has a function with it
pub member_fits : (P : ℕ → Type 0) (part : Part) (f : ℕ) (old : Option (Property ℕ)) → P f → OptionOver (PropertyOver P) old → PropertyOver P (member_property part f old)
member_fits P Method f old h k = h
member_fits P Getter f None h k = (h, tt)
member_fits P Getter f (Some (Data v w e c)) h k = (h, tt)
member_fits P Getter f (Some (Access get set e c)) h k = (h, k.1)
member_fits P Setter f None h k = (tt, h)
member_fits P Setter f (Some (Data v w e c)) h k = (tt, h)
member_fits P Setter f (Some (Access get set e c)) h k = (k.0, h)
