-- How a property is defined.
use Rattle.std.proofs.Common.{◌≡◌, ℕ, ◌+◌, ◌-◌, ◌≤◌, ◌<◌, List, Option, Some, None, Bool, true, false, Result, Ok, Err, nat_eq, refl, sym, ap, ◌∙◌, arith}
use Rattle.std.specs.Prelude.{is_some}
use Rattle.std.specs.Option.{option_and_then, option_map}
use Rattle.js_tree.specs.declared.node.Node.{Node}
use Rattle.world_heap.specs.declared.value.Value.TheVariants.{Undefined, Ref}
use Rattle.world_heap.specs.declared.value.Property.{Property}
use Rattle.world_heap.specs.declared.cell.Body.{Body}
use Rattle.world_heap.specs.declared.cell.Cell.{Cell}
use Rattle.world_heap.specs.declared.limits.HeapFault.{HeapFault}
use Rattle.world_heap.specs.declared.limits.HeapFault.TheVariants as full
use Rattle.world_heap.specs.Maps.{find, put}
use Rattle.world_heap.specs.Table.{found_under}
use Rattle.world_heap.specs.Bodies.{body_of, with_body, HasBody}
use Rattle.world_heap.specs.Views.{HeapView}
use Rattle.world_heap.specs.Growth.{grown}
use Rattle.proto_props.specs.declared.outcome.SetDone.{SetDone}
use Rattle.proto_props.specs.Changes.{Rewriting, Extending}
use Rattle.js_semantics.specs.declared.fault.Fault.TheVariants.{ReadOnly}
use Rattle.world_log.specs.declared.entry.Product.TheVariants.{Stopped}
use Rattle.world_log.specs.declared.entry.Stop.TheVariants.{Places}
use Rattle.js_semantics.specs.World.{with_cell}
use Rattle.js_semantics.specs.Properties.{with_property, places_for, defined_at, defined_in, define_step}
use Rattle.js_semantics.specs.Prog.{Prog, change, count_places, throw}
use Rattle.js_semantics.specs.Access.{carry_out, define}
use Rattle.js_machine.specs.declared.state.State.{State}
use Rattle.js_machine.specs.declared.state.Control.TheVariants as controls
use Rattle.js_machine.specs.declared.state.Next.{Next}
use Rattle.js_machine.specs.declared.state.Next.TheVariants.{Made}
use Rattle.js_machine.specs.Does.{Does}
use Rattle.js_machine.proofs.Doing.{does_read, moves_on, moves_read}
use Rattle.js_step_object.specs.Defining.{Defines, body_at, standing, under_key}
use Rattle.js_machine.proofs.Changing.{passed_none, passed_places}
use Rattle.js_step_object.proofs.Writing.{does_not_place, moves_write}

-- whether a key stands in a body, where there is one
abbrev pub told : Option (Body ℕ) → List ℕ → Option Bool
told body key = option_map (λ b. is_some (found_under b.properties key)) body

-- a body in which that is told
told_body : (body : Option (Body ℕ)) (key : List ℕ) (t : Bool) → told body key ≡ Some t → (b : Body ℕ) × (body ≡ Some b) × (is_some (found_under b.properties key) ≡ t)
told_body None key t h = absurd (cc)
told_body (Some b) key t h = (b, refl, cc)

-- and its cell
told_cell : (found : Option (Cell ℕ)) (b : Body ℕ) → option_and_then body_of found ≡ Some b → (c : Cell ℕ) × (found ≡ Some c) × (body_of c ≡ Some b)
told_cell None b h = absurd (cc)
told_cell (Some c) b h = (c, refl, h)

pub has_body : (cells : List (ℕ × Cell ℕ)) (loc : ℕ) (key : List ℕ) (t : Bool) → told (body_at cells loc) key ≡ Some t → HasBody cells loc
has_body cells loc key t h = let g = told_body (body_at cells loc) key t h in (g.0, g.1)

-- how many places the property takes
takes_none : (o : Option (Property ℕ)) → is_some o ≡ true → places_for o ≡ 0
takes_none None h = absurd (cc)
takes_none (Some p) h = refl

takes_one : (o : Option (Property ℕ)) → is_some o ≡ false → places_for o ≡ 1
takes_one None h = refl
takes_one (Some p) h = absurd (cc)

module _ (nodes : List Node) (loc : ℕ) (key : List ℕ) (property : Property ℕ) (old : State) (c : Cell ℕ) (b : Body ℕ) (found : find nat_eq old.heap.cells loc ≡ Some c) (has : body_of c ≡ Some b) where
  -- the definition of a property of this cell
  defined_is : (make : Option (Property ℕ) → Property ℕ) (p : Prog ℕ) (n : ℕ) → make (standing old.heap.cells loc key) ≡ property → places_for (found_under b.properties key) ≡ n → carry_out (defined_at (find nat_eq old.heap.cells loc) loc key make) (Ref loc) Undefined p ≡ count_places n (change (λ w. with_cell loc (with_body c (with_property b key property)) w) p)
  defined_is make p n made takes =
      let there : standing old.heap.cells loc key ≡ found_under b.properties key = ap (λ o. under_key (option_and_then body_of o) key) found ∙ ap (λ o. under_key o key) has in
      let is_property : make (found_under b.properties key) ≡ property = sym (ap make there) ∙ made in
      ap (λ o. carry_out (defined_at o loc key make) (Ref loc) Undefined p) found
      ∙ ap (λ o. carry_out (defined_in o c loc key make) (Ref loc) Undefined p) has
      ∙ ap (λ q. count_places (places_for (found_under b.properties key)) (change (λ w. with_cell loc (with_body c (with_property b key q)) w) p)) is_property
      ∙ ap (λ m. count_places m (change (λ w. with_cell loc (with_body c (with_property b key property)) w) p)) takes

  defined_ok : (new : State) (n : ℕ) → places_for (found_under b.properties key) ≡ n → n ≤ old.heap.limits.places - old.heap.counts.places → new ≡ record old { heap = record old.heap { cells = put nat_eq old.heap.cells loc (with_body c (with_property b key property)); counts = grown old.heap.counts 0 n 0 } } → Defines nodes loc key property old new None
  unfolding define define_step
  defined_ok new n takes room is = λ make made p.
      let q = count_places n (change (λ w. with_cell loc (with_body c (with_property b key property)) w) p) in
      moves_on nodes (define loc key make p) q p old old new (moves_read nodes (λ w. carry_out (define_step loc key make w) (Ref loc) Undefined p) q old (λ supply. defined_is make p n made takes)) (moves_write nodes n loc (with_body c (with_property b key property)) (λ w. with_cell loc (with_body c (with_property b key property)) w) p old new (λ supply. refl) room is)

  defined_full : (new : State) (next : Next) → places_for (found_under b.properties key) ≡ 1 → old.heap.limits.places < old.heap.counts.places + 1 → new ≡ record old { control = controls.Stop } → next ≡ Made (Stopped Places) → Defines nodes loc key property old new (Some next)
  unfolding define define_step
  defined_full new next takes full is told_is = λ make made p.
      let q = change (λ w. with_cell loc (with_body c (with_property b key property)) w) p in
      rw told_is (does_read nodes 2 (λ w. carry_out (define_step loc key make w) (Ref loc) Undefined p) (count_places 1 q) old new (Made (Stopped Places)) (λ supply. defined_is make p 1 made takes) (does_not_place nodes 2 q old new (omega arith) full is))

-- a property is put where one stands
pub put_ok : (nodes : List Node) (loc : ℕ) (key : List ℕ) (property : Property ℕ) (old new : State) (heap : HeapView) (r : Result (SetDone ℕ) HeapFault) (done : SetDone ℕ) → told (body_at old.heap.cells loc) key ≡ Some true → ((c : Cell ℕ) (b : Body ℕ) → find nat_eq old.heap.cells loc ≡ Some c → body_of c ≡ Some b → Rewriting old.heap loc (with_body c (with_property b key property)) r heap) → r ≡ Ok done → new ≡ record old { heap = heap } → Defines nodes loc key property old new None
put_ok nodes loc key property old new heap r done stands law ok is =
    let (b, body_is, key_is) = told_body (body_at old.heap.cells loc) key true stands in
    let (c, found, has) = told_cell (find nat_eq old.heap.cells loc) b body_is in
    let wrote : Rewriting old.heap loc (with_body c (with_property b key property)) (Ok done) heap = rw ok at (law c b found has) in
    let same : grown old.heap.counts 0 0 0 ≡ old.heap.counts = grind arith in
    defined_ok nodes loc key property old c b found has new 0 (takes_none (found_under b.properties key) key_is) (omega arith)
    (is ∙ ap (λ h. record old { heap = h }) wrote.1 ∙ sym (ap (λ n. record old { heap = record old.heap { cells = put nat_eq old.heap.cells loc (with_body c (with_property b key property)); counts = n } }) same))

-- a property is added
pub add_ok : (nodes : List Node) (loc : ℕ) (key : List ℕ) (property : Property ℕ) (old new : State) (heap : HeapView) (r : Result (SetDone ℕ) HeapFault) (done : SetDone ℕ) → told (body_at old.heap.cells loc) key ≡ Some false → ((c : Cell ℕ) (b : Body ℕ) → find nat_eq old.heap.cells loc ≡ Some c → body_of c ≡ Some b → Extending old.heap loc (with_body c (with_property b key property)) r heap) → r ≡ Ok done → new ≡ record old { heap = heap } → Defines nodes loc key property old new None
add_ok nodes loc key property old new heap r done stands law ok is =
    let (b, body_is, key_is) = told_body (body_at old.heap.cells loc) key false stands in
    let (c, found, has) = told_cell (find nat_eq old.heap.cells loc) b body_is in
    let wrote : Extending old.heap loc (with_body c (with_property b key property)) (Ok done) heap = rw ok at (law c b found has) in
    let room : old.heap.counts.places + 1 ≤ old.heap.limits.places = passed_none old.heap.limits (grown old.heap.counts 0 1 0) wrote.0 in
    defined_ok nodes loc key property old c b found has new 1 (takes_one (found_under b.properties key) key_is) (omega arith) (is ∙ ap (λ h. record old { heap = h }) wrote.2)

-- no place is left for it
pub add_full : (nodes : List Node) (loc : ℕ) (key : List ℕ) (property : Property ℕ) (old mid new : State) (heap : HeapView) (r : Result (SetDone ℕ) HeapFault) (fault : HeapFault) (next : Next) → told (body_at old.heap.cells loc) key ≡ Some false → ((c : Cell ℕ) (b : Body ℕ) → find nat_eq old.heap.cells loc ≡ Some c → body_of c ≡ Some b → Extending old.heap loc (with_body c (with_property b key property)) r heap) → r ≡ Err fault → fault ≡ full.Places → mid ≡ record old { heap = heap } → new ≡ record mid { control = controls.Stop } → next ≡ Made (Stopped Places) → Defines nodes loc key property old new (Some next)
add_full nodes loc key property old mid new heap r fault next stands law answered fault_is between is told_is =
    let err : r ≡ Err full.Places = answered ∙ ap (λ f. Err f) fault_is in
    let (b, body_is, key_is) = told_body (body_at old.heap.cells loc) key false stands in
    let (c, found, has) = told_cell (find nat_eq old.heap.cells loc) b body_is in
    let kept : Extending old.heap loc (with_body c (with_property b key property)) (Err full.Places) heap = rw err at (law c b found has) in
    let full : old.heap.limits.places < old.heap.counts.places + 1 = passed_places old.heap.limits (grown old.heap.counts 0 1 0) kept.0 in
    let same : mid ≡ old = between ∙ ap (λ h. record old { heap = h }) kept.1 in
    defined_full nodes loc key property old c b found has new next (takes_one (found_under b.properties key) key_is) full (is ∙ ap (λ (s : State). record s { control = controls.Stop }) same) told_is

-- nothing can be defined where there is no body
refused_is : (found : Option (Cell ℕ)) (loc : ℕ) (key : List ℕ) (make : Option (Property ℕ) → Property ℕ) (p : Prog ℕ) → option_and_then body_of found ≡ None → carry_out (defined_at found loc key make) (Ref loc) Undefined p ≡ throw ReadOnly
refused_is None loc key make p h = refl
refused_is (Some c) loc key make p h = ap (λ o. carry_out (defined_in o c loc key make) (Ref loc) Undefined p) h

pub refused : (nodes : List Node) (loc : ℕ) (key : List ℕ) (property : Property ℕ) (old new : State) (next : Next) → body_at old.heap.cells loc ≡ None → Does nodes 2 (throw ReadOnly) old new next → Defines nodes loc key property old new (Some next)
unfolding define define_step
refused nodes loc key property old new next none h = λ make made p.
    does_read nodes 2 (λ w. carry_out (define_step loc key make w) (Ref loc) Undefined p) (throw ReadOnly) old new next (λ supply. refused_is (find nat_eq old.heap.cells loc) loc key make p none) h
