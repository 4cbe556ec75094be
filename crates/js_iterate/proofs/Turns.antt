-- How an array that is walked is filled, one item after another.
use Rattle.std.proofs.Common.{◌≡◌, ℕ, ◌+◌, ◌-◌, ◌≤◌, ◌<◌, List, [], ◌∷◌, length, take, drop, get_or, true, false, if◌then◌else◌, Option, Some, None, Result, Ok, Err, IfOk, refl, sym, ap, subst, ◌∙◌, arith}
use Rattle.std.proofs.lemmas.Bool.Decides.{nat_tests}
use Rattle.std.specs.Prelude.{nat_lt}
use Rattle.js_tree.specs.declared.node.Node.{Node}
use Rattle.world_heap.specs.declared.value.Value.{Value}
use Rattle.world_heap.specs.declared.value.Value.TheVariants.{Str, Ref}
use Rattle.world_heap.specs.declared.builtin.BuiltIn.TheVariants.{ArrayPrototype}
use Rattle.world_heap.specs.declared.cell.Cell.{Cell}
use Rattle.world_heap.specs.declared.cell.Cell.TheVariants.{Array}
use Rattle.world_log.specs.declared.entry.Product.TheVariants.{Stopped}
use Rattle.world_log.specs.declared.entry.Stop.{Stop}
use Rattle.world_log.specs.declared.entry.Stop.TheVariants.{Units}
use Rattle.js_semantics.specs.declared.fault.Fault.TheVariants.{TooLong}
use Rattle.js_semantics.specs.declared.fault.StepFault.{StepFault}
use Rattle.world_heap.specs.declared.cell.MapEntry.{MapEntry}
use Rattle.js_operators.specs.Points.{EndsPoint}
use Rattle.js_semantics.specs.Iteration.{points_of, push_entries, push_item, push_items, push_texts}
use Rattle.js_semantics.specs.Access.{make_array}
use Rattle.js_semantics.specs.World.{built_in}
use Rattle.js_semantics.specs.Prog.{Prog, alloc, count_units, make_text, throw}
use Rattle.js_machine.specs.declared.state.State.{State}
use Rattle.js_machine.specs.declared.state.Next.{Next}
use Rattle.js_machine.specs.declared.state.Next.TheVariants.{Made}
use Rattle.js_machine.specs.Does.{Allocates, CountsUnits, Moves, world_of}
use Rattle.js_machine.proofs.Doing.{does_move, does_read, moves_on, moves_read}
use Rattle.js_machine.proofs.Lists.{drop_at, drop_none}
use Rattle.js_machine.proofs.Allocating.{does_not_units, moves_alloc, moves_units, not_alloc}
use Rattle.js_step_object.specs.Defining.{Comes, Makes}

-- what was done before a turn, and the turn
module _ (nodes : List Node) (whole rest step after : Prog ℕ → Prog ℕ) (start now new : State) (so_far : (p : Prog ℕ) → Moves nodes (whole p) start (rest p) now) (is : (p : Prog ℕ) → rest p ≡ step (after p)) where
  pub turn_more : Comes nodes step now new None → (p : Prog ℕ) → Moves nodes (whole p) start (after p) new
  turn_more h p = moves_on nodes (whole p) (step (after p)) (after p) start now new (subst (λ q. Moves nodes (whole p) start q now) (is p) (so_far p)) (h (after p))

  pub turn_ended : (made : Next) → Comes nodes step now new (Some made) → Comes nodes whole start new (Some made)
  turn_ended made h = λ p. does_move nodes 2 (whole p) (step (after p)) start now new made (subst (λ q. Moves nodes (whole p) start q now) (is p) (so_far p)) (h (after p))

-- all turns are made
pub turns_done : (nodes : List Node) (whole rest : Prog ℕ → Prog ℕ) (start now : State) → ((p : Prog ℕ) → Moves nodes (whole p) start (rest p) now) → ((p : Prog ℕ) → rest p ≡ p) → Comes nodes whole start now None
turns_done nodes whole rest start now so_far is = λ p. subst (λ q. Moves nodes (whole p) start q now) (is p) (so_far p)

-- an array of these values
pub array_ok : (nodes : List Node) (items : List (Value ℕ)) (old new : State) (loc : ℕ) → ((supply : ℕ → ℕ) → Allocates (Array (built_in ArrayPrototype (world_of nodes supply old)) items false) old new (Ok loc)) → Makes nodes (λ k. make_array items k) old new (Ok loc)
unfolding make_array
array_ok nodes items old new loc made = λ k.
    let cell : Cell ℕ = Array (built_in ArrayPrototype (world_of nodes (λ m. m) old)) items false in
    moves_on nodes (make_array items k) (alloc cell k) (k loc) old old new (moves_read nodes (λ w. alloc (Array (built_in ArrayPrototype w) items false) k) (alloc cell k) old (λ supply. refl)) (moves_alloc nodes cell k old new loc refl (made (λ m. m)))

pub array_err : (nodes : List Node) (items : List (Value ℕ)) (old new : State) (stop : Stop) (next : Next) → ((supply : ℕ → ℕ) → Allocates (Array (built_in ArrayPrototype (world_of nodes supply old)) items false) old new (Err stop)) → next ≡ Made (Stopped stop) → Makes nodes (λ k. make_array items k) old new (Err next)
unfolding make_array
array_err nodes items old new stop next made told = λ k.
    let cell : Cell ℕ = Array (built_in ArrayPrototype (world_of nodes (λ m. m) old)) items false in
    rw told (does_read nodes 2 (λ w. alloc (Array (built_in ArrayPrototype w) items false) k) (alloc cell k) old new (Made (Stopped stop)) (λ supply. refl) (not_alloc nodes 2 cell k old new stop (omega arith) (made (λ m. m))))

-- an array is made, and then filled
module _ (nodes : List Node) (items told : List (Value ℕ)) (f : ℕ → Prog ℕ → Prog ℕ) (old mid new : State) (made : Result ℕ Next) (same : items ≡ told) (h : Makes nodes (λ k. make_array items k) old mid made) where
  -- the array, as it is told
  known : (got : Result ℕ Next) → made ≡ got → Makes nodes (λ k. make_array told k) old mid got
  known got is = subst (λ vs. Makes nodes (λ k. make_array vs k) old mid got) same (subst (λ r. Makes nodes (λ k. make_array items k) old mid r) is h)

  pub fill_ok : (loc : ℕ) (ended : Option Next) → made ≡ Ok loc → Comes nodes (f loc) mid new ended → ended ≡ None → Makes nodes (λ k. make_array told (λ array. f array (k array))) old new (Ok loc)
  fill_ok loc ended is came goes = λ k.
      let on : Comes nodes (f loc) mid new None = subst (λ o. Comes nodes (f loc) mid new o) goes came in
      moves_on nodes (make_array told (λ array. f array (k array))) (f loc (k loc)) (k loc) old mid new (known (Ok loc) is (λ array. f array (k array))) (on (k loc))

  pub fill_ended : (loc : ℕ) (ended : Option Next) (next : Next) → made ≡ Ok loc → Comes nodes (f loc) mid new ended → ended ≡ Some next → Makes nodes (λ k. make_array told (λ array. f array (k array))) old new (Err next)
  fill_ended loc ended next is came goes = λ k.
      let on : Comes nodes (f loc) mid new (Some next) = subst (λ o. Comes nodes (f loc) mid new o) goes came in
      does_move nodes 2 (make_array told (λ array. f array (k array))) (f loc (k loc)) old mid new next (known (Ok loc) is (λ array. f array (k array))) (on (k loc))

  pub fill_not : (next : Next) → made ≡ Err next → Makes nodes (λ k. make_array told (λ array. f array (k array))) old mid (Err next)
  fill_not next is = λ k. known (Err next) is (λ array. f array (k array))

-- an array is made, and goes into another
pub then_comes : (nodes : List Node) (items told : List (Value ℕ)) (f : ℕ → Prog ℕ → Prog ℕ) (old mid new : State) (made : Result ℕ Next) (loc : ℕ) (r : Result (Option Next) StepFault) → items ≡ told → Makes nodes (λ k. make_array items k) old mid made → made ≡ Ok loc → IfOk r (λ ended. Comes nodes (f loc) mid new ended) → IfOk r (λ ended. Comes nodes (λ p. make_array told (λ array. f array p)) old new ended)
then_comes nodes items told f old mid new made loc (Err fault) same h is came = tt
then_comes nodes items told f old mid new made loc (Ok None) same h is came = λ p.
    let g : Makes nodes (λ k. make_array told k) old mid (Ok loc) = subst (λ vs. Makes nodes (λ k. make_array vs k) old mid (Ok loc)) same (subst (λ r. Makes nodes (λ k. make_array items k) old mid r) is h) in
    moves_on nodes (make_array told (λ array. f array p)) (f loc p) p old mid new (g (λ array. f array p)) (came p)
then_comes nodes items told f old mid new made loc (Ok (Some next)) same h is came = λ p.
    let g : Makes nodes (λ k. make_array told k) old mid (Ok loc) = subst (λ vs. Makes nodes (λ k. make_array vs k) old mid (Ok loc)) same (subst (λ r. Makes nodes (λ k. make_array items k) old mid r) is h) in
    does_move nodes 2 (make_array told (λ array. f array p)) (f loc p) old mid new next (g (λ array. f array p)) (came p)

-- no array is made
pub not_comes : (nodes : List Node) (items told : List (Value ℕ)) (f : ℕ → Prog ℕ → Prog ℕ) (old mid : State) (made : Result ℕ Next) (next : Next) → items ≡ told → Makes nodes (λ k. make_array items k) old mid made → made ≡ Err next → Comes nodes (λ p. make_array told (λ array. f array p)) old mid (Some next)
not_comes nodes items told f old mid made next same h is = λ p.
    let g : Makes nodes (λ k. make_array told k) old mid (Err next) = subst (λ vs. Makes nodes (λ k. make_array vs k) old mid (Err next)) same (subst (λ r. Makes nodes (λ k. make_array items k) old mid r) is h) in
    g (λ array. f array p)

-- a text that is no longer than a text may be
pub text_is : (text : List ℕ) (k : Value ℕ → Prog ℕ) → length text ≤ 1_048_576 → make_text text k ≡ count_units (length text) (k (Str text))
unfolding make_text
text_is text k h =
    let short : nat_lt 1_048_576 (length text) ≡ false = grind (arith, nat_tests) in
    ap (λ b. if b then throw TooLong else count_units (length text) (k (Str text))) short

-- a text is made, and goes into an array
pub text_comes : (nodes : List Node) (text : List ℕ) (units : ℕ) (f : Value ℕ → Prog ℕ → Prog ℕ) (old mid new : State) (r : Result (Option Next) StepFault) → units ≡ length text → units ≤ 1_048_576 → CountsUnits units old mid true → IfOk r (λ ended. Comes nodes (f (Str text)) mid new ended) → IfOk r (λ ended. Comes nodes (λ p. make_text text (λ v. f v p)) old new ended)
text_comes nodes text units f old mid new (Err fault) is short counted came = tt
text_comes nodes text units f old mid new (Ok None) is short counted came = λ p.
    rw (text_is text (λ v. f v p) (rw is at short)) (moves_on nodes (count_units (length text) (f (Str text) p)) (f (Str text) p) p old mid new (moves_units nodes (length text) (f (Str text) p) old mid (rw is at counted)) (came p))
text_comes nodes text units f old mid new (Ok (Some next)) is short counted came = λ p.
    rw (text_is text (λ v. f v p) (rw is at short)) (does_move nodes 2 (count_units (length text) (f (Str text) p)) (f (Str text) p) old mid new next (moves_units nodes (length text) (f (Str text) p) old mid (rw is at counted)) (came p))

pub text_not : (nodes : List Node) (text : List ℕ) (units : ℕ) (f : Value ℕ → Prog ℕ → Prog ℕ) (old new : State) → units ≡ length text → units ≤ 1_048_576 → CountsUnits units old new false → Comes nodes (λ p. make_text text (λ v. f v p)) old new (Some (Made (Stopped Units)))
text_not nodes text units f old new is short counted = λ p.
    rw (text_is text (λ v. f v p) (rw is at short)) (does_not_units nodes 2 (length text) (f (Str text) p) old new (omega arith) (rw is at counted))

-- the turns over values, entries and code points
pub items_turn : (loc : ℕ) (values : List (Value ℕ)) (i : ℕ) (v told : Value ℕ) (p : Prog ℕ) → i < length values → v ≡ get_or values i v → told ≡ v → push_items loc (drop i values) p ≡ push_item loc told (push_items loc (drop (i + 1) values) p)
items_turn loc values i v told p h is same =
    let first : drop i values ≡ told ∷ drop (i + 1) values = drop_at values i v h ∙ ap (λ x. x ∷ drop (i + 1) values) (sym is ∙ sym same) in
    ap (λ l. push_items loc l p) first

pub entries_turn : (loc : ℕ) (entries : List (MapEntry ℕ)) (i : ℕ) (entry : MapEntry ℕ) (p : Prog ℕ) → i < length entries → entry ≡ get_or entries i entry → push_entries loc (drop i entries) p ≡ make_array (entry.key ∷ entry.value ∷ []) (λ pair. push_item loc (Ref pair) (push_entries loc (drop (i + 1) entries) p))
entries_turn loc entries i entry p h is =
    let first : drop i entries ≡ entry ∷ drop (i + 1) entries = drop_at entries i entry h ∙ ap (λ x. x ∷ drop (i + 1) entries) (sym is) in
    ap (λ l. push_entries loc l p) first

pub points_turn : (loc : ℕ) (text point : List ℕ) (at end : ℕ) (p : Prog ℕ) → EndsPoint text at end → point ≡ take (end - at) (drop at text) → push_texts loc (points_of (drop at text)) p ≡ make_text point (λ v. push_item loc v (push_texts loc (points_of (drop end text)) p))
points_turn loc text point at end p (later, within, law) is =
    let first : points_of (drop at text) ≡ point ∷ points_of (drop end text) = law ∙ ap (λ x. x ∷ points_of (drop end text)) (sym is) in
    ap (λ l. push_texts loc l p) first

pub points_past : (loc : ℕ) (text : List ℕ) (at : ℕ) (p : Prog ℕ) → length text ≤ at → push_texts loc (points_of (drop at text)) p ≡ p
points_past loc text at p h = ap (λ l. push_texts loc (points_of l) p) (drop_none text at h)
