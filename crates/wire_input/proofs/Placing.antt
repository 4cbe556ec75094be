-- Steps of placing a value.
use Rattle.std.proofs.Common.{◌≡◌, ℕ, zero, suc, ◌+◌, ◌<◌, ◌≤◌, ◌≢◌, true, false, nat_lt, eqb, List, [], ◌∷◌, ◌++◌, length, slice_set, Option, Some, None, option_map, option_and_then, Result, Ok, Err, refl, sym, ap, ◌∙◌, subst, append_assoc, append-nil, length-append, add-one, arith}
use Rattle.std.proofs.lemmas.Bool.Decides.{nat_tests}
use Rattle.std.proofs.lemmas.Bool.{ne_eqb}
use borrow.Author.Tests.{eq-eqb}
use Rattle.serde_json.specs.Data.{Data, Items, no_items, item, Members, no_members, member}
use Rattle.parcel.specs.declared.parcel.Item.{Item}
use Rattle.parcel.specs.declared.parcel.Item.TheVariants.{Node}
use Rattle.parcel.specs.declared.parcel.PNode.{PNode}
use Rattle.wire_input.specs.Input.{Placed, placed_with, node_placed, named, member_placed, class_of, classes_placed, value_placed, items_placed, class_placed, text_of}
use Rattle.wire_input.specs.Answer.{Places, TextAnswers}
use Rattle.wire_input.specs.declared.InputFault.{InputFault}
use Rattle.wire_input.specs.declared.InputFault.TheVariants.{Json, Shape, Memory}

-- a list with its nodes, in front of the rest
abbrev pub with_front : {A : Type 0} → List A → List PNode → Placed (List A) → Placed (List A)
with_front xs ns rest = option_map (λ more. (xs ++ more.0, ns ++ more.1)) rest

pair-same : {A : Type 0} (xs ys : List A) (ns ms : List PNode) → xs ≡ ys → ns ≡ ms → ◌≡◌ {A = Placed (List A)} (Some (xs, ns)) (Some (ys, ms))
pair-same xs ys ns ms e f = rw (e, f) refl

-- One more of a list was placed.
front-cons : {A : Type 0} (xs : List A) (x : A) (ns ms : List PNode) (rest : Placed (List A))
    → with_front xs ns (option_map (λ more. (x ∷ more.0, ms ++ more.1)) rest) ≡ with_front (xs ++ x ∷ []) (ns ++ ms) rest
front-cons xs x ns ms None = refl
front-cons xs x ns ms (Some more) =
    pair-same (xs ++ x ∷ more.0) ((xs ++ x ∷ []) ++ more.0) (ns ++ (ms ++ more.1)) ((ns ++ ms) ++ more.1)
    (sym (append_assoc xs (x ∷ []) more.0)) (sym (append_assoc ns ms more.1))

-- More of a list was placed.
front-more : {A : Type 0} (xs ys : List A) (ns ms : List PNode) (rest : Placed (List A))
    → with_front xs ns (option_map (λ more. (ys ++ more.0, ms ++ more.1)) rest) ≡ with_front (xs ++ ys) (ns ++ ms) rest
front-more xs ys ns ms None = refl
front-more xs ys ns ms (Some more) =
    pair-same (xs ++ (ys ++ more.0)) ((xs ++ ys) ++ more.0) (ns ++ (ms ++ more.1)) ((ns ++ ms) ++ more.1)
    (sym (append_assoc xs ys more.0)) (sym (append_assoc ns ms more.1))

front-none : {A : Type 0} (rest : Placed (List A)) → rest ≡ with_front [] [] rest
front-none None = refl
front-none (Some more) = refl

front-end : {A : Type 0} (xs : List A) (ns : List PNode) → with_front xs ns (Some ([], [])) ≡ Some (xs, ns)
front-end xs ns = pair-same (xs ++ []) xs (ns ++ []) ns (append-nil xs) (append-nil ns)

-- the first of a list, and the rest
module _ {A : Type 0} (whole first_rest : Placed (List A)) (first : Placed A) (more : ℕ → Placed (List A)) (xs : List A) (ns : List PNode) (next : ℕ)
    (so_far : whole ≡ with_front xs ns (placed_with (λ x rest. x ∷ rest) first more next)) where
  pub turn-placed : (x : A) (ms : List PNode) (then_next : ℕ) → first ≡ Some (x, ms) → then_next ≡ next + length ms
      → whole ≡ with_front (xs ++ x ∷ []) (ns ++ ms) (more then_next)
  turn-placed x ms then_next e n =
      so_far ∙ ap (λ f. with_front xs ns (placed_with (λ x rest. x ∷ rest) f more next)) e
      ∙ front-cons xs x ns ms (more (next + length ms)) ∙ ap (λ m. with_front (xs ++ x ∷ []) (ns ++ ms) (more m)) (sym n)

  pub turn-fault : first ≡ None → whole ≡ None
  turn-fault e = so_far ∙ ap (λ f. with_front xs ns (placed_with (λ x rest. x ∷ rest) f more next)) e

-- ---- answers

-- A fault of a part is one of the whole.
pub fault-along : {A B : Type 0} (fault : InputFault) (old new old' new' : List PNode) (told : Placed A) (other : Placed B) → (told ≡ None → other ≡ None)
    → Places {A = A} (Err fault) old new told → Places {A = B} (Err fault) old' new' other
fault-along Json old new old' new' told other f h = absurd h
fault-along Shape old new old' new' told other f h = f h
fault-along Memory old new old' new' told other f h = tt

pub text-fault : {B : Type 0} (fault : InputFault) (old new : List PNode) (told : Option (List ℕ)) (other : Placed B) → (told ≡ None → other ≡ None)
    → TextAnswers (Err fault) told → Places {A = B} (Err fault) old new other
text-fault Json old new told other f h = absurd h
text-fault Shape old new told other f h = f h
text-fault Memory old new told other f h = tt

-- a value with no nodes
pub leaf : (old : List PNode) (seen value : Data) (it : Item) → seen ≡ value → value_placed seen (length old) ≡ Some (it, [])
    → Places (Ok it) old old (value_placed value (length old))
leaf old seen value it e p = ([], ap (λ d. value_placed d (length old)) (sym e) ∙ p, sym (append-nil old))

pub along : {A : Type 0} (answer : Result A InputFault) (old new : List PNode) (told other : Placed A) → told ≡ other → Places answer old new told → Places answer old new other
along answer old new told other e h = subst (λ t. Places answer old new t) e h

-- ---- a node

set-behind : (old : List PNode) (x y : PNode) (more : List PNode) → slice_set (old ++ x ∷ more) (length old) y ≡ old ++ y ∷ more
set-behind [] x y more = refl
set-behind (z ∷ old) x y more = ap (λ l. z ∷ l) (set-behind old x y more)

pub node-told : {A : Type 0} (node : List A → PNode) (contents : ℕ → Placed (List A)) (old before after final ns : List PNode) (place : PNode) (xs : List A) (number : ℕ)
    → number ≡ length old → number < 100_000 → before ≡ old ++ place ∷ [] → contents (length before) ≡ Some (xs, ns) → after ≡ before ++ ns
    → final ≡ slice_set after number (node xs) → Places (Ok (Node number)) old final (node_placed node contents (length old))
node-told node contents old before after final ns place xs number n low b c a f =
    let test : nat_lt (length old) 100_000 ≡ true = grind (arith, nat_tests) in
    let at : length before ≡ length old + 1 = ap length b ∙ length-append old (place ∷ []) in
    let found : contents (length old + 1) ≡ Some (xs, ns) = ap contents (sym at) ∙ c in
    let all : after ≡ old ++ place ∷ ns = a ∙ ap (λ l. l ++ ns) b ∙ append_assoc old (place ∷ []) ns in
    (node xs ∷ ns, rw (test, found, n) refl, f ∙ ap (λ l. slice_set l number (node xs)) all ∙ ap (λ k. slice_set (old ++ place ∷ ns) k (node xs)) n ∙ set-behind old place (node xs) ns)

pub node-fault : {A : Type 0} (node : List A → PNode) (contents : ℕ → Placed (List A)) (old before : List PNode) (place : PNode)
    → length old < 100_000 → before ≡ old ++ place ∷ [] → contents (length before) ≡ None → node_placed node contents (length old) ≡ None
node-fault node contents old before place low b c =
    let test : nat_lt (length old) 100_000 ≡ true = grind (arith, nat_tests) in
    let at : length before ≡ length old + 1 = ap length b ∙ length-append old (place ∷ []) in
    let found : contents (length old + 1) ≡ None = ap contents (sym at) ∙ c in
    rw (test, found) refl

pub node-full : {A : Type 0} (node : List A → PNode) (contents : ℕ → Placed (List A)) (next : ℕ) → 100_000 ≤ next → node_placed node contents next ≡ None
node-full node contents next high =
    let test : nat_lt next 100_000 ≡ false = grind (arith, nat_tests) in
    rw test refl

-- ---- turns of loops

-- nodes behind nodes
pub behind : (old now new ns ms : List PNode) → now ≡ old ++ ns → new ≡ now ++ ms → (new ≡ old ++ (ns ++ ms)) × (length new ≡ length now + length ms)
behind old now new ns ms e f =
    (f ∙ ap (λ l. l ++ ms) e ∙ append_assoc old ns ms, ap length f ∙ length-append now ms)

module _ (whole : Placed (List Item)) (xs : List Item) (ns : List PNode) (value : Data) (values : Items) (next : ℕ)
    (so_far : whole ≡ with_front xs ns (items_placed (item value values) next)) where
  pub items-turn : (x : Item) (ms : List PNode) (behind_it : ℕ) → value_placed value next ≡ Some (x, ms) → behind_it ≡ next + length ms
      → whole ≡ with_front (xs ++ x ∷ []) (ns ++ ms) (items_placed values behind_it)
  unfolding items_placed
  items-turn x ms behind_it e n =
      turn-placed whole whole (value_placed value next) (items_placed values) xs ns next so_far x ms behind_it e n

  pub items-fault : value_placed value next ≡ None → whole ≡ None
  unfolding items_placed
  items-fault e = turn-fault whole whole (value_placed value next) (items_placed values) xs ns next so_far e

pub items-end : (whole : Placed (List Item)) (xs : List Item) (ns : List PNode) (next : ℕ) → whole ≡ with_front xs ns (items_placed no_items next) → whole ≡ Some (xs, ns)
unfolding items_placed
items-end whole xs ns next e = e ∙ front-end xs ns

pub start : {A : Type 0} (old : List PNode) (whole : Placed (List A)) → (ns : List PNode) × (old ≡ old ++ ns) × (whole ≡ with_front [] ns whole)
start old whole = ([], sym (append-nil old), front-none whole)

module _ (whole : Placed (List (List ℕ × Item))) (xs : List (List ℕ × Item)) (ns : List PNode) (key : List ℕ) (value : Data) (members : Members) (class next : ℕ)
    (so_far : whole ≡ with_front xs ns (class_placed (member key value members) class next)) where
  pub class-skip : class_of key ≢ class → whole ≡ with_front xs ns (class_placed members class next)
  unfolding class_placed
  class-skip other = let test : eqb (class_of key) class ≡ false = ne_eqb (class_of key) class other in so_far ∙ rw test refl

  here : class_of key ≡ class → whole ≡ with_front xs ns (placed_with (λ x rest. x ∷ rest) (member_placed key value next) (class_placed members class) next)
  unfolding class_placed
  here same = let test : eqb (class_of key) class ≡ true = eq-eqb (class_of key) class same in so_far ∙ rw test refl

  pub class-turn : (x : List ℕ × Item) (ms : List PNode) (behind_it : ℕ) → class_of key ≡ class → member_placed key value next ≡ Some (x, ms) → behind_it ≡ next + length ms
      → whole ≡ with_front (xs ++ x ∷ []) (ns ++ ms) (class_placed members class behind_it)
  class-turn x ms behind_it same e n =
      turn-placed whole whole (member_placed key value next) (class_placed members class) xs ns next (here same) x ms behind_it e n

  pub class-fault : class_of key ≡ class → member_placed key value next ≡ None → whole ≡ None
  class-fault same e = turn-fault whole whole (member_placed key value next) (class_placed members class) xs ns next (here same) e

pub class-end : (whole : Placed (List (List ℕ × Item))) (xs : List (List ℕ × Item)) (ns : List PNode) (class next : ℕ)
    → whole ≡ with_front xs ns (class_placed no_members class next) → whole ≡ Some (xs, ns)
unfolding class_placed
class-end whole xs ns class next e = e ∙ front-end xs ns

module _ {A : Type 0} (members : ℕ → ℕ → Placed (List A)) (whole : Placed (List A)) (xs : List A) (ns : List PNode) where
  pub classes-turn : (count class next : ℕ) (ys : List A) (ms : List PNode) (behind_it : ℕ) → count + class ≡ 12 → class < 12
      → whole ≡ with_front xs ns (classes_placed members count class next) → members class next ≡ Some (ys, ms) → behind_it ≡ next + length ms
      → (fewer : ℕ) × (fewer + (class + 1) ≡ 12) × (whole ≡ with_front (xs ++ ys) (ns ++ ms) (classes_placed members fewer (class + 1) behind_it))
  unfolding classes_placed
  classes-turn zero class next ys ms behind_it sum low so_far e n = absurd (omega arith)
  classes-turn (suc count) class next ys ms behind_it sum low so_far e n = (
    count,
    omega arith,
    so_far ∙ ap (λ f. with_front xs ns (placed_with (λ first more. first ++ more) f (classes_placed members count (suc class)) next)) e
        ∙ front-more xs ys ns ms (classes_placed members count (suc class) (next + length ms))
        ∙ ap (λ m. with_front (xs ++ ys) (ns ++ ms) (classes_placed members count (suc class) m)) (sym n)
        ∙ ap (λ k. with_front (xs ++ ys) (ns ++ ms) (classes_placed members count k behind_it)) (sym (add-one class)),
  )

  pub classes-fault : (count class next : ℕ) → count + class ≡ 12 → class < 12
      → whole ≡ with_front xs ns (classes_placed members count class next) → members class next ≡ None → whole ≡ None
  unfolding classes_placed
  classes-fault zero class next sum low so_far e = absurd (omega arith)
  classes-fault (suc count) class next sum low so_far e =
      so_far ∙ ap (λ f. with_front xs ns (placed_with (λ first more. first ++ more) f (classes_placed members count (suc class)) next)) e

  pub classes-end : (count class next : ℕ) → count + class ≡ 12 → 12 ≤ class → whole ≡ with_front xs ns (classes_placed members count class next) → whole ≡ Some (xs, ns)
  unfolding classes_placed
  classes-end zero class next sum high so_far = so_far ∙ front-end xs ns
  classes-end (suc count) class next sum high so_far = absurd (omega arith)

-- a member: its key and its value
pub member-told : (key : List ℕ) (value : Data) (text : List ℕ) (x : Item) (old new : List PNode) → text_of key ≡ Some text
    → Places (Ok x) old new (value_placed value (length old)) → Places (Ok (text, x)) old new (member_placed key value (length old))
member-told key value text x old new k h =
    (h.0, ap (option_and_then (named (value_placed value (length old)))) k ∙ ap (λ o. named o text) h.1, h.2)

pub member-fault : (key : List ℕ) (value : Data) (text : List ℕ) (next : ℕ) → text_of key ≡ Some text → value_placed value next ≡ None → member_placed key value next ≡ None
member-fault key value text next k e = ap (option_and_then (named (value_placed value next))) k ∙ ap (λ o. named o text) e

pub key-fault : (key : List ℕ) (value : Data) (next : ℕ) → text_of key ≡ None → member_placed key value next ≡ None
key-fault key value next e = ap (option_and_then (named (value_placed value next))) e
