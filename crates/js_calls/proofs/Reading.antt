-- What reading a property gives, where it makes a text of one unit.
use Rattle.std.proofs.Common.{◌≡◌, ℕ, zero, suc, List, [], ◌∷◌, length, Option, Some, None, Bool, true, false, if◌then◌else◌, is_some, codes, nat_eq, nat_lt, pos, Result, IfOk, refl, sym, ap, subst, ◌≤◌, ◌∙◌, arith}
use Rattle.std.specs.Prelude.{slice_get, option_map}
use Rattle.std.proofs.lemmas.Bool.Decides.{nat_tests}
use Rattle.std.specs.Option.{option_and_then}
use Rattle.std.specs.Cmp.Lexicographic.{same_text}
use Rattle.wl_text.specs.Number.{index_of, natural_of}
use Rattle.world_heap.specs.declared.value.Value.{Value}
use Rattle.world_heap.specs.declared.value.Value.TheVariants.{Undefined, Null, Bool as Boolean, Num, Str, Ref}
use Rattle.world_heap.specs.declared.cell.Cell.{Cell}
use Rattle.proto_props.specs.declared.get.Got.{Got}
use Rattle.proto_props.specs.declared.get.Got.TheVariants.{Value as Given}
use Rattle.proto_props.specs.Gets.{gets, text_unit, unit_got}
use Rattle.proto_props.specs.Own.{is_length}
use Rattle.js_tree.specs.declared.node.Node.{Node}
use Rattle.js_semantics.specs.declared.fault.StepFault.{StepFault}
use Rattle.js_semantics.specs.declared.fault.Fault.TheVariants.{TooLong}
use Rattle.js_semantics.specs.Prog.{Prog, count_units, make_text, throw}
use Rattle.js_semantics.specs.Properties.{made_of}
use Rattle.js_semantics.specs.Access.{get, take_up}
use Rattle.js_machine.specs.declared.state.State.{State}
use Rattle.js_machine.specs.declared.state.Next.{Next}
use Rattle.js_machine.specs.declared.state.Next.TheVariants.{Made}
use Rattle.js_machine.specs.Does.{CountsUnits, Does}
use Rattle.world_log.specs.declared.entry.Product.TheVariants.{Stopped}
use Rattle.world_log.specs.declared.entry.Stop.TheVariants.{Units}
use Rattle.js_machine.proofs.Doing.{does_read_ok}
use Rattle.js_machine.proofs.Allocating.{does_not_units, does_units_ok}
use Rattle.js_calls.specs.Reading.{made_value}

-- the text `length` is no index
length_named : (key : List ℕ) → is_length key ≡ true → index_of key ≡ None
unfolding index_of natural_of
length_named key h = ap index_of (same_text key (codes "length") (sym h))

lt_suc : (i n : ℕ) → nat_lt (suc i) (suc n) ≡ nat_lt i n
lt_suc i n = go (nat_lt i n) refl
  where
    go : (b : Bool) → nat_lt i n ≡ b → nat_lt (suc i) (suc n) ≡ b
    go true e = grind (arith, nat_tests)
    go false e = grind (arith, nat_tests)

within : {A : Type 0} (xs : List A) (i : ℕ) → is_some (slice_get xs i) ≡ nat_lt i (length xs)
within [] zero = refl
within [] (suc i) = let e : nat_lt (suc i) 0 ≡ false = grind (arith, nat_tests) in sym e
within (x ∷ xs) zero = let e : nat_lt 0 (suc (length xs)) ≡ true = grind (arith, nat_tests) in sym e
within (x ∷ xs) (suc i) = within xs i ∙ sym (lt_suc i (length xs))

-- the length is no unit
pub unless_length : (text key : List ℕ) → is_some (if is_length key then None else text_unit text key) ≡ is_some (text_unit text key)
unless_length text key = go (is_length key) refl
  where
    go : (b : Bool) → is_length key ≡ b → is_some (if b then None else text_unit text key) ≡ is_some (text_unit text key)
    go false e = refl
    go true e = sym (ap (λ o. is_some (option_map (λ u. u ∷ []) (option_and_then (slice_get text) o))) (length_named key e))

mapped : {A B : Type 0} (f : A → B) (o : Option A) → is_some (option_map f o) ≡ is_some o
mapped f None = refl
mapped f (Some x) = refl

unit_at : (text key : List ℕ) (o : Option ℕ) → index_of key ≡ o → is_some (text_unit text key) ≡ is_some (option_and_then (slice_get text) o)
unit_at text key o e = mapped (λ u. u ∷ []) (option_and_then (slice_get text) (index_of key)) ∙ ap (λ i. is_some (option_and_then (slice_get text) i)) e

-- whether a text has a unit under a key
pub unit_under : (text key : List ℕ) (i : ℕ) → index_of key ≡ Some i → is_some (text_unit text key) ≡ nat_lt i (length text)
unit_under text key i e = unit_at text key (Some i) e ∙ within text i

pub no_unit : (text key : List ℕ) → index_of key ≡ None → is_some (text_unit text key) ≡ false
no_unit text key e = unit_at text key None e

one_unit : (o : Option ℕ) (t : List ℕ) → option_map (λ u. u ∷ []) o ≡ Some t → length t ≡ 1
one_unit None t h = absurd (cc)
one_unit (Some u) t h = let e : u ∷ [] ≡ t = cc in sym (ap length e)

-- a unit that is made is what the reading gives
unit_made : (cells : List (ℕ × Cell ℕ)) (of v : Value ℕ) (key t : List ℕ) → made_of of key ≡ Some t → Given v ≡ gets nat_eq cells of key → (v ≡ Str t) × (length t ≡ 1)
unit_made cells Undefined v key t h g = absurd (cc)
unit_made cells Null v key t h g = absurd (cc)
unit_made cells (Boolean b) v key t h g = absurd (cc)
unit_made cells (Num n) v key t h g = absurd (cc)
unit_made cells (Ref l) v key t h g = absurd (cc)
unit_made cells (Str text) v key t h g = go (is_length key) h g
  where
    go : (b : Bool) → (if b then None else text_unit text key) ≡ Some t → Given v ≡ (if b then Given (Num (pos (length text))) else unit_got nat_eq cells key (text_unit text key)) → (v ≡ Str t) × (length t ≡ 1)
    go true h g = absurd (cc)
    go false h g =
        let e : Given v ≡ Given (Str t) = g ∙ ap (λ o. unit_got nat_eq cells key o) h in
        (cc, one_unit (option_and_then (slice_get text) (index_of key)) t h)

text_counts : (text : List ℕ) (k : Value ℕ → Prog ℕ) → length text ≡ 1 → make_text text k ≡ count_units (length text) (k (Str text))
unfolding make_text
text_counts text k one =
    let e : nat_lt 1_048_576 (length text) ≡ false = ap (λ n. nat_lt 1_048_576 n) one in
    ap (λ b. if b then throw TooLong else count_units (length text) (k (Str text))) e

-- what is done with a value that was read
pub value_read : (cells : List (ℕ × Cell ℕ)) (of v : Value ℕ) (key : List ℕ) (k : Value ℕ → Prog ℕ) → Given v ≡ gets nat_eq cells of key → take_up (Given v) of key k ≡ made_value (is_some (made_of of key)) v k
unfolding made_value
value_read cells of v key k g = go (made_of of key) refl
  where
    go : (o : Option (List ℕ)) → made_of of key ≡ o → (elim o [ Some text ↦ make_text text k | None ↦ k v ]) ≡ made_value (is_some o) v k
    go None e = refl
    go (Some t) e =
        let m = unit_made cells of v key t e g in
        text_counts t k m.1 ∙ ap (λ n. count_units n (k (Str t))) m.1 ∙ sym (ap (λ x. count_units 1 (k x)) m.0)

-- a property is read, and what follows is done with what it gives
pub get_ok : (nodes : List Node) (n : ℕ) (of : Value ℕ) (key : List ℕ) (k : Value ℕ → Prog ℕ) (got : Got ℕ) (old new : State) (r : Result Next StepFault) → got ≡ gets nat_eq old.heap.cells of key
    → IfOk r (λ next. Does nodes n (take_up got of key k) old new next) → IfOk r (λ next. Does nodes n (get of key k) old new next)
unfolding get
get_ok nodes n of key k got old new r is =
    does_read_ok nodes n (λ w. take_up (gets w.same w.heap of key) of key k) (take_up got of key k) old new r (λ supply. sym (ap (λ g. take_up g of key k) is))

-- the unit of a text that was made is counted
pub made_ok : (nodes : List Node) (n : ℕ) (v : Value ℕ) (k : Value ℕ → Prog ℕ) (old mid new : State) (r : Result Next StepFault) → CountsUnits 1 old mid true → IfOk r (λ next. Does nodes n (k v) mid new next) → IfOk r (λ next. Does nodes n (made_value true v k) old new next)
unfolding made_value
made_ok nodes n v k old mid new r counted h = does_units_ok nodes n 1 (k v) old mid new r counted h

pub not_made : (nodes : List Node) (n : ℕ) (v : Value ℕ) (k : Value ℕ → Prog ℕ) (old new : State) → 1 ≤ n → CountsUnits 1 old new false → Does nodes n (made_value true v k) old new (Made (Stopped Units))
unfolding made_value
not_made nodes n v k old new some counted = does_not_units nodes n 1 (k v) old new some counted

pub unmade_ok : (nodes : List Node) (n : ℕ) (v : Value ℕ) (k : Value ℕ → Prog ℕ) (old new : State) (r : Result Next StepFault) → IfOk r (λ next. Does nodes n (k v) old new next) → IfOk r (λ next. Does nodes n (made_value false v k) old new next)
unfolding made_value
unmade_ok nodes n v k old new r h = h

pub value_ok : (nodes : List Node) (n : ℕ) (cells : List (ℕ × Cell ℕ)) (of v : Value ℕ) (key : List ℕ) (k : Value ℕ → Prog ℕ) (made : Bool) (old new : State) (r : Result Next StepFault) → made ≡ is_some (made_of of key) → Given v ≡ gets nat_eq cells of key
    → IfOk r (λ next. Does nodes n (made_value made v k) old new next) → IfOk r (λ next. Does nodes n (take_up (Given v) of key k) old new next)
value_ok nodes n cells of v key k made old new r made_is is h =
    subst (λ p. IfOk r (λ next. Does nodes n p old new next)) (ap (λ b. made_value b v k) made_is ∙ sym (value_read cells of v key k is)) h
