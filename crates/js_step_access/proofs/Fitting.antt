-- What is read, written and removed fits a heap, and the heap goes on.
use Rattle.std.proofs.Common.{◌≡◌, ℕ, ℤ, pos, negsuc, List, [], ◌∷◌, Option, Some, None, Bool, true, false, cond, int_le, FitsSigned, arith, nat_eq, if◌then◌else◌, refl, sym, ap, ◌∙◌, subst, option_and_then}
use Rattle.std.proofs.lemmas.Float.{T_from_true}
use Rattle.std.proofs.lemmas.Int.{ints}
use Rattle.std.specs.Int.{w64}
use Rattle.std.specs.Int.Signed.{le_z_yes}
use Rattle.std.specs.Prelude.{◌&&◌}
use Rattle.std.specs.Option.{option_map_or}
use Rattle.std.specs.Cmp.Lexicographic.{pointwise}
use Rattle.world_heap.specs.declared.value.Value.{Value}
use Rattle.world_heap.specs.declared.value.Value.TheVariants.{Num}
use Rattle.world_heap.specs.declared.cell.Body.{Body}
use Rattle.world_heap.specs.declared.cell.Cell.{Cell}
use Rattle.world_heap.specs.Maps.{find}
use Rattle.world_heap.specs.Table.{left_without}
use Rattle.world_heap.specs.Bodies.{body_of, rebodied, with_body}
use Rattle.world_heap.specs.Over.{ListOver, OptionOver, PropertyOver, IsSafe}
use Rattle.world_heap.specs.Heaps.{Fits, IsCell, IsNoEnv, IsWell, IsWithin}
use Rattle.world_heap.proofs.Wells.{fits_found}
use Rattle.world_heap.proofs.Bodying.{alike_body, body_fits, fits_body, rebodied_is}
use Rattle.proto_props.specs.declared.remove.Removal.{Removal}
use Rattle.proto_props.specs.declared.remove.Removal.TheVariants.{Absent, Fixed, Free}
use Rattle.proto_props.specs.Removes.{after_removal, body_without}
use Rattle.js_tree.specs.declared.node.NodeId.{NodeId}
use Rattle.js_tree.specs.declared.node.Node.{Node}
use Rattle.js_tree.specs.declared.node.Node.TheVariants as kinds
use Rattle.js_semantics.specs.declared.fault.Fault.TheVariants.{NotAWholeNumber}
use Rattle.js_semantics.specs.Operators.{Is, Fails, is_safe, whole}
use Rattle.js_names.specs.Growing.{Grows}
use Rattle.js_names.proofs.Growing.{grows_not, grows_put}
use Rattle.js_operators.specs.declared.answer.Answer.{Answer}
use Rattle.js_operators.specs.declared.answer.Answer.TheVariants as answers
use Rattle.js_operators.specs.Answers.{computed_of}
use Rattle.js_machine.specs.declared.frame.Place.{Place}
use Rattle.js_machine.specs.Closed.{AfterFits, HasName, PlaceFits, ValueFits}
use Rattle.js_step_expr.specs.Fitting.{AnswerFits}
use Rattle.js_step_access.specs.Instances.{instance_after}

-- a node without a name
pub nameless : (here : Node) → ((name : List ℕ) → here ≡ kinds.Name name → ⊥) → ((object : NodeId) (name : List ℕ) → here ≡ kinds.Dot object name → ⊥) → HasName (Some here) → ⊥
nameless (kinds.Name name) a b has = a name refl
nameless (kinds.Dot object name) a b has = b object name refl
nameless other a b has = has

-- one of two values
pub chosen_fits : (cells : List (ℕ × Cell ℕ)) (first : Bool) (x y : Value ℕ) → ValueFits cells x → ValueFits cells y → ValueFits cells (if first then x else y)
chosen_fits cells true x y p q = p
chosen_fits cells false x y p q = q

-- a whole number in range
both : (a b : Bool) → (a && b) ≡ true → (a ≡ true) × (b ≡ true)
both true b is = (refl, is)
both false b is = absurd (cc)

safe_is : (z : ℤ) → is_safe z ≡ true → IsSafe z
safe_is z is =
    let halves = both (int_le (negsuc 9_007_199_254_740_990) z) (int_le z (pos 9_007_199_254_740_991)) is in
    record { low = le_z_yes (T_from_true _ halves.0); high = le_z_yes (T_from_true _ halves.1) }

-- it has 64 bits
pub wide : (z : ℤ) → IsSafe z → FitsSigned w64 z
wide (pos n) h = let high = h.high in record { sfits = omega (arith, ints) }
wide (negsuc n) h = let low = h.low in record { sfits = omega (arith, ints) }

told_fits : (cells : List (ℕ × Cell ℕ)) (answer : Answer ℕ) (z : ℤ) (safe : Bool) → is_safe z ≡ safe → computed_of answer ≡ (if safe then Is (Num z) else Fails NotAWholeNumber) → AnswerFits cells answer
told_fits cells (answers.Is v) z true safe e = let same : v ≡ Num z = cc in rw same (safe_is z safe)
told_fits cells (answers.Is v) z false safe e = absurd (cc)
told_fits cells (answers.Makes text) z b safe e = tt
told_fits cells (answers.Fails fault) z b safe e = tt

pub whole_fits : (cells : List (ℕ × Cell ℕ)) (answer : Answer ℕ) (z : ℤ) → computed_of answer ≡ whole z → AnswerFits cells answer
whole_fits cells answer z is = told_fits cells answer z (is_safe z) refl is

-- what follows the `prototype` of the right side of `instanceof`
pub instance_fits : (nodes : List Node) (cells : List (ℕ × Cell ℕ)) (left : Value ℕ) (place : Option (Place ℕ)) → ValueFits cells left → OptionOver (PlaceFits nodes cells) place → AfterFits nodes cells (instance_after left place)
instance_fits nodes cells left None l p = l
instance_fits nodes cells left (Some place) l p = (l, p)

-- properties that are left still fit
over_without : {V : Type 0} (P : V → Type 0) (entries : List (List ℕ × V)) (key : List ℕ) → ListOver (λ m. P m.1) entries → ListOver (λ m. P m.1) (left_without entries key)
over_without P [] key h = tt
over_without P (e ∷ entries) key h =
    elim (pointwise nat_eq key e.0) as (λ t. ListOver (λ m. P m.1) (cond t entries (e ∷ left_without entries key))) [
      | true ↦ h.1
      | false ↦ (h.0, over_without P entries key h.1)
    ]

-- a property is removed
module _ (cells : List (ℕ × Cell ℕ)) (well : IsWell nat_eq cells) (l : ℕ) (key : List ℕ) where
  without_body : (c : Cell ℕ) (o : Option (Body ℕ)) → find nat_eq cells l ≡ Some c → body_of c ≡ o → Grows cells (option_map_or (λ b. rebodied cells l (body_without b key)) o cells)
  without_body c None found has = grows_not cells
  without_body c (Some b) found has =
      let d = body_without b key in
      let over = fits_body (IsNoEnv nat_eq cells) (IsCell nat_eq cells) (IsWithin nat_eq cells) c b has (fits_found (Fits nat_eq cells) cells l c well.fits found) in
      subst (λ cs. Grows cells cs) (sym (rebodied_is cells l c d found))
      (grows_put cells l (with_body c d) c found (alike_body c b d has refl)
      (λ p vs is. let none : Some b ≡ None = sym has ∙ ap body_of is in absurd (cc))
      (λ w. body_fits (IsNoEnv nat_eq cells) (IsCell nat_eq cells) (IsWithin nat_eq cells) c d (fits_found (Fits nat_eq cells) cells l c w.fits found) (over.0, over_without (PropertyOver (IsNoEnv nat_eq cells)) b.properties key over.1)))

  without_grows : (o : Option (Cell ℕ)) → find nat_eq cells l ≡ o → Grows cells (option_map_or (λ b. rebodied cells l (body_without b key)) (option_and_then body_of o) cells)
  without_grows None found = grows_not cells
  without_grows (Some c) found = without_body c (body_of c) found refl

  pub removal_grows : (r : Removal) → Grows cells (after_removal r cells l key)
  removal_grows Absent = grows_not cells
  removal_grows Fixed = grows_not cells
  removal_grows Free = without_grows (find nat_eq cells l) refl
