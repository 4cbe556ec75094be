-- Arrays whose elements are taken out and put back.
use Rattle.std.proofs.Common.{◌≡◌, ℕ, zero, suc, false, List, [], ◌∷◌, Some, Option, Bool, refl, sym, ap, ◌∙◌, subst, nat_eq, take, slice_set}
use Rattle.world_heap.specs.declared.cell.Cell.{Cell}
use Rattle.world_heap.specs.declared.cell.Cell.TheVariants.{Array}
use Rattle.world_heap.specs.declared.value.Value.{Value}
use Rattle.world_heap.specs.Maps.{find, put}
use Rattle.world_heap.specs.Over.{ListOver, ValueOver, value_more}
use Rattle.world_heap.specs.Heaps.{IsNoEnv, IsCell, IsWell}
use Rattle.world_heap.specs.Views.{HeapView}
use Rattle.world_heap.proofs.Wells.{Alike, found_stands, no_env_kept, put_kept}
use Rattle.world_heap.proofs.Bodying.{put-put}
use Rattle.proto_props.specs.Adds.{IsArray, IsOpenArray}
use Rattle.proto_props.proofs.Exchanges.{array_found, values_kept, put_same}

pub array_stands : (cells : List (ℕ × Cell ℕ)) (l : ℕ) → IsArray cells l → IsCell nat_eq cells l
array_stands cells l a = found_stands cells l (Array a.0 a.1 a.2) a.3

pub open_array : (cells : List (ℕ × Cell ℕ)) (l : ℕ) → IsOpenArray cells l → IsArray cells l
open_array cells l a = (a.0, a.1, false, a.2)

-- two arrays at one location are the same
pub record SameArray (p q : Option ℕ) (vs ws : List (Value ℕ)) (f g : Bool) : Type 0 where
  pub proto : p ≡ q
  pub items : vs ≡ ws
  pub frozen : f ≡ g

pub same_array : (o : Option (Cell ℕ)) (p q : Option ℕ) (vs ws : List (Value ℕ)) (f g : Bool) → o ≡ Some (Array p vs f) → o ≡ Some (Array q ws g) → SameArray p q vs ws f g
same_array o p q vs ws f g d e =
    let both : Some (Array p vs f) ≡ Some (Array q ws g) = sym d ∙ e in
    record { proto = cc; items = cc; frozen = cc }

-- An array of a heap was left without elements, and then got others.
module _ (old mid new : HeapView) (l : ℕ) (p : Option ℕ) (vs : List (Value ℕ)) (f : Bool) (found : find nat_eq old.cells l ≡ Some (Array p vs f)) (empty : mid ≡ record old { cells = put nat_eq old.cells l (Array p [] false) }) where
  pub mid_found : find nat_eq mid.cells l ≡ Some (Array p [] false)
  mid_found = ap (λ (h : HeapView). find nat_eq h.cells l) empty ∙ array_found old.cells l p vs f found [] false

  pub mid_over : IsWell nat_eq old.cells → ListOver (ValueOver (IsNoEnv nat_eq mid.cells)) vs
  mid_over well = subst (λ (h : HeapView). ListOver (ValueOver (IsNoEnv nat_eq h.cells)) vs) (sym empty) (values_kept old.cells l p vs f found well [] false)

  pub mid_value : (v : Value ℕ) → ValueOver (IsNoEnv nat_eq old.cells) v → ValueOver (IsNoEnv nat_eq mid.cells) v
  mid_value v h =
      let cells = put nat_eq old.cells l (Array p [] false) in
      let alike : Alike (Array p vs f) (Array p [] false) = record { env = refl; proto = refl; bytes = refl } in
      subst (λ (x : HeapView). ValueOver (IsNoEnv nat_eq x.cells) v) (sym empty)
      (value_more (IsNoEnv nat_eq old.cells) (IsNoEnv nat_eq cells) (no_env_kept old.cells cells (put_kept old.cells l (Array p [] false) (Array p vs f) found alike)) v h)

  pub refilled : (ws : List (Value ℕ)) → new ≡ record mid { cells = put nat_eq mid.cells l (Array p ws false) } → new ≡ record old { cells = put nat_eq old.cells l (Array p ws false) }
  refilled ws e =
      e ∙ (λ i. record (empty i) { cells = put nat_eq (empty i).cells l (Array p ws false) })
      ∙ ap (λ cs. record old { cells = cs }) (put-put old.cells l (Array p [] false) (Array p ws false))

  -- by a function of what they were
  pub refilled_by : (change : List (Value ℕ) → List (Value ℕ)) (ws : List (Value ℕ)) → ws ≡ change vs → new ≡ record mid { cells = put nat_eq mid.cells l (Array p ws false) }
      → (q : Option ℕ) (us : List (Value ℕ)) (g : Bool) → find nat_eq old.cells l ≡ Some (Array q us g) → new ≡ record old { cells = put nat_eq old.cells l (Array q (change us) false) }
  refilled_by change ws is e q us g h =
      let same = same_array (find nat_eq old.cells l) p q vs us f g found h in
      refilled ws e ∙ (λ i. record old { cells = put nat_eq old.cells l (Array (same.proto i) ((is ∙ ap change same.items) i) false) })

  -- with those that they were
  pub refilled_same : f ≡ false → new ≡ record mid { cells = put nat_eq mid.cells l (Array p vs false) } → new ≡ old
  refilled_same is e =
      refilled vs e ∙ ap (λ cs. record old { cells = cs }) (put_same old.cells l (Array p vs false) (found ∙ ap (λ g. Some (Array p vs g)) is))

-- members of lists
module _ {A : Type 0} (P : A → Type 0) where
  pub over_take : (n : ℕ) (xs : List A) → ListOver P xs → ListOver P (take n xs)
  over_take zero xs h = tt
  over_take (suc n) [] h = tt
  over_take (suc n) (x ∷ xs) h = (h.0, over_take n xs h.1)

  pub over_set : (xs : List A) (i : ℕ) (x : A) → ListOver P xs → P x → ListOver P (slice_set xs i x)
  over_set [] i x h p = tt
  over_set (y ∷ xs) zero x h p = (p, h.1)
  over_set (y ∷ xs) (suc i) x h p = (h.0, over_set xs i x h.1 p)
