-- Cells with their locations, and without.
use Rattle.std.proofs.Common.{◌≡◌, ℕ, zero, suc, ◌<◌, Bool, true, false, if◌then◌else◌, List, [], ◌∷◌, ◌++◌, length, get_or, nat_eq, Option, Some, None, refl, subst, sym, ap, ◌∙◌, arith}
use Rattle.std.proofs.lemmas.Bool.Decides.{nat_tests}
use Rattle.std.specs.Prelude.{is_some, replicate, slice_get, IsSomeAnd}
use Rattle.std.specs.Option.{option_and_then, option_map_or}
use Rattle.world_heap.specs.declared.cell.Cell.{Cell}
use Rattle.world_heap.specs.declared.cell.Cell.TheVariants.{Object, Array, Closure, Native, Far, Error, Map, Set, Promise, Port, Buffer, View, Symbol, Env}
use Rattle.world_heap.specs.declared.cell.Body.{Body}
use Rattle.world_heap.specs.Bodies.{body_of, with_body, rebodied}
use Rattle.world_heap.specs.BuiltIns.{plain_object, objects}
use Rattle.world_heap.specs.Heaps.{is_env, IsNoEnv}
use Rattle.world_heap.specs.Maps.{keys, keys-put, find, put, stands, Stands}
use Rattle.world_heap.proofs.Bodying.{has_cell, rebodied_is}
use Rattle.js_realm.specs.Building.{Members, contents, with_members}
use Rattle.world_heap.specs.Stored.{IsDistinct}
use Rattle.js_realm.specs.Filling.{are_objects, filled}

pub length-keys : (cs : List (ℕ × Cell ℕ)) → length (keys cs) ≡ length cs
length-keys [] = refl
length-keys (c ∷ cs) = ap suc (length-keys cs)

pub length-contents : (cs : List (ℕ × Cell ℕ)) → length (contents cs) ≡ length cs
length-contents [] = refl
length-contents (c ∷ cs) = ap suc (length-contents cs)

pub contents-append : (a b : List (ℕ × Cell ℕ)) → contents (a ++ b) ≡ contents a ++ contents b
contents-append [] b = refl
contents-append (c ∷ a) b = ap (λ cs. c.1 ∷ cs) (contents-append a b)

pub contents-objects : (proto : ℕ) (ls : List ℕ) (n : ℕ) → length ls ≡ n → contents (objects proto ls) ≡ replicate n (plain_object (Some proto))
contents-objects proto [] zero h = refl
contents-objects proto [] (suc n) h = absurd (omega arith)
contents-objects proto (l ∷ ls) zero h = absurd (omega arith)
contents-objects proto (l ∷ ls) (suc n) h = ap (λ cs. plain_object (Some proto) ∷ cs) (contents-objects proto ls n (omega arith))

same_is : (n : ℕ) → nat_eq n n ≡ true
same_is n = grind (arith, nat_tests)

differ : (a b : ℕ) → (a ≡ b → ⊥) → nat_eq a b ≡ false
differ a b h = grind (arith, nat_tests)

-- a location that is met stands among the locations
pub stands_at : (ks : List ℕ) (n : ℕ) → n < length ks → Stands ks (get_or ks n 0)
stands_at [] n h = absurd (omega arith)
stands_at (k ∷ ks) zero h = ap (λ b. if b then true else stands nat_eq ks k) (same_is k)
stands_at (k ∷ ks) (suc n) h =
    elim (nat_eq k (get_or ks n 0)) as (λ b. (if b then true else stands nat_eq ks (get_or ks n 0)) ≡ true) [
      | true ↦ refl
      | false ↦ stands_at ks n (omega arith)
    ]

-- and what holds of it holds of the location at that place
pub some_at : (P : ℕ → Type 0) (ks : List ℕ) (n : ℕ) → n < length ks → P (get_or ks n 0) → IsSomeAnd (slice_get ks n) P
some_at P [] n h p = absurd (omega arith)
some_at P (k ∷ ks) zero h p = p
some_at P (k ∷ ks) (suc n) h p = some_at P ks n (omega arith) p

-- an object is no environment
object_no_env : (c : Cell ℕ) → is_some (body_of c) ≡ true → is_env c ≡ false
object_no_env (Object b) h = refl
object_no_env (Array p vs f) h = refl
object_no_env (Closure b n e r) h = refl
object_no_env (Native b i vs) h = refl
object_no_env (Far b n) h = refl
object_no_env (Error b k) h = refl
object_no_env (Map b es) h = refl
object_no_env (Set b vs) h = refl
object_no_env (Promise b s rs) h = refl
object_no_env (Port b n v ms cs) h = refl
object_no_env (Buffer b bs) h = refl
object_no_env (View b l o n) h = refl
object_no_env (Symbol t) h = refl
object_no_env (Env o bs) h = absurd (cc)

both_true : (a b : Bool) → (if a then b else false) ≡ true → (a ≡ true) × (b ≡ true)
both_true true b h = (refl, h)
both_true false b h = absurd (cc)

pub objects_no_env : (cs : List (ℕ × Cell ℕ)) (l : ℕ) → are_objects (contents cs) ≡ true → Stands (keys cs) l → IsNoEnv nat_eq cs l
objects_no_env [] l h s = absurd (cc)
objects_no_env (c ∷ cs) l h s =
    let both = both_true (is_some (body_of c.1)) (are_objects (contents cs)) h in
    elim (nat_eq c.0 l) as (λ b. (if b then true else stands nat_eq (keys cs) l) ≡ true → IsSomeAnd (if b then Some c.1 else find nat_eq cs l) (λ d. is_env d ≡ false)) [
      | true ↦ λ _. object_no_env c.1 both.0
      | false ↦ λ e. objects_no_env cs l both.1 e
    ] s

-- the first location stands at no other place
distinct_head : (k : ℕ) (ks : List ℕ) (n : ℕ) → IsDistinct (k ∷ ks) → n < length ks → nat_eq k (get_or ks n 0) ≡ false
distinct_head k ks n d within =
    differ k (get_or ks n 0) (λ e. let there : stands nat_eq ks k ≡ true = subst (Stands ks) (sym e) (stands_at ks n within) in let nowhere = d.0 in absurd (cc))

-- what stands at the n-th location is the n-th cell
pub find_at : (cs : List (ℕ × Cell ℕ)) (n : ℕ) → IsDistinct (keys cs) → n < length cs → find nat_eq cs (get_or (keys cs) n 0) ≡ slice_get (contents cs) n
find_at [] n d within = absurd (omega arith)
find_at (c ∷ cs) zero d within = ap (λ b. if b then Some c.1 else find nat_eq cs c.0) (same_is c.0)
find_at (c ∷ cs) (suc n) d within =
    let len = length-keys cs in
    ap (λ b. if b then Some c.1 else find nat_eq cs (get_or (keys cs) n 0)) (distinct_head c.0 (keys cs) n d (omega arith))
    ∙ find_at cs n d.1 (omega arith)

-- so putting a cell there exchanges the n-th cell
put_at : (cs : List (ℕ × Cell ℕ)) (n : ℕ) (c : Cell ℕ) (ms : Members) → IsDistinct (keys cs) → n < length cs → slice_get (contents cs) n ≡ Some c
    → contents (put nat_eq cs (get_or (keys cs) n 0) (with_members ms c)) ≡ filled n ms (contents cs)
put_at [] n c ms d within is = absurd (omega arith)
put_at (x ∷ cs) zero c ms d within is =
    let same : x.1 ≡ c = cc in
    ap (λ b. contents (if b then (x.0, with_members ms c) ∷ cs else x ∷ put nat_eq cs x.0 (with_members ms c))) (same_is x.0)
    ∙ ap (λ y. with_members ms y ∷ contents cs) (sym same)
put_at (x ∷ cs) (suc n) c ms d within is =
    let len = length-keys cs in
    let l = get_or (keys cs) n 0 in
    ap (λ b. contents (if b then (x.0, with_members ms c) ∷ cs else x ∷ put nat_eq cs l (with_members ms c))) (distinct_head x.0 (keys cs) n d (omega arith))
    ∙ ap (λ ys. x.1 ∷ ys) (put_at cs n c ms d.1 (omega arith) is)

-- a body with other members at the n-th location
pub rebodied_at : (cs : List (ℕ × Cell ℕ)) (n : ℕ) (b : Body ℕ) (ms : Members) → IsDistinct (keys cs) → n < length cs
    → option_and_then body_of (find nat_eq cs (get_or (keys cs) n 0)) ≡ Some b
    → contents (rebodied cs (get_or (keys cs) n 0) (record b { properties = ms })) ≡ filled n ms (contents cs)
rebodied_at cs n b ms d within h =
    let l = get_or (keys cs) n 0 in
    let found = has_cell cs l b h in
    let c = found.0 in
    ap contents (rebodied_is cs l c (record b { properties = ms }) found.1)
    ∙ ap (λ o. contents (put nat_eq cs l (option_map_or (λ (z : Body ℕ). with_body c (record z { properties = ms })) o c))) (sym found.2)
    ∙ put_at cs n c ms d within (sym (find_at cs n d within) ∙ found.1)

pub keys-rebodied : (cs : List (ℕ × Cell ℕ)) (l : ℕ) (b : Body ℕ) → keys (rebodied cs l b) ≡ keys cs
keys-rebodied cs l b = by (find nat_eq cs l)
  where
    by : (o : Option (Cell ℕ)) → keys (option_map_or (λ c. put nat_eq cs l (with_body c b)) o cs) ≡ keys cs
    by None = refl
    by (Some c) = keys-put cs l (with_body c b)

object_filled : (ms : Members) (c : Cell ℕ) → is_some (body_of (with_members ms c)) ≡ is_some (body_of c)
object_filled ms (Object b) = refl
object_filled ms (Array p vs f) = refl
object_filled ms (Closure b n e r) = refl
object_filled ms (Native b i vs) = refl
object_filled ms (Far b n) = refl
object_filled ms (Error b k) = refl
object_filled ms (Map b es) = refl
object_filled ms (Set b vs) = refl
object_filled ms (Promise b s rs) = refl
object_filled ms (Port b n v hs cs) = refl
object_filled ms (Buffer b bs) = refl
object_filled ms (View b l o n) = refl
object_filled ms (Symbol t) = refl
object_filled ms (Env o bs) = refl

pub objects_filled : (n : ℕ) (ms : Members) (cs : List (Cell ℕ)) → are_objects (filled n ms cs) ≡ are_objects cs
objects_filled n ms [] = refl
objects_filled zero ms (c ∷ cs) = ap (λ b. if b then are_objects cs else false) (object_filled ms c)
objects_filled (suc n) ms (c ∷ cs) = ap (λ b. if is_some (body_of c) then b else false) (objects_filled n ms cs)

-- what is found is an object
pub object_found : (cs : List (ℕ × Cell ℕ)) (l : ℕ) (c : Cell ℕ) → are_objects (contents cs) ≡ true → find nat_eq cs l ≡ Some c → is_some (body_of c) ≡ true
object_found [] l c h found = absurd (cc)
object_found (x ∷ cs) l c h found =
    let both = both_true (is_some (body_of x.1)) (are_objects (contents cs)) h in
    elim (nat_eq x.0 l) as (λ b. (if b then Some x.1 else find nat_eq cs l) ≡ Some c → is_some (body_of c) ≡ true) [
      | true ↦ λ e. let same : x.1 ≡ c = cc in ap (λ y. is_some (body_of y)) (sym same) ∙ both.0
      | false ↦ λ e. object_found cs l c both.1 e
    ] found
