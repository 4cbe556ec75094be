-- A cell whose body is exchanged.
use Rattle.std.proofs.Common.{◌≡◌, ℕ, zero, suc, true, false, List, [], ◌∷◌, Some, None, Option, refl, sym, ap, ◌∙◌, subst, nat_eq, if◌then◌else◌, length-set, set}
use Rattle.std.specs.Option.{option_and_then, option_map_or}
use Rattle.world_heap.specs.declared.cell.Binding.{Binding}
use Rattle.world_heap.specs.declared.cell.Body.{Body}
use Rattle.world_heap.specs.declared.cell.Cell.{Cell}
use Rattle.world_heap.specs.Maps.{find, put}
use Rattle.world_heap.specs.Bodies.{body_of, with_body, with_byte, with_binding, rebodied, rewritten, bound_at}
use Rattle.world_heap.specs.declared.cell.Cell.TheVariants.{Object, Array, Closure, Native, Far, Error, Map, Set, Promise, Port, Buffer, View, Symbol, Env}
use Rattle.world_heap.specs.Over.{BodyOver, CellOver, ListOver, OptionOver, ValueOver}
use Rattle.world_heap.specs.Heaps.{IsNoEnv, IsCell, IsWithin, Fits, IsWell}
use Rattle.world_heap.proofs.Wells.{Alike, well_put, fits_found}

pub has_cell : (cells : List (ℕ × Cell ℕ)) (l : ℕ) (b : Body ℕ) → option_and_then body_of (find nat_eq cells l) ≡ Some b → (c : Cell ℕ) × (find nat_eq cells l ≡ Some c) × (body_of c ≡ Some b)
has_cell cells l b h = by (find nat_eq cells l) refl h
  where
    by : (o : Option (Cell ℕ)) → find nat_eq cells l ≡ o → option_and_then body_of o ≡ Some b → (c : Cell ℕ) × (find nat_eq cells l ≡ Some c) × (body_of c ≡ Some b)
    by None e h = absurd (cc)
    by (Some c) e h = (c, e, h)

-- a key is written twice
pub put-put : {C : Type 0} (cs : List (ℕ × C)) (l : ℕ) (x y : C) → put nat_eq (put nat_eq cs l x) l y ≡ put nat_eq cs l y
put-put [] l x y = refl
put-put (c ∷ cs) l x y =
    elim (nat_eq c.0 l) as (λ b. nat_eq c.0 l ≡ b → put nat_eq (if b then (c.0, x) ∷ cs else c ∷ put nat_eq cs l x) l y ≡ (if b then (c.0, y) ∷ cs else c ∷ put nat_eq cs l y)) [
      | true ↦ λ e. ap (λ b. if b then (c.0, y) ∷ cs else (c.0, x) ∷ put nat_eq cs l y) e
      | false ↦ λ e. ap (λ b. if b then (c.0, y) ∷ put nat_eq cs l x else c ∷ put nat_eq (put nat_eq cs l x) l y) e ∙ ap (λ ds. c ∷ ds) (put-put cs l x y)
    ] refl

pub rebodied_is : (cells : List (ℕ × Cell ℕ)) (l : ℕ) (c : Cell ℕ) (b : Body ℕ) → find nat_eq cells l ≡ Some c → rebodied cells l b ≡ put nat_eq cells l (with_body c b)
rebodied_is cells l c b h = ap (λ o. option_map_or (λ d. put nat_eq cells l (with_body d b)) o cells) h

-- A cell with another body of the same prototype is alike, and fits where the body does.
pub alike_body : (c : Cell ℕ) (b d : Body ℕ) → body_of c ≡ Some b → d.proto ≡ b.proto → Alike c (with_body c d)
alike_body (Object a) b d h e = let ab : a ≡ b = cc in record { env = refl; proto = e ∙ ap (λ (z : Body ℕ). z.proto) (sym ab); bytes = refl }
alike_body (Array p vs f) b d h e = absurd (cc)
alike_body (Closure a n v r) b d h e = let ab : a ≡ b = cc in record { env = refl; proto = e ∙ ap (λ (z : Body ℕ). z.proto) (sym ab); bytes = refl }
alike_body (Native a i vs) b d h e = let ab : a ≡ b = cc in record { env = refl; proto = e ∙ ap (λ (z : Body ℕ). z.proto) (sym ab); bytes = refl }
alike_body (Far a n) b d h e = let ab : a ≡ b = cc in record { env = refl; proto = e ∙ ap (λ (z : Body ℕ). z.proto) (sym ab); bytes = refl }
alike_body (Error a k) b d h e = let ab : a ≡ b = cc in record { env = refl; proto = e ∙ ap (λ (z : Body ℕ). z.proto) (sym ab); bytes = refl }
alike_body (Map a es) b d h e = let ab : a ≡ b = cc in record { env = refl; proto = e ∙ ap (λ (z : Body ℕ). z.proto) (sym ab); bytes = refl }
alike_body (Set a vs) b d h e = let ab : a ≡ b = cc in record { env = refl; proto = e ∙ ap (λ (z : Body ℕ). z.proto) (sym ab); bytes = refl }
alike_body (Promise a s rs) b d h e = let ab : a ≡ b = cc in record { env = refl; proto = e ∙ ap (λ (z : Body ℕ). z.proto) (sym ab); bytes = refl }
alike_body (Port a n v ms cs) b d h e = let ab : a ≡ b = cc in record { env = refl; proto = e ∙ ap (λ (z : Body ℕ). z.proto) (sym ab); bytes = refl }
alike_body (Buffer a bs) b d h e = let ab : a ≡ b = cc in record { env = refl; proto = e ∙ ap (λ (z : Body ℕ). z.proto) (sym ab); bytes = refl }
alike_body (View a l o n) b d h e = let ab : a ≡ b = cc in record { env = refl; proto = e ∙ ap (λ (z : Body ℕ). z.proto) (sym ab); bytes = refl }
alike_body (Symbol t) b d h e = absurd (cc)
alike_body (Env o bs) b d h e = absurd (cc)

module _ (P E : ℕ → Type 0) (V : ℕ → ℕ → ℕ → Type 0) where
  pub body_fits : (c : Cell ℕ) (d : Body ℕ) → CellOver P E V c → BodyOver P d → CellOver P E V (with_body c d)
  body_fits (Object a) d h k = k
  body_fits (Array p vs f) d h k = h
  body_fits (Closure a n v r) d h k = (k, h.1, h.2)
  body_fits (Native a i vs) d h k = (k, h.1)
  body_fits (Far a n) d h k = k
  body_fits (Error a e) d h k = (k, h.1)
  body_fits (Map a es) d h k = (k, h.1)
  body_fits (Set a vs) d h k = (k, h.1)
  body_fits (Promise a s rs) d h k = (k, h.1, h.2)
  body_fits (Port a n v ms cs) d h k = (k, h.1, h.2, h.3)
  body_fits (Buffer a bs) d h k = (k, h.1)
  body_fits (View a l o n) d h k = (k, h.1)
  body_fits (Symbol t) d h k = h
  body_fits (Env o bs) d h k = h

  pub fits_body : (c : Cell ℕ) (b : Body ℕ) → body_of c ≡ Some b → CellOver P E V c → BodyOver P b
  fits_body (Object a) b e h = let ab : a ≡ b = cc in subst (BodyOver P) ab h
  fits_body (Array p vs f) b e h = absurd (cc)
  fits_body (Closure a n v r) b e h = let ab : a ≡ b = cc in subst (BodyOver P) ab h.0
  fits_body (Native a i vs) b e h = let ab : a ≡ b = cc in subst (BodyOver P) ab h.0
  fits_body (Far a n) b e h = let ab : a ≡ b = cc in subst (BodyOver P) ab h
  fits_body (Error a k) b e h = let ab : a ≡ b = cc in subst (BodyOver P) ab h.0
  fits_body (Map a es) b e h = let ab : a ≡ b = cc in subst (BodyOver P) ab h.0
  fits_body (Set a vs) b e h = let ab : a ≡ b = cc in subst (BodyOver P) ab h.0
  fits_body (Promise a s rs) b e h = let ab : a ≡ b = cc in subst (BodyOver P) ab h.0
  fits_body (Port a n v ms cs) b e h = let ab : a ≡ b = cc in subst (BodyOver P) ab h.0
  fits_body (Buffer a bs) b e h = let ab : a ≡ b = cc in subst (BodyOver P) ab h.0
  fits_body (View a l o n) b e h = let ab : a ≡ b = cc in subst (BodyOver P) ab h.0
  fits_body (Symbol t) b e h = absurd (cc)
  fits_body (Env o bs) b e h = absurd (cc)

-- A well heap stays well where a body is exchanged for one that fits, with the same prototype.
pub well_rebody : (cells : List (ℕ × Cell ℕ)) (l : ℕ) (b d : Body ℕ) → option_and_then body_of (find nat_eq cells l) ≡ Some b → d.proto ≡ b.proto → BodyOver (IsNoEnv nat_eq cells) d
    → IsWell nat_eq cells → IsWell nat_eq (rebodied cells l d)
well_rebody cells l b d h e k well =
    let found = has_cell cells l b h in
    let c = found.0 in
    let fit = fits_found (Fits nat_eq cells) cells l c well.fits found.1 in
    let new = body_fits (IsNoEnv nat_eq cells) (IsCell nat_eq cells) (IsWithin nat_eq cells) c d fit k in
    subst (IsWell nat_eq) (sym (rebodied_is cells l c d found.1)) (well_put cells l (with_body c d) c found.1 (alike_body c b d found.2 e) well new)

pub rewritten_is : (cells : List (ℕ × Cell ℕ)) (l : ℕ) (c : Cell ℕ) (at byte : ℕ) → find nat_eq cells l ≡ Some c → rewritten cells l at byte ≡ put nat_eq cells l (with_byte c at byte)
rewritten_is cells l c at byte h = ap (λ o. option_map_or (λ d. put nat_eq cells l (with_byte d at byte)) o cells) h

-- A buffer with another byte is alike, and fits.
pub alike_byte : (c : Cell ℕ) (at byte : ℕ) → Alike c (with_byte c at byte)
alike_byte (Object a) at byte = record { env = refl; proto = refl; bytes = refl }
alike_byte (Array p vs f) at byte = record { env = refl; proto = refl; bytes = refl }
alike_byte (Closure a n v r) at byte = record { env = refl; proto = refl; bytes = refl }
alike_byte (Native a i vs) at byte = record { env = refl; proto = refl; bytes = refl }
alike_byte (Far a n) at byte = record { env = refl; proto = refl; bytes = refl }
alike_byte (Error a k) at byte = record { env = refl; proto = refl; bytes = refl }
alike_byte (Map a es) at byte = record { env = refl; proto = refl; bytes = refl }
alike_byte (Set a vs) at byte = record { env = refl; proto = refl; bytes = refl }
alike_byte (Promise a s rs) at byte = record { env = refl; proto = refl; bytes = refl }
alike_byte (Port a n v ms cs) at byte = record { env = refl; proto = refl; bytes = refl }
alike_byte (Buffer a bs) at byte = record { env = refl; proto = refl; bytes = ap Some (length-set bs at byte) }
alike_byte (View a l o n) at byte = record { env = refl; proto = refl; bytes = refl }
alike_byte (Symbol t) at byte = record { env = refl; proto = refl; bytes = refl }
alike_byte (Env o bs) at byte = record { env = refl; proto = refl; bytes = refl }

byte_fits : (P E : ℕ → Type 0) (V : ℕ → ℕ → ℕ → Type 0) (c : Cell ℕ) (at byte : ℕ) → CellOver P E V c → CellOver P E V (with_byte c at byte)
byte_fits P E V (Object a) at byte h = h
byte_fits P E V (Array p vs f) at byte h = h
byte_fits P E V (Closure a n v r) at byte h = h
byte_fits P E V (Native a i vs) at byte h = h
byte_fits P E V (Far a n) at byte h = h
byte_fits P E V (Error a k) at byte h = h
byte_fits P E V (Map a es) at byte h = h
byte_fits P E V (Set a vs) at byte h = h
byte_fits P E V (Promise a s rs) at byte h = h
byte_fits P E V (Port a n v ms cs) at byte h = h
byte_fits P E V (Buffer a bs) at byte h = (h.0, rw (length-set bs at byte) h.1)
byte_fits P E V (View a l o n) at byte h = h
byte_fits P E V (Symbol t) at byte h = h
byte_fits P E V (Env o bs) at byte h = h

pub well_rewrite : (cells : List (ℕ × Cell ℕ)) (l at byte : ℕ) (c : Cell ℕ) → find nat_eq cells l ≡ Some c → IsWell nat_eq cells → IsWell nat_eq (put nat_eq cells l (with_byte c at byte))
well_rewrite cells l at byte c found well =
    let fit = fits_found (Fits nat_eq cells) cells l c well.fits found in
    well_put cells l (with_byte c at byte) c found (alike_byte c at byte) well (byte_fits (IsNoEnv nat_eq cells) (IsCell nat_eq cells) (IsWithin nat_eq cells) c at byte fit)

pub bound_is : (cells : List (ℕ × Cell ℕ)) (l : ℕ) (c : Cell ℕ) (at : ℕ) (b : Binding ℕ) → find nat_eq cells l ≡ Some c → bound_at cells l at b ≡ put nat_eq cells l (with_binding c at b)
bound_is cells l c at b h = ap (λ o. option_map_or (λ d. put nat_eq cells l (with_binding d at b)) o cells) h

-- An environment with another binding is alike, and fits where the binding's value does.
pub alike_binding : (c : Cell ℕ) (at : ℕ) (b : Binding ℕ) → Alike c (with_binding c at b)
alike_binding (Env o bs) at b = record { env = refl; proto = refl; bytes = refl }
alike_binding other at b = record { env = refl; proto = refl; bytes = refl }

bindings_fit : (P : ℕ → Type 0) (bs : List (Binding ℕ)) (at : ℕ) (b : Binding ℕ) → OptionOver (ValueOver P) b.value → ListOver (λ (x : Binding ℕ). OptionOver (ValueOver P) x.value) bs → ListOver (λ (x : Binding ℕ). OptionOver (ValueOver P) x.value) (set bs at b)
bindings_fit P [] at b fit h = tt
bindings_fit P (x ∷ bs) zero b fit h = (fit, h.1)
bindings_fit P (x ∷ bs) (suc at) b fit h = (h.0, bindings_fit P bs at b fit h.1)

binding_fits : (P E : ℕ → Type 0) (V : ℕ → ℕ → ℕ → Type 0) (c : Cell ℕ) (at : ℕ) (b : Binding ℕ) → OptionOver (ValueOver P) b.value → CellOver P E V c → CellOver P E V (with_binding c at b)
binding_fits P E V (Env o bs) at b fit h = (h.0, bindings_fit P bs at b fit h.1)
binding_fits P E V other at b fit h = h

-- A well heap stays well where a binding is written whose value fits.
pub well_bind : (cells : List (ℕ × Cell ℕ)) (l at : ℕ) (b : Binding ℕ) (c : Cell ℕ) → find nat_eq cells l ≡ Some c → OptionOver (ValueOver (IsNoEnv nat_eq cells)) b.value → IsWell nat_eq cells → IsWell nat_eq (put nat_eq cells l (with_binding c at b))
well_bind cells l at b c found fit well =
    let old = fits_found (Fits nat_eq cells) cells l c well.fits found in
    well_put cells l (with_binding c at b) c found (alike_binding c at b) well (binding_fits (IsNoEnv nat_eq cells) (IsCell nat_eq cells) (IsWithin nat_eq cells) c at b fit old)
