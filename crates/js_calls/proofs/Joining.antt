-- Writing a property is the same in the words of properties and of rows.
use Rattle.std.proofs.Common.{◌≡◌, ℕ, ◌+◌, ◌==◌, List, length, ℤ, pos, negsuc, Option, Some, None, Bool, true, false, if◌then◌else◌, nat_le, nat_lt, refl, ap, ◌∙◌}
use Rattle.wl_text.specs.Number.{index_of}
use Rattle.world_heap.specs.declared.value.Value.{Value}
use Rattle.world_heap.specs.declared.value.Value.TheVariants.{Undefined, Null, Bool as Boolean, Num, Str, Ref}
use Rattle.world_heap.specs.declared.value.Property.{Property}
use Rattle.world_heap.specs.declared.value.Property.TheVariants.{Data, Access}
use Rattle.world_heap.specs.declared.cell.Body.{Body}
use Rattle.world_heap.specs.declared.cell.Cell.{Cell}
use Rattle.world_heap.specs.declared.cell.Cell.TheVariants.{Object, Array, Closure, Native, Far, Error, Map, Set, Promise, Port, Buffer, View, Symbol, Env}
use Rattle.world_heap.specs.Bodies.{body_of}
use Rattle.proto_props.specs.declared.chain.Reach.{Reach}
use Rattle.proto_props.specs.declared.chain.Reach.TheVariants.{Has, Past, Nowhere}
use Rattle.proto_props.specs.Chains.{search}
use Rattle.proto_props.specs.Changes.{Change, Refuses}
use Rattle.proto_props.specs.Adds as props
use Rattle.proto_props.specs.Sets as sets
use Rattle.js_semantics.specs.declared.fault.Fault.TheVariants as faults
use Rattle.js_semantics.specs.World.{World, cell_at}
use Rattle.js_semantics.specs.Properties as rows
use Rattle.js_calls.specs.Writing.{change_of, fault_for}

byte_is : (z : ℤ) → rows.byte_of z ≡ sets.byte_of z
byte_is (pos n) = refl
byte_is (negsuc n) = refl

module _ {L : Type 0} where
  both : (t : Bool) (a b : rows.Change L) (x y : Change L) → a ≡ change_of x → b ≡ change_of y → (if t then a else b) ≡ change_of (if t then x else y)
  both true a b x y h g = h
  both false a b x y h g = g

  added_to : (b : Option (Body L)) (cell : Cell L) (loc : L) (key : List ℕ) (p : Property L) → rows.added_to b cell loc key p ≡ change_of (props.added_to b cell loc key p)
  unfolding change_of fault_for
  added_to None cell loc key p = refl
  added_to (Some b) cell loc key p = both b.extensible _ _ _ _ refl refl

  added_item : (proto : Option L) (items : List (Value L)) (frozen : Bool) (loc : L) (index : Option ℕ) (v : Value L) → rows.added_item proto items frozen loc index v ≡ change_of (props.added_item proto items frozen loc index (props.plain v))
  unfolding change_of fault_for
  added_item proto items true loc None v = refl
  added_item proto items false loc None v = refl
  added_item proto items true loc (Some i) v = refl
  added_item proto items false loc (Some i) v = both (i == length items) _ _ _ _ refl refl

  unnamed : (t : Bool) → ◌≡◌ {A = rows.Change L} (rows.Refuses faults.ReadOnly) (change_of (Refuses (props.unnamed t)))
  unfolding change_of fault_for
  unnamed true = refl
  unnamed false = refl

  added : (cell : Option (Cell L)) (loc : L) (key : List ℕ) (v : Value L) → rows.add_step cell loc key v ≡ change_of (props.added cell loc key (props.plain v))
  unfolding change_of fault_for
  added None loc key v = refl
  added (Some (Array proto items frozen)) loc key v = added_item proto items frozen loc (index_of key) v
  added (Some (Buffer b bytes)) loc key v = unnamed b.extensible
  added (Some (View b buffer offset count)) loc key v = unnamed b.extensible
  added (Some (Object b)) loc key v = added_to (body_of (Object b)) (Object b) loc key (props.plain v)
  added (Some (Closure b n f r)) loc key v = added_to (body_of (Closure b n f r)) (Closure b n f r) loc key (props.plain v)
  added (Some (Native b i vs)) loc key v = added_to (body_of (Native b i vs)) (Native b i vs) loc key (props.plain v)
  added (Some (Far b n)) loc key v = added_to (body_of (Far b n)) (Far b n) loc key (props.plain v)
  added (Some (Error b k)) loc key v = added_to (body_of (Error b k)) (Error b k) loc key (props.plain v)
  added (Some (Map b es)) loc key v = added_to (body_of (Map b es)) (Map b es) loc key (props.plain v)
  added (Some (Set b vs)) loc key v = added_to (body_of (Set b vs)) (Set b vs) loc key (props.plain v)
  added (Some (Promise b s rs)) loc key v = added_to (body_of (Promise b s rs)) (Promise b s rs) loc key (props.plain v)
  added (Some (Port b n h ms cs)) loc key v = added_to (body_of (Port b n h ms cs)) (Port b n h ms cs) loc key (props.plain v)
  added (Some (Symbol t)) loc key v = added_to (body_of (Symbol t)) (Symbol t) loc key (props.plain v)
  added (Some (Env o bs)) loc key v = added_to (body_of (Env o bs)) (Env o bs) loc key (props.plain v)

  cut_to : (proto : Option L) (items : List (Value L)) (loc : L) (v : Value L) → rows.cut_to proto items loc v ≡ change_of (props.cut_to proto items loc (props.number_of v))
  unfolding change_of fault_for
  cut_to proto items loc (Num (pos n)) = both (nat_le n (length items)) _ _ _ _ refl refl
  cut_to proto items loc (Num (negsuc n)) = refl
  cut_to proto items loc Undefined = refl
  cut_to proto items loc Null = refl
  cut_to proto items loc (Boolean b) = refl
  cut_to proto items loc (Str t) = refl
  cut_to proto items loc (Ref l) = refl

  item_set : (proto : Option L) (items : List (Value L)) (loc : L) (index : Option ℕ) (v : Value L) → rows.rewritten_item proto items loc index v ≡ change_of (props.item_set proto items loc index v)
  unfolding change_of
  item_set proto items loc None v = cut_to proto items loc v
  item_set proto items loc (Some i) v = refl

  replaced : (b : Option (Body L)) (cell : Cell L) (loc : L) (key : List ℕ) (p : Property L) → rows.rewritten_body b cell loc key p ≡ change_of (props.replaced b cell loc key p)
  unfolding change_of fault_for
  replaced None cell loc key p = refl
  replaced (Some b) cell loc key p = refl

  rewritten : (cell : Option (Cell L)) (loc : L) (key : List ℕ) (v : Value L) (e c : Bool) → rows.rewrite_step cell loc key v e c ≡ change_of (sets.rewritten cell loc key v e c)
  unfolding change_of fault_for
  rewritten None loc key v e c = refl
  rewritten (Some (Array proto items frozen)) loc key v e c = item_set proto items loc (index_of key) v
  rewritten (Some (Object b)) loc key v e c = replaced (body_of (Object b)) (Object b) loc key (Data v true e c)
  rewritten (Some (Closure b n f r)) loc key v e c = replaced (body_of (Closure b n f r)) (Closure b n f r) loc key (Data v true e c)
  rewritten (Some (Native b i vs)) loc key v e c = replaced (body_of (Native b i vs)) (Native b i vs) loc key (Data v true e c)
  rewritten (Some (Far b n)) loc key v e c = replaced (body_of (Far b n)) (Far b n) loc key (Data v true e c)
  rewritten (Some (Error b k)) loc key v e c = replaced (body_of (Error b k)) (Error b k) loc key (Data v true e c)
  rewritten (Some (Map b es)) loc key v e c = replaced (body_of (Map b es)) (Map b es) loc key (Data v true e c)
  rewritten (Some (Set b vs)) loc key v e c = replaced (body_of (Set b vs)) (Set b vs) loc key (Data v true e c)
  rewritten (Some (Promise b s rs)) loc key v e c = replaced (body_of (Promise b s rs)) (Promise b s rs) loc key (Data v true e c)
  rewritten (Some (Port b n h ms cs)) loc key v e c = replaced (body_of (Port b n h ms cs)) (Port b n h ms cs) loc key (Data v true e c)
  rewritten (Some (Buffer b bytes)) loc key v e c = replaced (body_of (Buffer b bytes)) (Buffer b bytes) loc key (Data v true e c)
  rewritten (Some (View b buffer offset count)) loc key v e c = replaced (body_of (View b buffer offset count)) (View b buffer offset count) loc key (Data v true e c)
  rewritten (Some (Symbol t)) loc key v e c = replaced (body_of (Symbol t)) (Symbol t) loc key (Data v true e c)
  rewritten (Some (Env o bs)) loc key v e c = replaced (body_of (Env o bs)) (Env o bs) loc key (Data v true e c)

  byte_set : (cell : Option (Cell L)) (buffer : L) (at byte : ℕ) → rows.write_byte cell buffer at byte ≡ change_of (sets.byte_set cell buffer at byte)
  unfolding change_of
  byte_set None buffer at byte = refl
  byte_set (Some cell) buffer at byte = refl

  element_set : (buffer : L) (offset count index : ℕ) (v : Value L) (w : World L) → rows.set_byte buffer offset count index v w ≡ change_of (sets.element_set w.same w.heap buffer offset count index (props.number_of v))
  unfolding change_of fault_for
  element_set buffer offset count index (Num z) w =
      both (nat_lt index count) _ _ _ _ (ap (λ byte. rows.write_byte (cell_at buffer w) buffer (offset + index) byte) (byte_is z) ∙ byte_set (cell_at buffer w) buffer (offset + index) (sets.byte_of z)) refl
  element_set buffer offset count index Undefined w = refl
  element_set buffer offset count index Null w = refl
  element_set buffer offset count index (Boolean b) w = refl
  element_set buffer offset count index (Str t) w = refl
  element_set buffer offset count index (Ref l) w = refl

  set_by : (at : L) (p : Option (Property L)) (loc : L) (key : List ℕ) (v : Value L) (w : World L) → rows.set_over at p loc key v w ≡ change_of (sets.set_by w.same w.heap at (sets.writability p) loc key v)
  unfolding change_of fault_for
  set_by at None loc key v w = added (cell_at loc w) loc key v
  set_by at (Some (Data old false e c)) loc key v w = refl
  set_by at (Some (Data old true e c)) loc key v w = both (w.same at loc) _ _ _ _ (rewritten (cell_at loc w) loc key v e c) (added (cell_at loc w) loc key v)
  set_by at (Some (Access get (Some set) e c)) loc key v w = refl
  set_by at (Some (Access get None e c)) loc key v w = refl

  set_reached : (reach : Reach L) (loc : L) (key : List ℕ) (v : Value L) (w : World L) → rows.set_reached reach loc key v w ≡ change_of (sets.set_reached w.same w.heap reach loc key v)
  unfolding change_of rows.property_at
  set_reached (Has at) loc key v w = set_by at (sets.property_at w.same w.heap at key) loc key v w
  set_reached Past loc key v w = refl
  set_reached Nowhere loc key v w = added (cell_at loc w) loc key v

  set_in : (cell : Option (Cell L)) (index : Option ℕ) (loc : L) (key : List ℕ) (v : Value L) (w : World L) → rows.set_in cell index loc key v w ≡ change_of (sets.set_in w.same w.heap cell index loc key v)
  unfolding rows.reach
  set_in None index loc key v w = set_reached (search w.same w.heap key (length w.heap) loc) loc key v w
  set_in (Some (View b buffer offset count)) (Some index) loc key v w = element_set buffer offset count index v w
  set_in (Some (View b buffer offset count)) None loc key v w = set_reached (search w.same w.heap key (length w.heap) loc) loc key v w
  set_in (Some (Array p vs f)) index loc key v w = set_reached (search w.same w.heap key (length w.heap) loc) loc key v w
  set_in (Some (Object b)) index loc key v w = set_reached (search w.same w.heap key (length w.heap) loc) loc key v w
  set_in (Some (Closure b n f r)) index loc key v w = set_reached (search w.same w.heap key (length w.heap) loc) loc key v w
  set_in (Some (Native b i vs)) index loc key v w = set_reached (search w.same w.heap key (length w.heap) loc) loc key v w
  set_in (Some (Far b n)) index loc key v w = set_reached (search w.same w.heap key (length w.heap) loc) loc key v w
  set_in (Some (Error b k)) index loc key v w = set_reached (search w.same w.heap key (length w.heap) loc) loc key v w
  set_in (Some (Map b es)) index loc key v w = set_reached (search w.same w.heap key (length w.heap) loc) loc key v w
  set_in (Some (Set b vs)) index loc key v w = set_reached (search w.same w.heap key (length w.heap) loc) loc key v w
  set_in (Some (Promise b s rs)) index loc key v w = set_reached (search w.same w.heap key (length w.heap) loc) loc key v w
  set_in (Some (Port b n h ms cs)) index loc key v w = set_reached (search w.same w.heap key (length w.heap) loc) loc key v w
  set_in (Some (Buffer b bytes)) index loc key v w = set_reached (search w.same w.heap key (length w.heap) loc) loc key v w
  set_in (Some (Symbol t)) index loc key v w = set_reached (search w.same w.heap key (length w.heap) loc) loc key v w
  set_in (Some (Env o bs)) index loc key v w = set_reached (search w.same w.heap key (length w.heap) loc) loc key v w

  -- writing a property of an object
  pub set_same : (loc : L) (key : List ℕ) (v : Value L) (w : World L) → rows.set_step loc key v w ≡ change_of (sets.sets w.same w.heap loc key v)
  unfolding rows.set_step sets.sets
  set_same loc key v w = set_in (cell_at loc w) (index_of key) loc key v w
