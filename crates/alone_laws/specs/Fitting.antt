-- Which deliveries a world takes, read off its transcript: what is known in it, and what fits it.
use Rattle.std.specs.Prelude.{◌≡◌, ℕ, List, [], ◌∷◌, ◌++◌, map, length, Bool, true, false, not, ◌&&◌, nat_eq, if◌then◌else◌}
use Rattle.std.specs.List.{flat_map, fold, list_any}
use Rattle.parcel.specs.declared.parcel.Side.{Side}
use Rattle.world_log.specs.declared.entry.Delivery.{Delivery as DeliveryType}
use Rattle.world_log.specs.declared.entry.Delivery.TheVariants.{Load}
use Rattle.world_log.specs.declared.entry.Product.{Product as ProductType}
use Rattle.world_log.specs.declared.entry.Product.TheVariants.{Console, Uncaught, Rest, Stopped}
use Rattle.world_log.specs.declared.entry.Entry.{Entry}
use Rattle.world_log.specs.declared.entry.Entry.TheVariants.{Delivery, Product}
use Rattle.js_semantics.specs.Run.{Arrival, Setting, entries}
use Rattle.js_semantics.specs.Alone.{alone_by}

-- ---- what is known

-- What a world can name to another: a function or a promise, of its own or of the far side, or a port, by its number.
pub data Name : Type 0 where
  Function : (side : Side) (number : ℕ) → Name
  Promise : (side : Side) (number : ℕ) → Name
  Port : (number : ℕ) → Name

-- The names that a world exports, makes or is given by an entry. No entry that exists so far has one: a load brings the
-- script alone, lines are text, and a rest and a stop end a turn. Each further entry adds its case.
abbrev pub named_by : Entry → List Name
named_by (Delivery fresh Load) = []
named_by (Product (Console level text)) = []
named_by (Product (Uncaught text)) = []
named_by (Product (Rest jobs)) = []
named_by (Product (Stopped stop)) = []

-- the functions, promises and ports that a world exported, made or was given in a transcript
unfoldable pub known : List Entry → List Name
known es = flat_map named_by es

-- ---- what fits

-- a stop, behind which a world does nothing
abbrev pub is_stop : Entry → Bool
is_stop (Product (Stopped stop)) = true
is_stop other = false

-- a rest, behind which a delivery may come
abbrev pub is_rest : Entry → Bool
is_rest (Product (Rest jobs)) = true
is_rest other = false

-- the load of the script (ECMA-262, 16.1.6: ScriptEvaluation)
abbrev pub is_load : Entry → Bool
is_load (Delivery fresh Load) = true
is_load (Product what) = false

-- Whether a world is between two turns: nothing has come yet, or the last entry is a rest (ECMA-262, 9.5: a job runs to its
-- end before another starts).
abbrev pub is_between : List Entry → Bool
is_between es = fold (λ before e. is_rest e) true es

-- Whether a world gets a delivery with this word: each kind of world gets a load, once.
abbrev pub gets : List Entry → DeliveryType → Bool
gets es Load = not (list_any is_load es)

-- A delivery fits a transcript where no stop stands in it, the world is between two turns, and it gets such a delivery.
unfoldable pub fits : List Entry → DeliveryType → Bool
fits es what = not (list_any is_stop es) && (is_between es && gets es what)

-- ---- what is taken

-- the deliveries that stand in a transcript
abbrev pub delivery_of : Entry → List Arrival
delivery_of (Delivery fresh what) = record { fresh = fresh; what = what } ∷ []
delivery_of (Product what) = []

unfoldable pub deliveries : List Entry → List Arrival
deliveries es = flat_map delivery_of es

-- Whether all of these deliveries stand in a transcript: it ends before the first that doesn't fit.
unfoldable pub has_taken : List Arrival → List Entry → Bool
has_taken ds es = nat_eq (length (deliveries es)) (length ds)

-- whether a world takes one delivery more: it has taken all before it, and this one fits
abbrev pub takes : List Arrival → List Entry → Arrival → Bool
takes ds es d = has_taken ds es && fits es d.what

-- what a delivery adds to a transcript: where it is taken itself, and what the world makes of it; else nothing
abbrev pub added : Bool → Arrival → List ProductType → List Entry
added taken d made = if taken then Delivery d.fresh d.what ∷ map Product made else []

-- A world takes a further delivery exactly where it has taken all before it and this one fits what it made of them,
-- whatever locations its cells get.
unfoldable pub IsFitting : Type 0
IsFitting =
    (supply : ℕ → ℕ) (setting : Setting) (ds : List Arrival) (d : Arrival) → let es = entries (alone_by supply setting ds) in (made : List ProductType) × (entries (alone_by supply setting (ds ++ d ∷ [])) ≡ es ++ added (takes ds es d) d made)
