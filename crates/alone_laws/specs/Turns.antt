-- The entries of a world as turns: each is a delivery with what the world makes of it, up to a yield.
use Rattle.std.specs.Prelude.{◌≡◌, ℕ, List, [], ◌∷◌, Bool, true, false}
use Rattle.world_log.specs.declared.entry.Product.TheVariants.{Console, Uncaught, Rest, Stopped}
use Rattle.world_log.specs.declared.entry.Entry.{Entry}
use Rattle.world_log.specs.declared.entry.Entry.TheVariants.{Delivery, Product}
use Rattle.js_semantics.specs.Run.{Arrival, Setting, entries}
use Rattle.js_semantics.specs.Alone.{alone_by}

-- Each delivery is followed by products up to a yield: by a rest, behind which a delivery may come, or by a stop, behind
-- which nothing does. Inside a turn, or between two.
abbrev pub Turns : Bool → List Entry → Type 0
Turns inside [] = inside ≡ false
Turns false (Delivery fresh what ∷ es) = Turns true es
Turns false (Product what ∷ es) = ⊥
Turns true (Delivery fresh what ∷ es) = ⊥
Turns true (Product (Console level text) ∷ es) = Turns true es
Turns true (Product (Uncaught text) ∷ es) = Turns true es
Turns true (Product (Rest jobs) ∷ es) = Turns false es
Turns true (Product (Stopped stop) ∷ es) = es ≡ []

-- What a world makes of its deliveries is turns, whatever locations its cells get.
unfoldable pub IsYielding : Type 0
IsYielding = (supply : ℕ → ℕ) (setting : Setting) (ds : List Arrival) → Turns false (entries (alone_by supply setting ds))
