-- Products up to a yield.
use Rattle.std.specs.Prelude.{◌≡◌, List, [], ◌∷◌}
use Rattle.world_log.specs.declared.entry.Product as log
use Rattle.world_log.specs.declared.entry.Product.TheVariants as products
use Rattle.world_machine.specs.declared.yielding.Yield.{Yield}
use Rattle.world_machine.specs.declared.yielding.Yield.TheVariants.{Rest, Stopped}

-- the product that is a yield
abbrev pub product_of : Yield → log.Product
product_of (Rest jobs) = products.Rest jobs
product_of (Stopped stop) = products.Stopped stop

-- The last of these products is the yield, and no other is one.
abbrev pub EndsBy : Yield → List log.Product → Type 0
EndsBy y [] = ⊥
EndsBy y (products.Console level text ∷ more) = EndsBy y more
EndsBy y (products.Uncaught text ∷ more) = EndsBy y more
EndsBy y (products.Rest jobs ∷ more) = (y ≡ Rest jobs) × (more ≡ [])
EndsBy y (products.Stopped stop ∷ more) = (y ≡ Stopped stop) × (more ≡ [])
