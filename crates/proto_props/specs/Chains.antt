-- The search along a chain of prototypes (ECMA-262, 10.1.7.1 and 10.1.8.1).
use Rattle.std.specs.Prelude.{ℕ, zero, suc, Bool, List, Option, Some, None, option_map}
use Rattle.world_heap.specs.declared.cell.Cell.{Cell}
use Rattle.world_heap.specs.Maps.{find}
use Rattle.proto_props.specs.declared.own.Look.{Look}
use Rattle.proto_props.specs.declared.own.Look.TheVariants.{Own, Past, End, Next}
use Rattle.proto_props.specs.declared.chain.Reach.{Reach}
use Rattle.proto_props.specs.declared.chain.Reach.TheVariants.{Has, Past as PastEnd, Nowhere}
use Rattle.proto_props.specs.Own.{look}

module _ {L : Type 0} where
  -- where a search ends that has come to a location, by what is seen there
  abbrev pub taken : (L → Reach L) → L → Option (Look L) → Reach L
  taken go l None = Nowhere
  taken go l (Some Own) = Has l
  taken go l (Some Past) = PastEnd
  taken go l (Some End) = Nowhere
  taken go l (Some (Next p)) = go p

  module _ (same : L → L → Bool) (cells : List (L × Cell L)) (key : List ℕ) where
    -- where the search from a location on ends, within so many objects; a chain has no more than the heap has cells
    abbrev pub search : ℕ → L → Reach L
    search zero l = Nowhere
    search (suc n) l = taken (search n) l (option_map (λ c. look c key) (find same cells l))

  -- the object that has the property
  abbrev pub holder : Reach L → Option L
  holder (Has l) = Some l
  holder PastEnd = None
  holder Nowhere = None
