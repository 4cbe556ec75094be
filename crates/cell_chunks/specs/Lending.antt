-- What a store ends as, where a `&mut` to one of its values is returned.
use Rattle.std.specs.Prelude.{ℕ, List, Option, Some, slice_set}
use Rattle.std.specs.Borrow.{Lends, Fml, RattleType, MutBor}
use Rattle.cell_chunks.specs.contracts.chunks.Chunks.{the_row}

module _ (T : RattleType) (s : MutBor (List (Option T.Denot))) (at : ℕ) where
  -- once the borrow r ends, the slot has the last value written through r
  abbrev pub lends_value : MutBor T.Denot → Fml
  lends_value r = Lends (the_row T) T s r (λ w. slice_set s.now at (Some w))
