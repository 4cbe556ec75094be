-- Source order (ECMA-262, 5.1.4): what holds others comes before them, and they come as they are written.
use Rattle.std.specs.Prelude.{ℕ, List, [], ◌∷◌, zero, suc}
use Rattle.std.specs.List.{flat_map}

-- a whole and its parts in source order, as deep as the depth allows
unfoldable pub walk : {P : Type 0} → (P → List P) → ℕ → P → List P
walk parts zero whole = []
walk parts (suc depth) whole = whole ∷ flat_map (walk parts depth) (parts whole)
