-- Lists that hold only what a heap may hold.
use Rattle.std.proofs.Common.{◌≡◌, ℕ, Bool, true, false, List, [], ◌∷◌, nat_eq, if◌then◌else◌}
use Rattle.std.specs.Cmp.Lexicographic.{pointwise}
use Rattle.world_heap.specs.Over.{ListOver}
use Rattle.world_heap.specs.Table.{put_under}

pub over_put : {V : Type 0} (P : V → Type 0) (entries : List (List ℕ × V)) (key : List ℕ) (v : V) → ListOver (λ m. P m.1) entries → P v → ListOver (λ m. P m.1) (put_under entries key v)
over_put P [] key v h p = (p, tt)
over_put P (e ∷ es) key v h p =
    elim (pointwise nat_eq key e.0) as (λ t. ListOver (λ m. P m.1) (if t then (e.0, v) ∷ es else e ∷ put_under es key v)) [
      | true ↦ (p, h.1)
      | false ↦ (h.0, over_put P es key v h.1 p)
    ]
