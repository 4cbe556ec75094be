-- Steps of the walk over a parcel.
use Rattle.std.proofs.Common.{◌≡◌, ◌≢◌, ◌-◌, ℕ, zero, suc, List, Some, None, refl, ap, arith}
use Rattle.parcel.specs.Checked.{◌>>=◌, with_item, value_met, item_met}
use Rattle.parcel.specs.declared.parcel.Item.{Item}
use Rattle.parcel.specs.declared.parcel.PNode.{PNode}
use Rattle.parcel.specs.declared.tally.Tally.{Tally}

-- Too deep, or an item too many.
pub item_met-deep : (depth : ℕ) (nodes : List PNode) (item : Item) (met : Tally) → depth ≡ 0 → item_met depth nodes item met ≡ None
unfolding item_met
item_met-deep zero nodes item met e = refl
item_met-deep (suc depth) nodes item met e = absurd (omega arith)

pub item_met-full : (depth : ℕ) (nodes : List PNode) (item : Item) (met : Tally) → with_item met ≡ None → item_met depth nodes item met ≡ None
unfolding item_met
item_met-full zero nodes item met e = refl
item_met-full (suc depth) nodes item met e = ap (λ found. found >>= value_met (item_met depth nodes) nodes item) e

-- The item was counted.
pub item_met-counted : (depth : ℕ) (nodes : List PNode) (item : Item) (met now : Tally) → depth ≢ 0 → with_item met ≡ Some now
    → item_met depth nodes item met ≡ value_met (item_met (depth - 1) nodes) nodes item now
unfolding item_met
item_met-counted zero nodes item met now some e = absurd (some refl)
item_met-counted (suc depth) nodes item met now some e =
    let one : suc depth - 1 ≡ depth = omega arith in
    rw (e, one) refl
