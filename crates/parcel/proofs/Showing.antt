-- Steps of showing.
use Rattle.std.proofs.Common.{◌≡◌, ◌≢◌, ◌-◌, ◌++◌, ℕ, zero, suc, List, [], refl, ap, ◌∙◌, append_assoc, append-nil, arith}
use Rattle.parcel.specs.Text.{Shown, Writes, behind, item_name, rest_shown, item_shown}
use Rattle.parcel.specs.declared.parcel.Item.{Item}
use Rattle.parcel.specs.declared.parcel.PNode.{PNode}

pub item_shown-deep : (depth : ℕ) (nodes : List PNode) (item : Item) (next : ℕ) → depth ≡ 0 → ◌≡◌ {A = Shown} (item_shown depth nodes item next) ([], next)
unfolding item_shown
item_shown-deep zero nodes item next e = refl
item_shown-deep (suc depth) nodes item next e = absurd (omega arith)

pub item_shown-name : (depth : ℕ) (nodes : List PNode) (item : Item) (next : ℕ) → depth ≢ 0
    → ◌≡◌ {A = Shown} (item_shown depth nodes item next) (behind (item_name item) (rest_shown (item_shown (depth - 1) nodes) nodes item next))
unfolding item_shown
item_shown-name zero nodes item next some = absurd (some refl)
item_shown-name (suc depth) nodes item next some =
    let one : suc depth - 1 ≡ depth = omega arith in
    rw one refl

-- A front was written, and then the text behind it.
pub Writes-behind : (old middle new front : List ℕ) (next : ℕ) (shown : Shown) → middle ≡ old ++ front → Writes middle new next shown
    → Writes old new next (behind front shown)
Writes-behind old middle new front next shown e w = (w.0 ∙ ap (λ m. m ++ shown.0) e ∙ append_assoc old front shown.0, w.1)

pub Writes-along : (old new : List ℕ) (next : ℕ) (shown other : Shown) → ◌≡◌ {A = Shown} other shown → Writes old new next shown → Writes old new next other
Writes-along old new next shown other e w = rw e w

pub Writes-nothing : (old : List ℕ) (next : ℕ) (shown : Shown) → ◌≡◌ {A = Shown} shown ([], next) → Writes old old next shown
Writes-nothing old next shown e = rw (e, append-nil) (refl, refl)
