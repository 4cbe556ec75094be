-- Lemmas on turn after turn over the items of a node.
use Rattle.std.proofs.Common.{◌≡◌, ◌≤◌, ℕ, zero, suc, List, [], ◌∷◌, length, Ok, Err, refl, ap, sym, ◌∙◌, arith}
use Rattle.v8_wire.specs.declared.kind.WireKind.TheVariants.{Cut}
use Rattle.v8_wire.specs.declared.met.Met.{Met}
use Rattle.v8_wire.specs.declared.open.Open.{Open}
use Rattle.v8_wire.specs.declared.open.Turn.{Turn}
use Rattle.v8_wire.specs.declared.fault.Stop.{Stop}
use Rattle.v8_wire.specs.declared.fault.Stop.TheVariants as stops
use Rattle.v8_wire.specs.Faults.{◌>>=◌, cut, Fails}
use Rattle.v8_wire.specs.Leaf.{unpadded}
use Rattle.v8_wire.specs.Contents.{ItemReader, turn_with, turn_at, turned, contents_at}

-- no turn stands at the end
turn_at-end : (inner : ItemReader) (begun : Open) (met : Met) → turn_at inner begun met [] ≡ cut
unfolding turn_at turn_with unpadded
turn_at-end inner begun met = refl

-- A turn was made, and this is what stands behind it.
pub contents_at-turn : (inner : ItemReader) (n : ℕ) (begun : Open) (met : Met) (bytes : List ℕ) (x : Turn × Met × List ℕ) → length bytes ≤ n
    → turn_at inner begun met bytes ≡ Ok x
    → (m : ℕ) × (n ≡ suc m) × (contents_at inner n begun met bytes ≡ turned (contents_at inner m) x.0 x.1 x.2)
unfolding contents_at
contents_at-turn inner zero begun met [] x short e = absurd (let wrong = sym (turn_at-end inner begun met) ∙ e in cc)
contents_at-turn inner zero begun met (b ∷ bytes) x short e = absurd (omega arith)
contents_at-turn inner (suc n) begun met bytes x short e =
    (n, refl, ap (λ r. r >>= λ x. turned (contents_at inner n) x.0 x.1 x.2) e)

-- A fault of a turn is that of the whole.
pub contents_at-fails : (stop : Stop) (inner : ItemReader) (n : ℕ) (begun : Open) (met : Met) (bytes : List ℕ) → length bytes ≤ n
    → Fails stop (turn_at inner begun met bytes) → Fails stop (contents_at inner n begun met bytes)
unfolding contents_at
contents_at-fails stops.Memory inner n begun met bytes short h = tt
contents_at-fails (stops.At f) inner zero begun met [] short h =
    let e : cut ≡ Err f = sym (turn_at-end inner begun met) ∙ h in
    let same : record { left = 0; kind = Cut } ≡ f = cc in ap (λ g. Err g) same
contents_at-fails (stops.At f) inner zero begun met (b ∷ bytes) short h = absurd (omega arith)
contents_at-fails (stops.At f) inner (suc n) begun met bytes short h = ap (λ r. r >>= λ x. turned (contents_at inner n) x.0 x.1 x.2) h
