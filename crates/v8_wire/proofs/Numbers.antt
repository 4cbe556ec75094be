-- Lemmas on numbers in bytes.
use Rattle.std.proofs.Common.{◌≡◌, ◌≢◌, ℕ, zero, suc, ◌+◌, ◌-◌, ◌*◌, ◌/◌, ◌%◌, ◌≤◌, ◌^◌, List, [], ◌∷◌, ◌++◌, refl, ap, sym, ◌∙◌, append_assoc, arith}
use Rattle.std.proofs.lemmas.Bool.{le-ltb}
use Rattle.v8_wire.specs.Spelling.{groups}
use Rattle.v8_wire.specs.Number.{bound}

pub bound-step : (more : ℕ) → more ≢ 0 → bound more ≡ 128 * bound (more - 1)
unfolding bound
bound-step zero some = absurd (some refl)
bound-step (suc more) some = let e : suc more - 1 ≡ more = omega arith in ap (λ n. 128 * bound n) (omega (arith, e))

pub bound-least : (more : ℕ) → 16 ≤ bound more
unfolding bound
bound-least zero = omega arith
bound-least (suc more) = omega (arith, bound-least more)

-- at most three groups more
pub bound-small : (more : ℕ) → more ≤ 3 → bound more ≤ 2 ^ 25
unfolding bound
bound-small zero le = omega arith
bound-small (suc zero) le = omega arith
bound-small (suc (suc zero)) le = omega arith
bound-small (suc (suc (suc zero))) le = omega arith
bound-small (suc (suc (suc (suc more)))) le = absurd (omega arith)

-- a group with more behind it
pub groups-more : (more n : ℕ) → more ≢ 0 → 128 ≤ n → groups more n ≡ (n % 128 + 128) ∷ groups (more - 1) (n / 128)
unfolding groups
groups-more zero n some le = absurd (some refl)
groups-more (suc more) n some le =
    let one : suc more - 1 ≡ more = omega arith in
    rw (le-ltb n 128 le, one) refl

pub groups-behind : (before : List ℕ) (more n : ℕ) → more ≢ 0 → 128 ≤ n
    → (before ++ (n % 128 + 128) ∷ []) ++ groups (more - 1) (n / 128) ≡ before ++ groups more n
groups-behind before more n some le =
    append_assoc before ((n % 128 + 128) ∷ []) (groups (more - 1) (n / 128)) ∙ ap (λ (bytes : List ℕ). before ++ bytes) (sym (groups-more more n some le))
