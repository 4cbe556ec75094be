-- What walks over a list of nodes keep, and where two lists of nodes have the same nodes.
use Rattle.std.proofs.Common.{◌≡◌, ℕ, ◌+◌, ◌<◌, ◌≤◌, inl, inr, List, length, slice_get, Some, sym, ◌∙◌, arith}
use Rattle.std.proofs.lemmas.Bool.{cases_lt}
use Rattle.parcel.specs.declared.parcel.PNode.{PNode}
use Rattle.parcel.specs.declared.parcel.PNode.TheVariants.{Buffer}

-- The same nodes stand from one number up to another.
pub record Agree (p q : List PNode) (from to : ℕ) : Type 0 where
  pub at : (k : ℕ) → from ≤ k → k < to → slice_get p k ≡ slice_get q k

pub Agree-none : (p q : List PNode) (at : ℕ) → Agree p q at at
Agree-none p q at = record { at = λ k low high. absurd (omega arith) }

pub Agree-along : (p q : List PNode) (from middle to : ℕ) → Agree p q from middle → Agree p q middle to → Agree p q from to
Agree-along p q from middle to a b =
    record { at = λ k low high. elim (cases_lt k middle) [ inl before ↦ a.at k low before | inr behind ↦ b.at k behind high ] }

pub Agree-one : (p q : List PNode) (number next : ℕ) (node : PNode) → slice_get p number ≡ Some node → slice_get q number ≡ Some node
    → next ≡ number + 1 → Agree p q number next
Agree-one p q number next node e f n =
    record { at = λ k low high. let here : k ≡ number = omega arith in rw here (e ∙ sym f) }

pub Agree-at : (p q : List PNode) (a b c d : ℕ) → a ≡ c → b ≡ d → Agree p q a b → Agree p q c d
Agree-at p q a b c d e f h = rw (sym e, sym f) h

-- What holds of the nodes met so far: there aren't more of them than a copy may have, nor longer buffers.
pub record Fair (nodes : List PNode) (next : ℕ) : Type 0 where
  pub count : next ≤ 100_000
  pub short : (k : ℕ) (bytes : List ℕ) → k < next → slice_get nodes k ≡ Some (Buffer bytes) → length bytes ≤ 1_048_576

pub Fair-none : (nodes : List PNode) → Fair nodes 0
Fair-none nodes = record { count = omega arith; short = λ k bytes low e. absurd (omega arith) }

-- One node more, which is no longer buffer.
pub Fair-more : (nodes : List PNode) (next : ℕ) → Fair nodes next → next < 100_000
    → ((bytes : List ℕ) → slice_get nodes next ≡ Some (Buffer bytes) → length bytes ≤ 1_048_576) → Fair nodes (next + 1)
Fair-more nodes next fair room here =
    record {
      count = omega arith;
      short = λ k bytes low e. elim (cases_lt k next) [
        | inl before ↦ fair.short k bytes before e
        | inr last ↦ let same : k ≡ next = omega arith in here bytes (rw same at e)
      ];
    }

pub Fair-at : (nodes : List PNode) (a b : ℕ) → a ≡ b → Fair nodes a → Fair nodes b
Fair-at nodes a b e fair = rw (sym e) fair
