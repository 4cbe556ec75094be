-- What a walk that went on tells: the tests held, and the numbers went on so.
use Rattle.std.proofs.Common.{◌≡◌, ℕ, ◌+◌, ◌<◌, ◌≤◌, ◌⊎◌, inl, inr, Bool, true, false, if◌then◌else◌, nat_lt, nat_le, List, length, Option, Some, None, refl, sym, ap, ◌∙◌, subst, arith}
use Rattle.std.proofs.lemmas.Bool.Decides.{eqb_tells, leb_tells}
use Rattle.std.proofs.Math.Dec.{eqb}
use borrow.Author.Tests.{ltb-true}
use Rattle.parcel.specs.Checked.{◌>>=◌, with_node, with_item, with_units, only_if, is_text, is_contents, with_text, with_contents, numbered, buffer_met}
use Rattle.parcel.specs.declared.parcel.PNode.{PNode}
use Rattle.parcel.specs.declared.parcel.PNode.TheVariants.{Object, Array, Error, Map, Set, Port, Buffer, View}
use Rattle.parcel.specs.declared.tally.Tally.{Tally}

-- both steps of a chain succeeded
pub both : {A B : Type 0} (o : Option A) (f : A → Option B) (y : B) → (o >>= f) ≡ Some y → (x : A) × (o ≡ Some x) × (f x ≡ Some y)
both None f y e = absurd cc
both (Some x) f y e = (x, refl, e)

pub only_if-told : (test : Bool) (met now : Tally) → only_if test met ≡ Some now → (test ≡ true) × (now ≡ met)
only_if-told true met now e = (refl, cc)
only_if-told false met now e = absurd cc

with_item-by : (test : Bool) (met now : Tally) → (if test then Some (record met { items = met.items + 1 }) else None) ≡ Some now → now.nodes ≡ met.nodes
with_item-by true met now e = let h : record met { items = met.items + 1 } ≡ now = cc in sym (ap (λ t. t.nodes) h)
with_item-by false met now e = absurd cc

pub with_item-told : (met now : Tally) → with_item met ≡ Some now → now.nodes ≡ met.nodes
with_item-told met now e = with_item-by (nat_lt met.items 1_000_000) met now e

with_units-by : (test : Bool) (more : ℕ) (met now : Tally) → (if test then Some (record met { units = met.units + more }) else None) ≡ Some now → now.nodes ≡ met.nodes
with_units-by true more met now e = let h : record met { units = met.units + more } ≡ now = cc in sym (ap (λ t. t.nodes) h)
with_units-by false more met now e = absurd cc

pub with_units-told : (more : ℕ) (met now : Tally) → with_units more met ≡ Some now → now.nodes ≡ met.nodes
with_units-told more met now e = with_units-by (nat_le (met.units + more) 16_777_216) more met now e

with_node-by : (test : Bool) (met now : Tally) → (if test then Some (record met { nodes = met.nodes + 1 }) else None) ≡ Some now
    → (test ≡ true) × (now.nodes ≡ met.nodes + 1)
with_node-by true met now e = let h : record met { nodes = met.nodes + 1 } ≡ now = cc in (refl, sym (ap (λ t. t.nodes) h))
with_node-by false met now e = absurd cc

pub with_node-told : (met now : Tally) → with_node met ≡ Some now → (met.nodes < 100_000) × (now.nodes ≡ met.nodes + 1)
with_node-told met now e =
    let h = with_node-by (nat_lt met.nodes 100_000) met now e in
    (omega (arith, ltb-true, h.0), h.1)

pub numbered-told : (number : ℕ) (met now : Tally) → numbered number met ≡ Some now
    → (number ≡ met.nodes) × (number < 100_000) × (now.nodes ≡ number + 1)
numbered-told number met now e =
    let steps = both (only_if (eqb number met.nodes) met) with_node now e in
    let test = only_if-told (eqb number met.nodes) met steps.0 steps.1 in
    let node = with_node-told steps.0 now steps.2 in
    let same : number ≡ met.nodes = elim (eqb_tells number met.nodes) [ inl yes_same ↦ yes_same.1 | inr other ↦ absurd (let h = sym test.0 ∙ other.0 in cc) ] in
    let nodes : steps.0.nodes ≡ met.nodes = ap (λ t. t.nodes) test.1 in
    (same, omega arith, omega arith)

pub with_text-told : (units : List ℕ) (met now : Tally) → with_text units met ≡ Some now → (is_text units ≡ true) × (now.nodes ≡ met.nodes)
with_text-told units met now e =
    let steps = both (only_if (is_text units) met) (with_units (length units)) now e in
    let test = only_if-told (is_text units) met steps.0 steps.1 in
    (test.0, with_units-told (length units) steps.0 now steps.2 ∙ ap (λ t. t.nodes) test.1)

pub with_contents-told : (bytes : List ℕ) (met now : Tally) → with_contents bytes met ≡ Some now → (is_contents bytes ≡ true) × (now.nodes ≡ met.nodes)
with_contents-told bytes met now e =
    let steps = both (only_if (is_contents bytes) met) (with_units (length bytes)) now e in
    let test = only_if-told (is_contents bytes) met steps.0 steps.1 in
    (test.0, with_units-told (length bytes) steps.0 now steps.2 ∙ ap (λ t. t.nodes) test.1)

-- A buffer that takes the next number with its view.
pub record BufferNew (buffer : ℕ) (bytes : List ℕ) (met now : Tally) : Type 0 where
  pub first : buffer ≡ met.nodes
  pub low : buffer < 100_000
  pub next : now.nodes ≡ buffer + 1
  pub tested : is_contents bytes ≡ true
  pub given : (numbered buffer met >>= with_contents bytes) ≡ Some now

-- A view's buffer: it holds the view; it was met before, or it takes the next number here.
pub record BufferTold (buffer offset size : ℕ) (node : Option PNode) (met now : Tally) : Type 0 where
  pub bytes : List ℕ
  pub is : node ≡ Some (Buffer bytes)
  pub within : offset + size ≤ length bytes
  pub when : ((buffer < met.nodes) × (now ≡ met)) ⊎ BufferNew buffer bytes met now

pub buffer-told : (buffer offset size : ℕ) (node : Option PNode) (met now : Tally) → buffer_met buffer offset size node met ≡ Some now
    → BufferTold buffer offset size node met now
unfolding buffer_met
buffer-told buffer offset size None met now e = absurd cc
buffer-told buffer offset size (Some (Object properties)) met now e = absurd cc
buffer-told buffer offset size (Some (Array items)) met now e = absurd cc
buffer-told buffer offset size (Some (Error kind message)) met now e = absurd cc
buffer-told buffer offset size (Some (Map entries)) met now e = absurd cc
buffer-told buffer offset size (Some (Set items)) met now e = absurd cc
buffer-told buffer offset size (Some (Port place)) met now e = absurd cc
buffer-told buffer offset size (Some (View inner start span)) met now e = absurd cc
buffer-told buffer offset size (Some (Buffer bytes)) met now e =
    let steps = both (only_if (nat_le (offset + size) (length bytes)) met)
    (λ found. if nat_lt buffer found.nodes then Some found else numbered buffer found >>= with_contents bytes) now e in
    let test = only_if-told (nat_le (offset + size) (length bytes)) met steps.0 steps.1 in
    let fits : offset + size ≤ length bytes = elim (leb_tells (offset + size) (length bytes)) [ inl fine ↦ fine.1 | inr past ↦ absurd (let h = sym test.0 ∙ past.0 in cc) ] in
    let rest : (if nat_lt buffer met.nodes then Some met else numbered buffer met >>= with_contents bytes) ≡ Some now =
    subst (λ (found : Tally). (if nat_lt buffer found.nodes then Some found else numbered buffer found >>= with_contents bytes) ≡ Some now) test.1 steps.2 in
    record { bytes = bytes; is = refl; within = fits; when = by_number (nat_lt buffer met.nodes) refl rest }
  where
    by_number : (test : Bool) → nat_lt buffer met.nodes ≡ test
        → (if test then Some met else numbered buffer met >>= with_contents bytes) ≡ Some now
        → ((buffer < met.nodes) × (now ≡ met)) ⊎ BufferNew buffer bytes met now
    by_number true t rest = inl (omega (arith, ltb-true, t), cc)
    by_number false t rest =
        let steps = both (numbered buffer met) (with_contents bytes) now rest in
        let number = numbered-told buffer met steps.0 steps.1 in
        let contents = with_contents-told bytes steps.0 now steps.2 in
        inr (record { first = number.0; low = number.1; next = contents.1 ∙ number.2; tested = contents.0; given = rest })
