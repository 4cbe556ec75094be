-- A front of a whole text.
use Rattle.std.proofs.Common.{◌⊎◌, ◌≡◌, ℕ, zero, suc, ◌<◌, List, [], ◌∷◌, ◌++◌, length, take, drop, Some, Result, Ok, Err, Bool, true, false, refl, ap, sym, ◌∙◌, subst, inl, inr, arith}
use Rattle.std.specs.Prelude.{if◌then◌else◌, nat_le, slice_get, ◌==◌, ◌||◌}
use Rattle.std.proofs.lemmas.Bool.{eqb-true}
use Rattle.std.proofs.lemmas.List.{length-append, take-append-drop, length-drop}
use Rattle.parcel.specs.declared.parcel.Item.{Item}
use Rattle.parcel.specs.declared.parcel.Item.TheVariants.{Node}
use Rattle.parcel.specs.declared.parcel.PNode.TheVariants.{View}
use Rattle.parcel.specs.declared.parcel.Parcel.{Parcel}
use Rattle.v8_wire.specs.declared.kind.WireKind.TheVariants.{Header, Version}
use Rattle.v8_wire.specs.Faults.{◌>>=◌, cut}
use Rattle.v8_wire.specs.Leaf.{unpadded}
use Rattle.v8_wire.specs.Item.{buffer_size, item_at, alone, fresh, root_at, version_at, parcel_at}
use Rattle.wire_laws.proofs.Cut.{Fault, Met, Front}
use Rattle.wire_laws.proofs.Items.{GivesItem, item-fronted}

-- A front read as a buffer, where all read as a view of it.
pub record IsViewless (front : Result (Item × Met × List ℕ) Fault) (parcel : Parcel) : Type 0 where
  pub number : ℕ
  pub size : ℕ
  pub offset : ℕ
  pub count : ℕ
  pub met : Met
  pub rest : List ℕ
  pub reads : front ≡ Ok (Node number, met, rest)
  pub pads : unpadded rest ≡ []
  pub sized : buffer_size (slice_get met.nodes number) ≡ Some size
  pub root_is : parcel.root ≡ Node (length met.nodes)
  pub nodes_are : parcel.nodes ≡ met.nodes ++ View number offset count ∷ []

abbrev pub finished : Result (Item × Met × List ℕ) Fault → Result Parcel Fault
finished read = read >>= λ x. alone x.0 x.1 x.2

pub alone-is : (root : Item) (met : Met) (bytes : List ℕ) (parcel : Parcel) → alone root met bytes ≡ Ok parcel → (bytes ≡ []) × (parcel.root ≡ root) × (parcel.nodes ≡ met.nodes)
unfolding alone
alone-is root met [] parcel e =
    let same : record { root = root; nodes = met.nodes } ≡ parcel = cc in
    (refl, ap (λ (p : Parcel). p.root) (sym same), ap (λ (p : Parcel). p.nodes) (sym same))
alone-is root met (b ∷ rest) parcel e = absurd cc

item-front : (back : List ℕ) (all front : Result (Item × Met × List ℕ) Fault) (parcel : Parcel) → Front (Item × Met × List ℕ) (GivesItem back) all front
    → finished all ≡ Ok parcel → 0 < length back → (finished front ≡ cut) ⊎ IsViewless front parcel
item-front back all front parcel (Front.failed f h) e lt = absurd (let g : ◌≡◌ {A = Result Parcel Fault} (Err f) (Ok parcel) = sym (ap finished h) ∙ e in cc)
item-front back all front parcel (Front.ended h) e lt = inl (ap finished h)
item-front back all front parcel (Front.gives x h (GivesItem.exact k)) e lt =
    let a = alone-is x.0 x.1 (x.2 ++ back) parcel (sym (ap finished k) ∙ e) in
    let none : length (x.2 ++ back) ≡ 0 = ap length a.0 in
    absurd (omega (arith, length-append x.2 back, none))
item-front back all front parcel (Front.gives x h (GivesItem.viewless number size offset count rest u i s k)) e lt =
    let a = alone-is (Node (length x.1.nodes)) (record x.1 { nodes = x.1.nodes ++ View number offset count ∷ [] }) rest parcel (sym (ap finished k) ∙ e) in
    inr (record {
      number = number;
      size = size;
      offset = offset;
      count = count;
      met = x.1;
      rest = x.2;
      reads = h ∙ ap (λ (item : Item). Ok (item, x.1, x.2)) i;
      pads = u;
      sized = s;
      root_is = a.1;
      nodes_are = a.2;
    })

-- what stands behind the version
abbrev pub begun_at : ℕ → ℕ → List ℕ → Result (Item × Met × List ℕ) Fault
begun_at ports version bytes = item_at 1_001 (fresh ports (nat_le 14 version)) bytes

-- A text has a header and a version, and then its root.
pub record HasRoot (ports : ℕ) (bytes : List ℕ) (parcel : Parcel) : Type 0 where
  pub version : ℕ
  pub rest : List ℕ
  pub bytes_are : bytes ≡ 255 ∷ version ∷ rest
  pub reads : finished (begun_at ports version rest) ≡ Ok parcel
  pub same : (other : List ℕ) → parcel_at ports (255 ∷ version ∷ other) ≡ finished (begun_at ports version other)

then_is : {A : Type 0} (test : Bool) (a : Result A Fault) (f : Fault) (x : A) → (if test then a else Err f) ≡ Ok x → test ≡ true
then_is true a f x e = refl
then_is false a f x e = absurd cc

version-root : (ports : ℕ) (bytes : List ℕ) (parcel : Parcel) → version_at ports bytes ≡ Ok parcel → HasRoot ports (255 ∷ bytes) parcel
unfolding parcel_at version_at root_at
version-root ports [] parcel e = absurd cc
version-root ports (version ∷ rest) parcel e =
    let h = then_is (version == 13 || version == 14 || version == 15) (root_at ports (nat_le 14 version) rest) (record { left = length (version ∷ rest); kind = Version }) parcel e in
    record {
      version = version;
      rest = rest;
      bytes_are = refl;
      reads = rw h at e;
      same = λ other. rw h refl;
    }

pub has_root : (ports : ℕ) (bytes : List ℕ) (parcel : Parcel) → parcel_at ports bytes ≡ Ok parcel → HasRoot ports bytes parcel
unfolding parcel_at
has_root ports [] parcel e = absurd cc
has_root ports (b ∷ rest) parcel e =
    let h = then_is (b == 255) (version_at ports rest) (record { left = length (b ∷ rest); kind = Header }) parcel e in
    subst (λ (x : ℕ). HasRoot ports (x ∷ rest) parcel) (sym (eqb-true b 255 h)) (version-root ports rest parcel (rw h at e))

pub same-15 : (ports : ℕ) (rest : List ℕ) → parcel_at ports (255 ∷ 15 ∷ rest) ≡ finished (begun_at ports 15 rest)
unfolding parcel_at version_at root_at
same-15 ports rest = refl

-- a text of version 15
abbrev pub has_root-15 : (ports : ℕ) (rest : List ℕ) (parcel : Parcel) → parcel_at ports (255 ∷ 15 ∷ rest) ≡ Ok parcel → HasRoot ports (255 ∷ 15 ∷ rest) parcel
has_root-15 ports rest parcel e = record { version = 15; rest = rest; bytes_are = refl; reads = sym (same-15 ports rest) ∙ e; same = same-15 ports }

abbrev pub IsFrontRead : (ports : ℕ) (bytes : List ℕ) (parcel : Parcel) → HasRoot ports bytes parcel → ℕ → List ℕ → Type 0
IsFrontRead ports bytes parcel r n text = (parcel_at ports (take n text) ≡ cut) ⊎ ((k : ℕ) × (n ≡ suc (suc k)) × IsViewless (begun_at ports r.version (take k r.rest)) parcel)

front-by : (ports : ℕ) (bytes : List ℕ) (parcel : Parcel) (r : HasRoot ports bytes parcel) (n : ℕ) → n < length (255 ∷ r.version ∷ r.rest)
    → IsFrontRead ports bytes parcel r n (255 ∷ r.version ∷ r.rest)
unfolding parcel_at version_at
front-by ports bytes parcel r zero lt = inl refl
front-by ports bytes parcel r (suc zero) lt = inl refl
front-by ports bytes parcel r (suc (suc k)) lt =
    let parts : take k r.rest ++ drop k r.rest ≡ r.rest = take-append-drop k r.rest in
    let fronts = (item-fronted (drop k r.rest) 1_001).fronts (fresh ports (nat_le 14 r.version)) (take k r.rest) in
    let whole : finished (begun_at ports r.version (take k r.rest ++ drop k r.rest)) ≡ Ok parcel = ap (λ (b : List ℕ). finished (begun_at ports r.version b)) parts ∙ r.reads in
    let left : 0 < length (drop k r.rest) = omega (arith, length-drop k r.rest, lt) in
    elim (item-front (drop k r.rest) _ _ parcel fronts whole left) [
      | inl h ↦ inl (r.same (take k r.rest) ∙ h)
      | inr h ↦ inr (k, refl, h)
    ]

-- A front of a text is cut, or reads as a buffer.
pub parcel-front : (ports : ℕ) (bytes : List ℕ) (parcel : Parcel) (r : HasRoot ports bytes parcel) (n : ℕ) → n < length bytes → IsFrontRead ports bytes parcel r n bytes
parcel-front ports bytes parcel r n lt =
    subst (λ (b : List ℕ). IsFrontRead ports bytes parcel r n b) (sym r.bytes_are) (front-by ports bytes parcel r n (subst (λ (b : List ℕ). n < length b) r.bytes_are lt))
