-- A parcel that was read is checked, has no functions and promises, and its ports came along.
use Rattle.std.proofs.Common.{◌≡◌, ℕ, suc, ◌<◌, Bool, true, ◌||◌, List, [], ◌∷◌, length, get_or, Option, Some, None, Ok, refl, sym, subst, eqb, leb, ltb}
use Rattle.std.specs.Prelude.{IsTrue}
use Rattle.std.specs.List.{list_all}
use Rattle.std.proofs.lemmas.Bool.{lt-ltb, eq-eqb}
use Rattle.parcel.specs.Checked.{all_met, is_checked, IsChecked, nothing_met, item_met}
use Rattle.parcel.specs.Plain.{is_plain, IsPlain, is_plain_item, items_of, is_port_below, ports_below}
use Rattle.parcel.specs.declared.parcel.Item.{Item}
use Rattle.parcel.specs.declared.parcel.PNode.{PNode}
use Rattle.parcel.specs.declared.parcel.PNode.TheVariants as kinds
use Rattle.parcel.specs.declared.parcel.Parcel.{Parcel}
use Rattle.v8_wire.specs.declared.met.Met.{Met}
use Rattle.v8_wire.specs.Item.{item_at, alone, fresh, root_at, version_at, parcel_at}
use Rattle.v8_wire.proofs.LeavesAgain.{and_true}
use Rattle.v8_wire.proofs.Holds.{Holds, holds-bind, holds-if, holds-ok, AreBytes}
use Rattle.v8_wire.proofs.Told.{tally, fits}
use Rattle.v8_wire.proofs.NestedTold.{ItemTold, item-told}

pub record IsGood (ports : ℕ) (parcel : Parcel) : Type 0 where
  pub checked : IsChecked parcel
  pub plain : IsPlain parcel
  pub came : IsTrue (ports_below ports parcel)

fit-split : (ports : ℕ) (xs : List PNode) → list_all (fits ports) xs ≡ true → (list_all (λ node. list_all is_plain_item (items_of node)) xs ≡ true) × (list_all (is_port_below ports) xs ≡ true)
fit-split ports [] h = (refl, refl)
fit-split ports (x ∷ xs) h =
    let p = and_true (fits ports x) (list_all (fits ports) xs) h in
    let q = and_true (list_all is_plain_item (items_of x)) (is_port_below ports x) p.0 in
    let r = fit-split ports xs p.1 in
    (rw (q.0, r.0) refl, rw (q.1, r.1) refl)

-- The root was read from the start.
root-good : (ports : ℕ) (flags : Bool) (root : Item) (met : Met) → (bytes : List ℕ) → ItemTold ports (λ all. item_met 1_001 all) (fresh ports flags) (root, met, bytes) → IsGood ports (record { root = root; nodes = met.nodes })
unfolding is_checked all_met is_plain ports_below
root-good ports flags root met bytes i =
    let walk : item_met 1_001 met.nodes root nothing_met ≡ Some (tally met) = i.walks met.nodes (λ n b e. absurd (let f : ◌≡◌ {A = Option PNode} None (Some (kinds.Buffer b)) = e in cc)) (λ n node le e. e) in
    let fit : list_all (fits ports) met.nodes ≡ true = subst (λ xs. list_all (fits ports) xs ≡ true) (sym i.grew.nodes_are) i.grew.fit in
    let s = fit-split ports met.nodes fit in
    record {
      checked = rw walk (eq-eqb (length met.nodes) (length met.nodes) refl);
      plain = rw (i.plain, s.0) refl;
      came = s.1;
    }

alone-told : (ports : ℕ) (flags : Bool) (root : Item) (met : Met) (bytes : List ℕ) → ItemTold ports (λ all. item_met 1_001 all) (fresh ports flags) (root, met, bytes) → Holds (IsGood ports) (alone root met bytes)
unfolding alone
alone-told ports flags root met [] i = root-good ports flags root met [] i
alone-told ports flags root met (b ∷ bytes) i = tt

root-told : (ports : ℕ) (flags : Bool) (bytes : List ℕ) → AreBytes bytes → Holds (IsGood ports) (root_at ports flags bytes)
unfolding root_at
root-told ports flags bytes h =
    holds-bind (ItemTold ports (λ all. item_met 1_001 all) (fresh ports flags)) (IsGood ports) (item_at 1_001 (fresh ports flags) bytes) (λ x. alone x.0 x.1 x.2)
    (item-told ports 1_001 (fresh ports flags) bytes h refl) (λ x i. alone-told ports flags x.0 x.1 x.2 i)

version-told : (ports : ℕ) (bytes : List ℕ) → AreBytes bytes → Holds (IsGood ports) (version_at ports bytes)
unfolding version_at
version-told ports [] h = tt
version-told ports (v ∷ bytes) h =
    holds-if _ (eqb v 13 || eqb v 14 || eqb v 15) _ _ (λ e. root-told ports (leb 14 v) bytes (and_true (ltb v 256) (list_all (λ b. ltb b 256) bytes) h).1) (λ e. tt)

whole-told : (ports : ℕ) (bytes : List ℕ) → AreBytes bytes → Holds (IsGood ports) (parcel_at ports bytes)
unfolding parcel_at
whole-told ports [] h = tt
whole-told ports (b ∷ bytes) h = holds-if _ (eqb b 255) _ _ (λ e. version-told ports bytes (and_true (ltb b 256) (list_all (λ b. ltb b 256) bytes) h).1) (λ e. tt)

pub are-bytes : (bytes : List ℕ) → ((i : ℕ) → get_or bytes i 0 < 256) → AreBytes bytes
are-bytes [] h = refl
are-bytes (b ∷ bytes) h = rw (lt-ltb b 256 (h 0), are-bytes bytes (λ i. h (suc i))) refl

pub taken-good : (ports : ℕ) (bytes : List ℕ) (parcel : Parcel) → ((i : ℕ) → get_or bytes i 0 < 256) → parcel_at ports bytes ≡ Ok parcel → IsGood ports parcel
taken-good ports bytes parcel fits e = holds-ok (IsGood ports) (parcel_at ports bytes) parcel (whole-told ports bytes (are-bytes bytes fits)) e
