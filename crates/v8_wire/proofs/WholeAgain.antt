-- A parcel that was written is read again.
use Rattle.std.proofs.Common.{◌≡◌, ℕ, true, List, [], ◌∷◌, length, take, Option, Some, None, Result, Ok, refl, ap, sym, ◌∙◌, arith}
use Rattle.std.specs.Prelude.{IsTrue}
use Rattle.std.specs.List.{list_all}
use Rattle.std.proofs.lemmas.Bool.{eqb-true}
use Rattle.std.proofs.lemmas.List.{append-nil, take_all}
use Rattle.parcel.specs.Checked.{all_met, is_checked, IsChecked, ends_with, nothing_met}
use Rattle.parcel.specs.Plain.{is_plain, IsPlain, is_plain_item, items_of, is_port_below, ports_below}
use Rattle.parcel.specs.declared.parcel.PNode.{PNode}
use Rattle.parcel.specs.declared.parcel.Parcel.{Parcel}
use Rattle.parcel.specs.declared.tally.Tally.{Tally}
use Rattle.v8_wire.specs.declared.fault.Fault.{Fault}
use Rattle.v8_wire.specs.Item.{alone, fresh, root_at, version_at, parcel_at}
use Rattle.v8_wire.specs.Spelling.{written, spelled}
use Rattle.v8_wire.proofs.Again.{Agrees, NoView-end}
use Rattle.v8_wire.proofs.LeavesAgain.{and_true}
use Rattle.v8_wire.proofs.NestedAgain.{AreFit, all-at, item-again}

-- where the walk over a checked parcel ends
ends-at : (count : ℕ) (o : Option Tally) → ends_with count o ≡ true → (t : Tally) × (o ≡ Some t) × (t.nodes ≡ count)
ends-at count None h = absurd cc
ends-at count (Some t) h = (t, refl, eqb-true t.nodes count h)

checked-walk : (parcel : Parcel) → IsChecked parcel → (t : Tally) × (all_met parcel ≡ Some t) × (t.nodes ≡ length parcel.nodes)
unfolding is_checked
checked-walk parcel h = ends-at (length parcel.nodes) (all_met parcel) h

fit-nodes : (ports : ℕ) (parcel : Parcel) → IsPlain parcel → IsTrue (ports_below ports parcel) → AreFit ports parcel.nodes
unfolding is_plain ports_below
fit-nodes ports parcel plain below = record {
  plain = λ i node found. all-at (λ node. list_all is_plain_item (items_of node)) parcel.nodes i node (and_true (is_plain_item parcel.root) (list_all (λ node. list_all is_plain_item (items_of node)) parcel.nodes) plain).1 found;
  came = λ i node found. all-at (is_port_below ports) parcel.nodes i node below found;
}

plain-root : (parcel : Parcel) → IsPlain parcel → is_plain_item parcel.root ≡ true
unfolding is_plain
plain-root parcel plain = (and_true (is_plain_item parcel.root) (list_all (λ node. list_all is_plain_item (items_of node)) parcel.nodes) plain).0

-- at the start nothing is met
starts-agree : (ports : ℕ) (nodes : List PNode) → Agrees ports nodes (fresh ports true) nothing_met
starts-agree ports nodes = record {
  ports_are = refl;
  flags_are = refl;
  count = refl;
  few = omega arith;
  items_are = refl;
  items_few = omega arith;
  units_are = refl;
  sizes_are = refl;
  small = λ i size lt e. absurd (omega arith);
}

-- what stands behind the version is the root
version-root : (ports : ℕ) (bytes : List ℕ) → parcel_at ports (255 ∷ 15 ∷ bytes) ≡ root_at ports true bytes
unfolding parcel_at version_at
version-root ports bytes = refl

pub parcel-again : (parcel : Parcel) (ports : ℕ) → IsChecked parcel → IsPlain parcel → IsTrue (ports_below ports parcel) → parcel_at ports (spelled parcel) ≡ Ok parcel
unfolding all_met spelled root_at alone
parcel-again parcel ports checked plain below =
    let walk = checked-walk parcel checked in
    let i = item-again ports parcel.nodes (fit-nodes ports parcel plain below) 1_001 parcel.root nothing_met walk.0 (written (255 ∷ 15 ∷ []) 0) (fresh ports true)
    (plain-root parcel plain) walk.1 refl (starts-agree ports parcel.nodes) in
    let bytes : spelled parcel ≡ 255 ∷ 15 ∷ i.piece = ap (λ w. w.bytes) i.puts in
    let nodes_are : i.met'.nodes ≡ parcel.nodes = i.nodes_are ∙ sym i.taken ∙ ap (λ n. take n parcel.nodes) walk.2 ∙ take_all (length parcel.nodes) parcel.nodes (omega arith) in
    ap (parcel_at ports) bytes ∙ version-root ports i.piece
    ∙ ap (λ (b : List ℕ). root_at ports true b) (sym (append-nil i.piece))
    ∙ rw (i.reads [] NoView-end) (ap (λ (nodes : List PNode). Ok (record { root = parcel.root; nodes = nodes })) nodes_are)

-- ---- reading is decided

pub read-once : (ports : ℕ) (bytes : List ℕ) (a b : Parcel) → parcel_at ports bytes ≡ Ok a → parcel_at ports bytes ≡ Ok b → a ≡ b
read-once ports bytes a b e f = let g : ◌≡◌ {A = Result Parcel Fault} (Ok a) (Ok b) = sym e ∙ f in cc
