-- What stands in a node with items is read again, turn after turn.
use Rattle.std.proofs.Common.{◌≡◌, ℕ, ◌+◌, ◌<◌, ◌≤◌, List, [], ◌∷◌, ◌++◌, length, take, Option, Some, Ok, refl, ap, sym, ◌∙◌, subst, append_assoc, arith}
use Rattle.std.proofs.lemmas.List.{append-nil}
use Rattle.parcel.specs.Checked.{in_turn}
use Rattle.parcel.specs.declared.parcel.Item.{Item}
use Rattle.parcel.specs.declared.parcel.PNode.{PNode}
use Rattle.parcel.specs.declared.tally.Tally.{Tally}
use Rattle.v8_wire.specs.declared.met.Met.{Met}
use Rattle.v8_wire.specs.declared.open.Open.{Open}
use Rattle.v8_wire.specs.declared.open.Turn.TheVariants.{More}
use Rattle.v8_wire.specs.Leaf.{unpadded}
use Rattle.v8_wire.specs.Contents.{ItemReader, turn_at, contents_at}
use Rattle.v8_wire.specs.Spelling.{Written, written, put_all}
use Rattle.v8_wire.proofs.Again.{some_bind, Agrees, NoView, IsFront}
use Rattle.v8_wire.proofs.Turns.{contents_at-turn}

-- An item that is written by `put`, and read again by `inner`.
pub record ItemAgain (ports : ℕ) (nodes : List PNode) (inner : ItemReader) (put : Item → Written → Written) (item : Item) (t t' : Tally) (w : Written) (met : Met) : Type 0 where
  pub piece : List ℕ
  pub tag : ℕ
  pub body : List ℕ
  pub more : List PNode
  pub met' : Met
  pub puts : put item w ≡ written (w.bytes ++ piece) t'.nodes
  pub starts : (tail : List ℕ) → unpadded (piece ++ tail) ≡ tag ∷ (body ++ tail)
  pub front : IsFront tag
  pub reads : (tail : List ℕ) → NoView tail → inner met (piece ++ tail) ≡ Ok (item, met', tail)
  pub reads_tag : (tail : List ℕ) → NoView tail → inner met (tag ∷ (body ++ tail)) ≡ Ok (item, met', tail)
  pub nodes_are : met'.nodes ≡ met.nodes ++ more
  pub agrees : Agrees ports nodes met' t'
  pub taken : take t'.nodes nodes ≡ take t.nodes nodes ++ more
  pub grows : t.items + 1 ≤ t'.items

-- One turn: what is written of x is read again behind what was read before.
pub record TurnAgain (A : Type 0) (ports : ℕ) (nodes : List PNode) (inner : ItemReader) (begun : List A → Open) (put : A → Written → Written) (before : List A) (x : A) (t t' : Tally) (w : Written) (met : Met) : Type 0 where
  pub piece : List ℕ
  pub more : List PNode
  pub met' : Met
  pub puts : put x w ≡ written (w.bytes ++ piece) t'.nodes
  pub reads : (tail : List ℕ) → NoView tail → turn_at inner (begun before) met (piece ++ tail) ≡ Ok (More (begun (before ++ x ∷ [])), met', tail)
  pub no_view : (tail : List ℕ) → NoView (piece ++ tail)
  pub longer : (tail : List ℕ) → length tail < length (piece ++ tail)
  pub nodes_are : met'.nodes ≡ met.nodes ++ more
  pub agrees : Agrees ports nodes met' t'
  pub taken : take t'.nodes nodes ≡ take t.nodes nodes ++ more
  pub grows : t.items + 1 ≤ t'.items

-- All that is left.
pub record RestAgain (A : Type 0) (ports : ℕ) (nodes : List PNode) (inner : ItemReader) (begun : List A → Open) (put : A → Written → Written) (P : List A → List A → Type 0) (before xs : List A) (t t' : Tally) (w : Written) (met : Met) : Type 0 where
  pub piece : List ℕ
  pub more : List PNode
  pub met' : Met
  pub puts : put_all put xs w ≡ written (w.bytes ++ piece) t'.nodes
  pub reads : (n : ℕ) (tail : List ℕ) → NoView tail → length (piece ++ tail) ≤ n
      → (m : ℕ) × (length tail ≤ m) × (contents_at inner n (begun before) met (piece ++ tail) ≡ contents_at inner m (begun (before ++ xs)) met' tail)
  pub no_view : (tail : List ℕ) → NoView tail → NoView (piece ++ tail)
  pub nodes_are : met'.nodes ≡ met.nodes ++ more
  pub agrees : Agrees ports nodes met' t'
  pub taken : take t'.nodes nodes ≡ take t.nodes nodes ++ more
  pub grows : t.items + length xs ≤ t'.items
  pub last : P (before ++ xs) []

-- An invariant holds of what was read and what is left; a turn keeps it.
pub rest-again : (A : Type 0) (ports : ℕ) (nodes : List PNode) (inner : ItemReader) (begun : List A → Open) (visit : A → Tally → Option Tally) (put : A → Written → Written) (P : List A → List A → Type 0)
    (one : (before : List A) (x : A) (xs : List A) (t t' : Tally) (w : Written) (met : Met) → P before (x ∷ xs) → visit x t ≡ Some t' → w.nodes ≡ t.nodes → Agrees ports nodes met t
    → TurnAgain A ports nodes inner begun put before x t t' w met × P (before ++ x ∷ []) xs)
    (xs before : List A) (t t' : Tally) (w : Written) (met : Met) → P before xs → in_turn visit xs t ≡ Some t' → w.nodes ≡ t.nodes → Agrees ports nodes met t
    → RestAgain A ports nodes inner begun put P before xs t t' w met
unfolding in_turn put_all
rest-again A ports nodes inner begun visit put P one [] before t t' w met p e n a =
    let same : t ≡ t' = cc in
    subst (λ (x : Tally). RestAgain A ports nodes inner begun put P before [] t x w met) same (record {
      piece = [];
      more = [];
      met' = met;
      puts = ap (λ (bytes : List ℕ). written bytes w.nodes) (sym (append-nil w.bytes)) ∙ ap (λ m. written (w.bytes ++ []) m) n;
      reads = λ m tail none le. (m, le, ap (λ (x : List A). contents_at inner m (begun x) met tail) (sym (append-nil before)));
      no_view = λ tail none. none;
      nodes_are = sym (append-nil met.nodes);
      agrees = a;
      taken = sym (append-nil (take t.nodes nodes));
      grows = omega arith;
      last = subst (λ (x : List A). P x []) (sym (append-nil before)) p;
    })
rest-again A ports nodes inner begun visit put P one (x ∷ xs) before t t' w met p e n a =
    let b = some_bind (visit x t) (in_turn visit xs) t' e in
    let o = one before x xs t b.0 w met p b.1 n a in
    let r = rest-again A ports nodes inner begun visit put P one xs (before ++ x ∷ []) b.0 t' (written (w.bytes ++ o.0.piece) b.0.nodes) o.0.met' o.1 b.2 refl o.0.agrees in
    record {
      piece = o.0.piece ++ r.piece;
      more = o.0.more ++ r.more;
      met' = r.met';
      puts = ap (put_all put xs) o.0.puts ∙ r.puts ∙ ap (λ (bytes : List ℕ). written bytes t'.nodes) (append_assoc w.bytes o.0.piece r.piece);
      reads = λ m tail none le.
          let regrouped : (o.0.piece ++ r.piece) ++ tail ≡ o.0.piece ++ (r.piece ++ tail) = append_assoc o.0.piece r.piece tail in
          let within : length (o.0.piece ++ (r.piece ++ tail)) ≤ m = subst (λ (l : List ℕ). length l ≤ m) regrouped le in
          let s = contents_at-turn inner m (begun before) met (o.0.piece ++ (r.piece ++ tail)) (More (begun (before ++ x ∷ [])), o.0.met', r.piece ++ tail) within (o.0.reads (r.piece ++ tail) (r.no_view tail none)) in
          let q = r.reads s.0 tail none (omega (arith, o.0.longer (r.piece ++ tail), within, s.1)) in (
            q.0,
            q.1,
            ap (contents_at inner m (begun before) met) regrouped ∙ s.2 ∙ q.2
                ∙ ap (λ (l : List A). contents_at inner q.0 (begun l) r.met' tail) (append_assoc before (x ∷ []) xs),
          );
      no_view = λ tail none. subst NoView (sym (append_assoc o.0.piece r.piece tail)) (o.0.no_view (r.piece ++ tail));
      nodes_are = r.nodes_are ∙ ap (λ l. l ++ r.more) o.0.nodes_are ∙ append_assoc met.nodes o.0.more r.more;
      agrees = r.agrees;
      taken = r.taken ∙ ap (λ l. l ++ r.more) o.0.taken ∙ append_assoc (take t.nodes nodes) o.0.more r.more;
      grows = omega (arith, o.0.grows, r.grows);
      last = subst (λ (l : List A). P l []) (append_assoc before (x ∷ []) xs) r.last;
    }
