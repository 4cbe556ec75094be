-- Lists of values, shown with commas, can be told apart where each value can.
use Rattle.std.proofs.Common.{◌≡◌, ℕ, ◌≤◌, inl, inr, true, List, [], ◌∷◌, ◌++◌, length, Option, Some, refl, sym, ap, ◌∙◌, subst, append_assoc, arith}
use Rattle.std.specs.List.{list_all}
use Rattle.std.proofs.lemmas.Bool.{and_parts}
use Rattle.std.proofs.Math.Dec.{leb}
use Rattle.wl_text.specs.Text.{quoted}
use Rattle.parcel.specs.Checked.{is_text, with_text, in_turn, visit_property, visit_entry}
use Rattle.parcel.specs.Text.{Shown, list_shown, property_shown, entry_shown}
use Rattle.parcel.specs.declared.parcel.Item.{Item}
use Rattle.parcel.specs.declared.parcel.PNode.{PNode}
use Rattle.parcel.specs.declared.tally.Tally.{Tally}
use Rattle.parcel.proofs.Agree.{Agree, Agree-none, Agree-along, Agree-at, Fair, Fair-at}
use Rattle.parcel.proofs.Prefixes.{Stops, quoted-apart, is_unit}
use Rattle.parcel.proofs.Tallies.{both, with_text-told}
use Rattle.parcel.proofs.Walks.{Walks, IsCloser}

-- Two values were met from the same tally on and shown alike: they are the same, with the same nodes in them.
pub record Told {A : Type 0} (p q : List PNode) (x y : A) (met now after : Tally) (xs ys : List ℕ) : Type 0 where
  pub same : x ≡ y
  pub tally : now ≡ after
  pub rest : xs ≡ ys
  pub nodes : Agree p q met.nodes now.nodes

abbrev pub Splits : {A : Type 0} → List PNode → List PNode → (A → Tally → Option Tally) → (A → Tally → Option Tally) → (A → ℕ → Shown) → (A → ℕ → Shown) → Type 0
Splits {A = A} p q visit_p visit_q show_p show_q = (x y : A) (met now after : Tally) (xs ys : List ℕ) → Fair p met.nodes → Fair q met.nodes
    → Stops xs → Stops ys → visit_p x met ≡ Some now → visit_q y met ≡ Some after
    → (show_p x met.nodes).0 ++ xs ≡ (show_q y met.nodes).0 ++ ys → Told p q x y met now after xs ys

closer-Stops : (c : ℕ) → IsCloser c → 48 ≤ c → c ≤ 57 → ⊥
closer-Stops c closer low high = elim closer [ inl h ↦ omega arith | inr h ↦ omega arith ]

closer-comma : (c : ℕ) → IsCloser c → c ≡ 44 → ⊥
closer-comma c closer e = elim closer [ inl h ↦ omega arith | inr h ↦ omega arith ]

some-same : {A : Type 0} (o : Option A) (x y : A) → o ≡ Some x → o ≡ Some y → x ≡ y
some-same o x y e f = let h : Some x ≡ Some y = sym e ∙ f in cc

module _ {A : Type 0} (p q : List PNode) (visit_p visit_q : A → Tally → Option Tally) (show_p show_q : A → ℕ → Shown)
    (wp : Walks p visit_p show_p) (wq : Walks q visit_q show_q) (splits : Splits p q visit_p visit_q show_p show_q) where
  more-Stops : (show : A → ℕ → Shown) (xs : List A) (n c : ℕ) (rest : List ℕ) → IsCloser c → Stops ((list_shown show (44 ∷ []) xs n).0 ++ (c ∷ rest))
  unfolding list_shown
  more-Stops show [] n c rest closer = closer-Stops c closer
  more-Stops show (x ∷ xs) n c rest closer = λ low high. omega arith

  -- what the first of two lists tells, and what is left of both
  first-told : (x y : A) (a b : List A) (met now after : Tally) (c : ℕ) (xs ys : List ℕ) → IsCloser c → Fair p met.nodes → Fair q met.nodes
      → in_turn visit_p (x ∷ a) met ≡ Some now → in_turn visit_q (y ∷ b) met ≡ Some after
      → ((show_p x met.nodes).0 ++ (list_shown show_p (44 ∷ []) a (show_p x met.nodes).1).0) ++ (c ∷ xs)
      ≡ ((show_q y met.nodes).0 ++ (list_shown show_q (44 ∷ []) b (show_q y met.nodes).1).0) ++ (c ∷ ys)
      → (middle : Tally) × (x ≡ y) × Agree p q met.nodes middle.nodes × Fair p middle.nodes × Fair q middle.nodes
      × (in_turn visit_p a middle ≡ Some now) × (in_turn visit_q b middle ≡ Some after)
      × ((list_shown show_p (44 ∷ []) a middle.nodes).0 ++ (c ∷ xs) ≡ (list_shown show_q (44 ∷ []) b middle.nodes).0 ++ (c ∷ ys))
  unfolding in_turn
  first-told x y a b met now after c xs ys closer fair_p fair_q e f text =
      let step_p = both (visit_p x met) (in_turn visit_p a) now e in
      let step_q = both (visit_q y met) (in_turn visit_q b) after f in
      let more_p = list_shown show_p (44 ∷ []) a (show_p x met.nodes).1 in
      let more_q = list_shown show_q (44 ∷ []) b (show_q y met.nodes).1 in
      let apart : (show_p x met.nodes).0 ++ (more_p.0 ++ (c ∷ xs)) ≡ (show_q y met.nodes).0 ++ (more_q.0 ++ (c ∷ ys)) =
      sym (append_assoc (show_p x met.nodes).0 more_p.0 (c ∷ xs)) ∙ text ∙ append_assoc (show_q y met.nodes).0 more_q.0 (c ∷ ys) in
      let t = splits x y met step_p.0 step_q.0 (more_p.0 ++ (c ∷ xs)) (more_q.0 ++ (c ∷ ys)) fair_p fair_q
      (more-Stops show_p a (show_p x met.nodes).1 c xs closer) (more-Stops show_q b (show_q y met.nodes).1 c ys closer)
      step_p.1 step_q.1 apart in
      let at_p : (show_p x met.nodes).1 ≡ step_p.0.nodes = wp.counts x met step_p.0 step_p.1 in
      let at_q : (show_q y met.nodes).1 ≡ step_p.0.nodes = wq.counts y met step_q.0 step_q.1 ∙ sym (ap (λ (m : Tally). m.nodes) t.tally) in (
        step_p.0,
        t.same,
        t.nodes,
        wp.keeps x met step_p.0 step_p.1 fair_p,
        Fair-at q step_q.0.nodes step_p.0.nodes (sym (ap (λ (m : Tally). m.nodes) t.tally)) (wq.keeps y met step_q.0 step_q.1 fair_q),
        step_p.2,
        subst (λ (m : Tally). in_turn visit_q b m ≡ Some after) (sym t.tally) step_q.2,
        sym (ap (λ n. (list_shown show_p (44 ∷ []) a n).0 ++ (c ∷ xs)) at_p) ∙ t.rest ∙ ap (λ n. (list_shown show_q (44 ∷ []) b n).0 ++ (c ∷ ys)) at_q,
      )

  cons-told : (x y : A) (a b : List A) (met middle now after : Tally) (xs ys : List ℕ) → x ≡ y → Agree p q met.nodes middle.nodes
      → Told p q a b middle now after xs ys → Told p q (x ∷ a) (y ∷ b) met now after xs ys
  cons-told x y a b met middle now after xs ys e agree t = record {
    same = rw (e, t.same) refl;
    tally = t.tally;
    rest = t.rest;
    nodes = Agree-along p q met.nodes middle.nodes now.nodes agree t.nodes;
  }

  nil-told : (met now after : Tally) (xs ys : List ℕ) → Some met ≡ Some now → Some met ≡ Some after → xs ≡ ys → Told {A = List A} p q [] [] met now after xs ys
  nil-told met now after xs ys e f rest =
      let a : met ≡ now = cc in
      let b : met ≡ after = cc in
      record {
        same = refl;
        tally = sym a ∙ b;
        rest = rest;
        nodes = Agree-at p q met.nodes met.nodes met.nodes now.nodes refl (ap (λ (m : Tally). m.nodes) a) (Agree-none p q met.nodes);
      }

  more-splits : (a b : List A) (met now after : Tally) (c : ℕ) (xs ys : List ℕ) → IsCloser c → Fair p met.nodes → Fair q met.nodes
      → in_turn visit_p a met ≡ Some now → in_turn visit_q b met ≡ Some after
      → (list_shown show_p (44 ∷ []) a met.nodes).0 ++ (c ∷ xs) ≡ (list_shown show_q (44 ∷ []) b met.nodes).0 ++ (c ∷ ys)
      → Told p q a b met now after xs ys
  unfolding in_turn list_shown
  more-splits [] [] met now after c xs ys closer fair_p fair_q e f text = nil-told met now after xs ys e f cc
  more-splits [] (y ∷ b) met now after c xs ys closer fair_p fair_q e f text = absurd (closer-comma c closer cc)
  more-splits (x ∷ a) [] met now after c xs ys closer fair_p fair_q e f text = absurd (closer-comma c closer cc)
  more-splits (x ∷ a) (y ∷ b) met now after c xs ys closer fair_p fair_q e f text =
      let t = first-told x y a b met now after c xs ys closer fair_p fair_q e f cc in
      cons-told x y a b met t.0 now after xs ys t.1 t.2 (more-splits a b t.0 now after c xs ys closer t.3 t.4 t.5 t.6 t.7)

  pub list-splits : (a b : List A) (met now after : Tally) (c : ℕ) (xs ys : List ℕ) → IsCloser c → Fair p met.nodes → Fair q met.nodes
      → in_turn visit_p a met ≡ Some now → in_turn visit_q b met ≡ Some after
      → (list_shown show_p [] a met.nodes).0 ++ (c ∷ xs) ≡ (list_shown show_q [] b met.nodes).0 ++ (c ∷ ys)
      → Told p q a b met now after xs ys
  unfolding in_turn list_shown
  list-splits [] [] met now after c xs ys closer fair_p fair_q e f text = nil-told met now after xs ys e f cc
  list-splits [] (y ∷ b) met now after c xs ys closer fair_p fair_q e f text =
      let step = both (visit_q y met) (in_turn visit_q b) after f in
      absurd (wq.opens y met step.0 c _ xs step.1 closer (sym (append_assoc (show_q y met.nodes).0 _ (c ∷ ys)) ∙ sym text))
  list-splits (x ∷ a) [] met now after c xs ys closer fair_p fair_q e f text =
      let step = both (visit_p x met) (in_turn visit_p a) now e in
      absurd (wp.opens x met step.0 c _ ys step.1 closer (sym (append_assoc (show_p x met.nodes).0 _ (c ∷ xs)) ∙ text))
  list-splits (x ∷ a) (y ∷ b) met now after c xs ys closer fair_p fair_q e f text =
      let t = first-told x y a b met now after c xs ys closer fair_p fair_q e f text in
      cons-told x y a b met t.0 now after xs ys t.1 t.2 (more-splits a b t.0 now after c xs ys closer t.3 t.4 t.5 t.6 t.7)

module _ (p q : List PNode) (visit_p visit_q : Item → Tally → Option Tally) (show_p show_q : Item → ℕ → Shown)
    (wp : Walks p visit_p show_p) (wq : Walks q visit_q show_q) (splits : Splits p q visit_p visit_q show_p show_q) where
  text-units : (units : List ℕ) → is_text units ≡ true → list_all is_unit units ≡ true
  text-units units e = (and_parts (leb (length units) 1_048_576) (list_all is_unit units) e).1

  pub property-splits : Splits p q (visit_property visit_p) (visit_property visit_q) (property_shown show_p) (property_shown show_q)
  property-splits x y met now after xs ys fair_p fair_q stops_x stops_y e f text =
      let step_p = both (with_text x.0 met) (visit_p x.1) now e in
      let step_q = both (with_text y.0 met) (visit_q y.1) after f in
      let key_p = with_text-told x.0 met step_p.0 step_p.1 in
      let key_q = with_text-told y.0 met step_q.0 step_q.1 in
      let shown_p = (show_p x.1 met.nodes).0 in
      let shown_q = (show_q y.1 met.nodes).0 in
      let keys = quoted-apart x.0 y.0 (58 ∷ (shown_p ++ xs)) (58 ∷ (shown_q ++ ys)) (text-units x.0 key_p.0) (text-units y.0 key_q.0)
      (sym (append_assoc (quoted x.0) (58 ∷ shown_p) xs) ∙ text ∙ append_assoc (quoted y.0) (58 ∷ shown_q) ys) in
      let values : shown_p ++ xs ≡ shown_q ++ ys = cc in
      let middle : step_p.0 ≡ step_q.0 = some-same (with_text x.0 met) step_p.0 step_q.0 step_p.1 (ap (λ k. with_text k met) keys.0 ∙ step_q.1) in
      let values_at : (show_p x.1 step_p.0.nodes).0 ++ xs ≡ (show_q y.1 step_p.0.nodes).0 ++ ys =
      subst (λ n. (show_p x.1 n).0 ++ xs ≡ (show_q y.1 n).0 ++ ys) (sym key_p.1) values in
      let t = splits x.1 y.1 step_p.0 now after xs ys (Fair-at p met.nodes step_p.0.nodes (sym key_p.1) fair_p)
      (Fair-at q met.nodes step_p.0.nodes (sym key_p.1) fair_q) stops_x stops_y step_p.2
      (subst (λ (m : Tally). visit_q y.1 m ≡ Some after) (sym middle) step_q.2) values_at in
      record {
        same = pair-same x.0 y.0 x.1 y.1 keys.0 t.same;
        tally = t.tally;
        rest = t.rest;
        nodes = Agree-at p q step_p.0.nodes now.nodes met.nodes now.nodes key_p.1 refl t.nodes;
      }
    where
      pair-same : (k l : List ℕ) (i j : Item) → k ≡ l → i ≡ j → ◌≡◌ {A = List ℕ × Item} (k, i) (l, j)
      pair-same k l i j e f = rw (e, f) refl

  pub entry-splits : Splits p q (visit_entry visit_p) (visit_entry visit_q) (entry_shown show_p) (entry_shown show_q)
  entry-splits x y met now after xs ys fair_p fair_q stops_x stops_y e f text =
      let step_p = both (visit_p x.0 met) (visit_p x.1) now e in
      let step_q = both (visit_q y.0 met) (visit_q y.1) after f in
      let value_p = (show_p x.1 (show_p x.0 met.nodes).1).0 in
      let value_q = (show_q y.1 (show_q y.0 met.nodes).1).0 in
      let key = splits x.0 y.0 met step_p.0 step_q.0 (61 ∷ 62 ∷ (value_p ++ xs)) (61 ∷ 62 ∷ (value_q ++ ys)) fair_p fair_q
      (λ low high. omega arith) (λ low high. omega arith) step_p.1 step_q.1
      (sym (append_assoc (show_p x.0 met.nodes).0 (61 ∷ 62 ∷ value_p) xs) ∙ text ∙ append_assoc (show_q y.0 met.nodes).0 (61 ∷ 62 ∷ value_q) ys) in
      let rest : value_p ++ xs ≡ value_q ++ ys = let h = key.rest in cc in
      let at_p : (show_p x.0 met.nodes).1 ≡ step_p.0.nodes = wp.counts x.0 met step_p.0 step_p.1 in
      let at_q : (show_q y.0 met.nodes).1 ≡ step_p.0.nodes = wq.counts y.0 met step_q.0 step_q.1 ∙ sym (ap (λ (m : Tally). m.nodes) key.tally) in
      let values : (show_p x.1 step_p.0.nodes).0 ++ xs ≡ (show_q y.1 step_p.0.nodes).0 ++ ys =
      sym (ap (λ n. (show_p x.1 n).0 ++ xs) at_p) ∙ rest ∙ ap (λ n. (show_q y.1 n).0 ++ ys) at_q in
      let t = splits x.1 y.1 step_p.0 now after xs ys (wp.keeps x.0 met step_p.0 step_p.1 fair_p)
      (Fair-at q step_q.0.nodes step_p.0.nodes (sym (ap (λ (m : Tally). m.nodes) key.tally)) (wq.keeps y.0 met step_q.0 step_q.1 fair_q))
      stops_x stops_y step_p.2 (subst (λ (m : Tally). visit_q y.1 m ≡ Some after) (sym key.tally) step_q.2) values in
      record {
        same = pair-same x.0 y.0 x.1 y.1 key.same t.same;
        tally = t.tally;
        rest = t.rest;
        nodes = Agree-along p q met.nodes step_p.0.nodes now.nodes key.nodes t.nodes;
      }
    where
      pair-same : (k l i j : Item) → k ≡ l → i ≡ j → ◌≡◌ {A = Item × Item} (k, i) (l, j)
      pair-same k l i j e f = rw (e, f) refl
